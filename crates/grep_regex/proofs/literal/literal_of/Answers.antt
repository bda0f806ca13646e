use Rattle.std.proofs.Common.{◌<◌, arith, length}
use Rattle.regex_hir.proofs.MeaningLemmas.{meaning-Literal}
use Rattle.grep_regex.proofs.SpelledLemmas.{is-spelled}
use Rattle.grep_regex.proofs.literal.literal_of.Goals as goal

pub returns-in-Literal : goal.returns-in-Literal
returns-in-Literal c =
    let filled : 0 < length c.in-Literal.bytes.items =
    grind (arith, c.is_empty.ensures, c.if-not-is_empty.true, c.in-Literal.bytes.ok) in
    rw (c.in-Literal.is, meaning-Literal c.in-Literal.bytes, c.as_slice.ensures.value)
    (is-spelled c.in-Literal.bytes.items filled)
