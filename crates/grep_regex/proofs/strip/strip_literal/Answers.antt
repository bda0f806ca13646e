use Rattle.grep_regex.proofs.StrippedTreeLemmas.{literal-kept, literal-lost}
use Rattle.grep_regex.proofs.strip.strip_literal.Goals as goal

pub returns-in-Some : goal.returns-in-Some
returns-in-Some c = literal-lost c.args.bytes.now c.args.text.now c.in-Some.field-0 c.empty.result c.empty.ensures
    c.in-Some.ensures.0 c.in-Some.ensures.1

pub returns-in_ok-from_slice-in-None : goal.returns-in_ok-from_slice-in-None
returns-in_ok-from_slice-in-None c = literal-kept c.args.bytes.now c.args.text.now c.in_ok-from_slice-in-None.field-0
    c.in_ok-from_slice-in-None.ensures.items c.in-None.ensures
