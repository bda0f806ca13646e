use Rattle.std.proofs.Common.{map, subst}
use Rattle.regex_hir.specs.Meaning.{meaning}
use Rattle.grep_regex.specs.Stripped.{IsStripped}
use Rattle.grep_regex.proofs.WrittenLemmas.{finds-as}
use Rattle.grep_regex.proofs.strip.without_terminator.Goals as goal

pub returns-clause-ok : goal.returns-clause-ok
returns-clause-ok c = finds-as c.args.options.now (map (λ p. p.now) c.args.patterns.now) (meaning c.args.hir)
    (meaning c.in_ok-strip.field-0) c.requires.reads
    (subst (λ bytes. IsStripped bytes (meaning c.args.hir) (meaning c.in_ok-strip.field-0))
    c.excluded_bytes-bytes.ensures c.in_ok-strip.ensures)
