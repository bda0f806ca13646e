use Rattle.std.proofs.Common.{map}
use Rattle.regex_hir.specs.Meaning.{meaning}
use Rattle.grep_regex.proofs.WrittenLemmas.{written-alike}
use Rattle.grep_regex.proofs.regex.program_of.Goals as goal

pub without_terminator-requires-clause-reads : goal.without_terminator-requires-clause-reads
without_terminator-requires-clause-reads c = written-alike c.args.options.now (map (λ p. p.now) c.args.patterns.now)
    (meaning c.in_ok-hir.field-0.hir) (meaning c.in_ok-whole.whole) c.in_ok-hir.ensures.ok c.in_ok-whole.ensures
