use Rattle.std.proofs.Common.{map, string_bytes, take}
use Rattle.linegrep_cli.specs.NamedPatterns.{AreNamed}
use Rattle.linegrep_cli.proofs.named_patterns.read_named.Given as goal

abbrev pub invariant-loop-one : goal.invariant-loop-one
invariant-loop-one g l = AreNamed g.R.Source.remaining g.R.Source.step (g.S.Folders.facts l.system).reads
    (take l.one-index l.uses) l.fn.input (map string_bytes l.patterns.items) l.input
