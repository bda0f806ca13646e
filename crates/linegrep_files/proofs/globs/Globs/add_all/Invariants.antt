use Rattle.std.proofs.Common.{take}
use Rattle.linegrep_files.specs.Globs.{AreAdded}
use Rattle.linegrep_files.proofs.globs.Globs.add_all.Given as goal

abbrev pub invariant-loop-text : goal.invariant-loop-text
invariant-loop-text l = AreAdded l.ignores_case (take l.text-index l.texts) l.fn.self.rules l.self.rules
