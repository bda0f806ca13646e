use Rattle.std.proofs.Common.{take}
use Rattle.linegrep_files.specs.Braces.{bytes_of}
use Rattle.linegrep_files.specs.Globs.{AreOfTexts}
use Rattle.linegrep_files.proofs.glob.Glob.add_all.Given as goal

abbrev pub invariant-loop-text : goal.invariant-loop-text
invariant-loop-text l = AreOfTexts l.is_of_names l.ignores_case (bytes_of (take l.text-index l.texts))
    l.self.choices.items
