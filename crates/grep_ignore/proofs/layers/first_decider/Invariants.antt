use Rattle.grep_ignore.specs.Layers.{AreSilent}
use Rattle.grep_ignore.proofs.layers.first_decider.Given as goal

abbrev pub invariant-loop-at : goal.invariant-loop-at
invariant-loop-at l = AreSilent l.path l.is_folder l.start l.repository l.layers l.at
