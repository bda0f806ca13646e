use Rattle.std.proofs.Common.{◌≡◌, ◌<◌, ℕ, false, get_or, take}
use Rattle.linegrep_files.specs.Folders.{HasId}
use Rattle.linegrep_files.proofs.finder.Finder.goes_through.Given as goal

abbrev pub invariant-loop-at : goal.invariant-loop-at
invariant-loop-at g l = (at : ℕ) → at < l.at → l.self.root < at → get_or l.path at 0 ≡ 47
    → HasId (g.S.Folders.facts l.self.system.now).looks l.id (take at l.path) false
