use Rattle.std.proofs.Common.{◌≡◌, take}
use Rattle.grep_searcher.specs.MatchHandlers.{bytes_of_each}
use Rattle.uses.proofs.different.first_unlike.Given as goal

abbrev pub invariant-loop-index : goal.invariant-loop-index
invariant-loop-index l = take l.index (bytes_of_each l.left) ≡ take l.index (bytes_of_each l.right)
