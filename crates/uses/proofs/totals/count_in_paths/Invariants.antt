use Rattle.std.proofs.Common.{take}
use Rattle.grep_searcher.specs.LineCounts.{IsLineSearch}
use Rattle.uses.specs.PathCounts.{IsKept, IsTotal}
use Rattle.uses.proofs.totals.count_in_paths.Given as goal

abbrev pub invariant-loop-path : goal.invariant-loop-path
invariant-loop-path g l = let settings = l.fn.searcher.settings in let facts = g.M.Matcher.facts l.matcher in
    IsKept l.fn.searcher l.searcher × (IsLineSearch facts settings → IsTotal (g.R.Open.opens l.rt)
    g.R.File.Read.remaining facts settings g.P.AsPath.path_text (take l.path-index l.paths) l.total)
