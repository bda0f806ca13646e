use Rattle.std.proofs.Common.{◌≡◌, map, Some, take}
use Rattle.grep_searcher.specs.MatchHandlers.{bytes_of_each}
use Rattle.uses.specs.MatchedLines.{first_in_line}
use Rattle.uses.proofs.matched.first_in_each.Given as goal

abbrev pub invariant-loop-line : goal.invariant-loop-line
invariant-loop-line g l = map (λ first. Some first) l.firsts.items ≡ map (first_in_line l.terminator
    (g.M.Matcher.facts l.matcher).meaning) (bytes_of_each (take l.line-index l.line-items))
