use Rattle.std.proofs.Common.{◌≡◌, reverse, take}
use Rattle.grep_searcher.specs.MatchHandlers.{bytes_of_each}
use Rattle.uses.specs.MarkedBlocks.{is_open, text_between}
use Rattle.uses.proofs.between.lines_between.Given as goal

abbrev pub invariant-loop-line : goal.invariant-loop-line
invariant-loop-line l = let read = reverse (bytes_of_each (take l.line-index l.line-items)) in
    (l.inside ≡ is_open l.begins l.ends read) × (l.text.items ≡ text_between l.begins l.ends read)
