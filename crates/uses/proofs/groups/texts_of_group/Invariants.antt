use Rattle.std.proofs.Common.{◌≡◌, map, take}
use Rattle.grep_searcher.specs.MatchHandlers.{bytes_of_each}
use Rattle.uses.specs.GroupTexts.{text_in_line}
use Rattle.uses.proofs.groups.texts_of_group.Given as goal

abbrev pub invariant-loop-line : goal.invariant-loop-line
invariant-loop-line g l = bytes_of_each l.texts.items
    ≡ map (text_in_line (g.M.CapturesAt.groups_at l.matcher) l.group)
    (bytes_of_each (take l.line-index l.line-items))
