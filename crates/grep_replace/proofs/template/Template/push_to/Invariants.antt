use Rattle.std.proofs.Common.{◌≡◌, ◌++◌, drop, take}
use Rattle.grep_replace.specs.Templates.{group_text, pieces_text}
use Rattle.grep_replace.proofs.template.Template.push_to.Given as goal

abbrev pub invariant-loop-piece : goal.invariant-loop-piece
invariant-loop-piece l =
    l.bytes.items ≡ l.fn.bytes.items
    ++ pieces_text (group_text l.haystack l.groups) (take l.piece-index l.self.pieces.items)
