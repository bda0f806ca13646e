use Rattle.std.proofs.Common.{◌≡◌, ◌++◌, drop, false}
use Rattle.grep_printer.specs.JsonPieces.{pieces_tokens}
use Rattle.grep_printer.proofs.json_text.JsonText.push_all.Given as goal

abbrev pub invariant-loop-piece : goal.invariant-loop-piece
invariant-loop-piece l =
    (l.self.out.before ≡ l.fn.self.out.before)
    × (l.self.has_failed ≡ false → (l.fn.self.has_failed ≡ false)
    × (l.self.out.tokens ++ pieces_tokens (drop l.piece-index l.pieces)
    ≡ l.fn.self.out.tokens ++ pieces_tokens l.pieces))
