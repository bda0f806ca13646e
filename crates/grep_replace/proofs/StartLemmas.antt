-- What was in a text before is still at its start.
use Rattle.std.proofs.Common.{◌≡◌, ℕ, List, ◌++◌, ap, append_assoc, drop, length, subst, sym, ◌∙◌}
use Rattle.std.proofs.Math.Seq.{take-append_seam}
use Rattle.std.proofs.lemmas.List.{take-append-drop}
use Rattle.std.specs.Io.{StartsWith}

-- a text is what it starts with, and its rest
splits : (text start : List ℕ) → StartsWith text start → text ≡ start ++ drop (length start) text
splits text start is =
    sym (take-append-drop (length start) text) ∙ ap (λ (t : List ℕ). t ++ drop (length start) text) is

-- more is appended to a text
pub starts-longer : (start text longer more : List ℕ) → StartsWith text start → longer ≡ text ++ more
    → StartsWith longer start
starts-longer start text longer more starts is =
    subst (λ (t : List ℕ). StartsWith t start)
    (sym (is ∙ ap (λ (t : List ℕ). t ++ more) (splits text start starts)
    ∙ append_assoc start (drop (length start) text) more))
    (take-append_seam start (drop (length start) text ++ more))

-- a text starts with a text that starts so
pub starts-through : (start text longer : List ℕ) → StartsWith text start → StartsWith longer text
    → StartsWith longer start
starts-through start text longer starts longer_starts =
    starts-longer start text longer (drop (length text) longer) starts (splits longer text longer_starts)
