-- The end of some lines as a position.
use Rattle.std.proofs.Common.{◌≡◌, inl, inr, ℕ, ◌+◌, ◌-◌, List, length, Some, arith, ap, ◌∙◌}
use Rattle.std.specs.Option.{unwrap_or}
use Rattle.std.proofs.lemmas.Option.{get_or_from_slice_get}
use Rattle.std.specs.List.{slice_get}
use Rattle.grep_matcher.specs.declared.line_terminator.LineTerminator.{LineTerminator}
use Rattle.grep_matcher.specs.declared.line_terminator.LineTerminator.TheVariants.{Byte}
use Rattle.grep_matcher.specs.Lawful.{HoldsPosition}
use Rattle.grep_matcher.specs.Lines.{byte_of}
use Rattle.grep_matcher.specs.Meanings.{Meaning}
use Rattle.grep_matcher.proofs.LineStartLemmas.{line_start-within}

-- no line holds the end of bytes that end in the terminator
pub unheld-end : (b : ℕ) (terminator : LineTerminator) → Some (Byte b) ≡ Some terminator
    → (meaning : Meaning)
    (bytes : List ℕ) → slice_get bytes (length bytes - 1) ≡ Some b → (i : ℕ)
    → HoldsPosition terminator meaning bytes i (length bytes) → ⊥
unheld-end b terminator declared meaning bytes closed i (low, inl below) =
    omega (arith, below, line_start-within (byte_of terminator) bytes (i + 1))
unheld-end b terminator declared meaning bytes closed i (low, inr (last, end, other)) =
    other (get_or_from_slice_get bytes (length bytes - 1) b 0 closed
    ∙ ap (λ t. byte_of (unwrap_or t (Byte b))) declared)
