-- Readers that say which bytes remain.
use Rattle.std.proofs.Common.{◌≡◌, ℕ, Bool, true, false, List, Option, Some, None, refl, ap, subst}
use Rattle.std.proofs.lemmas.Bool.{false≢true}
use Rattle.std.specs.List.{concat}
use Rattle.std.specs.Io.KnownBytes.{Consumes, IsAtEnd}
use Rattle.grep_decode.specs.DecoderStates.{ReadsSince}
use Rattle.grep_decode.specs.Source.{ReadResult}
use Rattle.grep_definitions.specs.Searches.{IsInput, Taken, searched_bytes}
use Rattle.grep_definitions.specs.Plans.{Settings}

module _ {R : Type 0} (remaining : R → Option (List ℕ)) (read_step : R → ReadResult → R → Type 0)
  where
    -- the decoded bytes of what remains are those of a whole input, whatever was taken
    pub taken-input : (k : Settings) (input : List ℕ) (reader reader' : R) → remaining reader
        ≡ Some input
        → (taken : Taken remaining read_step reader reader') → IsInput k taken.ended taken.pieces
        (searched_bytes k input)
    taken-input k input reader reader' all taken =
        go taken.ended taken.pieces taken.calls (remaining reader') refl
        (subst (λ left. Consumes left (remaining reader') (concat taken.pieces)) all taken.takes)
      where
        go : (ended : Bool) (pieces : List (List ℕ)) → ReadsSince remaining read_step false ended reader
            pieces reader' → (left : Option (List ℕ)) → remaining reader' ≡ left
            → Consumes (Some input) left (concat pieces)
            → IsInput k ended pieces (searched_bytes k input)
        go ended pieces calls None is takes = absurd takes
        go false pieces calls (Some rest) is takes = (
          rest,
          (λ ended. absurd (false≢true ended)),
          ap (searched_bytes k) takes,
        )
        go true pieces calls (Some rest) is takes = (
          rest,
          (λ ended. subst IsAtEnd is calls.3),
          ap (searched_bytes k) takes,
        )
