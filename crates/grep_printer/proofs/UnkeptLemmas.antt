-- Calls for whose texts there is no memory.
use Rattle.std.proofs.Common.{◌≡◌, ℕ, List, [], ◌++◌, arith, length, refl}
use Rattle.std.proofs.lemmas.List.{nil_from_length}
use Rattle.std.specs.Prelude.{Bool, false, true, not, ◌||◌, ◌==◌, MatchResult, Result, Ok, Err}
use Rattle.std.specs.declared.io.Error.{Error}
use Rattle.grep_output.proofs.OutputLemmas.{Writes-more}
use Rattle.grep_output.specs.Outputs.{OutputCall, Writes, WritesAll}
use Rattle.grep_printer.specs.Formats.{is_text}

-- memory is there for a text that needs it
pub there-is-memory : (has_failed : Bool) → (not has_failed || false) ≡ true → has_failed ≡ false
there-is-memory true made = absurd cc
there-is-memory false made = refl

-- no parts
pub none-if-empty : (parts : List (ℕ × ℕ)) → (length parts == 0) ≡ true → parts ≡ []
none-if-empty parts empty = nil_from_length parts (grind arith)

module _ {W : Type 0} (write_step : W → OutputCall → W → Type 0) where
  -- what was kept is written, and then a text, by what that returned
  pub after-kept : (old mid new : W) (kept text : List ℕ) (result : Result Bool Error)
      → WritesAll write_step old kept mid
      → MatchResult result (λ has_text. (has_text ≡ is_text text) × WritesAll write_step mid text new)
      (λ error. Writes write_step mid text (Err error) new)
      → MatchResult result (λ has_text. (has_text ≡ is_text text) × WritesAll write_step old (kept ++ text) new)
      (λ error. Writes write_step old (kept ++ text) (Err error) new)
  after-kept old mid new kept text (Ok has_text) first rest =
      (rest.0, Writes-more write_step old mid new kept text (Ok tt) first rest.1)
  after-kept old mid new kept text (Err error) first rest =
      Writes-more write_step old mid new kept text (Err error) first rest
