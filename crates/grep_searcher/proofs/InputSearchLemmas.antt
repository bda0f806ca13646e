-- A search of a slice: as it is, or that of a reader that has it as its bytes and never fails.
use Rattle.std.proofs.Common.{◌≡◌, ℕ, Bool, true, false, List, Some, None, Result, Ok, Err, refl}
use Rattle.std.proofs.Common.{sym, subst, ◌++◌, Bor}
use Rattle.std.specs.Prelude.{MatchResult}
use Rattle.grep_decode.specs.Source.{ReadResult}
use Rattle.grep_report.specs.declared.config_error.ConfigError.{ConfigError}
use Rattle.grep_report.specs.ErrorMakers.{ErrorMakers}
use Rattle.grep_matcher.specs.Meanings.{MatcherFacts}
use Rattle.grep_definitions.specs.Plans.{IsLawful, refusal_of, Steps, SearcherState}
use Rattle.grep_definitions.specs.Searches.{IsReaderSearched}
use Rattle.grep_definitions.specs.SliceSearches.{IsSliceSearch, IsSliceRead, IsSliceSearched}
use Rattle.grep_definitions.specs.SliceSearches.{IsSliceSearchedIf, is_searched_unchanged}
use Rattle.grep_searcher.proofs.SourceSearchLemmas.{not-refused, refused}

-- a read of a slice, of which a name is no part
pub slice-read : (s : Bor (List ℕ)) (result : ReadResult) (t : Bor (List ℕ))
    → MatchResult result (λ bytes. s.now ≡ bytes ++ t.now) (λ _. ⊥)
    → (◌≡◌ {A = Unit {0}} tt tt) × IsSliceRead s.now result t.now
slice-read s (Ok bytes) t read = (refl, read)
slice-read s (Err e) t read = absurd read

module _ {S E F : Type 0} (step : Steps S E) (errors : ErrorMakers F E) (matcher : MatcherFacts F)
    (state : SearcherState) (input : List ℕ) where
  -- one that is searched as it is
  pub slice-unchanged : is_searched_unchanged state.settings input ≡ true
      → refusal_of state.settings matcher.meaning ≡ None
      → (old : S) (result : Result (Unit {0}) E) (new : S)
      → (IsLawful matcher state.settings → IsSliceSearch step errors matcher state.settings input
      old result new) → IsSliceSearched step errors matcher state input old result new
  slice-unchanged unchanged allowed old result new searched =
      subst (λ b. IsSliceSearchedIf step errors matcher state input b old result new)
      (sym unchanged)
      (not-refused errors matcher state.settings allowed old result new (Unit {0}) _ searched)

  -- one that is decoded
  pub slice-decoded : is_searched_unchanged state.settings input ≡ false
      → (old : S) (result : Result (Unit {0}) E) (rest : List ℕ) (new : S)
      → IsReaderSearched (λ all. Some all) IsSliceRead step errors matcher state input old result
      rest new → IsSliceSearched step errors matcher state input old result new
  slice-decoded changed old result rest new searched =
      subst (λ b. IsSliceSearchedIf step errors matcher state input b old result new) (sym changed)
      (rest, searched)

  -- one that is refused
  pub slice-refused : (refusal : ConfigError) → refusal_of state.settings matcher.meaning
      ≡ Some refusal → (old : S) (e : E) → errors.is_config refusal e
      → IsSliceSearched step errors matcher state input old (Err e) old
  slice-refused refusal is old e made = go (is_searched_unchanged state.settings input)
    where
      go : (b : Bool) → IsSliceSearchedIf step errors matcher state input b old (Err e) old
      go true = refused errors matcher state.settings refusal is old e (Unit {0}) _ made tt
      go false = (input, refused errors matcher state.settings refusal is old e _ _ made refl)
