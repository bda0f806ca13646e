-- A search of whole contents: without `binary_data`, up to a byte, and in the mode that it runs in.
use Rattle.std.proofs.Common.{◌≡◌, ℕ, Bool, false, List, None, Err, Result, refl, sym, subst}
use Rattle.grep_matcher.specs.Meanings.{MatcherFacts}
use Rattle.grep_report.specs.ErrorMakers.{ErrorMakers}
use Rattle.grep_report.specs.declared.binary_detection.BinaryDetection.TheVariants.{Quit}
use Rattle.grep_definitions.specs.Plans.{all_true, is_across, plan_in, AreMade, IsAskedIn, IsRun}
use Rattle.grep_definitions.specs.Plans.{Planned, Settings, Steps}
use Rattle.grep_definitions.specs.Searches.{asked, contents_point, in_contents, look_at, nowhere}
use Rattle.grep_definitions.specs.Searches.{plan_with, ran, Look}
use Rattle.grep_definitions.specs.SliceSearches.{IsContentsSearch}

module _ {S E F : Type 0} (step : Steps S E) (errors : ErrorMakers F E) (matcher : MatcherFacts F)
    (k : Settings)
    (bytes : List ℕ) (old : S) where
  abbrev IsSearch : Look → Bool → Result (Unit {0}) E → S → Type 0
  IsSearch look across = IsContentsSearch step errors matcher k look across bytes old

  module _ {across : Bool} where
    -- without `binary_data` it is a run, or it ends in the matcher's error after calls that all
    -- returned true
    pub plain-ran : {result : Result (Unit {0}) E} {new : S}
        → IsRun step k old (plan_in k matcher.meaning bytes across) result new
        → IsSearch nowhere across result new
    plain-ran run = ran None refl run tt

    pub plain-asked : {e : E} {new : S} (haystack : List ℕ) (error : F) (calls : List Planned)
        → IsAskedIn k matcher.meaning bytes across haystack calls → matcher.fails haystack error
        → errors.is_message error e → AreMade step k old calls all_true new
        → IsSearch nowhere across (Err e) new
    plain-asked haystack error calls asks fails message made =
        asked haystack error calls asks fails message (None, refl, (λ is. refl), made)

    -- up to a byte it is a run to the point where the byte ends it
    pub quit-ran : (b : ℕ) → k.binary_detection ≡ Quit b → {result : Result (Unit {0}) E} {new : S}
        → IsRun step k old (plan_with (Quit b)
        (contents_point b bytes (plan_in k matcher.meaning bytes across).calls)
        (plan_in k matcher.meaning bytes across)) result new
        → IsSearch (in_contents b) across result new
    quit-ran b detects {result} {new} run =
        ran (contents_point b bytes (plan_in k matcher.meaning bytes across).calls) refl
        (subst (λ d. IsRun step k old (plan_with d
        (contents_point b bytes (plan_in k matcher.meaning bytes across).calls)
        (plan_in k matcher.meaning bytes across)) result new) (sym detects) run) tt

  -- where it looks for a byte, and in which mode, is said otherwise
  pub search-at : {look : Look} {across : Bool} → look_at k.binary_detection false ≡ look
      → is_across k matcher.meaning ≡ across → (result : Result (Unit {0}) E) (new : S)
      → IsSearch look across result new
      → IsSearch (look_at k.binary_detection false) (is_across k matcher.meaning) result new
  search-at {look} {across} looks mode result new searched =
      subst (λ l. IsSearch l (is_across k matcher.meaning) result new) (sym looks)
      (subst (λ m. IsSearch look m result new) (sym mode) searched)
