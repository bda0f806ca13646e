-- A search of whole contents that were read is one of their reader.
use Rattle.std.proofs.Common.{◌≡◌, ◌∙◌, ◌≤◌, ℕ, true, false, List, [], Option, Result, length, refl}
use Rattle.std.proofs.Common.{sym, ap, subst, arith, append-nil}
use Rattle.std.specs.declared.io.Error.{Error}
use Rattle.grep_decode.specs.Source.{ReadResult}
use Rattle.grep_matcher.specs.Meanings.{MatcherFacts}
use Rattle.grep_report.specs.ErrorMakers.{ErrorMakers}
use Rattle.grep_definitions.proofs.BoolLemmas.{clash}
use Rattle.grep_definitions.proofs.SeenSearchLemmas.{on-ok, search-map}
use Rattle.grep_definitions.specs.Plans.{is_across, line_count, search_plan, selection_in}
use Rattle.grep_definitions.specs.Plans.{IsAskedWith, SearcherState, Settings, Steps}
use Rattle.grep_definitions.specs.SliceSearches.{IsContentsSearch}
use Rattle.grep_definitions.specs.Searches.{IsUnread, view_in, IsBelowLimit, IsCutSearch, IsInput}
use Rattle.grep_definitions.specs.Searches.{IsPoint, IsReaderSearch, IsSeenOf, Look, Taken}

module _ {R : Type 0} (remaining : R → Option (List ℕ)) (read_step : R → ReadResult → R → Type 0)
    {S E F : Type 0} (step : Steps S E) (errors : ErrorMakers F E) (matcher : MatcherFacts F)
    (state : SearcherState) (look : Look) (across : is_across state.settings matcher.meaning ≡ true)
  where
    -- all was read, and searched
    pub contents-read : {reader reader' : R} (taken : Taken remaining read_step reader reader')
        → taken.ended ≡ true → (given : List ℕ)
        → ((bytes : List ℕ) → IsInput state.settings taken.ended taken.pieces bytes → given ≡ bytes)
        → IsBelowLimit state.settings given → view_in state.settings look given ≡ given
        → IsSeenOf state.settings look given given
        → {old : S} (result : Result (Unit {0}) E) (new : S)
        → IsContentsSearch step errors matcher state.settings look
        (is_across state.settings matcher.meaning) given old result new
        → IsReaderSearch remaining read_step step errors matcher state look reader old result
        reader' new
    contents-read taken ended given one below view front result new searched = record {
      taken = taken;
      seen = given;
      each = λ bytes input. record {
        front = subst (λ xs. IsSeenOf k look xs given) (one bytes input) front;
        later = [];
        calls = ap (λ xs. (search_plan k matcher.meaning xs).calls) (viewed bytes input)
            ∙ sym (append-nil (search_plan k matcher.meaning given).calls);
      };
      over_seen = search-map step errors matcher
          (λ calls point at bytes input. subst (λ xs. IsPoint k matcher.meaning xs look
          (length given) calls point) (one bytes input) at)
          (λ haystack calls asks. (
            asks,
            λ bytes input. subst (λ xs. IsAskedWith k matcher.meaning xs haystack calls)
                (sym (viewed bytes input)) asks,
          ))
          (λ plan outcome ended_in nothing. (
            (λ made goes_on bytes input. record {
              few = subst (λ xs. (selection_in k matcher.meaning xs
                  (is_across k matcher.meaning)).end
                  ≤ line_count k given) (sym (viewed bytes input)) whole-lines;
              plan = ap (search_plan k matcher.meaning) (viewed bytes input);
            }),
            on-ok ended_in (λ by_line. absurd (clash across by_line)),
          )) result new searched;
      whole = λ is. (ended, λ bytes input. subst (IsBelowLimit k) (one bytes input) below);
    }
      where
        k : Settings
        k = state.settings

        -- what is searched of an input is what was read
        viewed : (bytes : List ℕ) → IsInput k taken.ended taken.pieces bytes → view_in k look bytes
            ≡ given
        viewed bytes input = subst (λ xs. view_in k look xs ≡ given) (one bytes input) view

        whole-lines : (selection_in k matcher.meaning given (is_across k matcher.meaning)).end
            ≤ line_count k given
        whole-lines = subst (λ m. (selection_in k matcher.meaning given m).end ≤ line_count k given)
            (sym across) (omega arith)

    -- not all was read, and the sink had no call
    pub contents-cut : {reader reader' : R} (error : Error) {old : S} (e : E)
        → IsUnread remaining read_step state matcher.meaning reader false [] error reader'
        → errors.is_io error e
        → IsCutSearch remaining read_step step errors matcher state look reader old e reader' old
    contents-cut error e (mid, taken, cause) made = record {
      mid = mid;
      taken = taken;
      seen = [];
      begun = false;
      error = error;
      cause = cause;
      made = made;
      calls = λ is. cc;
      none = λ is. refl;
    }
