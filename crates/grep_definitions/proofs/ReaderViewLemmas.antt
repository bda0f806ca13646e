-- A reader that is seen through another that refers to it: if each call of the one is a call of the
-- other, and the reference stays the same, a search of the one is a search of the other.
use Rattle.std.proofs.Common.{◌≡◌, ◌∙◌, ℕ, Bool, true, false, List, [], ◌∷◌, Option, Some, None, ap}
use Rattle.std.proofs.Common.{inl, inr, sym, subst}
use Rattle.std.specs.Prelude.{Result, Ok, Err}
use Rattle.std.specs.declared.io.Error.{Error}
use Rattle.grep_decode.specs.Source.{ReadResult, Pulls}
use Rattle.grep_matcher.specs.Meanings.{Meaning, MatcherFacts}
use Rattle.grep_report.specs.declared.config_error.ConfigError.{ConfigError}
use Rattle.grep_definitions.specs.Searches.{Look, look_of, HasReadLines, IsReaderSearch, IsRead}
use Rattle.grep_definitions.specs.Searches.{IsUnlessRefusedBy, IsReaderSearched, Reads, Taken}
use Rattle.grep_definitions.specs.Searches.{IsCut, IsUnread, IsReadingError, of_lines, of_reader}
use Rattle.grep_definitions.specs.Searches.{IsReadForLine, of_contents, of_failed_read, of_buffers}
use Rattle.grep_definitions.proofs.SeenSearchLemmas.{on-ok-map, search-map}
use Rattle.grep_report.specs.ErrorMakers.{ErrorMakers}
use Rattle.grep_definitions.specs.Plans.{refusal_of, Steps, SearcherState, Finish}

module _ {R T N : Type 0} (view : R → T) (name : R → N) (remaining : T → Option (List ℕ))
    (read : R → ReadResult → R → Type 0) (seen_read : T → ReadResult → T → Type 0)
    (seen : (s : R) (result : ReadResult) (t : R) → read s result t
    → (name t ≡ name s) × seen_read (view s) result (view t)) where
  Pulls-seen : (old : R) (pieces : List (List ℕ)) (new : R) → Pulls read old pieces new
      → (name old ≡ name new) × Pulls seen_read (view old) pieces (view new)
  Pulls-seen old [] new is = (ap name is, ap view is)
  Pulls-seen old (piece ∷ pieces) new (filled, (mid, step, later)) =
      let first = seen old (Ok piece) mid step in
      let rest = Pulls-seen mid pieces new later in
      (sym first.0 ∙ rest.0, (filled, (view mid, first.1, rest.1)))

  Reads-seen : (ended : Bool) (old : R) (pieces : List (List ℕ)) (new : R)
      → Reads (λ s. remaining (view s)) read ended old pieces new
      → (name old ≡ name new) × Reads remaining seen_read ended (view old) pieces (view new)
  Reads-seen false old pieces new calls = Pulls-seen old pieces new calls
  Reads-seen true old pieces new (mid, calls, last, at_end) =
      let first = Pulls-seen old pieces mid calls in
      let ended = seen mid (Ok []) new last in
      (first.0 ∙ sym ended.0, (view mid, first.1, ended.1, at_end))

  Taken-named : (old new : R) → Taken (λ s. remaining (view s)) read old new → name old ≡ name new
  Taken-named old new taken = (Reads-seen taken.ended old taken.pieces new taken.calls).0

  abbrev Taken-seen : (old new : R) → Taken (λ s. remaining (view s)) read old new
      → Taken remaining seen_read (view old) (view new)
  Taken-seen old new taken = record {
    ended = taken.ended;
    pieces = taken.pieces;
    calls = (Reads-seen taken.ended old taken.pieces new taken.calls).1;
    takes = taken.takes;
  }

  module _ (state : SearcherState) (reader reader' : R) (last : T)
      (ends : name reader ≡ name reader' → last ≡ view reader') where
    pub IsReadingError-seen : (error : Error) → IsReadingError (λ s. remaining (view s)) read reader
        reader' error → IsReadingError remaining seen_read (view reader) last error
    IsReadingError-seen error (inl (mid, taken, unended, failed)) =
        let one = seen mid (Err error) reader' failed in
        inl (
          view mid,
          Taken-seen reader mid taken,
          unended,
          subst (seen_read (view mid) (Err error))
              (sym (ends (Taken-named reader mid taken ∙ sym one.0))) one.1,
        )
    IsReadingError-seen error (inr own) = inr own

    module _ (meaning : Meaning) (mid : R) (taken : Taken (λ s. remaining (view s)) read reader mid)
        (lines : List ℕ) where
      IsCut-named : (begun : Bool) (error : Error)
          → IsCut (λ s. remaining (view s)) read state meaning reader mid reader' taken lines begun
          error → name reader ≡ name reader'
      IsCut-named true error (of_lines stops same cut) = Taken-named reader mid taken ∙ ap name same
      IsCut-named true error (of_reader stops (unended, failed) came so_far open_line) =
          Taken-named reader mid taken ∙ sym (seen mid (Err error) reader' failed).0
      IsCut-named false error (of_contents across same cut) = Taken-named reader mid taken
          ∙ ap name same
      IsCut-named false error (of_failed_read across (unended, failed) came so_far below) =
          Taken-named reader mid taken ∙ sym (seen mid (Err error) reader' failed).0
      IsCut-named false error (of_buffers none memory same) = sym (ap name same)

      IsCut-view : (begun : Bool) (error : Error)
          → IsCut (λ s. remaining (view s)) read state meaning reader mid reader' taken lines begun
          error → IsCut remaining seen_read state meaning (view reader) (view mid) (view reader')
          (Taken-seen reader mid taken) lines begun error
      IsCut-view true error (of_lines stops same cut) = of_lines stops (ap view same) cut
      IsCut-view true error (of_reader stops (unended, failed) came so_far open_line) =
          of_reader stops (unended, (seen mid (Err error) reader' failed).1) came so_far open_line
      IsCut-view false error (of_contents across same cut) = of_contents across (ap view same) cut
      IsCut-view false error (of_failed_read across (unended, failed) came so_far below) =
          of_failed_read across (unended, (seen mid (Err error) reader' failed).1) came so_far below
      IsCut-view false error (of_buffers none memory same) = of_buffers none memory (ap view same)

      IsCut-seen : (begun : Bool) (error : Error)
          → IsCut (λ s. remaining (view s)) read state meaning reader mid reader' taken lines begun
          error → IsCut remaining seen_read state meaning (view reader) (view mid) last
          (Taken-seen reader mid taken) lines begun error
      IsCut-seen begun error cut =
          subst (λ after. IsCut remaining seen_read state meaning (view reader) (view mid) after
          (Taken-seen reader mid taken) lines begun error)
          (sym (ends (IsCut-named begun error cut))) (IsCut-view begun error cut)

    pub IsUnread-seen : (meaning : Meaning) (begun : Bool) (lines : List ℕ) (error : Error)
        → IsUnread (λ s. remaining (view s)) read state meaning reader begun lines error reader'
        → IsUnread remaining seen_read state meaning (view reader) begun lines error last
    IsUnread-seen meaning begun lines error (mid, taken, cut) =
        (view mid, Taken-seen reader mid taken, IsCut-seen meaning mid taken lines begun error cut)

    module _ {S E F : Type 0} (step : Steps S E) (errors : ErrorMakers F E)
        (matcher : MatcherFacts F) (look : Look)
      where
        search-view : (old : S) (result : Result (Unit {0}) E) (new : S)
            → IsReaderSearch (λ s. remaining (view s)) read step errors matcher state look reader
            old result reader' new
            → IsReaderSearch remaining seen_read step errors matcher state look (view reader) old
            result (view reader') new
        search-view old result new found = record {
          taken = Taken-seen reader reader' found.taken;
          seen = found.seen;
          each = λ bytes input.
              let here = found.each bytes input in
              record { front = here.front; later = here.later; calls = here.calls };
          over_seen = search-map step errors matcher (λ calls point at. at)
              (λ haystack calls asks. asks)
              (λ plan outcome ended far. (
                (λ all goes_on bytes input.
                    let seen = far.0 all goes_on bytes input in
                    record { few = seen.few; plan = seen.plan }),
                on-ok-map ended (λ lines by_line. lines-view (lines by_line)) far.1,
              )) result new found.over_seen;
          whole = found.whole;
        }
          where
            once-view : IsReadForLine (λ s. remaining (view s)) read state.settings reader reader'
                → IsReadForLine remaining seen_read state.settings (view reader) (view reader')
            once-view asks = record {
              mid = view asks.mid;
              before = Taken-seen reader asks.mid asks.before;
              unended = asks.unended;
              piece = asks.piece;
              last = (seen asks.mid (Ok asks.piece) reader' asks.last).1;
              came = asks.came;
              so_far = asks.so_far;
              open_line = asks.open_line;
            }

            lines-view : {taken : Taken (λ s. remaining (view s)) read reader reader'}
                {lines : List ℕ} {finish : Finish}
                → HasReadLines (λ s. remaining (view s)) read step state.settings reader old reader'
                taken lines finish
                → HasReadLines remaining seen_read step state.settings (view reader) old
                (view reader') (Taken-seen reader reader' taken) lines finish
            lines-view far = record {
              begun = far.begun;
              first = far.first;
              begin = far.begin;
              unread = λ idle. ap view (far.unread idle);
              once = λ reads idle. once-view (far.once reads idle);
              counted = far.counted;
              ahead = far.ahead;
            }

        search-seen : (old : S) (result : Result (Unit {0}) E) (new : S)
            → IsReaderSearch (λ s. remaining (view s)) read step errors matcher state look reader
            old result reader' new
            → IsReaderSearch remaining seen_read step errors matcher state look (view reader) old
            result last new
        search-seen old result new search =
            subst (λ after. IsReaderSearch remaining seen_read step errors matcher state look
            (view reader) old result after new)
            (sym (ends (Taken-named reader reader' search.taken)))
            (search-view old result new search)

        IsRead-seen : (old : S) (result : Result (Unit {0}) E) (new : S)
            → IsRead (λ s. remaining (view s)) read step errors matcher state look reader old result
            reader' new
            → IsRead remaining seen_read step errors matcher state look (view reader) old result
            last new
        IsRead-seen old (Ok u) new search = search-seen old (Ok u) new search
        IsRead-seen old (Err e) new (inl search) = inl (search-seen old (Err e) new search)
        IsRead-seen old (Err e) new (inr cut) = inr (record {
          mid = view cut.mid;
          taken = Taken-seen reader cut.mid cut.taken;
          seen = cut.seen;
          begun = cut.begun;
          error = cut.error;
          cause = IsCut-seen matcher.meaning cut.mid cut.taken cut.seen cut.begun cut.error
              cut.cause;
          made = cut.made;
          calls = cut.calls;
          none = cut.none;
        })

    module _ {S E F : Type 0} (step : Steps S E) (errors : ErrorMakers F E)
        (matcher : MatcherFacts F) where
      pub IsReaderSearched-seen : (old : S) (result : Result (Unit {0}) E) (new : S)
          → IsReaderSearched (λ s. remaining (view s)) read step errors matcher state reader old
          result reader' new
          → IsReaderSearched remaining seen_read step errors matcher state (view reader) old result
          last new
      IsReaderSearched-seen old result new searched = go (refusal_of state.settings matcher.meaning)
          searched
        where
          go : (refusal : Option ConfigError)
              → IsUnlessRefusedBy errors matcher state.settings old result new (reader' ≡ reader)
              (IsRead (λ s. remaining (view s)) read step errors matcher state
              (look_of state.settings matcher.meaning false) reader old result reader' new) refusal
              → IsUnlessRefusedBy errors matcher state.settings old result new (last ≡ view reader)
              (IsRead remaining seen_read step errors matcher state
              (look_of state.settings matcher.meaning false)
              (view reader) old result last new) refusal
          go None searched = λ lawful. IsRead-seen step errors matcher
              (look_of state.settings matcher.meaning false) old result new (searched lawful)
          go (Some refusal) (e, is, made, same, left) =
              (e, is, made, same, ends (sym (ap name left)) ∙ ap view left)
