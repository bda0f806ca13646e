-- How far a search has read that its handler ended.
use Rattle.std.proofs.Common.{◌≡◌, ◌⊎◌, ℕ, zero, suc, ◌+◌, ◌-◌, ◌<◌, Bool, true, false, not, ◌&&◌, List, []}
use Rattle.std.proofs.Common.{◌∷◌, ◌++◌, length, Result, Option, Some, None, Ok, refl, sym, ap}
use Rattle.std.proofs.Common.{subst, ◌∙◌, inl, inr, arith, if◌then◌else◌, ⊎_elim}
use Rattle.std.proofs.lemmas.Bool.{false≢true, le-ltb, lt-ltb}
use Rattle.std.proofs.lemmas.List.{length-append, map-append}
use Rattle.std.proofs.lemmas.List.Elements.{All-cons, All-head, All-nil, All-tail, filter-append}
use Rattle.std.proofs.lemmas.Option.{same_Some}
use Rattle.std.specs.Prelude.{All, is_some, nat_eq, nat_lt, slice_get}
use Rattle.std.specs.List.{concat, starts_with}
use Rattle.std.specs.Option.{option_map}
use Rattle.std.specs.Io.KnownBytes.{Consumes}
use Rattle.grep_decode.specs.Decoded.{begins_with_mark, found_mark, mark_of}
use Rattle.grep_decode.specs.Source.{ReadResult}
use Rattle.grep_decode.specs.declared.label.Label.{Label}
use Rattle.grep_decode.specs.declared.label.Label.TheVariants.{Utf8, Utf16Le, Utf16Be}
use Rattle.grep_matcher.specs.Lines.{byte_of}
use Rattle.grep_matcher.specs.Meanings.{MatcherFacts, Meaning}
use Rattle.grep_report.specs.ErrorMakers.{ErrorMakers}
use Rattle.grep_definitions.specs.Plans.{search_plan, selection_in, all_true, AreMade, begins}
use Rattle.grep_definitions.specs.Plans.{binary_data, breaks, Call, context, Finish, finish_after}
use Rattle.grep_definitions.specs.Plans.{finishes, IsFinished, IsRun, matches, Outcome, Plan}
use Rattle.grep_definitions.specs.Plans.{Planned, planned, breaks_before, calls_at, count_at}
use Rattle.grep_definitions.specs.Plans.{in_context, Kind, kind, line_count, matched, report}
use Rattle.grep_definitions.specs.Plans.{reports_plan, Selection, is_selected, reports_end}
use Rattle.grep_definitions.specs.Plans.{selected_lines, Settings, Steps}
use Rattle.grep_definitions.specs.Searches.{BinaryPoint, plan_with, encoding_after, Points}
use Rattle.grep_definitions.specs.Searches.{encoding_of, IsInput, IsSearchOf, ran, searched_bytes}
use Rattle.grep_definitions.specs.SearchLaws.{calls_of, is_match, match_calls, match_of}
use Rattle.grep_definitions.specs.SearchLaws.{reported_to}
use Rattle.grep_definitions.proofs.DecodedLemmas.{unchanged-input}
use Rattle.grep_definitions.proofs.MatchCallLemmas.{first_match-is_first}
use Rattle.grep_searcher.specs.SinkFolds.{IsMatchOk}
use Rattle.grep_definitions.specs.SliceSearches.{is_searched_unchanged}
use Rattle.grep_definitions.proofs.BelowLemmas.{first_below-of}
use Rattle.grep_definitions.proofs.KnownReaderLemmas.{taken-input}
use Rattle.grep_definitions.proofs.LineSliceLemmas.{line-report}
use Rattle.grep_matcher.proofs.LineStartLemmas.{line_start-more}
use Rattle.grep_definitions.proofs.ListLemmas.{All-joined_from}
use Rattle.grep_definitions.proofs.SearchLawLemmas.{reports_end-le}
use Rattle.grep_searcher.proofs.SinkFoldLemmas.{known_readers-run, reader_searches-run}
use Rattle.grep_searcher.specs.BoundedReads.{ending_call, EndedKnownReadersStop, EndedReadersStop}
use Rattle.grep_searcher.specs.BoundedReads.{FirstEnds, IsReadUpTo, ReadersFindLines}
use Rattle.grep_searcher.specs.MatchHandlers.{FirstReports, has_room, IsFoundStep, IsHandlerStep}
use Rattle.grep_searcher.specs.MatchHandlers.{kept_of, KeptReport, with_first, with_match}
use Rattle.grep_searcher.proofs.MatchHandlerLemmas.{runs-find_selected}

-- ---- the count after a match is where its line ends

-- a match after which a false leaves the byte count at its end
abbrev EndsAtMatch : Planned → Type 0
EndsAtMatch call = is_match call.call ≡ true → call.if_false.count ≡ reported_to call.call

module _ (k : Settings) (meaning : Meaning) (bytes : List ℕ) where
  abbrev chosen : Selection
  chosen = selected_lines k meaning bytes

  ends-report : (i : ℕ) → i < line_count k bytes → (shown : Option Kind)
      → All EndsAtMatch (report k bytes chosen i shown)
  ends-report i inside None = All-nil EndsAtMatch
  ends-report i inside (Some matched) =
      subst (All EndsAtMatch) (sym (line-report k bytes meaning i))
      (All-cons EndsAtMatch _ [] (λ is. line_start-more (byte_of k.line_terminator) bytes i inside)
      (All-nil EndsAtMatch))
  ends-report i inside (Some (in_context c)) =
      All-cons EndsAtMatch _ [] (λ is. absurd (false≢true is)) (All-nil EndsAtMatch)

  ends-line : (i : ℕ) → i < line_count k bytes → All EndsAtMatch (calls_at k bytes chosen i)
  ends-line i inside = go (breaks_before k bytes chosen i)
      (count_at k bytes chosen i (kind k bytes chosen i))
    where
      shown : All EndsAtMatch (report k bytes chosen i (kind k bytes chosen i))
      shown = ends-report i inside (kind k bytes chosen i)

      go : (b : Bool) (end : ℕ) → All EndsAtMatch (if b then planned breaks end
          ∷ report k bytes chosen i (kind k bytes chosen i)
          else report k bytes chosen i (kind k bytes chosen i))
      go true end = All-cons EndsAtMatch (planned breaks end) _ (λ is. absurd (false≢true is)) shown
      go false end = shown

  ends-plan : All EndsAtMatch (reports_plan k bytes chosen).calls
  ends-plan =
      All-cons EndsAtMatch (planned begins 0) _ (λ is. absurd (false≢true is))
      (All-joined_from EndsAtMatch (calls_at k bytes chosen) 0 (reports_end k meaning bytes)
      (λ j low high. ends-line j (omega (arith, high, reports_end-le k meaning bytes))))

-- ---- the call at which a run ended

-- the matches of joined calls
match_calls-append : (front back : List Planned) → match_calls (front ++ back) ≡ match_calls front
    ++ match_calls back
match_calls-append front back =
    rw (map-append (λ (planned : Planned). planned.call) front back)
    (filter-append is_match (calls_of front) (calls_of back))

module _ {H : Type 0} (goes : H → Call → Bool) (next : H → Call → H) where
  -- it is the same if more calls come after it
  ending-more : (old : H) (front back : List Call) (last : Call)
      → ending_call goes next old front ≡ Some last
      → ending_call goes next old (front ++ back) ≡ Some last
  ending-more old [] back last is = absurd (let never = is in cc)
  ending-more old (call ∷ front) back last is =
      go (goes old call) (ending-more (next old call) front back last) is
    where
      go : (b : Bool) → (ending_call goes next (next old call) front ≡ Some last
          → ending_call goes next (next old call) (front ++ back) ≡ Some last)
          → (if b then ending_call goes next (next old call) front else Some call) ≡ Some last
          → (if b then ending_call goes next (next old call) (front ++ back) else Some call)
          ≡ Some last
      go true more at = more at
      go false more at = at

  -- a call after which the search goes on isn't that one
  ending-later : (old : H) (planned : Planned) (between : H) (later : List Planned)
      → IsMatchOk goes next old planned.call true between
      → ending_call goes next old (match_calls (planned ∷ later))
      ≡ ending_call goes next between (match_calls later)
  ending-later old planned between later = go planned.call
    where
      go : (call : Call) → IsMatchOk goes next old call true between
          → ending_call goes next old (if is_match call then call ∷ match_calls later
          else match_calls later) ≡ ending_call goes next between (match_calls later)
      go begins h = ap (λ s. ending_call goes next s (match_calls later)) (sym h.1)
      go (matches number offset bytes around) h =
          rw (sym h.0) (ap (λ s. ending_call goes next s (match_calls later)) (sym h.1))
      go (context kind number offset bytes) h =
          ap (λ s. ending_call goes next s (match_calls later)) (sym h.1)
      go breaks h = ap (λ s. ending_call goes next s (match_calls later)) (sym h.1)
      go (binary_data offset) h = ap (λ s. ending_call goes next s (match_calls later)) (sym h.1)
      go (finishes count binary) h = ap (λ s. ending_call goes next s (match_calls later)) (sym h.1)

  -- one after which it doesn't go on is, and is a match
  ending-here : (old : H) (planned : Planned) (mid : H) (later : List Planned)
      → IsMatchOk goes next old planned.call false mid
      → (is_match planned.call ≡ true)
      × (ending_call goes next old (match_calls (planned ∷ later)) ≡ Some planned.call)
  ending-here old planned mid later = go planned.call
    where
      go : (call : Call) → IsMatchOk goes next old call false mid
          → (is_match call ≡ true)
          × (ending_call goes next old (if is_match call then call ∷ match_calls later
          else match_calls later) ≡ Some call)
      go begins h = absurd (false≢true h.0)
      go (matches number offset bytes around) h = (refl, rw (sym h.0) refl)
      go (context kind number offset bytes) h = absurd (false≢true h.0)
      go breaks h = absurd (false≢true h.0)
      go (binary_data offset) h = absurd (false≢true h.0)
      go (finishes count binary) h = absurd (false≢true h.0)

-- the handler ended the run at a match, and the byte count is where that ends
record EndedAt {H E : Type 0} (goes : H → Call → Bool) (next : H → Call → H) (old : H)
    (calls : List Planned) (outcome : Outcome E) (finish : Finish) : Type 0 where
  last : Call
  ended : ending_call goes next old (match_calls calls) ≡ Some last
  count : (finish_after outcome finish).count ≡ reported_to last

module _ {H E : Type 0} (goes : H → Call → Bool) (next : H → Call → H)
    (fails : H → Call → E → H → Type 0) (settings : Settings) (finish : Finish) (new : H) where
  -- it ended it so, or no call did
  made-ended : (calls : List Planned) → All EndsAtMatch calls → (old : H) (outcome : Outcome E)
      (mid : H) → AreMade (IsHandlerStep goes next fails) settings old calls outcome mid
      → IsFinished (IsHandlerStep goes next fails) settings outcome mid finish (Ok tt) new
      → ((outcome ≡ all_true) × (ending_call goes next old (match_calls calls) ≡ None))
      ⊎ EndedAt goes next old calls outcome finish
  made-ended [] ends old outcome mid (is, same) finished = inl (is, refl)
  made-ended (planned ∷ later) ends old outcome mid (inl (between, made, rest)) finished =
      let over = ending-later goes next old planned between later made.0 in
      ⊎_elim (λ none. inl (none.0, over ∙ none.1))
      (λ (at : EndedAt goes next between later outcome finish). inr (record {
        last = at.last;
        ended = over ∙ at.ended;
        count = at.count;
      }))
      (made-ended later (All-tail EndsAtMatch planned later ends) between outcome mid rest finished)
  made-ended (planned ∷ later) ends old outcome mid (inr (inl (is, made))) finished =
      let here = ending-here goes next old planned mid later made.0 in
      inr (record {
        last = planned.call;
        ended = here.1;
        count = ap (λ o. (finish_after o finish).count) is
            ∙ All-head EndsAtMatch planned later ends here.0;
      })
  made-ended (planned ∷ later) ends old outcome mid (inr (inr (e, is, made))) finished =
      let last = subst (λ o. IsFinished (IsHandlerStep goes next fails) settings o mid finish
      (Ok tt) new) is finished in
      absurd (let never = last.0 in cc)

-- ---- an input that is searched as it is has no encoding, and so have its first bytes

starts-more : (xs ys needle : List ℕ) → starts_with nat_eq xs needle ≡ true
    → starts_with nat_eq (xs ++ ys) needle ≡ true
starts-more xs ys [] is = refl
starts-more [] ys (y ∷ needle) is = absurd (false≢true is)
starts-more (x ∷ xs) ys (y ∷ needle) is = go (nat_eq y x) (starts-more xs ys needle) is
  where
    go : (b : Bool) → (starts_with nat_eq xs needle ≡ true → starts_with nat_eq (xs ++ ys) needle
        ≡ true)
        → (b && starts_with nat_eq xs needle) ≡ true → (b && starts_with nat_eq (xs ++ ys) needle)
        ≡ true
    go true more rest = more rest
    go false more rest = rest

unmarked : (a b c a' b' c' : Bool) → (b ≡ true → b' ≡ true) → (c ≡ true → c' ≡ true)
    → not (is_some (if a' then Some Utf8
    else (if b' then Some Utf16Le else (if c' then Some Utf16Be else None)))) ≡ true
    → encoding_after (if a then Some Utf8
    else (if b then Some Utf16Le else (if c then Some Utf16Be else None))) None ≡ None
unmarked true b c a' b' c' little big is = refl
unmarked false b c true b' c' little big is = absurd (false≢true is)
unmarked false b c false true c' little big is = absurd (false≢true is)
unmarked false b c false false true little big is = absurd (false≢true is)
unmarked false true c false false false little big is = absurd (false≢true (little refl))
unmarked false false true false false false little big is = absurd (false≢true (big refl))
unmarked false false false false false false little big is = refl

unencoded : (k : Settings) (front back : List ℕ) → is_searched_unchanged k (front ++ back) ≡ true
    → encoding_of k front ≡ None
unfolding is_searched_unchanged encoding_of
unencoded k front back = go k.encoding k.bom_sniffing
  where
    go : (label : Option Label) (sniff : Bool)
        → (not (is_some label) && not (is_some (found_mark label sniff (front ++ back)))) ≡ true
        → encoding_after (found_mark label sniff front) label ≡ None
    go (Some label) sniff is = absurd (false≢true is)
    go None false is = refl
    go None true is = unmarked (begins_with_mark Utf8 front) (begins_with_mark Utf16Le front)
        (begins_with_mark Utf16Be front) (begins_with_mark Utf8 (front ++ back))
        (begins_with_mark Utf16Le (front ++ back)) (begins_with_mark Utf16Be (front ++ back))
        (starts-more front back (mark_of Utf16Le)) (starts-more front back (mark_of Utf16Be)) is

-- ---- a search of a reader

module _ {H E F : Type 0} (goes : H → Call → Bool) (next : H → Call → H)
    (fails : H → Call → E → H → Type 0) (errors : ErrorMakers F E) (matcher : MatcherFacts F)
    {R : Type 0} (remaining : R → Option (List ℕ)) (read_step : R → ReadResult → R → Type 0) where
  abbrev step : Steps H E
  step = IsHandlerStep goes next fails

  -- a run over the lines that were seen, with what it has read
  over : (k : Settings) {IsAt : Points} {IsAsked : List ℕ → List Planned → Type 0}
      {HasRead : Plan → Outcome E → Result (Unit {0}) E → Type 0}
      → ((calls : List Planned) (point : Option BinaryPoint) → IsAt calls point → point ≡ None)
      → (plan : Plan) (old new : H)
      → IsSearchOf step errors matcher k IsAt IsAsked HasRead plan old (Ok tt) new
      → (run : IsRun step k old plan (Ok tt) new) × HasRead plan run.outcome (Ok tt)
  over k {HasRead = HasRead} none plan old new (ran point at run read) =
      subst (λ p. (run : IsRun step k old (plan_with k.binary_detection p plan) (Ok tt) new)
      × HasRead (plan_with k.binary_detection p plan) run.outcome (Ok tt))
      (none plan.calls point at) (run, read)

  -- what was read, and what is left
  taken-part : (input pieces : List ℕ) (left : Option (List ℕ)) → Consumes (Some input) left pieces
      → (rest : List ℕ) × (input ≡ pieces ++ rest) × (left ≡ Some rest)
  taken-part input pieces None takes = absurd takes
  taken-part input pieces (Some rest) takes = (rest, takes, refl)

  pub ended_readers-stop : EndedReadersStop goes next fails errors matcher remaining read_step
  ended_readers-stop state reader old reader' new by searched =
      let k = state.settings in
      let meaning = matcher.meaning in
      let runs = reader_searches-run step errors matcher remaining read_step state reader old
      reader' new by.undetected by.lawful searched in (
        runs.0.taken,
        λ bytes input last limit ends limited none.
            let seen = runs.0.seen in
            let part = runs.0.each bytes input in
            let run = over k (λ calls point at. at bytes input) (search_plan k meaning seen) old new
            runs.0.over_seen in
            let ends_lines : All EndsAtMatch (search_plan k meaning seen).calls =
            subst (λ (p : Plan). All EndsAtMatch p.calls) (sym (ap
            (λ b. reports_plan k seen (selection_in k meaning seen b)) by.by_line))
            (ends-plan k meaning seen) in
            let read = (run.1.1 by.by_line).ahead limit limited none in
            ⊎_elim (λ whole. absurd (
            let same : search_plan k meaning bytes ≡ search_plan k meaning seen =
            (run.1.0 whole.0 (λ _. refl) bytes input).plan in
            let never = sym whole.1
            ∙ ap (λ (p : Plan). ending_call goes next old (match_calls p.calls)) (sym same)
            ∙ ends in
            cc
            )) (λ (at : EndedAt goes next old (search_plan k meaning seen).calls run.0.outcome
            (search_plan k meaning seen).finish).
            let more : ending_call goes next old (match_calls (search_plan k meaning bytes).calls)
            ≡ Some at.last =
            ap (λ calls. ending_call goes next old (match_calls calls)) part.calls
            ∙ ap (ending_call goes next old)
            (match_calls-append (search_plan k meaning seen).calls part.later)
            ∙ ending-more goes next old (match_calls (search_plan k meaning seen).calls)
            (match_calls part.later) at.last at.ended in
            let same : at.last ≡ last = same_Some at.last last (sym more ∙ ends) in
            omega (arith, read, at.count, ap reported_to same))
            (made-ended goes next fails k (search_plan k meaning seen).finish new
            (search_plan k meaning seen).calls ends_lines old run.0.outcome run.0.mid run.0.made
            run.0.finished),
      )

  pub ended_known_readers-stop : EndedKnownReadersStop goes next fails errors matcher remaining
      read_step
  ended_known_readers-stop state reader input old reader' new by all searched last limit ends
      limited as_it_is =
      let k = state.settings in
      let stopped = ended_readers-stop state reader old reader' new by searched in
      let pieces = concat stopped.0.pieces in
      let whole : IsInput k stopped.0.ended stopped.0.pieces input =
      subst (IsInput k stopped.0.ended stopped.0.pieces) (unchanged-input k input as_it_is)
      (taken-input remaining read_step k input reader reader' all stopped.0) in
      let part = taken-part input pieces (remaining reader')
      (subst (λ left. Consumes left (remaining reader') pieces) all stopped.0.takes) in
      let none = unencoded k pieces part.0
      (subst (λ bytes. is_searched_unchanged k bytes ≡ true) part.1 as_it_is) in
      record {
        read = pieces;
        rest = part.0;
        all = part.1;
        remaining = part.2;
        bounded = stopped.1 input whole last limit ends limited none;
      }

-- a handler that always ends the search ends it at the first call
ending-first : (calls : List Call) → ending_call (λ _ _. false) (λ _ _. true) false calls
    ≡ slice_get calls 0
ending-first [] = refl
ending-first (call ∷ later) = refl

module _ {F E : Type 0} (errors : ErrorMakers F E) (matcher : MatcherFacts F) {R : Type 0}
    (remaining : R → Option (List ℕ)) (read_step : R → ReadResult → R → Type 0) where
  pub readers-find_lines : ReadersFindLines errors matcher remaining read_step
  readers-find_lines state reader input old reader' new by is_new all searched =
      let k = state.settings in
      let meaning = matcher.meaning in (
        runs-find_selected E k meaning (searched_bytes k input) by.by_line old new is_new
            (known_readers-run IsFoundStep errors matcher remaining read_step state reader input old
            reader' new by.undetected all by.lawful searched),
        λ limit i limited as_it_is first.
            let inside = (first_below-of (is_selected k meaning input) (line_count k input) i
            first).0 in
            let calls = match_calls (search_plan k meaning input).calls in
            let ends : ending_call (λ _ _. false) (λ _ _. true) old calls
            ≡ Some (match_of k input i) =
            ap (λ s. ending_call (λ _ _. false) (λ _ _. true) s calls) is_new ∙ ending-first calls
            ∙ first_match-is_first k meaning input by.by_line
            ∙ ap (option_map (match_of k input)) first in
            subst (λ end. IsReadUpTo input (remaining reader') (end + limit + 3))
            (sym (line_start-more (byte_of k.line_terminator) input i inside))
            (ended_known_readers-stop (λ _ _. false) (λ _ _. true) (λ _ _ _ _. ⊥) errors matcher
            remaining read_step state reader input old reader' new by all searched
            (match_of k input i) limit ends limited as_it_is),
      )

-- ---- the match at which `First` ends a search

abbrev first_of : ℕ → List KeptReport → FirstReports
first_of limit kept = record { limit = limit; kept = kept }

-- with room for one more and some after it
ending-first_room : (limit room : ℕ) (kept : List KeptReport) (calls : List Call)
    → length kept + suc room ≡ limit
    → ending_call (λ old call. has_room (with_first old call)) with_first (first_of limit kept)
    calls ≡ slice_get calls room
ending-first_room limit room kept [] fits = refl
ending-first_room limit zero kept (call ∷ later) fits =
    let here : nat_lt (length kept) limit ≡ true = lt-ltb (length kept) limit
    (omega (arith, fits)) in
    let full : nat_lt (length (with_match kept call)) limit ≡ false =
    le-ltb _ _ (omega (arith, fits, length-append kept (kept_of call ∷ []))) in
    rw (here, full) refl
ending-first_room limit (suc room) kept (call ∷ later) fits =
    let size = length-append kept (kept_of call ∷ []) in
    let here : nat_lt (length kept) limit ≡ true = lt-ltb (length kept) limit
    (omega (arith, fits)) in
    let more : nat_lt (length (with_match kept call)) limit ≡ true =
    lt-ltb (length (with_match kept call)) limit (omega (arith, fits, size)) in
    rw (here, more) (ending-first_room limit room (with_match kept call) later
    (omega (arith, fits, size)))

pub first-ends : FirstEnds
first-ends limit calls above =
    ending-first_room limit (limit - 1) [] calls (omega (arith, above))
