-- What a search of a stream comes to: before its first line, at `binary_data` and after it, and at
-- `finish`.
use Rattle.grep_searcher.proofs.ReadingLemmas.{IsStream}
use Rattle.grep_searcher.specs.BinaryCalls.{Noted, PassesBinary}
use Rattle.grep_searcher.specs.Rolls.{HasCounted, HasFailed, HasSeen, IsCountedFor, IsStartAt}
use Rattle.grep_searcher.specs.Rolls.{IsStreamCounted, not_passed, was_passed, HasStarted}
use Rattle.grep_definitions.specs.SinkRuns.{IsEnding, after_binary}
use Rattle.grep_searcher.specs.SearchBuffers.{detection_of}
use Rattle.grep_decode.specs.DecoderStates.{DecoderState}
use Rattle.grep_decode.specs.Source.{ReadResult}
use Rattle.grep_definitions.proofs.BoolLemmas.{clash}
use Rattle.grep_definitions.proofs.FirstCallLemmas.{front_calls-begin}
use Rattle.grep_definitions.proofs.FrontLemmas.{calls-within, front-none}
use Rattle.grep_definitions.proofs.PlannedStreamLemmas.{stream-point, binary-made}
use Rattle.grep_definitions.proofs.SeenLineLemmas.{asked-begin, calls-begin, plan-same}
use Rattle.grep_definitions.proofs.SeenSearchLemmas.{on-ok}
use Rattle.grep_definitions.proofs.SearchModeLemmas.{asked-with, calls-are, finish-is, with-calls}
use Rattle.grep_definitions.proofs.SearchModeLemmas.{with-finish}
use Rattle.grep_definitions.proofs.SinkRunLemmas.{all-by, AreMade-append, outcome_by, made-binary}
use Rattle.grep_definitions.proofs.SinkRunLemmas.{by-none, by-some}
use Rattle.grep_walk.proofs.FinishLemmas.{run-finish}
use Rattle.grep_definitions.specs.Plans.{line_plan, search_plan, is_across, selection_in, Steps}
use Rattle.grep_definitions.specs.Plans.{Planned, Plan, AreMade, Outcome, all_true, stopped, failed}
use Rattle.grep_definitions.specs.Plans.{counted, Finish, IsRun, begins, finish_after, finishes}
use Rattle.grep_definitions.specs.Plans.{finish_result, start, line_count, Settings, SearcherState}
use Rattle.grep_definitions.specs.Searches.{quits, on_stream, binary_of, view_of, BinaryPoint}
use Rattle.grep_definitions.specs.Searches.{plan_with, calls_with, planned_binary, with_offset}
use Rattle.grep_definitions.specs.Searches.{IsInput, searched_bytes, Taken, reports_nothing}
use Rattle.grep_definitions.specs.Searches.{IsPoint, IsCutAt, IsReaderSearch, IsSearchOf, EachPoint}
use Rattle.grep_definitions.specs.Searches.{EachAsked, ran, asked, IsStreamPoint, IsRead}
use Rattle.grep_definitions.specs.Searches.{encoding_of}
use Rattle.grep_searcher.proofs.StreamViewLemmas.{as-found}
use Rattle.grep_line_buffer.proofs.DetectionLemmas.{first-none, found-nil}
use Rattle.grep_line_buffer.specs.BufferStates.{BufferState, has_quit}
use Rattle.grep_line_buffer.specs.Detections.{first_of, is_quit}
use Rattle.grep_matcher.specs.Lines.{byte_of}
use Rattle.grep_matcher.specs.Meanings.{Meaning, MatcherFacts}
use Rattle.grep_report.specs.BinaryDetections.{quit_byte_of}
use Rattle.grep_report.specs.ErrorMakers.{ErrorMakers}
use Rattle.grep_report.specs.declared.binary_detection.BinaryDetection.{BinaryDetection}
use Rattle.grep_report.specs.declared.binary_detection.BinaryDetection.TheVariants.{None as no_detection}
use Rattle.grep_report.specs.declared.binary_detection.BinaryDetection.TheVariants.{Quit, Convert}
use Rattle.grep_walk.proofs.OriginLemmas.{fresh-made}
use Rattle.grep_walk.specs.Origins.{AreMadeFrom, Origin, fresh}
use Rattle.grep_walk.specs.WalkFaults.{IsWalkFault, at_call, at_question}
use Rattle.std.proofs.Common.{◌≡◌, ℕ, Bool, true, false, inl, inr, Option, Some, None, refl, sym}
use Rattle.std.proofs.Common.{◌∙◌, ap, List, ◌∷◌, ◌++◌, subst, arith, length, map, take, drop}
use Rattle.std.proofs.Common.{length-append, Err, ◌≤◌, ◌+◌, [], Ok, Result}
use Rattle.std.proofs.KnownBytes.{Consumes-nil}
use Rattle.std.proofs.Math.Seq.{take-append_seam, drop-append_seam}
use Rattle.std.proofs.lemmas.Bool.{false≢true}
use Rattle.std.proofs.lemmas.List.{append-nil}
use Rattle.std.proofs.lemmas.Option.{none-some}
use Rattle.std.specs.List.{concat}
use Rattle.std.specs.Prelude.{is_none, is_some, ◌&&◌, ◌||◌, not}
use Rattle.grep_walk.proofs.WalkLemmas as walks

-- what returned true and goes on doesn't end the search
pub goes-true : (d : BinaryDetection) (returned : Bool) → true
    ≡ (returned && is_none (quit_byte_of d)) → (returned ≡ true) × (quits d ≡ false)
goes-true no_detection true goes = (refl, refl)
goes-true no_detection false goes = cc
goes-true (Quit b) true goes = cc
goes-true (Quit b) false goes = cc
goes-true (Convert b) true goes = (refl, refl)
goes-true (Convert b) false goes = cc

-- what returned true and doesn't go on ends it
pub goes-false : (d : BinaryDetection) → false ≡ (true && is_none (quit_byte_of d)) → quits d ≡ true
goes-false no_detection ends = cc
goes-false (Quit b) ends = refl
goes-false (Convert b) ends = cc

module _ {S E : Type 0} (step : Steps S E) (k : Settings) where
  -- a search that goes on has a buffer that isn't cut
  pub uncut-passed : (old new : BufferState) (sink sink' : Noted S) → has_quit old ≡ false
      → new.detection ≡ old.detection
      → old.detection ≡ detection_of k.binary_detection → sink.binary ≡ old.binary
      → PassesBinary step k new.binary sink true sink' → has_quit new ≡ false
  uncut-passed old new sink sink' uncut same detects noted_there
      (inl (o, is, none, known, (returned, called, goes))) =
      ap (λ b. b && is_some new.binary) (ap is_quit (same ∙ detects)
      ∙ go k.binary_detection returned goes)
    where
      go : (d : BinaryDetection) (returned : Bool) → true ≡ (returned && is_none (quit_byte_of d))
          → is_quit (detection_of d) ≡ false
      go no_detection returned goes = refl
      go (Quit b) true goes = cc
      go (Quit b) false goes = cc
      go (Convert b) returned goes = refl
  uncut-passed old new sink sink' uncut same detects noted_there (inr (inl none, goes, kept)) =
      ap (λ b. is_quit new.detection && is_some b) none ∙ go (is_quit new.detection)
    where
      go : (quits : Bool) → (quits && false) ≡ false
      go true = refl
      go false = refl
  uncut-passed old new sink sink' uncut same detects noted_there (inr (inr some, goes, kept)) =
      ap (λ b. b && is_some new.binary) (ap is_quit same ∙ go (is_quit old.detection)
      (ap (λ b. is_quit old.detection && b) (sym some ∙ ap is_some noted_there) ∙ uncut))
    where
      go : (quits : Bool) → (quits && true) ≡ false → quits ≡ false
      go true never = cc
      go false never = refl

  -- what is noted is what the buffer found
  pub noted-passed : (old new other : Option ℕ) (sink sink' : Noted S) → new ≡ first_of old other
      → sink.binary ≡ old → PassesBinary step k new sink true sink' → sink'.binary ≡ new
  noted-passed old new other sink sink' found there (inl (o, is, none, known, called)) = known
      ∙ sym is
  noted-passed old new other sink sink' found there (inr (inl none, goes, kept)) =
      ap (λ (n : Noted S). n.binary) kept
      ∙ (there ∙ (first-none old other (sym found ∙ none) ∙ sym none))
  noted-passed None new other sink sink' found there (inr (inr some, goes, kept)) =
      absurd (false≢true (sym (ap is_some there) ∙ some))
  noted-passed (Some o) new other sink sink' found there (inr (inr some, goes, kept)) =
      ap (λ (n : Noted S). n.binary) kept ∙ (there ∙ sym found)

made-in : {S E : Type 0} (step : Steps S E) (k : Settings) (point : BinaryPoint)
    (calls : List Planned) {front back later : List Planned}
    → take point.position calls ≡ front → drop point.position calls ≡ back
    → map (after_binary point) back ≡ later → (old : S) (outcome : Outcome E) (last : S)
    → AreMade step k old (front ++ planned_binary point ∷ later) outcome last
    → AreMade step k old (calls_with (Some point) calls) outcome last
made-in step k point calls taken dropped same old outcome last made = rw (taken, dropped, same) made

-- where `binary_data` came
abbrev pub point_of : {S E : Type 0} {step : Steps S E} {k : Settings} {meaning : Meaning}
    {given : List ℕ} {at : ℕ}
    {old : S} {next : Origin S} {found : Option ℕ} → IsStartAt step k meaning given at old next
    found → Option BinaryPoint
point_of (not_passed same) = None
point_of {k} {meaning} (was_passed offset start) = Some (record {
  position = length (search_plan k meaning start.seen).calls;
  offset = offset;
  count = length start.seen;
})

module _ {S E : Type 0} {step : Steps S E} {k : Settings} {meaning : Meaning}
    (by_line : is_across k meaning ≡ false)
    {given : List ℕ} {at : ℕ} {old : S} {next : Origin S} where
  -- the calls that a walk made from the state after it are those of a search with it
  made-with : {found : Option ℕ} (start : IsStartAt step k meaning given at old next found)
      {made : List Planned}
      {outcome : Outcome E} {last : S} → AreMadeFrom step k next made outcome last
      → AreMade step k old (calls_with (point_of start) made) (outcome_by found outcome) last
  made-with (not_passed same) {made} {outcome} {last} so_far =
      subst (λ o. AreMade step k old made o last) (by-none _) (fresh-made step k old made _ last
      (subst (λ (origin : Origin S). AreMadeFrom step k origin made outcome last) same so_far))
  made-with (was_passed offset start) {made} {outcome} {last} so_far =
      let front : List Planned = (line_plan k meaning start.seen).calls in
      let later : List Planned = so_far.later in
      let is = so_far.all ∙ ap (λ cs. cs ++ later) start.made in
      let point : BinaryPoint = record {
        position = length (search_plan k meaning start.seen).calls;
        offset = offset;
        count = length start.seen;
      } in
      let position : point.position ≡ length front = ap length (calls-are k meaning by_line _) in
      made-in step k point made
      (ap (λ n. take n made) position ∙ ap (λ cs. take (length front) cs) is
      ∙ take-append_seam front later)
      (ap (λ n. drop n made) position ∙ ap (λ cs. drop (length front) cs) is
      ∙ drop-append_seam front later) refl old _ last (AreMade-append step k front _ old _
      _ last start.before
      (inl (
        next.state,
        start.call,
        subst (λ o. AreMade step k next.state (map (after_binary point) later) o last) (by-some _ _)
            (made-binary step k _ later _ _ last so_far.made),
      )))

  -- so are all calls of an input
  made-along : {found : Option ℕ} (start : IsStartAt step k meaning given at old next found)
      (bytes : List ℕ)
      {outcome : Outcome E} {last : S} → AreMadeFrom step k next (line_plan k meaning bytes).calls
      outcome last → AreMade step k old (plan_with k.binary_detection (point_of start)
      (search_plan k meaning bytes)).calls (outcome_by found outcome) last
  made-along {found} start bytes {outcome} {last} so_far =
      subst (λ cs. AreMade step k old cs (outcome_by found outcome) last) (sym (go start))
      (made-with start so_far)
    where
      go : {found : Option ℕ} (start : IsStartAt step k meaning given at old next found)
          → (plan_with k.binary_detection (point_of start) (search_plan k meaning bytes)).calls
          ≡ calls_with (point_of start) (line_plan k meaning bytes).calls
      go (not_passed same) = calls-are k meaning by_line bytes
      go (was_passed offset start) =
          with-calls _ start.goes_on (point_of (was_passed offset start))
          (search_plan k meaning bytes)
          ∙ ap (calls_with (point_of (was_passed offset start))) (calls-are k meaning by_line bytes)

  ending-along : {found : Option ℕ} (start : IsStartAt step k meaning given at old next found)
      (bytes : List ℕ)
      (count : ℕ) (outcome : Outcome E) → IsEnding outcome (line_plan k meaning bytes).finish
      (counted count) → IsEnding (outcome_by found outcome)
      (plan_with k.binary_detection (point_of start) (search_plan k meaning bytes)).finish
      (record { count = count; binary = found })
  ending-along {found} start bytes count all_true same =
      ap (λ (f : Finish). record { count = f.count; binary = found }) same ∙ sym (go start)
    where
      go : {found : Option ℕ} (start : IsStartAt step k meaning given at old next found)
          → (plan_with k.binary_detection (point_of start) (search_plan k meaning bytes)).finish
          ≡ record { count = (line_plan k meaning bytes).finish.count; binary = found }
      go (not_passed same) = finish-is k meaning by_line bytes
      go (was_passed offset start) =
          with-finish _ start.goes_on (record {
            position = length (search_plan k meaning start.seen).calls;
            offset = offset;
            count = length start.seen;
          }) (search_plan k meaning bytes)
          ∙ ap (with_offset offset) (finish-is k meaning by_line bytes)
  ending-along (not_passed begun) bytes count (stopped finish) same = same
  ending-along (was_passed offset start) bytes count (stopped finish) same =
      ap (with_offset offset) same
  ending-along start bytes count (failed e) never = absurd never

  -- `binary_data` comes where these calls have begun
  is-point : {found : Option ℕ} (start : IsStartAt step k meaning given at old next found)
      {made : List Planned}
      {outcome : Outcome E} {last : S} → AreMadeFrom step k next made outcome last
      → {bytes : List ℕ} (later : List ℕ) → bytes ≡ given ++ later → (n : ℕ)
      → (found ≡ None → binary_of k (take n bytes) ≡ None)
      → IsPoint k meaning bytes on_stream n made (point_of start)
  is-point (not_passed same) so_far later is n clear = clear refl
  is-point (was_passed offset start) {made} so_far later is n clear =
      let front : List Planned = (line_plan k meaning start.seen).calls in
      let rest : List Planned = so_far.later in
      let all = so_far.all ∙ ap (λ cs. cs ++ rest) start.made in
      let position : length (search_plan k meaning start.seen).calls ≡ length front =
      ap length (calls-are k meaning by_line _) in
      record {
        seen = start.seen;
        cut = subst (λ xs. IsCutAt k meaning xs start.seen offset) (sym is) (start.cut later);
        count = refl;
        within = omega (arith, position, ap length all, length-append front rest);
        before = ap (λ n. take n made) position ∙ ap (λ cs. take (length front) cs) all
            ∙ (take-append_seam front rest ∙ sym (calls-are k meaning by_line _));
      }

  -- a search that goes on doesn't end at a byte
  goes-on : {found : Option ℕ} (start : IsStartAt step k meaning given at old next found)
      → quits k.binary_detection ≡ true → point_of start ≡ None
  goes-on (not_passed same) ends = refl
  goes-on (was_passed offset start) ends = absurd (clash ends start.goes_on)

  -- what was seen of an input that is read
  module _ {R : Type 0} {remaining : R → Option (List ℕ)} {read_step : R → ReadResult → R → Type 0}
      {reader reader' : R}
      {found : Option ℕ} (start : IsStartAt step k meaning given at old next found)
      (input : HasSeen step k meaning remaining read_step reader given found at reader') where
    abbrev One : List ℕ → Type 0
    One = IsInput k input.taken.ended input.taken.pieces

    point-at : {made : List Planned} {outcome : Outcome E} {last : S}
        → AreMadeFrom step k next made outcome last → (bytes : List ℕ) → One bytes
        → IsPoint k meaning bytes on_stream (length input.seen) made (point_of start)
    point-at so_far bytes is =
        let text = input.begins bytes is in
        is-point start so_far _ text.1 _ (λ none. input.clear none bytes is)

    -- among the calls over some bytes
    plan-point : (over : List ℕ) {outcome : Outcome E} {last : S}
        → AreMadeFrom step k next (line_plan k meaning over).calls outcome last → (bytes : List ℕ)
        → One bytes
        → IsPoint k meaning bytes on_stream (length input.seen) (search_plan k meaning over).calls
        (point_of start)
    plan-point over so_far bytes is =
        rw (calls-are k meaning by_line over) (point-at so_far bytes is)

    -- the calls for the lines that were seen
    pub seen-made : {last : S} → AreMadeFrom step k next (line_plan k meaning input.seen).calls
        all_true last → (point : Option BinaryPoint)
        × ((bytes : List ℕ) → One bytes → IsPoint k meaning bytes on_stream
        (length input.seen) (search_plan k meaning input.seen).calls point)
        × (quits k.binary_detection ≡ true → point ≡ None)
        × AreMade step k old (calls_with point (search_plan k meaning input.seen).calls) all_true
        last
    seen-made {last} so_far = (
      point_of start,
      plan-point _ so_far,
      goes-on start,
      rw (calls-are k meaning by_line input.seen) (made-with start so_far),
    )

  -- a walk over it came to its end
  pub counted-planned : {R : Type 0} {remaining : R → Option (List ℕ)} {read_step : R → ReadResult
      → R → Type 0} {reader reader' : R} {last : S} {found : Option ℕ}
      → (k.passthru ≡ true → k.before_context ≡ 0)
      → (start : IsStartAt step k meaning given at old next found)
      → HasCounted step k meaning remaining read_step reader next given found at reader' last
      → IsStreamCounted step k meaning remaining read_step reader old (record {
        count = at;
        binary = found;
      }) reader' last
  counted-planned {last} {found} built start ended = record {
    taken = ended.input.taken;
    seen = ended.input.seen;
    point = point_of start;
    outcome = outcome_by found ended.outcome;
    front = ended.input.front;
    begins = λ bytes is. calls-begin meaning by_line (ended.input.front bytes is) built;
    at_seen = plan-point start ended.input _ ended.over_seen.made;
    over_seen = record {
      made = made-along start ended.input.seen ended.over_seen.made;
      ending = ending-along start ended.input.seen at ended.outcome ended.over_seen.ending;
    };
    within = ended.input.within;
    all = λ all goes_on bytes is. ended.all bytes is (all-by found _ all);
    ahead = ended.ahead;
  }

-- such a walk, by what is known of the matcher
module _ {S E F : Type 0} {step : Steps S E} {errors : ErrorMakers F E} (matcher : MatcherFacts F)
    {k : Settings}
    (by_line : is_across k matcher.meaning ≡ false) {given : List ℕ} {at : ℕ} {old : S}
    {next : Origin S}
    {found : Option ℕ} (begun : IsStartAt step k matcher.meaning given at old next found) where
  -- it ended in an error
  pub failed-planned : {R : Type 0} {remaining : R → Option (List ℕ)} {read_step : R → ReadResult
      → R → Type 0} {has_buffers : Bool} {reader reader' : R} {e : E} {last : S}
      → (k.passthru ≡ true → k.before_context ≡ 0)
      → HasFailed step k matcher.meaning remaining read_step errors matcher reader next given found
      at e reader' last
      → IsReaderSearch remaining read_step step errors matcher (record {
        settings = k;
        has_buffers = has_buffers;
      }) on_stream reader old (Err e) reader' last
  failed-planned {remaining = remaining} {read_step = read_step} {has_buffers = has_buffers} {e = e}
      {last = last} built
      ended = record {
        taken = ended.input.taken;
        seen = seen;
        each = λ bytes is.
            let begins = calls-begin matcher.meaning by_line (ended.input.front bytes is) built in
            record { front = ended.input.front bytes is; later = begins.0; calls = begins.1 };
        over_seen = go (λ plan. ((λ all. cc), tt)) ended.over_seen;
        whole = λ across. absurd (clash across by_line);
      }
    where
      seen : List ℕ
      seen = ended.input.seen

      state : SearcherState
      state = record { settings = k; has_buffers = has_buffers }

      One : List ℕ → Type 0
      One = IsInput k ended.input.taken.ended ended.input.taken.pieces

      go : {HasRead : Plan → Outcome E → Result (Unit {0}) E → Type 0}
          → ((plan : Plan) → HasRead plan (failed e) (Err e))
          → IsWalkFault step errors matcher k seen next e last → IsSearchOf step errors matcher k
          (EachPoint remaining read_step step errors matcher state on_stream One (length seen))
          (EachAsked remaining read_step step errors matcher state on_stream One seen) HasRead
          (search_plan k matcher.meaning seen) old (Err e) last
      go far (at_call so_far) =
          ran (point_of begun) (rw (calls-are k matcher.meaning by_line seen)
          (point-at by_line begun ended.input so_far))
          (record {
            outcome = failed e;
            mid = last;
            made = made-along by_line begun seen so_far;
            finished = (refl, refl);
          }) (far _)
      go far (at_question haystack error made later asks first fails message so_far) =
          asked haystack error made (
            asked-with k _ by_line asks,
            λ bytes is. asked-with k _ by_line
                (asked-begin matcher.meaning by_line (ended.input.front bytes is) built asks),
          )
          fails message (
            point_of begun,
            point-at by_line begun ended.input so_far,
            goes-on by_line begun,
            made-with by_line begun so_far,
          )

module _ {R : Type 0} {remaining : R → Option (List ℕ)} {read_step : R → ReadResult → R → Type 0}
    {S E : Type 0} (step : Steps S E) {k : Settings} {meaning : Meaning} {decoder : DecoderState}
    (stream : IsStream remaining read_step k meaning decoder) {reader reader' : R} (old : S)
    (taken : Taken remaining read_step reader reader') (seen : List ℕ)
    (offset : ℕ) (cut : (bytes : List ℕ) → IsInput k taken.ended taken.pieces bytes
    → IsCutAt k meaning bytes seen offset)
    (mid : S) (before : AreMade step k old (line_plan k meaning seen).calls all_true mid) where
  abbrev plan : List ℕ → Plan
  plan bytes = search_plan k meaning bytes

  abbrev front : List Planned
  front = (plan seen).calls

  abbrev pub point : BinaryPoint
  point = record { position = length front; offset = offset; count = length seen }

  abbrev pub finish : Finish
  finish = record { count = length seen; binary = Some offset }

  plan-calls : (bytes : List ℕ) → (plan bytes).calls ≡ (line_plan k meaning bytes).calls
  plan-calls = calls-are k meaning stream.by_line

  abbrev IsOne : List ℕ → Type 0
  IsOne = IsInput k taken.ended taken.pieces

  abbrev some : List ℕ
  some = searched_bytes k (concat taken.pieces ++ [])

  is-one : IsOne some
  is-one = ([], (λ ended. refl), refl)

  made-front : AreMade step k old front all_true mid
  made-front = subst (λ cs. AreMade step k old cs all_true mid) (sym (plan-calls seen)) before

  abbrev at-seen : (bytes : List ℕ) → IsOne bytes → IsStreamPoint k meaning bytes front point
  at-seen bytes one = stream-point k _ bytes seen _ (cut bytes one) front []
      (sym (append-nil front))

  -- the calls for the lines that were seen come first
  calls-begun : (bytes : List ℕ) → IsOne bytes → (later : List Planned)
      × ((plan (view_of k bytes)).calls ≡ front ++ later)
  calls-begun bytes one =
      let there = (cut bytes one).front in
      let begun = front_calls-begin k meaning seen _ there.closed stream.built in (
        begun.0,
        plan-calls _ ∙ (ap (λ xs. (line_plan k meaning xs).calls) there.front.whole ∙ begun.1
            ∙ ap (λ cs. cs ++ begun.0) (sym (plan-calls seen))),
      )

  module _ (outcome : Outcome E) (last : S) (called : AreMade step k mid (planned_binary point ∷ [])
      outcome last)
      (ends : outcome ≡ all_true → quits k.binary_detection ≡ true) where
    made-quit : (p : Plan) → take point.position p.calls ≡ front
        → AreMade step k old (plan_with k.binary_detection (Some point) p).calls outcome last
    made-quit p same = binary-made step k _ _ refl point p front same old mid
        _ last made-front called ends

    -- in an error of `binary_data`
    pub failed-there : {F : Type 0} {errors : ErrorMakers F E} (facts : MatcherFacts F)
        {has_buffers : Bool} {e : E} → outcome ≡ failed e
        → IsReaderSearch remaining read_step step errors (record facts { meaning = meaning })
        (record {
          settings = k;
          has_buffers = has_buffers;
        }) on_stream reader old (Err e) reader' last
    failed-there facts {e} fails =
        let along : (p : Plan) → take point.position p.calls ≡ front
        → IsRun step k old (plan_with k.binary_detection (Some point) p) (Err e) last =
        λ p same. record {
          outcome = failed e;
          mid = last;
          made = rw (sym fails) (made-quit p same);
          finished = (refl, refl);
        } in
        record {
          taken = taken;
          seen = seen;
          each = λ bytes one.
              let begins = calls-begun bytes one in
              record { front = (cut bytes one).front.front; later = begins.0; calls = begins.1 };
          over_seen = ran (Some point) at-seen (along (plan seen) (at-seen some is-one).before)
              ((λ all. cc), tt);
          whole = λ across. absurd (clash across stream.by_line);
        }

    abbrev if-false : Outcome E → Finish
    if-false all_true = finish
    if-false (stopped f) = f
    if-false (failed e) = finish

    ending : (d : BinaryDetection) (q : Bool) → quits d ≡ q → (o : Outcome E)
        → AreMade step k mid (planned_binary point ∷ []) o last
        → (o ≡ all_true → q ≡ true) → ((e : E) → o ≡ failed e → ⊥) → (p : Plan)
        → IsEnding o (plan_with d (Some point) p).finish finish
    ending d true is all_true called ends succeeds p = rw is refl
    ending d false is all_true called ends succeeds p = absurd (clash (ends refl) refl)
    ending d q is (stopped f) (inl (next, goes, (all, same))) ends succeeds p = cc
    ending d q is (stopped f) (inr (inl (same, stops))) ends succeeds p = sym (ap if-false same)
    ending d q is (stopped f) (inr (inr (e, fails, made))) ends succeeds p = cc
    ending d q is (failed e) called ends succeeds p = absurd (succeeds e refl)

    -- or in `finish`
    pub ended-there : ((e : E) → outcome ≡ failed e → ⊥)
        → ((limit : ℕ) → k.heap_limit ≡ Some limit → encoding_of k (concat taken.pieces) ≡ None
        → length (concat taken.pieces) ≤ length seen + limit + 3)
        → IsStreamCounted step k meaning remaining read_step reader old finish reader' last
    ended-there succeeds ahead = record {
      taken = taken;
      seen = seen;
      point = Some point;
      outcome = outcome;
      front = λ bytes one. (cut bytes one).front.front;
      begins = calls-begun;
      at_seen = at-seen;
      over_seen = record {
        made = made-quit (plan seen) (at-seen some is-one).before;
        ending = ending _ _ refl _ called ends succeeds (plan seen);
      };
      within = omega arith;
      all = λ all goes_on bytes one. absurd (none-some offset (sym (goes_on (ends all))));
      ahead = ahead;
    }

-- a search reads, unless no line may be reported and it looks for no binary byte
pub idle-unread : (idle detecting : Bool) → (not idle || detecting) ≡ false → idle ≡ true
idle-unread true detecting unread = refl
idle-unread false detecting unread = absurd (false≢true (sym unread))

-- the whole count is 0 if it is that of calls that all returned true
pub none-counted : {E : Type 0} {outcome : Outcome E} (whole : ℕ) → IsEnding outcome (counted whole)
    (counted 0) → outcome ≡ all_true → whole ≡ 0
none-counted whole same all =
    sym (ap (λ (f : Finish). f.count) (subst (λ o. IsEnding o (counted whole) (counted 0)) all
    same))

module _ {R : Type 0} (remaining : R → Option (List ℕ)) (read_step : R → ReadResult → R → Type 0)
  where
    -- nothing was taken
    abbrev nothing-taken : (reader : R) → Taken remaining read_step reader reader
    nothing-taken reader = record {
      ended = false;
      pieces = [];
      calls = refl;
      takes = Consumes-nil (remaining reader);
    }

    module _ {S E : Type 0} (step : Steps S E) (k : Settings) (meaning : Meaning) where
      -- no line was seen of what was taken
      module _ {reader reader' : R} {given : List ℕ} {found : Option ℕ}
          (taken : Taken remaining read_step reader reader')
          (begins : (bytes : List ℕ) → IsInput k taken.ended taken.pieces bytes → (later : List ℕ)
          × (bytes ≡ given ++ later))
        where
          abbrev seen-none : HasSeen step k meaning remaining read_step reader given found 0 reader'
          seen-none = record {
            taken = taken;
            seen = [];
            within = omega arith;
            begins = begins;
            front = λ bytes input. front-none;
            clear = λ none bytes input. as-found k.binary_detection _ []
                ∙ found-nil _ (byte_of k.line_terminator);
          }

          -- nor was any reported
          pub counted-unseen : is_across k meaning ≡ false
              → (k.passthru ≡ true → k.before_context ≡ 0) → {old new : S} {next : Origin S}
              → IsStartAt step k meaning given 0 old next found → (outcome : Outcome E)
              → ((bytes : List ℕ) → IsCountedFor step k meaning next bytes 0 outcome new)
              → ((limit : ℕ) → k.heap_limit ≡ Some limit → encoding_of k (concat taken.pieces)
              ≡ None → length (concat taken.pieces) ≤ 0 + limit + 3)
              → IsStreamCounted step k meaning remaining read_step reader old (record {
                count = 0;
                binary = found;
              }) reader' new
          counted-unseen by_line built begun outcome over ahead =
              counted-planned by_line built begun
              (record {
                input = seen-none;
                outcome = outcome;
                over_seen = over [];
                all = λ bytes input all. calls-within k meaning [] (view_of k bytes)
                    (λ more some. absurd (omega (arith, some)))
                    (omega (
                      arith,
                      none-counted (line_plan k meaning (view_of k bytes)).finish.count
                          (over (view_of k bytes)).ending all,
                    ));
                ahead = ahead;
              })

      abbrev IsUnread : R → S → S → Type 0
      IsUnread reader old new =
          IsStreamCounted step k meaning remaining read_step reader old (record {
            count = 0;
            binary = None;
          }) reader new

      module _ (by_line : is_across k meaning ≡ false) (built : k.passthru ≡ true → k.before_context
          ≡ 0) {reader : R}
          {old new : S} where
        counted-unread : (outcome : Outcome E)
            → ((bytes : List ℕ) → IsCountedFor step k meaning (fresh old) bytes 0 outcome new)
            → IsUnread reader old new
        counted-unread outcome over = counted-unseen {given = []} (nothing-taken reader)
            (λ bytes input. (bytes, refl)) by_line
            built (not_passed refl) outcome over (λ limit is same. omega arith)

        -- `begin` returned false
        pub counted-unbegun : step old k begins (Ok false) new → IsUnread reader old new
        counted-unbegun stops = counted-unread _
            (λ bytes. walks.counted-unbegun k meaning bytes step old new stops)

        -- no line may be reported
        pub counted-idle : reports_nothing k ≡ true → step old k begins (Ok true) new
            → IsUnread reader old new
        counted-idle idle goes =
            counted-unread _ (λ bytes. walks.counted-idle k meaning bytes step _ new
            idle (walks.reported-begin k meaning bytes step old new goes))

    -- `begin` failed
    pub fault-begin : {S E F : Type 0} (step : Steps S E) (errors : ErrorMakers F E)
        (matcher : MatcherFacts F)
        {state : SearcherState} → is_across state.settings matcher.meaning ≡ false
        → (state.settings.passthru ≡ true → state.settings.before_context ≡ 0)
        → {reader : R} {old : S} (e : E) (new : S) → step old state.settings begins (Err e) new
        → IsReaderSearch remaining read_step step errors matcher state on_stream reader old
        (Err e) reader new
    fault-begin step errors matcher {state} by_line built {reader} {old} e new fails =
        let made : (bytes : List ℕ) → IsWalkFault step errors matcher state.settings bytes
        (fresh old)
        e new =
        λ bytes. at_call (record {
          later = (line_plan state.settings matcher.meaning bytes).calls;
          all = refl;
          made = inr (inr (
            e,
            refl,
            fails,
          ));
        }) in
        failed-planned _ by_line {given = []} (not_passed refl) built (record {
          input = seen-none step _ _ (nothing-taken _) (λ bytes input. (bytes, refl));
          over_seen = made [];
        })

-- what `finish` has
after-is : {E : Type 0} (outcome : Outcome E) (whole finish : Finish)
    → IsEnding outcome whole finish → finish_after outcome whole ≡ finish
after-is all_true whole finish is = sym is
after-is (stopped if_false) whole finish is = sym is
after-is (failed e) whole finish never = absurd never

module _ {S E F : Type 0} (step : Steps S E) (errors : ErrorMakers F E) (matcher : MatcherFacts F)
    {R : Type 0} (remaining : R → Option (List ℕ)) (read_step : R → ReadResult → R → Type 0)
    (k : Settings) (has_buffers : Bool) (by_line : is_across k matcher.meaning ≡ false)
    (reader : R) (old : S) (reader' : R) (finish : Finish) (last : S) where
  abbrev state : SearcherState
  state = record { settings = k; has_buffers = has_buffers }

  ended : (result : Result (Unit {0}) E) {new : S} → HasStarted step k matcher.meaning remaining
      read_step reader old reader'
      → IsStreamCounted step k matcher.meaning remaining read_step reader old finish reader' last
      → step last k (finishes finish.count finish.binary) (finish_result result) new
      → IsReaderSearch remaining read_step step errors matcher state on_stream reader old result
      reader' new
  unfolding run-finish
  ended result {new} begun counted made =
      let meaning = matcher.meaning in
      let plan : Plan = plan_with k.binary_detection counted.point
      (search_plan k meaning counted.seen) in
      record {
        taken = counted.taken;
        seen = counted.seen;
        each = λ bytes input.
            let begins = counted.begins bytes input in
            record { front = counted.front bytes input; later = begins.0; calls = begins.1 };
        over_seen = ran counted.point counted.at_seen
            (run-finish step k old _ finish _ last result new counted.over_seen made) (
              (λ all goes_on bytes input.
                  let few = counted.all all
                  (λ ends. ap (λ (f : Finish). f.binary)
                  (subst (λ o. IsEnding o plan.finish finish) all counted.over_seen.ending)
                  ∙ goes_on ends) bytes input in
                  record {
                    few = subst (λ m. (selection_in k meaning (view_of k bytes) m).end
                        ≤ line_count k counted.seen) (sym by_line) few;
                    plan = plan-same meaning by_line (counted.front bytes input) few;
                  }),
              on-ok result (λ by_lines. record {
                begun = begun.begun;
                first = begun.first;
                begin = begun.begin;
                unread = begun.unread;
                once = begun.once;
                counted = subst (λ (f : Finish). f.count ≤ length counted.seen)
                    (sym (after-is _ _ _ counted.over_seen.ending)) counted.within;
                ahead = λ limit limited passes.
                    subst (λ (f : Finish). length (concat counted.taken.pieces) ≤ f.count + limit
                    + 3) (sym (after-is _ _ _ counted.over_seen.ending))
                    (counted.ahead limit limited passes);
              }),
            );
        whole = λ across. absurd (clash across by_line);
      }

  pub stream-finished : (result : Result (Unit {0}) E) {new : S}
      → HasStarted step k matcher.meaning remaining read_step reader old reader'
      → IsStreamCounted step k matcher.meaning remaining read_step reader old finish reader' last
      → step last k (finishes finish.count finish.binary) (finish_result result) new
      → IsRead remaining read_step step errors matcher state on_stream reader old result reader' new
  stream-finished (Ok u) {new} begun counted made = ended _ begun counted made
  stream-finished (Err e) {new} begun counted made = inl (ended _ begun counted made)
