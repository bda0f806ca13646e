-- A search of a reader, fill by fill, against the calls that are defined for every input that
-- begins with what was read.
use Rattle.grep_searcher.proofs.ReadingLemmas.{HasFilled, IsHeld, IsStream}
use Rattle.grep_searcher.specs.Rolls.{IsBetween, IsCountedFor, IsLast, IsNext, IsInShown, HasEnded}
use Rattle.grep_searcher.specs.Rolls.{HasMovedOn, start_in, HasCounted, HasFailed, HasSeen, IsRolling}
use Rattle.grep_searcher.specs.SearchBuffers.{IsFitting, detection_of}
use Rattle.grep_decode.specs.DecoderStates.{DecoderState, Decodes, IsDone, started}
use Rattle.grep_decode.specs.Source.{ReadResult}
use Rattle.grep_definitions.proofs.BoolLemmas.{clash}
use Rattle.grep_definitions.proofs.FrontLemmas.{closed-append, closed-drop, count-after, lines-fit}
use Rattle.grep_definitions.proofs.FrontLemmas.{longer-front, calls-within, unreported-passed}
use Rattle.grep_definitions.proofs.LimitLemmas.{reportable-above}
use Rattle.grep_definitions.specs.Plans.{line_plan, reports_end, Steps, Outcome, all_true, begins}
use Rattle.grep_definitions.specs.Plans.{is_reported, line_count, selected_lines, Settings, counted}
use Rattle.grep_definitions.specs.Plans.{Finish}
use Rattle.grep_definitions.specs.Plans
use Rattle.grep_definitions.specs.Searches.{is_detecting, binary_of, view_of, GoesOnAfter, IsClosed}
use Rattle.grep_definitions.specs.Searches.{IsTooLong, reports_nothing, IsInput, IsFront}
use Rattle.grep_definitions.specs.Searches.{reads_lines}
use Rattle.grep_definitions.specs.LineWalks.{IsNear, IsOpen}
use Rattle.grep_line_buffer.proofs.BufferStateLemmas.{IsUncut, long-shown, uncut-filled, grown}
use Rattle.grep_line_buffer.proofs.BufferStateLemmas.{same-buffer, closed-filled, last-filled}
use Rattle.grep_line_buffer.proofs.BufferStateLemmas.{unended-filled}
use Rattle.grep_line_buffer.proofs.DetectionLemmas.{detected_bytes-nil, found-nil}
use Rattle.grep_line_buffer.specs.BufferStates.{BufferState, held_bytes, has_quit, IsWithin}
use Rattle.grep_line_buffer.specs.BufferStates.{empty_buffer, GrowsIfFull, IsSameBuffer}
use Rattle.grep_line_buffer.specs.Detections.{detected_bytes, found_in, is_quit}
use Rattle.grep_matcher.proofs.LineLemmas.{lines-append}
use Rattle.grep_matcher.specs.Lines.{lines, byte_of}
use Rattle.grep_matcher.specs.Meanings.{Meaning, MatcherFacts}
use Rattle.grep_report.specs.ErrorMakers.{ErrorMakers}
use Rattle.grep_walk.proofs.UncountedLemmas.{near-same}
use Rattle.grep_walk.proofs.WalkLemmas.{start_walk, reported-begin}
use Rattle.grep_walk.proofs.WindowLemmas.{roll-input}
use Rattle.grep_walk.proofs.WindowSearchLemmas.{line-seen, passed-end, searched-rolled}
use Rattle.grep_walk.proofs.WindowSearchLemmas.{searched-start}
use Rattle.grep_walk.specs.Origins.{Origin, fresh}
use Rattle.grep_walk.specs.WalkFaults.{IsWalkFault}
use Rattle.grep_definitions.specs.SinkRuns.{IsEnding}
use Rattle.grep_walk.specs.Walks.{AreCounts, with_counts, IsWalk}
use Rattle.grep_walk.specs.Windows.{HasPassed, HasSearched, IsInWindow}
use Rattle.grep_walk.specs.declared.walk.Walk.{Walk}
use Rattle.std.proofs.Common.{◌≡◌, ℕ, ◌+◌, ◌-◌, ◌<◌, ◌≤◌, ◌&&◌, ◌==◌, Bool, true, false, List, []}
use Rattle.std.proofs.Common.{◌++◌, length, take, drop, Option, Some, inl, inr, refl, sym, ◌∙◌, ap}
use Rattle.std.proofs.Common.{subst, arith, append-nil, append_assoc, length-append, length-drop}
use Rattle.std.proofs.Common.{Ok}
use Rattle.std.proofs.Math.Bool.{and-false}
use Rattle.std.proofs.lemmas.Bool.{false≢true}
use Rattle.std.proofs.lemmas.List.{get_or_append_left, length-take-le, take-append-drop}
use Rattle.std.proofs.lemmas.List.Elements.{All-append}
use Rattle.std.specs.Prelude.{All, not, ◌||◌, is_some}
use Rattle.grep_searcher.proofs.ReadingLemmas as reading
use Rattle.grep_searcher.proofs.StreamViewLemmas.{as-found}
use Rattle.grep_line_buffer.proofs.InputViewLemmas as views
use Rattle.grep_walk.proofs.WalkLemmas as walks
use Rattle.grep_walk.proofs.WindowLemmas as windows

-- no bytes are more than none
pub nothing : {X : Type 0} → 0 < length {A = ℕ} [] → X
nothing none = absurd (omega (arith, none))

-- a buffer is never larger than its limit
pub limit-within : {R : Type 0} {remaining : R → Option (List ℕ)} {read_step : R → ReadResult → R
    → Type 0} {k : Settings} {old new : BufferState} {d d' : DecoderState} {r r' : R}
    → HasFilled remaining read_step k old d r new d' r'
    → (limit : ℕ) → k.heap_limit ≡ Some limit → new.size ≤ limit
limit-within {new} fill limit is =
    subst (λ m. IsWithin m new.size) (fill.same.limit ∙ (fill.fitting.limit ∙ is)) fill.within

abbrev t_of : Settings → ℕ
t_of k = byte_of k.line_terminator

module _ {S E : Type 0} {step : Steps S E} {k : Settings} {meaning : Meaning}
  where
    counted-end : {gone shown : List ℕ} {first : Origin S} {w : Walk} {now : S}
        → IsClosed (t_of k) gone
        → HasPassed step k meaning gone shown (gone ++ (shown ++ [])) first w now
        → IsCountedFor step k meaning first (gone ++ (shown ++ [])) w.offset all_true now
    counted-end {gone} {shown} {first} {w} {now} opens passed =
        walks.counted-end k _ _ step first _ now passed.searched.walked.reported
        (passed.all ∙ (ap (λ xs. length (lines (t_of k) gone) + length (lines (t_of k) xs))
        (sym (append-nil shown)) ∙ sym (count-after _ gone _ opens)))

    -- what came of a walk over what a buffer shows: nothing new is shown
    pub ended-nothing : {old : BufferState} {w : Walk} {now : S} → start_in old w ≡ length old.shown
        → old.offset ≤ w.offset → HasEnded step k meaning old w now w now
    ended-nothing {old} {w} {now} same low = record {
      outcome = all_true;
      low = omega arith;
      high = omega (arith, same, low);
      counted = λ gone first opens ready after closes last.
          rw (last (inl same)) (counted-end opens (passed-end (ready [] nothing) same));
    }

    module _ (old : BufferState) {w : Walk} {now : S} {window : List ℕ} {start : ℕ}
        (shown : window ≡ old.shown) (at : start ≡ start_in old w) where
      searched-there : {gone input : List ℕ} {first : Origin S}
          → HasSearched step k meaning gone old.shown input first (start_in old w) w now
          → HasSearched step k meaning gone window input first start w now
      searched-there searched = rw (shown, at) searched

      -- the search ended within it
      pub ended-within : {w' : Walk} {now' : S} → w.offset ≤ w'.offset → w'.offset ≤ old.offset
          + length old.shown → (outcome : Outcome E)
          → ((gone input : List ℕ) (first : Origin S) → HasSearched step k meaning gone window input
          first start w now → IsCountedFor step k meaning first input w'.offset outcome now')
          → HasEnded step k meaning old w now w' now'
      ended-within low high outcome counted = record {
        outcome = outcome;
        low = low;
        high = high;
        counted = λ gone first opens ready after closes last.
            counted gone _ first (searched-there (ready after closes));
      }

      module _ {w' : Walk} {now' : S} (passes : (gone input : List ℕ) (first : Origin S)
          → HasSearched step k meaning gone window input first start w now
          → HasPassed step k meaning gone window input first w' now') where
        passed-there : {gone input : List ℕ} {first : Origin S}
            → HasSearched step k meaning gone old.shown input first (start_in old w) w now
            → HasPassed step k meaning gone old.shown input first w' now'
        passed-there {gone} {input} {first} searched =
            rw (sym shown) (passes gone input first (searched-there searched))

        -- its last line is unterminated, so that nothing follows
        pub ended-broken : w.offset ≤ w'.offset → w'.offset ≤ old.offset + length old.shown
            → (IsClosed (t_of k) old.shown → ⊥) → HasEnded step k meaning old w now w' now'
        ended-broken low high broken = record {
          outcome = all_true;
          low = low;
          high = high;
          counted = λ gone first opens ready after closes last.
              rw (last (inr broken)) (counted-end opens (passed-there (ready [] nothing)));
        }

        -- some of its lines are kept for the next one
        pub next-rolled : (r : ℕ) → IsClosed (t_of k) old.shown
            → ((gone : List ℕ) → IsClosed (t_of k) gone
            → IsClosed (t_of k) (gone ++ take r old.shown))
            → ((gone more after : List ℕ) → IsClosed (t_of k) gone
            → (0 < length after → IsClosed (t_of k) (drop r old.shown ++ more))
            → (line next_unreported : ℕ) → AreCounts k w' line next_unreported
            → IsInWindow k gone old.shown (gone ++ (old.shown ++ (more ++ after)))
            (length old.shown) (with_counts w' line next_unreported)
            → IsInWindow k (gone ++ take r old.shown) (drop r old.shown ++ more)
            (gone ++ (old.shown ++ (more ++ after)))
            (length old.shown - r) (with_counts w' line next_unreported))
            → (gone : List ℕ) (first : Origin S) → IsClosed (t_of k) gone
            → IsInShown step k meaning gone old.shown (start_in old w) first w now
            → IsClosed (t_of k) (gone ++ take r old.shown)
            × IsNext step k meaning (gone ++ take r old.shown) (drop r old.shown) first w' now'
        next-rolled r closed shuts keeps gone first opens ready = (
          shuts gone opens,
          λ more after closes.
              let passed = passed-there (ready (more ++ after) (λ _. closed)) in
              rw (sym (roll-input gone old.shown more after r), length-drop r old.shown)
              (searched-rolled step k _ _ _ _ _ _ _ passed _ _ _
              (keeps gone more after opens closes _ _ passed.searched.counts
              passed.searched.walked.inside)),
        )

    module _ {gone : List ℕ} {old : BufferState} {first : Origin S} {w : Walk} {now : S}
        (between : IsBetween step k meaning gone old first w now) where
      abbrev t : ℕ
      t = byte_of k.line_terminator

      abbrev seen : List ℕ
      seen = gone ++ old.shown

      here : reports_nothing k ≡ false → HasPassed step k meaning gone old.shown
          (gone ++ (old.shown ++ [])) first w now
      here busy = passed-end
          (subst (λ xs. HasSearched step k meaning gone xs (gone ++ (xs ++ [])) first
          (length old.shown) w now) (append-nil old.shown) (between.next busy [] [] nothing)) refl

      -- the calls so far are those over the lines that were seen
      pub counted-seen : IsCountedFor step k meaning first seen w.offset all_true now
      counted-seen = by-cases (reports_nothing k) refl
        where
          by-cases : (idle : Bool) → reports_nothing k ≡ idle
              → IsCountedFor step k meaning first seen w.offset all_true now
          by-cases false busy =
              subst (λ xs. IsCountedFor step k meaning first (gone ++ xs) w.offset all_true now)
              (append-nil old.shown) (counted-end between.opens (here busy))
          by-cases true idle =
              let unread = between.idle idle in
              let zero : w.offset ≡ 0 = omega (
                arith,
                between.at,
                ap length unread.none,
                length-append gone old.shown,
              ) in
              rw (zero, unread.none) (walks.counted-idle k meaning [] step first now idle
              unread.begun)

      -- none of the lines that are shown still was reported
      pub unreported-shown : (i : ℕ) → length (lines t gone) ≤ i → i < length (lines t seen)
          → is_reported k seen (selected_lines k meaning seen) i ≡ false
      unreported-shown i low below = by-cases (reports_nothing k) refl
        where
          more : length (lines t seen) ≡ length (lines t gone) + length (lines t old.shown)
          more = count-after t gone old.shown between.opens

          by-cases : (idle : Bool) → reports_nothing k ≡ idle
              → is_reported k seen (selected_lines k meaning seen) i ≡ false
          by-cases true idle =
              absurd (omega (arith, below, ap (λ xs. length (lines t xs)) (between.idle idle).none))
          by-cases false busy =
              let passed = here busy in
              let line = passed.searched.line in
              let v = passed.searched.next_unreported in
              let walk = subst (λ xs. IsWalk k meaning (gone ++ xs) (with_counts w line v))
              (append-nil old.shown) passed.searched.walked.reported.walk in
              let all : line ≡ line_count k seen = omega (arith, passed.all, more) in
              let kept = near-same k w line v passed.searched.counts in
              unreported-passed k meaning seen v w.after_context_left
              (subst (λ n. IsNear k seen (selected_lines k meaning seen) v n w.after_context_left)
              all walk.near)
              i (omega (arith, low, below, more, between.few, kept, passed.all)) below

      -- and the search goes on after them, whatever follows
      pub goes-on : {bytes : List ℕ} (back : List ℕ) → bytes ≡ seen ++ back
          → GoesOnAfter k meaning bytes seen
      goes-on {bytes} back is = record {
        front = record { after = back; whole = is; closed = λ _. shut; held = between.fits };
        closed = shut;
        may_report = by-cases (reports_nothing k) refl;
      }
        where
          shut : IsClosed t seen
          shut = closed-append t gone old.shown between.opens between.shut

          by-cases : (idle : Bool) → reports_nothing k ≡ idle
              → (is_detecting k.binary_detection && length (lines t seen) == 0) ≡ false
              → length (lines t seen) < Plans.line_count k bytes
              → length (lines t seen) < reports_end k meaning bytes
          by-cases true idle more less =
              let unread = between.idle idle in
              absurd (false≢true (sym more
              ∙ (ap (λ d. d && length (lines t seen) == 0) unread.detecting
              ∙ ap (λ xs. length (lines t xs) == 0) unread.none)))
          by-cases false busy more less =
              let searched = between.next busy back [] nothing in
              let count = searched.line in
              let line = line-seen old.shown between.opens between.shut back searched in
              let walk = searched.walked.reported.walk in
              let input : gone ++ ((old.shown ++ back) ++ []) ≡ bytes =
              ap (λ xs. gone ++ xs) (append-nil (old.shown ++ back))
              ∙ (sym (append_assoc gone old.shown back) ∙ sym is) in
              subst (λ i. i < reports_end k meaning bytes) line (reportable-above k meaning bytes
              (subst (λ xs. IsOpen k meaning xs count w.after_context_left w.match_count) input
              walk.opened) (subst (λ i. i < length (lines t bytes)) (sym line) less))

      -- a fill comes after that
      module _ {R : Type 0} {remaining : R → Option (List ℕ)} {read_step : R → ReadResult → R
          → Type 0} {d d' : DecoderState} {r r' : R} {new : BufferState}
          (fill : HasFilled remaining read_step k old d r new d' r') (uncut : has_quit new ≡ false)
        where
          abbrev given : List ℕ
          given = detected_bytes old.detection old.terminator fill.fills.given

          way : IsUncut old new
          way = uncut-filled uncut fill.filled

          shown-room : length new.shown ≤ new.size
          shown-room = omega (arith, fill.room, length-append new.shown new.rest)

          -- what it shows is searched from the end of what was shown
          pub filled-ready : reports_nothing k ≡ false
              → IsInShown step k meaning gone new.shown (length old.shown) first w now
          filled-ready busy =
              let split : new.shown ≡ old.shown ++ drop (length old.shown) new.shown =
              longer-front _ _ _ _
              (sym (fill.fills.appended ∙ append_assoc old.shown old.rest given))
              (long-shown given fill.fills.appended way) in
              subst (λ xs. IsInShown step k meaning gone xs (length old.shown) first w now)
              (sym split) (between.next busy (drop (length old.shown) new.shown))

          -- none of its lines is too long
          pub fits-filled : (limit : ℕ) → k.heap_limit ≡ Some limit
              → All (λ line. IsTooLong t limit line → ⊥) (lines t (gone ++ new.shown))
          fits-filled limit is =
              subst (All Fits) (sym (lines-append t gone new.shown between.opens))
              (All-append Fits (lines t gone) (lines t new.shown) left right)
            where
              Fits : List ℕ → Type 0
              Fits line = IsTooLong t limit line → ⊥

              before : All Fits (lines t gone ++ lines t old.shown)
              before = subst (All Fits) (lines-append t gone old.shown between.opens)
                  (between.fits limit is)

              left : All Fits (lines t gone)
              left = λ i x below. subst Fits (get_or_append_left (lines t gone) (lines t old.shown)
                  x i below)
                  (before i x (omega (
                    arith,
                    below,
                    length-append (lines t gone) (lines t old.shown),
                  )))

              below-limit : new.size ≤ limit
              below-limit = limit-within fill limit is

              full : IsUncut old new → length new.shown ≡ limit → IsClosed t new.shown
              full (inl line) same = λ _. line.ends.last ∙ fill.fitting.terminator
              full (inr end) same = absurd (omega (arith, same, end.room, below-limit))

              right : All Fits (lines t new.shown)
              right = lines-fit t limit _ (omega (arith, shown-room, below-limit)) (full way)

          -- the next fill, after the walk passed what is shown
          pub between-next : reports_nothing k ≡ false
              → {moved : BufferState} {w' : Walk} {now' : S}
              → (on : HasMovedOn step k meaning new w now moved w' now')
              → IsBetween step k meaning (gone ++ take on.count new.shown) moved first w' now'
          between-next busy {moved} {w'} {now'} on =
              let start : start_in new w ≡ length old.shown = omega (
                arith,
                between.at,
                fill.same.offset,
                between.offset,
              ) in
              let next = on.next gone first between.opens
              (rw start (filled-ready busy)) in
              let rest = unended-filled fill.fitting.terminator given fill.fills.appended
              between.unfinished way (omega (arith, on.some, start)) on.closed in
              rw on.moved (record {
                opens = next.0;
                shut = closed-drop t _ _ on.closed;
                unfinished = rest.1;
                offset = omega (
                  arith,
                  fill.same.offset,
                  between.offset,
                  length-append gone (take on.count new.shown),
                  length-take-le on.count new.shown on.within,
                );
                unended = rest.0;
                few = on.few;
                fits = λ limit is. subst (λ xs. All (λ line. IsTooLong t limit line → ⊥)
                    (lines t xs)) (ap (λ xs. gone ++ xs) (sym (take-append-drop on.count new.shown))
                    ∙ sym (append_assoc gone (take on.count new.shown) (drop on.count new.shown)))
                    (fits-filled limit is);
                at = omega (
                  arith,
                  on.at,
                  fill.same.offset,
                  between.offset,
                  length-append gone (take on.count new.shown),
                  length-take-le on.count new.shown on.within,
                  length-drop on.count new.shown,
                );
                next = λ _. next.1;
                idle = λ idle. absurd (clash idle busy);
              })

-- a search that reads though no line may be reported looks for a binary byte
idle-detects : (idle detecting : Bool) → idle ≡ true → (not idle || detecting) ≡ true → detecting
    ≡ true
idle-detects true detecting is reads = reads
idle-detects false detecting is reads = cc

module _ {R : Type 0} {remaining : R → Option (List ℕ)} {read_step : R → ReadResult → R → Type 0}
    {S E : Type 0}
    {step : Steps S E} {k : Settings} {meaning : Meaning} where
  -- a search begins with an empty buffer, once `begin` returned true
  pub rolling-start : {decoder : DecoderState} {reader : R} {first now : S} {buffer : BufferState}
      → buffer ≡ empty_buffer buffer.size buffer.limit buffer.terminator
      (detection_of k.binary_detection) → buffer.terminator ≡ byte_of k.line_terminator
      → Decodes remaining read_step decoder reader [] decoder reader → reads_lines k ≡ true
      → step first k begins (Ok true) now
      → IsRolling step k meaning remaining read_step decoder reader (fresh first) buffer decoder
      reader (start_walk k meaning []) now
  rolling-start {first} {now} {buffer} empty ends_at reads busy begun = record {
    gone = [];
    between = record {
      opens = λ none. nothing none;
      shut = λ some. absurd (omega (arith, some, ap length shown));
      unfinished = λ i x below. absurd (omega (arith, below, ap length rest));
      offset = ap (λ b. b.offset) empty;
      unended = ap (λ b. b.has_ended) empty;
      few = omega (arith, ap (λ xs. length (lines t xs)) shown);
      fits = λ limit is i x below. absurd
          (omega (arith, below, ap (λ xs. length (lines t xs)) shown));
      at = omega (arith, ap length shown);
      next = λ some. rw shown (λ more after closes. searched-start step k _ more _ first now
          (windows.shown t [] more after (λ none. nothing none) closes) some begun);
      idle = λ idle. record {
        none = shown;
        detecting = idle-detects _ _ idle busy;
        begun = reported-begin k meaning [] step first now begun;
      };
    };
    given = [];
    holds = record {
      whole = ap held_bytes empty ∙ sym (detected_bytes-nil buffer.detection _);
      found = ap (λ b. b.binary) empty ∙ sym (found-nil buffer.detection _);
      decodes = reads;
    };
    detects = ap (λ b. b.detection) empty;
    uncut = ap (λ b. is_quit buffer.detection && is_some b.binary) empty
        ∙ and-false (is_quit buffer.detection);
  }
    where
      t : ℕ
      t = byte_of k.line_terminator

      shown : buffer.shown ≡ []
      shown = ap (λ b. b.shown) empty

      rest : buffer.rest ≡ []
      rest = ap (λ b. b.rest) empty

  -- what is held while a search reads on
  pub held-then : {decoder d : DecoderState} {reader r : R} {first : Origin S} {old : BufferState}
      {w : Walk} {now : S} → old.terminator ≡ byte_of k.line_terminator
      → (so_far : IsRolling step k meaning remaining read_step decoder reader first old d r w now)
      → IsHeld remaining read_step k so_far.gone so_far.given old old decoder d reader r
  held-then ends_at so_far =
      record {
        holds = so_far.holds;
        detects = so_far.detects;
        ends_at = ends_at;
        same = same-buffer;
      }

  -- what comes after a fill that succeeded
  module _ {decoder d d' : DecoderState} {reader r r' : R} {first : Origin S}
      {old new : BufferState} {w : Walk} {now : S}
      (stream : IsStream remaining read_step k meaning decoder)
      (so_far : IsRolling step k meaning remaining read_step decoder reader first old d r w now)
      (fill : HasFilled remaining read_step k old d r new d' r') where
    abbrev pub raw : List ℕ
    raw = so_far.given ++ fill.fills.given

    pub held-now : IsHeld remaining read_step k so_far.gone raw old new decoder d' reader r'
    held-now = record {
      holds = reading.held-next so_far.between.offset so_far.uncut so_far.holds fill.fills;
      detects = so_far.detects;
      ends_at = fill.fitting.terminator;
      same = fill.same;
    }

    abbrev pub reads-now : Decodes remaining read_step
        (started decoder.capacity k.encoding k.bom_sniffing) reader raw d' r'
    reads-now = reading.reads stream held-now

    abbrev Input : List ℕ → Type 0
    Input = IsInput k d'.has_ended reads-now.pieces

    module _ (uncut : has_quit new ≡ false) (busy : reports_nothing k ≡ false) where
      abbrev shown : List ℕ
      shown = so_far.gone ++ new.shown

      -- what follows what is gone and held
      abbrev view : (bytes : List ℕ) → Input bytes
          → (later : List ℕ) × (view_of k bytes ≡ (so_far.gone ++ held_bytes new) ++ later)
          × (IsDone d' → later ≡ [])
      view = reading.view-is k reads-now _ (reading.shows-there held-now uncut)

      -- and what is shown
      abbrev after : (bytes : List ℕ) → Input bytes → List ℕ
      after bytes input = new.rest ++ (view bytes input).0

      after-is : (bytes : List ℕ) (input : Input bytes) → so_far.gone
          ++ (new.shown ++ after bytes input) ≡ view_of k bytes
      after-is bytes input =
          let text = view bytes input in
          sym (text.1 ∙ (append_assoc so_far.gone (held_bytes new) text.0
          ∙ ap (λ xs. so_far.gone ++ xs) (append_assoc new.shown new.rest text.0)))

      last : (bytes : List ℕ) (input : Input bytes) → new.has_ended ≡ true → (view bytes input).0
          ≡ []
      last bytes input ended = (view bytes input).2
          (fill.done (λ was whole. absurd (false≢true (sym so_far.between.unended ∙ was))) ended
          uncut)

      uncut_way : IsUncut old new
      uncut_way = uncut-filled uncut fill.filled

      closes : (bytes : List ℕ) (input : Input bytes) → 0 < length (after bytes input)
          → IsClosed (t_of k) new.shown
      closes bytes input = closed-filled fill.fitting.terminator _ uncut_way (last bytes input)

      abbrev front : (bytes : List ℕ) (input : Input bytes) → IsFront k (view_of k bytes) shown
      front bytes input = record {
        after = after bytes input;
        whole = sym (after-is bytes input)
            ∙ sym (append_assoc so_far.gone new.shown (after bytes input));
        closed = λ some. closed-append (t_of k) _ _ so_far.between.opens (closes bytes input some);
        held = fits-filled so_far.between fill uncut;
      }

      start-is : start_in new w ≡ length old.shown
      start-is = omega (arith, so_far.between.at, fill.same.offset, so_far.between.offset)

      ready : IsInShown step k meaning so_far.gone new.shown (start_in new w) first w now
      ready = rw start-is (filled-ready so_far.between fill uncut busy)

      -- what is shown was seen
      abbrev seen-to : (low : ℕ) → low ≤ length shown
          → HasSeen step k meaning remaining read_step reader raw new.binary low r'
      seen-to low within_shown = record {
        taken = reading.taken k reads-now;
        seen = shown;
        within = within_shown;
        begins = λ bytes input. let text = reading.input-is k reads-now bytes input in (
          text.0,
          text.1,
        );
        front = front;
        clear = λ unfound bytes input.
            let text = reading.input-is k reads-now bytes input in
            ap (λ xs. binary_of k (take (length shown) xs)) text.1
            ∙ (as-found k.binary_detection _ _ ∙ views.clear-front _ (t_of k) raw _ _
            (omega (
              arith,
              reading.length-there held-now uncut,
              length-append so_far.gone new.shown,
              length-append new.shown new.rest,
            )) (sym (reading.found-there held-now) ∙ unfound));
      }

      -- a fault within what is shown
      pub faulted-filled : {F : Type 0} {errors : ErrorMakers F E} {matcher : MatcherFacts F}
          {e : E} {now' : S}
          → ((gone : List ℕ) (first : Origin S) → IsInShown step k meaning gone new.shown
          (start_in new w) first w now
          → (after : List ℕ) → (0 < length after → IsClosed (t_of k) new.shown)
          → IsWalkFault step errors matcher k (gone ++ (new.shown ++ after)) first e now')
          → HasFailed step k meaning remaining read_step errors matcher reader first raw new.binary
          w.offset e r' now'
      faulted-filled {errors} {matcher} {e} {now'} fault = record {
        input = seen-to _ (omega (
          arith,
          so_far.between.at,
          long-shown _ fill.fills.appended uncut_way,
          length-append so_far.gone new.shown,
        ));
        over_seen = subst (λ xs. IsWalkFault step errors matcher k (so_far.gone ++ xs) first e now')
            (append-nil new.shown) (fault so_far.gone first ready [] nothing);
      }

      -- the search ended within what is shown, or with it
      pub counted-filled : {w' : Walk} {now' : S} → HasEnded step k meaning new w now w' now'
          → HasCounted step k meaning remaining read_step reader first raw new.binary w'.offset r'
          now'
      counted-filled {w'} {now'} ended = record {
        input = seen-to _ high;
        outcome = ended.outcome;
        over_seen = subst (λ xs. IsCountedFor step k meaning first (so_far.gone ++ xs) w'.offset
            ended.outcome now') (append-nil new.shown)
            (ended.counted so_far.gone first so_far.between.opens ready [] nothing (λ _. refl));
        all = λ bytes input all.
            let count = ap (λ (f : Finish). f.count)
            (subst (λ o. IsEnding o (line_plan k meaning (view_of k bytes)).finish
            (counted w'.offset)) all (over bytes input).ending) in
            let text : view_of k bytes ≡ shown ++ after bytes input = (front bytes input).whole in
            subst (λ xs. reports_end k meaning xs ≤ length (lines (t_of k) shown)) (sym text)
            (calls-within k meaning shown _ (front bytes input).closed
            (subst (λ xs. (line_plan k meaning xs).finish.count ≤ length shown) text
            (omega (arith, count, high))));
        ahead = λ limit is passes.
            let few = reading.taken-few k reads-now passes
            (fill.settled so_far.between.unended so_far.uncut).settled
            (fill.settled so_far.between.unended so_far.uncut).passing in
            omega (
              arith,
              few,
              limit-within fill limit is,
              ended.low,
              fill.room,
              reading.length-there held-now uncut,
              so_far.between.at,
            );
      }
        where
          over : (bytes : List ℕ) (input : Input bytes)
              → IsCountedFor step k meaning first (view_of k bytes) w'.offset ended.outcome now'
          over bytes input = rw (sym (after-is bytes input))
              (ended.counted so_far.gone first so_far.between.opens ready (after bytes input)
              (closes bytes input)
              (λ nothing_new. last-filled fill.fitting.terminator (view bytes input).0 uncut_way
              (last bytes input) (subst (IsLast (t_of k) new.shown) start-is nothing_new)))

          high : w'.offset ≤ length shown
          high = omega (
            arith,
            ended.high,
            fill.same.offset,
            so_far.between.offset,
            length-append so_far.gone new.shown,
          )

      -- or it reads on
      abbrev pub rolling-next : {w' : Walk} {moved : BufferState} {now' : S}
          → HasMovedOn step k meaning new w now moved w' now'
          → ((count : ℕ) → so_far.gone ++ held_bytes new ≡ (so_far.gone ++ take count new.shown)
          ++ (drop count new.shown ++ new.rest))
          → IsRolling step k meaning remaining read_step decoder reader first moved d' r' w' now'
      rolling-next on consumed = record {
        gone = so_far.gone ++ take on.count new.shown;
        between = between-next so_far.between fill uncut busy on;
        given = raw;
        holds = rw on.moved (record {
          whole = sym (consumed on.count) ∙ (held-now.holds.whole
              ∙ (ap (λ x. detected_bytes x old.terminator raw) (sym fill.same.detection)
              ∙ ap (λ c. detected_bytes new.detection c raw) (sym fill.same.terminator)));
          found = held-now.holds.found
              ∙ (ap (λ x. found_in x old.terminator raw) (sym fill.same.detection)
              ∙ ap (λ c. found_in new.detection c raw) (sym fill.same.terminator));
          decodes = held-now.holds.decodes;
        });
        detects = ap (λ b. b.detection) on.moved ∙ (fill.same.detection ∙ so_far.detects);
        uncut = ap has_quit on.moved ∙ uncut;
      }

-- buffers that fit a configuration do so after a fill
pub fitting-filled : {most : Option ℕ} {t : ℕ} {old new : BufferState} → IsFitting most t old
    → IsSameBuffer old new
    → GrowsIfFull old new → IsWithin new.limit new.size → IsFitting most t new
fitting-filled {most} {old} {new} fitting same grows within = record {
  limit = same.limit ∙ fitting.limit;
  terminator = same.terminator ∙ fitting.terminator;
  size = grown old new grows fitting.size;
  within = subst (λ m. IsWithin m new.size) (same.limit ∙ fitting.limit) within;
}
