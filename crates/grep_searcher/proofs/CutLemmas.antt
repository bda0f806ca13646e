-- A search of a stream between two fills, after `binary_data` or without it.
use Rattle.grep_definitions.specs.Plans.{line_plan, reports_end, selected_lines, planned, AreMade}
use Rattle.grep_definitions.specs.Plans.{Planned, begins, binary_data, Steps, all_true, Outcome}
use Rattle.grep_definitions.specs.Plans.{failed, joined_from, Settings, calls_at}
use Rattle.std.proofs.Common.{◌≡◌, ℕ, ◌+◌, ◌<◌, ◌≤◌, Bool, true, false, List, [], ◌++◌, ◌∷◌, length}
use Rattle.std.proofs.Common.{take, drop, Option, Some, None, Ok, Err, inl, inr, refl, sym, ◌∙◌, ap}
use Rattle.std.proofs.Common.{subst, arith, append_assoc, length-append, is_some, append-nil}
use Rattle.std.proofs.Common.{⊎_elim}
use Rattle.std.proofs.lemmas.Bool.{cases_lt, false≢true}
use Rattle.std.specs.Prelude.{◌&&◌}
use Rattle.std.specs.declared.io.Error.{Error}
use Rattle.grep_decode.specs.DecoderStates.{DecoderState, Decodes, started}
use Rattle.grep_decode.specs.Source.{ReadResult}
use Rattle.grep_line_buffer.specs.BufferStates.{BufferState, held_bytes, has_quit}
use Rattle.grep_line_buffer.specs.Detections.{detected_bytes, found_in, is_quit}
use Rattle.grep_matcher.specs.Lines.{lines, byte_of}
use Rattle.grep_matcher.specs.Meanings.{Meaning, MatcherFacts}
use Rattle.grep_definitions.specs.Searches.{binary_of, on_stream, view_of, quits, IsCutAt}
use Rattle.grep_definitions.specs.Searches.{IsCutSearch, IsReaderSearch, IsInput, IsClosed, IsFront}
use Rattle.grep_definitions.specs.Searches.{reports_nothing}
use Rattle.grep_definitions.specs.Searches
use Rattle.grep_report.specs.ErrorMakers.{ErrorMakers}
use Rattle.grep_definitions.proofs.SearchLawLemmas.{reports_end-le}
use Rattle.grep_walk.specs.declared.walk.Walk.{Walk}
use Rattle.grep_searcher.specs.BinaryCalls.{FailsAtBinary, PassesBinary, Noted}
use Rattle.grep_searcher.specs.Rolls.{HasEnded, HasMovedOn, HasSeen, HasPassedByte, IsReadingOn}
use Rattle.grep_searcher.specs.Rolls.{IsInShown, IsRolling, IsStreamCounted, IsStartAt, start_in}
use Rattle.grep_searcher.specs.Rolls.{not_passed, was_passed}
use Rattle.grep_searcher.specs.SearchBuffers.{detection_of}
use Rattle.grep_searcher.proofs.ReadingLemmas as reading
use Rattle.grep_searcher.proofs.ReadingLemmas.{HasFilled, IsHeld, IsStream}
use Rattle.grep_searcher.proofs.StreamSearchLemmas.{goes-false, goes-true, noted-passed, uncut-passed}
use Rattle.grep_searcher.proofs.StreamSearchLemmas as quitting
use Rattle.grep_searcher.proofs.RollingLemmas as rolls
use Rattle.grep_searcher.proofs.StreamViewLemmas.{as-found}
use Rattle.grep_line_buffer.proofs.InputViewLemmas as views
use Rattle.grep_searcher.proofs.UnreadLemmas.{IsShort}
use Rattle.grep_walk.specs.WalkFaults.{IsWalkFault}
use Rattle.grep_walk.proofs.WalkLemmas as walks
use Rattle.grep_walk.proofs.WindowSearchLemmas.{calls-seen}
use Rattle.grep_walk.specs.Origins.{AreMadeFrom, Origin}
use Rattle.grep_walk.proofs.OriginLemmas.{fresh-made}

-- what was reported before is so of more that is given, and of a walk that has gone further
pub passed-later : {S E : Type 0} {step : Steps S E} {k : Settings} {meaning : Meaning}
    {given : List ℕ} {at to : ℕ}
    {old : S} {next : Origin S} {found : Option ℕ} (more : List ℕ) → at ≤ to
    → IsStartAt step k meaning given at old next found → IsStartAt step k meaning (given ++ more) to
    old next found
passed-later more low (not_passed same) = not_passed same
passed-later {k} {meaning} {given} more low (was_passed offset begun) = was_passed offset (record {
  seen = begun.seen;
  mid = begun.mid;
  before = begun.before;
  call = begun.call;
  goes_on = begun.goes_on;
  made = begun.made;
  passed = omega (arith, low, begun.passed);
  cut = λ later. subst (λ xs. IsCutAt k meaning xs begun.seen offset)
      (sym (append_assoc given more later)) (begun.cut (more ++ later));
})

-- and of a walk that has gone further alone
passed-further : {S E : Type 0} {step : Steps S E} {k : Settings} {meaning : Meaning}
    {given : List ℕ} {at to : ℕ} {old : S} {next : Origin S} {found : Option ℕ} → at ≤ to
    → IsStartAt step k meaning given at old next found → IsStartAt step k meaning given to old next
    found
passed-further {step} {k} {meaning} {given} {to} {old} {next} {found} low begun =
    subst (λ xs. IsStartAt step k meaning xs to old next found) (append-nil given)
    (passed-later [] low begun)

-- a fill succeeded, and the search goes on after `binary_data` or without it: what is known of it
-- then
pub record GoesOn {S E : Type 0} (step : Steps S E) (k : Settings) (meaning : Meaning) {R : Type 0}
    (remaining : R → Option (List ℕ)) (read_step : R → ReadResult → R → Type 0)
    (decoder : DecoderState) (reader : R)
    (first : S) (old : BufferState) (d : DecoderState) (r : R) (w : Walk) (more : List ℕ)
    (new : BufferState)
    (sink : Noted S) : Type 0 where
  pub start : Origin S
  pub rolling : IsRolling step k meaning remaining read_step decoder reader start old d r w
      sink.sink
  pub passed : IsStartAt step k meaning (rolling.given ++ more) w.offset first start new.binary
  pub uncut : has_quit new ≡ false
  pub known : sink.binary ≡ new.binary

module _ {R : Type 0} {remaining : R → Option (List ℕ)} {read_step : R → ReadResult → R → Type 0}
    {S E : Type 0}
    {step : Steps S E} {k : Settings} {meaning : Meaning} {decoder d : DecoderState} {reader r : R}
    {first : S}
    {old : BufferState} {w : Walk} (stream : IsStream remaining read_step k meaning decoder) where
  module _ {sink : Noted S} (on : IsReadingOn step k meaning remaining read_step decoder reader
      first old d r w sink)
      (ends_at : old.terminator ≡ byte_of k.line_terminator) (known : sink.binary ≡ old.binary)
    where
      abbrev so_far : IsRolling step k meaning remaining read_step decoder reader on.start old d r w
          sink.sink
      so_far = on.rolling

      abbrev seen : List ℕ
      seen = so_far.gone ++ old.shown

      abbrev held-then : IsHeld remaining read_step k so_far.gone so_far.given old old decoder d
          reader r
      held-then = rolls.held-then ends_at so_far

      seen-length : length seen ≡ w.offset
      seen-length = omega (arith, so_far.between.at, length-append so_far.gone old.shown)

      -- the calls so far are those for the lines that were seen
      reported-so_far : AreMadeFrom step k on.start (line_plan k meaning seen).calls all_true
          sink.sink
      reported-so_far = (rolls.counted-seen so_far.between).made

      -- without `binary_data` they are calls from the first state on
      plain-so_far : sink.binary ≡ None → AreMade step k first (line_plan k meaning seen).calls
          all_true sink.sink
      plain-so_far unknown =
          go (subst (IsStartAt step k meaning so_far.given w.offset first on.start) unknown
          on.passed)
        where
          go : IsStartAt step k meaning so_far.given w.offset first on.start None
              → AreMade step k first (line_plan k meaning seen).calls all_true sink.sink
          go (not_passed same) = fresh-made step k first _ _ _
              (subst (λ (start : Origin S). AreMadeFrom step k start
              (line_plan k meaning seen).calls all_true sink.sink) same reported-so_far)

      -- the lines that were seen are at the front of every input that begins with what was given,
      -- and hold no binary byte if none was found
      front-seen : (bytes later : List ℕ) → bytes ≡ so_far.given ++ later
          → IsFront k (view_of k bytes) seen
      front-seen bytes later is =
          let back = reading.fronts-there held-then later in
          (rolls.goes-on so_far.between _ (ap (view_of k) is ∙ (back.1
          ∙ (ap (λ xs. xs ++ back.0) (sym (append_assoc so_far.gone old.shown old.rest))
          ∙ append_assoc seen old.rest back.0)))).front

      clear-seen : old.binary ≡ None → (bytes later : List ℕ) → bytes ≡ so_far.given ++ later
          → binary_of k (take (length seen) bytes) ≡ None
      clear-seen unfound bytes later is =
          ap (λ xs. binary_of k (take (length seen) xs)) is ∙ (as-found k.binary_detection _ _
          ∙ views.clear-front _ (byte_of k.line_terminator) so_far.given later (length seen)
          (omega (
            arith,
            reading.length-there held-then so_far.uncut,
            length-append so_far.gone old.shown,
            length-append old.shown old.rest,
          )) (sym (reading.found-there held-then) ∙ unfound))

      -- what was seen when the input wasn't searched to its end
      pub cut-short : {F : Type 0} {errors : ErrorMakers F E} (facts : MatcherFacts F)
          {has_buffers : Bool} {r' : R} {e : E} {io : Error}
          → IsShort remaining read_step (record {
            settings = k;
            has_buffers = has_buffers;
          }) meaning reader so_far.given seen r' io → errors.is_io io e
          → IsCutSearch remaining read_step step errors (record facts { meaning = meaning })
          (record { settings = k; has_buffers = has_buffers }) on_stream reader first e r' sink.sink
      cut-short facts {io} short made =
          let input : HasSeen step k meaning remaining read_step reader so_far.given sink.binary
          w.offset short.mid =
          record {
            taken = short.taken;
            seen = seen;
            within = omega (arith, seen-length);
            begins = short.begins;
            front = λ bytes one. let text = short.begins bytes one in front-seen bytes _ text.1;
            clear = λ unknown bytes one. let text = short.begins bytes one in
                clear-seen (sym known ∙ unknown) bytes _ text.1;
          } in
          record {
            mid = short.mid;
            taken = short.taken;
            seen = seen;
            begun = true;
            error = io;
            cause = short.cause;
            made = made;
            calls = λ is. quitting.seen-made stream.by_line on.passed input reported-so_far;
            none = λ is. absurd (false≢true (sym is));
          }

  -- a fill came after that
  module _ {new : BufferState} {d' : DecoderState} {r' : R}
      (fill : HasFilled remaining read_step k old d r new d' r')
      {sink : Noted S} (on : IsReadingOn step k meaning remaining read_step decoder reader first old
      d r w sink)
      (known : sink.binary ≡ old.binary) where
    -- the search came to its end with this count
    abbrev Ends : ℕ → Option ℕ → S → Type 0
    Ends count binary last = IsStreamCounted step k meaning remaining read_step reader first
        (record { count = count; binary = binary }) r' last

    abbrev seen-then : List ℕ
    seen-then = on.rolling.gone ++ old.shown

    abbrev raw : List ℕ
    raw = on.rolling.given ++ fill.fills.given

    held-now : IsHeld remaining read_step k on.rolling.gone raw old new decoder d' reader r'
    held-now = rolls.held-now stream on.rolling fill

    -- it found the first binary byte
    module _ (unknown : sink.binary ≡ None) (offset : ℕ) (is : new.binary ≡ Some offset) where
      -- which is after all that was held
      past : length on.rolling.gone + length (held_bytes old) ≤ offset
      past = reading.found-past _ (rolls.held-then fill.fitting.terminator on.rolling) held-now
          (sym known ∙ unknown) _ is

      found-is : found_in (detection_of k.binary_detection) (byte_of k.line_terminator) raw
          ≡ Some offset
      found-is = sym (reading.found-there held-now) ∙ is

      made-so_far : AreMade step k first (line_plan k meaning seen-then).calls all_true sink.sink
      made-so_far = plain-so_far on fill.fitting.terminator known unknown

      -- the byte is at an offset that the buffer has room for
      found-low : offset < length on.rolling.gone + new.size
      found-low = ⊎_elim (λ less. omega (arith, less, fill.room, length-is))
          (λ quits. omega (
            arith,
            quits.0,
            fill.tight (ap (λ d. is_quit d && is_some new.binary) (fill.same.detection
                ∙ on.rolling.detects)
                ∙ (ap (λ b. b && is_some new.binary) quits.1 ∙ ap is_some is)),
            length-is,
          )) (views.found-below _ (byte_of k.line_terminator) raw offset found-is)
        where
          length-is : length on.rolling.gone + length (held_bytes new)
              ≡ length (detected_bytes (detection_of k.binary_detection) (byte_of k.line_terminator)
              raw)
          length-is = sym (length-append on.rolling.gone (held_bytes new))
              ∙ ap length (reading.holds-is held-now)

      -- and so is all that was given, also what came after the byte
      raw-fits : length raw ≤ length on.rolling.gone + new.size
      raw-fits = ⊎_elim
          (λ some. omega (
            arith,
            held-before,
            fill.fills.fits some,
            length-append on.rolling.given fill.fills.given,
          ))
          (λ none. omega (
            arith,
            held-before,
            none,
            length-append on.rolling.given fill.fills.given,
            past,
            found-low,
          )) (cases_lt 0 (length fill.fills.given))
        where
          held-before : length on.rolling.given ≡ length on.rolling.gone + length (held_bytes old)
          held-before = reading.length-there (rolls.held-then fill.fitting.terminator on.rolling)
              on.rolling.uncut

      -- of each input that begins with what was given
      cut-there : (later : List ℕ) → IsCutAt k meaning (raw ++ later) seen-then offset
      cut-there later =
          let text = reading.fronts-there held-now later in
          let more : List ℕ = detected_bytes old.detection old.terminator fill.fills.given in
          record {
            front = rolls.goes-on on.rolling.between _ (reading.split-text _ _ _ more _
                (text.1 ∙ ap (λ xs. (on.rolling.gone ++ xs) ++ text.0) fill.fills.appended));
            first = as-found k.binary_detection _ _
                ∙ views.first-kept _ (byte_of k.line_terminator) raw later _ found-is;
            after = omega (
              arith,
              past,
              length-append on.rolling.gone old.shown,
              length-append old.shown old.rest,
            );
            near = λ limit is_limit. omega (
              arith,
              rolls.limit-within fill limit is_limit,
              found-low,
              length-append on.rolling.gone old.shown,
            );
          }

      abbrev reads-now : Decodes remaining read_step
          (started decoder.capacity k.encoding k.bom_sniffing) reader raw d' r'
      reads-now = reading.reads stream held-now

      cut-input : (bytes : List ℕ) → IsInput k d'.has_ended reads-now.pieces bytes
          → IsCutAt k meaning bytes seen-then offset
      cut-input bytes input =
          let text = reading.input-is k reads-now bytes input in
          subst (λ xs. IsCutAt k meaning xs seen-then offset) (sym text.1) (cut-there _)

      -- `binary_data` returned true, and the search goes on from then
      passed-here : {next : S} → step sink.sink k (binary_data offset) (Ok true) next
          → quits k.binary_detection ≡ false
          → HasPassedByte step k meaning raw w.offset first offset (record {
            before = (line_plan k meaning seen-then).calls;
            state = next;
          })
      passed-here called goes_on = record {
        seen = seen-then;
        mid = sink.sink;
        before = made-so_far;
        call = called;
        goes_on = goes_on;
        made = refl;
        passed = omega (arith, on.rolling.between.at, length-append on.rolling.gone old.shown);
        cut = cut-there;
      }

      -- or the search ends there
      module _ (outcome : Outcome E) (last : S) (called : AreMade step k sink.sink
          (Searches.planned_binary (quitting.point step stream first
          (reading.taken k reads-now) seen-then offset cut-input sink.sink made-so_far) ∷ [])
          outcome last)
          (ends : outcome ≡ all_true → quits k.binary_detection ≡ true) where
        cut-failed : {F : Type 0} {errors : ErrorMakers F E} (facts : MatcherFacts F)
            {has_buffers : Bool} {e : E} → outcome ≡ failed e
            → IsReaderSearch remaining read_step step errors (record facts { meaning = meaning })
            (record {
              settings = k;
              has_buffers = has_buffers;
            }) on_stream reader first (Err e) r' last
        cut-failed = quitting.failed-there step stream first (reading.taken k reads-now) _ _
            cut-input sink.sink made-so_far _ last called ends

        cut-counted : ((e : E) → outcome ≡ failed e → ⊥) → Ends w.offset (Some offset) last
        cut-counted succeeds =
            subst (λ n. Ends n (Some offset) last)
            (omega (arith, on.rolling.between.at, length-append on.rolling.gone old.shown))
            (quitting.ended-there step stream first (reading.taken k reads-now) _ _ cut-input
            sink.sink made-so_far _ last called ends succeeds (λ limit is_limit passes.
            let few = reading.taken-few k reads-now passes
            (fill.settled on.rolling.between.unended on.rolling.uncut).settled
            (fill.settled on.rolling.between.unended on.rolling.uncut).passing in
            omega (
              arith,
              few,
              raw-fits,
              rolls.limit-within fill limit is_limit,
              length-append on.rolling.gone old.shown,
            )))

    -- `binary_data` returned false, or the search is one that ends at the byte
    pub ended-cut : {sink' : Noted S} → PassesBinary step k new.binary sink false sink'
        → Ends w.offset sink'.binary sink'.sink
    ended-cut {sink'} (inl (offset, is, unknown, now_known, (true, called, goes))) =
        rw now_known
        (cut-counted unknown offset is all_true sink'.sink (inl (sink'.sink, called, (refl, refl)))
        (λ all. goes-false k.binary_detection goes) (λ e fails. cc))
    ended-cut {sink'} (inl (offset, is, unknown, now_known, (false, called, goes))) =
        rw now_known
        (cut-counted unknown offset is _ sink'.sink (inr (inl (refl, called))) (λ all. cc)
        (λ e fails. cc))
    ended-cut (inr (why, goes, kept)) = cc

    -- `binary_data` failed
    pub fault-cut : {F : Type 0} {errors : ErrorMakers F E} (facts : MatcherFacts F)
        {has_buffers : Bool} {e : E}
        (sink' : Noted S) → FailsAtBinary step k new.binary sink e sink'
        → IsReaderSearch remaining read_step step errors (record facts { meaning = meaning })
        (record {
          settings = k;
          has_buffers = has_buffers;
        }) on_stream reader first (Err e) r' sink'.sink
    fault-cut facts {e} sink' (offset, is, unknown, fails) =
        cut-failed unknown _ is _ _ (inr (inr (e, refl, fails))) (λ all. cc) facts refl

    -- the walk goes on from the state after `binary_data`, before which the calls for these lines
    -- were made
    module _ (sink' : S) where
      abbrev start-passed : Origin S
      start-passed = record { before = (line_plan k meaning seen-then).calls; state = sink' }

      skip-all : (calls : List Planned) → calls ≡ (line_plan k meaning seen-then).calls
          → AreMadeFrom step k start-passed calls all_true sink'
      skip-all calls all = record {
        later = [];
        all = all ∙ sym (append-nil (line_plan k meaning seen-then).calls);
        made = (refl, refl);
      }

      no-calls : (lines_seen : List ℕ) → lines_seen ≡ []
          → (line_plan k meaning lines_seen).calls ≡ planned begins 0 ∷ []
      no-calls lines_seen is =
          let none_reportable : reports_end k meaning [] ≡ 0 = omega (
            arith,
            reports_end-le k meaning [],
            no-lines,
          ) in
          ap (λ xs. (line_plan k meaning xs).calls) is
          ∙ ap (λ n. planned begins 0 ∷ joined_from (calls_at k [] (selected_lines k meaning [])) 0
          n) none_reportable
        where
          no-lines : length (lines (byte_of k.line_terminator) []) ≡ 0
          no-lines = refl

      -- it reads on from there
      abbrev rolling-passed : IsRolling step k meaning remaining read_step decoder reader
          start-passed old d r w sink'
      rolling-passed = record {
        gone = on.rolling.gone;
        given = on.rolling.given;
        between = record {
          opens = on.rolling.between.opens;
          shut = on.rolling.between.shut;
          unfinished = on.rolling.between.unfinished;
          offset = on.rolling.between.offset;
          unended = on.rolling.between.unended;
          few = on.rolling.between.few;
          fits = on.rolling.between.fits;
          at = on.rolling.between.at;
          next = λ busy more after closes.
              let there = on.rolling.between.next busy more after closes in
              record {
                line = there.line;
                next_unreported = there.next_unreported;
                counts = there.counts;
                walked = record {
                  inside = there.walked.inside;
                  reported = record {
                    walk = there.walked.reported.walk;
                    reported = skip-all _
                        (calls-seen old.shown on.rolling.between.opens on.rolling.between.shut more
                        stream.built after there);
                  };
                };
              };
          idle = λ idle.
              let unread = on.rolling.between.idle idle in
              record {
                none = unread.none;
                detecting = unread.detecting;
                begun = skip-all _ (sym (no-calls _ unread.none));
              };
        };
        holds = on.rolling.holds;
        detects = on.rolling.detects;
        uncut = on.rolling.uncut;
      }

    abbrev Goes : Noted S → Type 0
    Goes = GoesOn step k meaning remaining read_step decoder reader first old d r w fill.fills.given
        new

    pub goes-on : {sink' : Noted S} → PassesBinary step k new.binary sink true sink' → Goes sink'
    goes-on {sink'} passes = by passes
      where
        now-known : sink'.binary ≡ new.binary
        now-known = noted-passed step k _ _ _ sink sink' fill.fills.found known passes

        is-uncut : has_quit new ≡ false
        is-uncut = uncut-passed step k old new sink sink' on.rolling.uncut fill.same.detection
            on.rolling.detects known passes

        by : PassesBinary step k new.binary sink true sink' → Goes sink'
        by (inr (why, goes, kept)) =
            let still = sym (ap (λ (n : Noted S). n.binary) kept) ∙ now-known in
            subst Goes (sym kept) (record {
              start = on.start;
              rolling = on.rolling;
              passed = subst (IsStartAt step k meaning raw w.offset first on.start) still
                  (passed-later _ (omega arith) on.passed);
              uncut = is-uncut;
              known = still;
            })
        by (inl (offset, is, unknown, now_known, (returned, called, goes))) =
            let both = goes-true _ _ goes in
            record {
              start = start-passed _;
              rolling = rolling-passed _;
              passed = subst (IsStartAt step k meaning raw w.offset first (start-passed _)) (sym is)
                  (was_passed offset (passed-here unknown _ is
                  (subst (λ b. step sink.sink k (binary_data offset) (Ok b) sink'.sink) both.0
                  called) both.1));
              uncut = is-uncut;
              known = now-known;
            }

  -- the search of what the fill shows
  module _ {new : BufferState} {d' : DecoderState} {r' : R}
      (fill : HasFilled remaining read_step k old d r new d' r')
      {sink : Noted S} (there : GoesOn step k meaning remaining read_step decoder reader first old d
      r w fill.fills.given
      new sink) where
    module _ (busy : reports_nothing k ≡ false) where
      -- it came to its end
      pub counted-shown : {w' : Walk} {last : S} → HasEnded step k meaning new w sink.sink w' last
          → IsStreamCounted step k meaning remaining read_step reader first
          (record { count = w'.offset; binary = sink.binary }) r' last
      counted-shown ended =
          rw there.known (quitting.counted-planned stream.by_line stream.built
          (passed-further ended.low there.passed)
          (rolls.counted-filled stream there.rolling fill there.uncut busy ended))

      -- or it ended in an error
      pub fault-shown : {F : Type 0} {errors : ErrorMakers F E} (facts : MatcherFacts F)
          {has_buffers : Bool} {e : E} {last : S}
          → ((gone : List ℕ) (start : Origin S) → IsInShown step k meaning gone new.shown
          (start_in new w) start w sink.sink
          → (after : List ℕ) → (0 < length after → IsClosed (byte_of k.line_terminator) new.shown)
          → IsWalkFault step errors (record facts {
            meaning = meaning;
          }) k (gone ++ (new.shown ++ after)) start e last)
          → IsReaderSearch remaining read_step step errors (record facts { meaning = meaning })
          (record {
            settings = k;
            has_buffers = has_buffers;
          }) on_stream reader first (Err e) r' last
      fault-shown facts fails =
          quitting.failed-planned _ stream.by_line there.passed stream.built
          (rolls.faulted-filled stream there.rolling fill there.uncut busy fails)

      -- or it reads on
      pub reads-on : {moved : BufferState} {w' : Walk} {now' : S}
          → HasMovedOn step k meaning new w sink.sink moved w' now' → w.offset ≤ w'.offset
          → ((gone : List ℕ) (count : ℕ) → gone ++ held_bytes new ≡ (gone ++ take count new.shown)
          ++ (drop count new.shown ++ new.rest))
          → IsReadingOn step k meaning remaining read_step decoder reader first moved d' r' w'
          (record { sink = now'; binary = sink.binary })
      reads-on {w'} moved low consumed = record {
        start = there.start;
        rolling = rolls.rolling-next stream there.rolling fill there.uncut busy moved
            (consumed there.rolling.gone);
        passed = subst (IsStartAt step k meaning (there.rolling.given ++ fill.fills.given) w'.offset
            first there.start) (sym there.known) (passed-further low there.passed);
      }

    -- no line may be reported: the search ends once the first bytes are read
    pub counted-idle : reports_nothing k ≡ true → IsStreamCounted step k meaning remaining read_step
        reader first (record { count = w.offset; binary = sink.binary }) r' sink.sink
    counted-idle idle =
        let unread = there.rolling.between.idle idle in
        let zero : w.offset ≡ 0 = omega (
          arith,
          there.rolling.between.at,
          ap length unread.none,
          length-append there.rolling.gone old.shown,
        ) in
        let held_now = rolls.held-now stream there.rolling fill in
        let reads = reading.reads stream held_now in
        rw (zero, there.known) (quitting.counted-unseen _ _ step k meaning (reading.taken k reads)
        (λ bytes input. let text = reading.input-is k reads bytes input in (text.0, text.1))
        stream.by_line stream.built (rw zero at there.passed) all_true
        (λ bytes. walks.counted-idle k meaning bytes step there.start sink.sink idle unread.begun)
        (λ limit is passes. omega (
          arith,
          reading.taken-few k reads passes
              (fill.settled there.rolling.between.unended there.rolling.uncut).settled
              (fill.settled there.rolling.between.unended there.rolling.uncut).passing,
          rolls.limit-within fill limit is,
          fill.room,
          reading.length-there held_now there.uncut,
          ap length unread.none,
          length-append there.rolling.gone old.shown,
        )))
