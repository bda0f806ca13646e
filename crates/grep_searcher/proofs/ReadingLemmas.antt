-- What a decoder gave and what a line buffer holds of it, against the bytes that are searched.
use Rattle.grep_searcher.proofs.StreamViewLemmas.{as-unquit, as-viewed}
use Rattle.grep_searcher.specs.HeldViews.{HoldsGiven}
use Rattle.grep_searcher.specs.SearchBuffers.{IsFitting, detection_of}
use Rattle.grep_decode.proofs.DecoderLemmas.{Decodes-append, done-gives, waits-few}
use Rattle.grep_decode.proofs.StartedLemmas as starts
use Rattle.grep_line_buffer.proofs.GivenLemmas.{fills-continue}
use Rattle.grep_decode.specs.Decoded.{by_label, found_mark}
use Rattle.grep_decode.specs.DecoderStates.{DecoderState, Decodes, HasReadNothing, HasSettled}
use Rattle.grep_decode.specs.DecoderStates.{IsDone, IsSettled, IsWaiting, LooksForMark, decode_by}
use Rattle.grep_decode.specs.DecoderStates.{mode_of, started, still_to_give}
use Rattle.grep_decode.specs.Source.{ReadResult}
use Rattle.grep_decode.specs.declared.label.Label.{Label}
use Rattle.grep_decode.specs.declared.label.Label.TheVariants.{Utf8, Utf16Le, Utf16Be}
use Rattle.grep_decode.specs.declared.mode.Mode.TheVariants.{Passing}
use Rattle.grep_definitions.specs.Plans.{is_across, Settings}
use Rattle.grep_definitions.specs.Searches.{before_quit, view_of, AreWaiting, IsInput}
use Rattle.grep_definitions.specs.Searches.{encoding_after, encoding_of, IsReadForLine}
use Rattle.grep_definitions.specs.Searches.{searched_bytes, Taken, IsDecodedSoFar}
use Rattle.grep_line_buffer.proofs.DetectionLemmas.{length-detected_bytes, uncut-none}
use Rattle.grep_line_buffer.specs.BufferStates.{BufferState, empty_buffer, has_quit, held_bytes}
use Rattle.grep_line_buffer.specs.BufferStates.{IsFilled, IsSameBuffer, IsWithin}
use Rattle.grep_line_buffer.specs.Detections.{detected_bytes, found_in, is_quit}
use Rattle.grep_line_buffer.specs.Fills.{HasWaitedForLine, Fills}
use Rattle.grep_matcher.specs.Lines.{byte_of}
use Rattle.grep_matcher.specs.Meanings.{Meaning}
use Rattle.std.proofs.Common.{◌≡◌, ◌≢◌, ◌⊎◌, ℕ, ◌+◌, ◌<◌, ◌≤◌, true, false, List, [], ◌++◌, length}
use Rattle.std.proofs.Common.{Option, Some, None, refl, sym, subst, ◌∙◌, ap, ap₂, arith, append-nil}
use Rattle.std.proofs.Common.{append_assoc, length-append}
use Rattle.std.proofs.Math.Bool.{and-false}
use Rattle.std.specs.List.{concat}
use Rattle.std.specs.Prelude.{All}
use Rattle.grep_line_buffer.proofs.InputViewLemmas as views

view-length : (k : Settings) (bytes : List ℕ) → length (view_of k bytes) ≡ length bytes
view-length k bytes = ap length (as-viewed k.binary_detection _ _)
    ∙ views.view-length _ (byte_of k.line_terminator) bytes

-- without a label and a mark the bytes pass, and after the mark of UTF-8
mode-passing : (label mark : Option Label) → encoding_after mark label ≡ None → mode_of mark label
    ≡ Passing
mode-passing label (Some Utf8) unchanged = refl
mode-passing label (Some Utf16Le) unchanged = cc
mode-passing label (Some Utf16Be) unchanged = cc
mode-passing None None unchanged = refl
mode-passing (Some label) None unchanged = cc

-- the mode after a mark, by the encoding
mode-decodes : (label mark : Option Label) (input : List ℕ) → decode_by (mode_of mark label) input
    ≡ by_label (encoding_after mark label) input
mode-decodes label (Some Utf8) input = refl
mode-decodes label (Some Utf16Le) input = refl
mode-decodes label (Some Utf16Be) input = refl
mode-decodes None None input = refl
mode-decodes (Some label) None input = refl

mode-waits : (label mark : Option Label) (held : List ℕ) → IsWaiting (mode_of mark label) held
    → AreWaiting (encoding_after mark label) held
mode-waits label (Some Utf8) held waits = waits
mode-waits label (Some Utf16Le) held waits = waits
mode-waits label (Some Utf16Be) held waits = waits
mode-waits None None held waits = waits
mode-waits (Some label) None held waits = waits

module _ {R : Type 0} {remaining : R → Option (List ℕ)} {step : R → ReadResult → R → Type 0}
    (settings : Settings) {capacity : ℕ} {reader reader' : R} {given : List ℕ} {d : DecoderState}
    (reads : Decodes remaining step (started capacity settings.encoding settings.bom_sniffing)
    reader given d reader')
  where
    -- what was taken of the reader
    abbrev pub taken : Taken remaining step reader reader'
    taken = record {
      ended = d.has_ended;
      pieces = reads.pieces;
      calls = reads.calls;
      takes = reads.takes;
    }

    -- what it gave is the front of the bytes that are searched, and all of them once it is done
    pub input-is : (bytes : List ℕ)
        → IsInput settings d.has_ended reads.pieces bytes → (later : List ℕ)
        × (bytes ≡ given ++ later) × (IsDone d → later ≡ [])
    unfolding searched_bytes
    input-is bytes (more, end, is) =
        (still_to_give d more, is ∙ reads.gives more end, done-gives d more)

    -- what is made of it begins with what was made of that
    pub front-is : (made : List ℕ → List ℕ) (shown : List ℕ) → ((later : List ℕ) → (back : List ℕ)
        × (made (given ++ later) ≡ shown ++ back)) → (bytes : List ℕ)
        → IsInput settings d.has_ended reads.pieces bytes → (back : List ℕ)
        × (made bytes ≡ shown ++ back)
    front-is made shown fronts bytes input =
        let text = input-is bytes input in
        let front = fronts text.0 in
        (front.0, ap made text.1 ∙ front.1)

    -- and its view is all of it once it is done, if no byte cut it
    pub view-is : (shown : List ℕ)
        → ((later : List ℕ) → view_of settings (given ++ later) ≡ shown ++ view_of settings later)
        → (bytes : List ℕ) → IsInput settings d.has_ended reads.pieces bytes
        → (later : List ℕ) × (view_of settings bytes ≡ shown ++ later) × (IsDone d → later ≡ [])
    view-is shown shows bytes input =
        let text = input-is bytes input in (
          view_of settings text.0,
          ap (view_of settings) text.1 ∙ shows text.0,
          λ done. ap (view_of settings) (text.2 done) ∙ (as-viewed settings.binary_detection _ _
              ∙ views.view-none _ _),
        )

    -- the mark in what was taken
    abbrev mark : Option Label
    mark = found_mark settings.encoding settings.bom_sniffing (concat reads.pieces)

    module _ (unchanged : encoding_of settings (concat reads.pieces) ≡ None)
        (settled : IsSettled d.mode) where
      passes : d.mode ≡ Passing
      unfolding encoding_of
      passes = starts.mode-is _ _ reads settled ∙ mode-passing _ mark unchanged

      -- at most three bytes more were taken than given
      pub taken-few : (d.mode ≡ Passing → (length d.ready ≤ 3) × (d.held ≡ []))
          → length (concat reads.pieces) ≤ length given + 3
      taken-few few = omega (arith, reads.ahead passes, ap length (few passes).1)

    -- what was decoded when the reader failed
    pub decoded-so_far : d.has_ended ≡ false → d.ready ≡ [] → IsWaiting d.mode d.held
        → IsDecodedSoFar settings reads.pieces given
    unfolding searched_bytes encoding_of
    decoded-so_far unended ready waits = record {
      none = starts.given-none _ _ reads few unended;
      all = λ enough.
          let settled = starts.settled-enough _ _ reads few enough in (
            reads.last.0,
            d.held,
            reads.last.1,
            mode-waits _ mark _ (subst (λ m. IsWaiting m d.held) (starts.mode-is _ _ reads settled)
                waits),
            λ more. starts.waiting-text _ _ reads unended ready settled more
                ∙ ap (λ xs. given ++ xs) (mode-decodes _ mark _),
          );
    }
      where
        few : IsSettled d.mode ⊎ LooksForMark d.mode × (length d.held ≤ 2)
        few = waits-few d.mode d.held waits

-- what the first fill of a buffer had read before the reader's last call
module _ {R : Type 0} {remaining : R → Option (List ℕ)} {step : R → ReadResult → R → Type 0}
    {k : Settings} {buffer : BufferState} {decoder : DecoderState} {reader : R}
    (fitting : IsFitting k.heap_limit (byte_of k.line_terminator) buffer)
    (empty : buffer ≡ empty_buffer buffer.size buffer.limit buffer.terminator
    (detection_of k.binary_detection))
    (begun : decoder ≡ started decoder.capacity k.encoding k.bom_sniffing) where
  for-line : {reader' : R} → HasWaitedForLine remaining step buffer decoder reader reader'
      → IsReadForLine remaining step k reader reader'
  for-line waited =
      let last = waited.last in
      let given = waited.given in
      let bd = k.binary_detection in
      let t = byte_of k.line_terminator in
      let detects : buffer.detection ≡ detection_of bd = ap (λ b. b.detection) empty in
      let reads = subst (λ xs. Decodes remaining step
      (started decoder.capacity k.encoding k.bom_sniffing) reader xs
      last.waiting last.mid) (append-nil given)
      (subst (λ d. Decodes remaining step d reader (given ++ []) last.waiting last.mid) begun
      (Decodes-append remaining step _ _ _ _ _ _ given [] waited.decodes last.decodes)) in
      let decoded = decoded-so_far k reads last.unended last.empty last.waits in
      let uncut : is_quit (detection_of bd) ≡ true → found_in (detection_of bd) t given ≡ None =
      λ quits. ap (λ c. found_in (detection_of bd) c given) (sym fitting.terminator)
      ∙ (ap (λ x. found_in x buffer.terminator given) (sym detects)
      ∙ waited.uncut (ap is_quit detects ∙ quits)) in
      let held = views.view-held _ t given uncut ∙ sym (as-viewed bd _ _) in
      let shown : detected_bytes buffer.detection buffer.terminator given ≡ view_of k given =
      ap (λ x. detected_bytes x buffer.terminator given) detects
      ∙ (ap (λ c. detected_bytes (detection_of bd) c given) fitting.terminator ∙ held) in
      record {
        mid = last.mid;
        before = taken k reads;
        unended = last.unended;
        piece = last.piece;
        last = last.called;
        came = given;
        so_far = record { none = decoded.none; all = decoded.all };
        open_line = record {
          rest = view_of k given;
          whole = refl;
          unended = subst (All (λ b. b ≢ t)) shown
              (subst (λ c. All (λ b. b ≢ c) (detected_bytes buffer.detection buffer.terminator
              given)) fitting.terminator waited.unended);
          room = λ limit is. omega (
            arith,
            waited.room limit (fitting.limit ∙ is),
            view-length k given,
          );
          unquit = ap (before_quit bd) (sym held)
              ∙ (as-unquit bd _ ∙ (views.before-held _ t given ∙ held));
        };
      }

  pub read-once : {lines : BufferState} {d : DecoderState} {r r' : R}
      → (lines ≡ buffer) × (d ≡ decoder) × (r ≡ reader)
      → (lines.has_ended ≡ false → has_quit lines ≡ false → HasReadNothing d
      → HasWaitedForLine remaining step lines d r r') → IsReadForLine remaining step k reader r'
  read-once {lines} {d} {r} {r'} same filled = for-line (rw (sym same.0, sym same.1, sym same.2)
      (filled (ap (λ b. b.has_ended) same.0 ∙ ap (λ b. b.has_ended) empty)
      (ap has_quit same.0 ∙ (ap has_quit empty
      ∙ and-false (is_quit (detection_of k.binary_detection))))
      (subst HasReadNothing (sym (same.1 ∙ begun))
      (record { fresh = λ settled. settled; held = refl; unended = refl }))))

-- the bytes that were held and given come after those that were shown
pub split-text : (gone shown rest given later : List ℕ) {bytes : List ℕ}
    → bytes ≡ (gone ++ ((shown ++ rest) ++ given)) ++ later
    → bytes ≡ (gone ++ shown) ++ ((rest ++ given) ++ later)
split-text gone shown rest given later is =
    is ∙ (ap (λ xs. (gone ++ xs) ++ later) (append_assoc shown rest given)
    ∙ (ap (λ xs. xs ++ later) (sym (append_assoc gone shown (rest ++ given)))
    ∙ append_assoc (gone ++ shown) (rest ++ given) later))

abbrev t : Settings → ℕ
t k = byte_of k.line_terminator

module _ {R : Type 0} (remaining : R → Option (List ℕ)) (step : R → ReadResult → R → Type 0) where
  -- a search of a stream by line, read by a decoder that was started for it
  pub record IsStream (k : Settings) (meaning : Meaning) (decoder : DecoderState) : Type 0 where
    pub by_line : is_across k meaning ≡ false
    pub built : k.passthru ≡ true → k.before_context ≡ 0
    pub begun : decoder ≡ started decoder.capacity k.encoding k.bom_sniffing

  -- what was given is what is gone and what a buffer holds, which is like one of the search
  pub record IsHeld (k : Settings) (gone given : List ℕ) (like buffer : BufferState)
      (decoder d : DecoderState)
      (reader r : R) : Type 0 where
    pub holds : HoldsGiven remaining step gone like.detection like.terminator buffer decoder reader
        given d r
    pub detects : like.detection ≡ detection_of k.binary_detection
    pub ends_at : like.terminator ≡ byte_of k.line_terminator
    pub same : IsSameBuffer like buffer

  -- a fill of a buffer succeeded
  pub record HasFilled (k : Settings) (old : BufferState) (d : DecoderState) (r : R)
      (new : BufferState)
      (d' : DecoderState) (r' : R) : Type 0 where
    pub fills : Fills remaining step old d r new d' r'
    pub fitting : IsFitting k.heap_limit (byte_of k.line_terminator) old
    pub same : IsSameBuffer old new
    pub filled : IsFilled old new
    pub room : length (held_bytes new) ≤ new.size
    pub tight : has_quit new ≡ true → length (held_bytes new) < new.size
    pub within : IsWithin new.limit new.size
    pub done : (old.has_ended ≡ true → has_quit old ≡ false → IsDone d) → new.has_ended ≡ true
        → has_quit new ≡ false → IsDone d'
    pub settled : old.has_ended ≡ false → has_quit old ≡ false → HasSettled d'

module _ {R : Type 0} {remaining : R → Option (List ℕ)} {step : R → ReadResult → R → Type 0} where
  -- what a buffer holds after a fill
  pub held-next : {old new : BufferState} {decoder d d' : DecoderState} {reader r r' : R}
      {gone given : List ℕ} → old.offset ≡ length gone → has_quit old ≡ false
      → HoldsGiven remaining step gone old.detection old.terminator old decoder reader given d r
      → (fills : Fills remaining step old d r new d' r')
      → HoldsGiven remaining step gone old.detection old.terminator new decoder reader
      (given ++ fills.given) d' r'
  held-next at uncut holds fills =
      let next = fills-continue remaining step _ _ _ _ _ _ _ _ _ _ holds.decodes holds.whole at
      holds.found uncut fills in
      record { whole = next.1; found = next.2; decodes = next.0 }

  -- the bytes that were given, read by the decoder of the search
  abbrev pub reads : {k : Settings} {meaning : Meaning} {decoder d : DecoderState} {reader r : R}
      {gone given : List ℕ} {like buffer : BufferState} → IsStream remaining step k meaning decoder
      → IsHeld remaining step k gone given like buffer decoder d reader r
      → Decodes remaining step (started decoder.capacity k.encoding k.bom_sniffing) reader given d r
  reads {decoder} {d} {reader} {r} {given} stream is =
      subst (λ x. Decodes remaining step x reader given d r) stream.begun is.holds.decodes

  -- what the view of an input is, by what a buffer holds of it
  module _ {k : Settings} {gone given : List ℕ} {old new : BufferState} {decoder d : DecoderState}
      {reader r : R}
      (is : IsHeld remaining step k gone given old new decoder d reader r) where
    pub holds-is : gone ++ held_bytes new ≡ detected_bytes (detection_of k.binary_detection)
        (t k) given
    holds-is = is.holds.whole ∙ (ap (λ d. detected_bytes d old.terminator given) is.detects
        ∙ ap (λ c. detected_bytes (detection_of k.binary_detection) c given) is.ends_at)

    pub found-there : new.binary ≡ found_in (detection_of k.binary_detection) (t k) given
    found-there = is.holds.found ∙ (ap (λ d. found_in d old.terminator given) is.detects
        ∙ ap (λ c. found_in (detection_of k.binary_detection) c given) is.ends_at)

    -- the view of every input begins with what is gone and what is held
    pub fronts-there : (later : List ℕ) → (back : List ℕ)
        × (view_of k (given ++ later) ≡ (gone ++ held_bytes new) ++ back)
    fronts-there later =
        let front = views.view-front _ (t k) given later in (
          front.0,
          as-viewed k.binary_detection _ _ ∙ (front.1 ∙ ap (λ xs. xs ++ front.0) (sym holds-is)),
        )

    -- also of what comes before a byte that ends the search
    pub before-there : (later : List ℕ)
        → (back : List ℕ) × (before_quit k.binary_detection (view_of k (given ++ later))
        ≡ (gone ++ held_bytes new) ++ back)
    before-there later =
        let front = views.before-front _ (t k) given later in (
          front.0,
          as-unquit k.binary_detection _ ∙ (ap (views.unquit _) (as-viewed k.binary_detection _ _)
              ∙ (front.1 ∙ ap (λ xs. xs ++ front.0) (sym holds-is))),
        )

    -- which is none of the bytes that are gone or held
    pub unquit-held : before_quit k.binary_detection (gone ++ held_bytes new) ≡ gone
        ++ held_bytes new
    unquit-held = ap (before_quit k.binary_detection) holds-is
        ∙ (as-unquit k.binary_detection _ ∙ (views.before-held _ (t k) given ∙ sym holds-is))

    module _ (uncut : has_quit new ≡ false) where
      pub view-there : view_of k given ≡ gone ++ held_bytes new
      view-there = sym (holds-is ∙ views.view-held _ (t k) given (λ quits. sym found-there
          ∙ uncut-none _ _ uncut (ap is_quit (is.same.detection ∙ is.detects) ∙ quits))
          ∙ sym (as-viewed k.binary_detection _ _))

      pub shows-there : (later : List ℕ) → view_of k (given ++ later) ≡ (gone ++ held_bytes new)
          ++ view_of k later
      shows-there later = as-viewed k.binary_detection _ _ ∙ (views.view-append _ (t k) given later
          ∙ ap₂ (λ xs ys. xs ++ ys) (sym (as-viewed k.binary_detection _ _) ∙ view-there)
          (sym (as-viewed k.binary_detection _ _)))

      -- as much is gone and held as was given
      pub length-there : length given ≡ length gone + length (held_bytes new)
      length-there = omega (
        arith,
        ap length view-there,
        view-length k given,
        length-append gone (held_bytes new),
      )

  -- a byte that wasn't found before is after all that was held then
  pub found-past : {k : Settings} {gone given : List ℕ} (more : List ℕ) {old new : BufferState}
      {decoder d d' : DecoderState}
      {reader r r' : R} → IsHeld remaining step k gone given old old decoder d reader r
      → IsHeld remaining step k gone (given ++ more) old new decoder d' reader r' → old.binary
      ≡ None → (o : ℕ) → new.binary ≡ Some o → length gone + length (held_bytes old) ≤ o
  found-past {k} {gone} {given} more {old} before after none o is =
      let absent = sym (found-there before) ∙ none in
      omega (
        arith,
        views.found-after _ (t k) given more o absent (sym (found-there after) ∙ is),
        length-detected_bytes _ (t k) given absent,
        ap length (holds-is before),
        length-append gone (held_bytes old),
      )
