-- What a fill of a line buffer has come to.
use Rattle.std.proofs.Common.{◌≡◌, ◌⊎◌, inl, inr, ℕ, ◌+◌, ◌*◌, ◌-◌, ◌^◌, ◌<◌, ◌≤◌, List, [], ◌++◌}
use Rattle.std.proofs.Common.{length, drop, true, false, Option, None}
use Rattle.std.proofs.Common.{Some, refl, sym, ap, subst, ◌∙◌, arith, append-nil, length-append}
use Rattle.std.proofs.lemmas.Bool.{false≢true}
use Rattle.std.proofs.lemmas.List.{drop_at, nil_from_length}
use Rattle.std.proofs.KnownBytes.{Consumes-nil}
use Rattle.std.specs.Io.KnownBytes.{Consumes}
use Rattle.std.specs.declared.io.Error.{Error}
use Rattle.grep_decode.specs.declared.mode.Mode.TheVariants.{Passing}
use Rattle.grep_decode.specs.DecoderStates.{DecoderState, Decodes, HasReadNothing, HasWaited}
use Rattle.grep_decode.specs.DecoderStates.{TakesAtMost, runs_ahead, yet}
use Rattle.grep_decode.specs.Source.{ReadResult}
use Rattle.grep_line_buffer.specs.declared.fill_error.FillError.{FillError}
use Rattle.grep_line_buffer.specs.declared.fill_error.FillError.TheVariants.{Read, HeapLimit}
use Rattle.grep_line_buffer.specs.declared.fill_error.FillError.TheVariants.{Offset, Memory}
use Rattle.std.specs.Option.{option_map}
use Rattle.std.proofs.Math.Seq.{take-append_seam}
use Rattle.grep_line_buffer.specs.Detections.{detected_bytes, found_in, first_of, is_quit}
use Rattle.grep_line_buffer.proofs.DetectionLemmas.{detected_bytes-append, detected_bytes-nil}
use Rattle.grep_line_buffer.proofs.DetectionLemmas.{found-next, found-nil, first_of-none}
use Rattle.grep_line_buffer.proofs.DetectionLemmas.{length-detected_bytes, length-uncut, uncut-none}
use Rattle.grep_line_buffer.specs.BufferStates.{BufferState, held_bytes, has_quit}
use Rattle.grep_line_buffer.specs.BufferStates.{stream, Lacks, IsWithin, IsSameBuffer, GrowsIfFull}
use Rattle.grep_line_buffer.specs.BufferStates.{KeepsStream, EndsWith, ShowsLine, IsFilled}
use Rattle.grep_line_buffer.specs.BufferStates.{HasNoLine}
use Rattle.grep_line_buffer.specs.Fills.{Fills, FillFails, PassesOffsets}
use Rattle.grep_line_buffer.specs.Fills.{HasShown, HasWaitedForLine, KeepsInput}
use Rattle.grep_line_buffer.specs.Fills.{ReadFails}
use Rattle.grep_line_buffer.specs.Appends.{Appends, Detects, FailsToRead, Reads}
use Rattle.grep_decode.proofs.DecoderLemmas.{reads-fail}
use Rattle.grep_line_buffer.specs.Room.{IsFullFault}
use Rattle.grep_line_buffer.proofs.ReadLemmas.{HasRead, HasRead-none, HasRead-more, HasRead-failed}
use Rattle.grep_line_buffer.proofs.FillPartLemmas.{Keeps-same, Lacks-more, binary_of, detection_of}
use Rattle.grep_line_buffer.proofs.FillPartLemmas.{ended_of, first-missing, found_after, free_of}
use Rattle.grep_line_buffer.proofs.FillPartLemmas.{grows-held, limit_of, offset_of}
use Rattle.grep_line_buffer.proofs.FillPartLemmas.{rest_of, shown_of, size_of, stream-moved}
use Rattle.grep_line_buffer.proofs.FillPartLemmas.{terminator_of}

module _ {R : Type 0} (remaining : R → Option (List ℕ)) (step : R → ReadResult → R → Type 0) where
  -- The bytes that were held before are shown, and what detection makes of those that came since
  -- follows them.
  pub record IsFilling (old : BufferState) (d : DecoderState) (r : R) (now : BufferState)
      (d' : DecoderState) (r' : R) :
      Type 0 where
    pub raw : List ℕ
    pub came : now.rest ≡ detected_bytes old.detection old.terminator raw
    pub found : now.binary ≡ found_after old raw
    pub uncut : has_quit old ≡ false
    pub shown : now.shown ≡ held_bytes old
    pub unended : now.has_ended ≡ false
    pub same : IsSameBuffer old now
    pub rolled : now.free + length (held_bytes now) ≡ now.size
    pub fits : length (held_bytes old) + length raw ≤ now.size
    pub within : IsWithin now.limit now.size
    pub grows : GrowsIfFull old now
    pub read : HasRead remaining step d r raw d' r'

  -- No terminator came yet, and no byte that ends the input.
  pub record HasNone (old : BufferState) (d : DecoderState) (r : R) (now : BufferState)
      (d' : DecoderState) (r' : R) :
      Type 0 where
    pub filling : IsFilling old d r now d' r'
    pub none : Lacks old.terminator now.rest
    pub offset : now.offset + length (held_bytes now) < 2 ^ 64
    pub going : has_quit now ≡ false
    pub begun : HasReadNothing d → ((d' ≡ d) × (r' ≡ r)) ⊎ HasWaitedForLine remaining step old d r
        r'
    pub waited : (r' ≡ r) ⊎ HasWaitedForLine remaining step old d r r'

  -- it begins with all that was held moved to the front
  pub HasNone-first : (old now : BufferState) (d : DecoderState) (r : R) (free : ℕ)
      → Decodes remaining step d r [] d r
      → now ≡ record old {
        shown = held_bytes old;
        rest = [];
        free = free;
      } → free + length (held_bytes old) ≡ old.size → old.has_ended ≡ false
      → IsWithin old.limit old.size → old.offset + length (held_bytes old) < 2 ^ 64 → has_quit old
      ≡ false → HasNone old d r now d r
  HasNone-first old now d r free none is rolled unended within offset uncut =
      grind (
        arith,
        append-nil,
        found_after,
        found-nil,
        first_of-none,
        detected_bytes-nil,
        HasRead-none,
      )

  -- it goes on with more room
  pub HasNone-room : (old now made : BufferState) (d d1 : DecoderState) (r r1 : R) (size free : ℕ)
      → HasNone old d r now d1 r1
      → made ≡ record now {
        size = size;
        free = free;
      } → free + length (held_bytes made) ≡ size → IsWithin made.limit size
      → (size ≡ now.size) ⊎ (now.size < size) × (now.free ≡ 0) × (size ≤ 2 * now.size + 1)
      → HasNone old d r made d1 r1
  HasNone-room old now made d d1 r r1 size free before is rolled within grows = grind arith

  -- nothing that ends the input was among the bytes that came
  going-none : (old now : BufferState) (d d1 : DecoderState) (r r1 : R)
      → (f : IsFilling old d r now d1 r1) → has_quit now ≡ false
      → is_quit old.detection ≡ true → found_in old.detection old.terminator f.raw ≡ None
  going-none old now d d1 r r1 f going quits = grind arith

  -- so there was none before a read that calls the reader
  HasNone-last : (old now : BufferState) (d d1 : DecoderState) (r r1 r2 : R)
      → HasNone old d r now d1 r1
      → 0 < now.free → HasWaited remaining step d1 r1 r2 → HasWaitedForLine remaining step old d r
      r2
  HasNone-last old now d d1 r r1 r2 before some last =
      grind (arith, going-none, length-append, length-uncut)

  pub HasNone-waited : (old now : BufferState) (d d1 : DecoderState) (r r1 r2 : R)
      → HasNone old d r now d1 r1 → 0 < now.free → (r2 ≡ r1) ⊎ HasWaited remaining step d1 r1 r2
      → (r2 ≡ r) ⊎ HasWaitedForLine remaining step old d r r2
  HasNone-waited old now d d1 r r1 r2 before some (inl same) =
      subst (λ x. (x ≡ r) ⊎ HasWaitedForLine remaining step old d r x) (sym same) before.waited
  HasNone-waited old now d d1 r r1 r2 before some (inr last) =
      inr (HasNone-last old now d d1 r r1 r2 before some last)

  -- and the first read calls it
  pub HasNone-begun : (old now : BufferState) (d d1 : DecoderState) (r r1 r2 : R)
      → HasNone old d r now d1 r1
      → 0 < now.free → (HasReadNothing d1 → HasWaited remaining step d1 r1 r2)
      → (r2 ≡ r1) ⊎ HasWaited remaining step d1 r1 r2
      → HasReadNothing d → HasWaitedForLine remaining step old d r r2
  HasNone-begun old now d d1 r r1 r2 before some begins waited nothing =
      go (before.begun nothing) waited
    where
      go : ((d1 ≡ d) × (r1 ≡ r)) ⊎ HasWaitedForLine remaining step old d r r1
          → (r2 ≡ r1) ⊎ HasWaited remaining step d1 r1 r2 → HasWaitedForLine remaining step old d r
          r2
      go (inl first) any = HasNone-last old now d d1 r r1 r2 before some
          (begins (subst HasReadNothing (sym first.0) nothing))
      go (inr line) (inl same) = subst (HasWaitedForLine remaining step old d r) (sym same) line
      go (inr line) (inr last) = HasNone-last old now d d1 r r1 r2 before some last

  -- the bytes of one read, as detection makes them
  pub record Comes (count : ℕ) (now : BufferState) (given : List ℕ) (made : BufferState) : Type 0
    where
      pub rest : made.rest ≡ now.rest ++ detected_bytes now.detection now.terminator given
      pub binary : made.binary
          ≡ first_of now.binary (option_map (λ i. now.offset + length (held_bytes now) + i)
          (found_in now.detection now.terminator given))
      pub whole : made.free + length (held_bytes made) ≡ now.free + length (held_bytes now)
      pub others : made ≡ record now { rest = made.rest; free = made.free; binary = made.binary }

  -- a read, and what detection makes of it
  pub Comes-detected : (now next made : BufferState) (d1 d2 : DecoderState) (r1 r2 : R) (count : ℕ)
      → (came : Appends remaining step count now d1 r1 next d2 r2) → Detects count next made
      → Comes count now came.given made
  Comes-detected now next made d1 d2 r1 r2 count came changed =
      grind (arith, length-append, take-append_seam, drop_at)

  -- it goes on with one read
  pub IsFilling-more : (old now next made : BufferState) (d d1 d2 : DecoderState) (r r1 r2 : R)
      (count : ℕ) → HasNone old d r now d1 r1
      → (came : Appends remaining step count now d1 r1 next d2 r2)
      → Comes count now came.given made → d2.capacity ≡ d1.capacity → IsFilling old d r made d2 r2
  IsFilling-more old now next made d d1 d2 r r1 r2 count before came comes capacity =
      let f = before.filling in
      let same-d = f.same.detection in
      let same-t = f.same.terminator in
      let none = going-none old now d d1 r r1 f before.going in
      let D = old.detection in
      let t = old.terminator in
      let given : detected_bytes now.detection now.terminator came.given
      ≡ detected_bytes D t came.given = rw (same-d, same-t) refl in
      let found : made.binary
      ≡ first_of now.binary (option_map (λ i. now.offset + length (held_bytes now) + i)
      (found_in D t came.given)) =
      comes.binary ∙ rw (same-d, same-t) refl in
      let held-now : length (held_bytes now) ≡ length (held_bytes old) + length now.rest =
      ap (λ l. length (l ++ now.rest)) f.shown ∙ length-append (held_bytes old) now.rest in
      let base : now.offset + length (held_bytes now) ≡ old.offset + length (held_bytes old)
      + length now.rest =
      omega (arith, f.same.offset, held-now) in
      let len : length (held_bytes made) ≡ length (held_bytes now)
      + length (detected_bytes D t came.given) =
      ap (λ w. length (held_bytes w)) comes.others ∙ ap (λ l. length (now.shown ++ l))
      (comes.rest ∙ ap (λ l. now.rest ++ l) given)
      ∙ (rw (length-append, length-append, length-append) (omega arith)) in
      record {
        raw = f.raw ++ came.given;
        came = comes.rest ∙ ap (λ l. now.rest ++ l) given
            ∙ ap (λ l. l ++ detected_bytes D t came.given) f.came
            ∙ sym (detected_bytes-append D t f.raw came.given none);
        found = found-next D t (old.offset + length (held_bytes old)) (length now.rest) f.raw
            came.given old.binary now.binary made.binary f.found
            (λ missing. ap (λ l. length l) f.came ∙ length-detected_bytes D t f.raw missing)
            (found ∙ ap (λ n. first_of now.binary
            (option_map (λ i. n + i) (found_in D t came.given))) base);
        uncut = f.uncut;
        shown = ap shown_of comes.others ∙ f.shown;
        unended = ap ended_of comes.others ∙ f.unended;
        same = record {
          offset = ap offset_of comes.others ∙ f.same.offset;
          limit = ap limit_of comes.others ∙ f.same.limit;
          terminator = ap terminator_of comes.others ∙ f.same.terminator;
          detection = ap detection_of comes.others ∙ f.same.detection;
        };
        rolled = comes.whole ∙ f.rolled ∙ sym (ap size_of comes.others);
        fits = omega (
          arith,
          length-append f.raw came.given,
          came.counted,
          came.fits,
          f.rolled,
          held-now,
          ap (λ l. length l) f.came,
          length-uncut D t f.raw none,
          ap size_of comes.others,
        );
        within = subst (λ w. IsWithin w.limit w.size) (sym comes.others) f.within;
        grows = grows-held old now made f.grows (ap size_of comes.others) (omega (arith, len));
        read = HasRead-more remaining step d d1 d2 r r1 r2 f.raw came.given f.read came.reads
            capacity;
      }

  -- what a fill says of the bytes that it appended
  pub record Outcome (old : BufferState) (d : DecoderState) (r : R) (new : BufferState)
      (d' : DecoderState) (r' : R) :
      Type 0 where
    pub keeps : KeepsInput remaining step old d r new d' r'
    pub reads : Fills remaining step old d r new d' r'
    pub ahead : has_quit new ≡ false → d'.mode ≡ Passing
        → TakesAtMost (remaining r) (remaining r') (length (held_bytes new)
        - length (held_bytes old) + runs_ahead d.mode)

  -- a buffer is cut exactly if the byte was among those that came
  cut-found : (old now : BufferState) (d d1 : DecoderState) (r r1 : R)
      → (f : IsFilling old d r now d1 r1) → has_quit now ≡ true → (is_quit old.detection ≡ true)
      × ((n : ℕ) × (found_in old.detection old.terminator f.raw ≡ Some n))
  cut-found old now d d1 r r1 f cut = grind arith

  stream-filled : (old now new : BufferState) (d d' : DecoderState) (r r' : R)
      → (f : IsFilling old d r now d' r') (after : Option (List ℕ))
      → held_bytes new ≡ held_bytes old ++ detected_bytes old.detection old.terminator f.raw
      → has_quit new ≡ has_quit now → new.detection ≡ old.detection
      → new.terminator ≡ old.terminator → Consumes (yet d (remaining r)) after f.raw
      → KeepsStream old new (yet d (remaining r)) after
  stream-filled old now new d d' r r' f after is cut same-d same-t gives =
      grind (arith, stream-moved, going-none, cut-found)

  pub IsFilling-outcome : (old now new : BufferState) (d d' : DecoderState) (r r' : R)
      → IsFilling old d r now d' r'
      → held_bytes new ≡ held_bytes now → IsSameBuffer now new → new.size ≡ now.size → new.binary
      ≡ now.binary → Outcome old d r new d' r'
  IsFilling-outcome old now new d d' r r' f whole same size binary =
      let is : held_bytes new ≡ held_bytes old ++ detected_bytes old.detection old.terminator
      f.raw =
      whole ∙ ap (λ l. l ++ now.rest) f.shown ∙ ap (λ l. held_bytes old ++ l) f.came in
      let cut : has_quit new ≡ has_quit now = rw (same.detection, binary) refl in
      let len : has_quit new ≡ false → length (held_bytes new) - length (held_bytes old)
      ≡ length f.raw =
      λ going.
      let full = length-uncut old.detection old.terminator f.raw
      (going-none old now d d' r r' f (sym cut ∙ going)) in
      rw (is, length-append) (omega (arith, full)) in
      record {
        keeps = record {
          same = record {
            offset = same.offset ∙ f.same.offset;
            limit = same.limit ∙ f.same.limit;
            terminator = same.terminator ∙ f.same.terminator;
            detection = same.detection ∙ f.same.detection;
          };
          within = rw (same.limit, size) f.within;
          grows = grows-held old now new f.grows size (omega (arith, ap (λ l. length l) whole));
          same_decoder = record { capacity = f.read.capacity; stays = f.read.stays };
          stream = stream-filled old now new d d' r r' f (yet d' (remaining r')) is cut
              (same.detection ∙ f.same.detection) (same.terminator ∙ f.same.terminator)
              f.read.gives;
        };
        reads = record {
          given = f.raw;
          appended = is;
          found = binary ∙ f.found;
          uncut = λ was. absurd (false≢true (sym f.uncut ∙ was));
          fits = λ some. omega (arith, f.fits, size);
          decodes = f.read.decodes;
        };
        ahead = λ going passing. rw (len going) (f.read.ahead passing);
      }

  -- without a read
  pub Outcome-none : (old : BufferState) (d : DecoderState) (r : R)
      → Decodes remaining step d r [] d r → IsWithin old.limit old.size → Outcome old d r old d r
  Outcome-none old d r none within = record {
    keeps = record {
      same = record { offset = refl; limit = refl; terminator = refl; detection = refl };
      within = within;
      grows = inl refl;
      same_decoder = record { capacity = refl; stays = λ settled. refl };
      stream = Keeps-same (stream old (yet d (remaining r)));
    };
    reads = record {
      given = [];
      appended = sym (ap (λ l. held_bytes old ++ l)
          (detected_bytes-nil old.detection old.terminator) ∙ append-nil (held_bytes old));
      found = sym (ap (λ o. first_of old.binary
          (option_map (λ i. old.offset + length (held_bytes old) + i) o))
          (found-nil old.detection old.terminator) ∙ first_of-none old.binary);
      uncut = λ was. refl;
      fits = λ some. absurd (omega (arith, some));
      decodes = none;
    };
    ahead = λ going passing. ([], omega arith, Consumes-nil (remaining r));
  }

  -- the bytes that are held are moved to the front, and all of them are shown
  pub Fills-none : (old rolled new : BufferState) (d : DecoderState) (r : R) (free : ℕ)
      → Decodes remaining step d r [] d r
      → rolled ≡ record old { shown = held_bytes old; rest = []; free = free }
      → new ≡ record rolled {
        shown = held_bytes rolled;
        rest = [];
        has_ended = true;
      } → Fills remaining step old d r new d r
  Fills-none old rolled new d r free none moved ended =
      grind (arith, append-nil, detected_bytes-nil, binary_of, found-nil, first_of-none)

  -- once nothing more can be read
  pub IsFilling-stopped : (old now new : BufferState) (d d' : DecoderState) (r r' : R)
      → IsFilling old d r now d' r' → new ≡ now → Outcome old d r new d' r'
  IsFilling-stopped old now new d d' r r' f is = subst (λ w. Outcome old d r w d' r') (sym is)
      (IsFilling-outcome old now now d d' r r' f refl
      (record { offset = refl; limit = refl; terminator = refl; detection = refl }) refl refl)

  -- once lines are shown
  pub IsFilling-shown : (old now new : BufferState) (d d' : DecoderState) (r r' : R) (count : ℕ)
      → IsFilling old d r now d' r' → ShowsLine now new count → Outcome old d r new d' r'
  IsFilling-shown old now new d d' r r' count f shows = IsFilling-outcome old now new d d' r r' f
      shows.whole
      (record {
        offset = ap offset_of shows.others;
        limit = ap limit_of shows.others;
        terminator = ap terminator_of shows.others;
        detection = ap detection_of shows.others;
      }) (ap size_of shows.others) (ap binary_of shows.others)

  -- once the end was seen
  pub IsFilling-ended : (old now new : BufferState) (d d' : DecoderState) (r r' : R)
      → IsFilling old d r now d' r'
      → new ≡ record now {
        shown = held_bytes now;
        rest = [];
        has_ended = true;
      } → Outcome old d r new d' r'
  IsFilling-ended old now new d d' r r' f is = IsFilling-outcome old now new d d' r r' f
      (ap (λ w. held_bytes w) is ∙ append-nil (held_bytes now))
      (record {
        offset = ap offset_of is;
        limit = ap limit_of is;
        terminator = ap terminator_of is;
        detection = ap detection_of is;
      }) (ap size_of is) (ap binary_of is)

  -- a fill that ends in the reader's error
  pub record ReadFault (old : BufferState) (d : DecoderState) (r : R) (e : Error)
      (new : BufferState)
      (d' : DecoderState) (r' : R) : Type 0 where
    pub keeps : KeepsInput remaining step old d r new d' r'
    pub read : ReadFails remaining step e old d r new d' r'
    pub line : HasNoLine old new
    pub room : length (held_bytes new) < new.size
    pub unended : new.has_ended ≡ false

  pub HasNone-fault : (old now new : BufferState) (d d1 d2 : DecoderState) (r r1 r2 : R) (e : Error)
      → HasNone old d r now d1 r1 → FailsToRead remaining step d1 r1 e d2 r2 → 0 < now.free
      → d2.capacity ≡ d1.capacity → new ≡ now → ReadFault old d r e new d2 r2
  HasNone-fault old now new d d1 d2 r r1 r2 e before failed some capacity is =
      let f = before.filling in
      let appended : held_bytes now ≡ held_bytes old ++ detected_bytes old.detection old.terminator
      f.raw =
      ap (λ l. l ++ now.rest) f.shown ∙ ap (λ l. held_bytes old ++ l) f.came in
      let out = HasRead-failed remaining step d d1 d2 r r1 r2 f.raw e f.read failed capacity in
      subst (λ w. ReadFault old d r e w d2 r2) (sym is) (record {
        keeps = record {
          same = f.same;
          within = f.within;
          grows = f.grows;
          same_decoder = record { capacity = out.capacity; stays = out.stays };
          stream = stream-filled old now now d d1 r r1 f _ appended refl f.same.detection
              f.same.terminator out.gives;
        };
        read = record {
          fails = record {
            mid = out.after.mid;
            fills = record {
              given = f.raw;
              appended = appended;
              found = f.found;
              uncut = λ was. absurd (false≢true (sym f.uncut ∙ was));
              fits = λ some. f.fits;
              decodes = out.after.decodes;
            };
            unended = out.after.unended;
            failed = out.after.failed;
          };
          fault = reads-fail remaining step _ _ _ _ _ _ _ _ f.read.decodes failed.failed;
          uncut = before.going;
          waiting = failed.waiting;
        };
        line = record { shown = f.shown; none = before.none; unended = f.unended };
        room = omega (arith, f.rolled);
        unended = f.unended;
      })

  -- a fill that succeeds, after its last read
  pub HasNone-shown : (old now new : BufferState) (d d1 d2 : DecoderState) (r r1 r2 : R)
      (given : List ℕ) → HasNone old d r now d1 r1 → 0 < now.free
      → Reads remaining step d1 r1 given d2 r2 → Outcome old d r new d2 r2 → IsFilled old new
      → new.offset + length (held_bytes new) < 2 ^ 64 → HasShown remaining step old d r new d2 r2
  HasNone-shown old now new d d1 d2 r r1 r2 given before some reads out shows fits = record {
    shows = shows;
    fits = fits;
    begins = λ _ _. HasNone-begun old now d d1 r r1 r2 before some reads.begins reads.last;
    last = HasNone-waited old now d d1 r r1 r2 before some reads.last;
    ahead = out.ahead;
    settled = λ _ _. reads.settled;
  }

  -- what is shown at the end
  pub HasNone-end : (old now next new : BufferState) (d d1 d2 : DecoderState) (r r1 r2 : R)
      (count : ℕ) → HasNone old d r now d1 r1
      → Appends remaining step count now d1 r1 next d2 r2 → count ≡ 0 → 0 < now.free
      → new ≡ record next {
        shown = held_bytes next;
        rest = [];
        has_ended = true;
      } → IsFilled old new
  HasNone-end old now next new d d1 d2 r r1 r2 count before came zero some is =
      grind (arith, nil_from_length, rest_of, append-nil, free_of, shown_of, drop_at, size_of)

  -- the end of such a read, which gave none
  pub IsFilling-none : (old now next : BufferState) (d d1 d2 : DecoderState) (r r1 r2 : R)
      (count : ℕ)
      → HasNone old d r now d1 r1 → Appends remaining step count now d1 r1 next d2 r2 → count ≡ 0
      → d2.capacity ≡ d1.capacity → IsFilling old d r next d2 r2
  IsFilling-none old now next d d1 d2 r r1 r2 count before came zero capacity =
      let empty : came.given ≡ [] = nil_from_length came.given (came.counted ∙ zero) in
      let rest : next.rest ≡ now.rest ++ detected_bytes now.detection now.terminator came.given =
      ap rest_of came.appended
      ∙ ap (λ l. now.rest ++ l) (empty ∙ sym (detected_bytes-nil now.detection now.terminator)
      ∙ ap (detected_bytes now.detection now.terminator) (sym empty)) in
      let found : next.binary
      ≡ first_of now.binary (option_map (λ i. now.offset + length (held_bytes now) + i)
      (found_in now.detection now.terminator came.given)) =
      ap binary_of came.appended ∙ sym (first_of-none now.binary)
      ∙ ap (λ o. first_of now.binary (option_map (λ i. now.offset + length (held_bytes now) + i) o))
      (sym (found-nil now.detection now.terminator) ∙ ap (found_in now.detection now.terminator)
      (sym empty)) in
      let len : length (now.shown ++ (now.rest ++ came.given)) ≡ length (held_bytes now) =
      ap (λ l. length (now.shown ++ (now.rest ++ l))) empty ∙ ap (λ l. length (now.shown ++ l))
      (append-nil now.rest) in
      IsFilling-more old now next next d d1 d2 r r1 r2 count before came (record {
        rest = rest;
        binary = found;
        whole = ap (λ w. w.free + length (held_bytes w)) came.appended ∙ (omega (arith, len, zero));
        others = same-next came.appended;
      }) capacity
    where
      same-next : next ≡ record now { rest = now.rest ++ came.given; free = now.free - count }
          → next ≡ record now { rest = next.rest; free = next.free; binary = next.binary }
      same-next is = subst (λ w. w ≡ record now {
        rest = w.rest;
        free = w.free;
        binary = w.binary;
      }) (sym is) refl

  -- what is shown once a byte ended the input
  pub IsFilling-byte : (old now new : BufferState) (d d' : DecoderState) (r r' : R)
      → IsFilling old d r now d' r' → has_quit now ≡ true
      → length (held_bytes now) < now.size → new ≡ record now {
        shown = held_bytes now;
        rest = [];
        has_ended = true;
      } → IsFilled old new
  IsFilling-byte old now new d d' r r' f cut room is = grind arith

  -- if the input isn't cut, detection keeps the number of bytes
  pub Comes-counted : (old now made : BufferState) (d d1 d2 : DecoderState) (r r1 r2 : R)
      (count : ℕ) (given : List ℕ)
      → HasNone old d r now d1 r1 → Comes count now given made → length given ≡ count
      → has_quit made ≡ false → length (detected_bytes now.detection now.terminator given) ≡ count
  Comes-counted old now made d d1 d2 r r1 r2 count given before comes counted going =
      grind (arith, length-uncut, first-missing, uncut-none, detection_of)

  -- what is shown once a line ended
  pub IsFilling-line : (old now made new : BufferState) (d d1 d2 : DecoderState) (r r1 r2 : R)
      (count : ℕ) (given : List ℕ)
      → HasNone old d r now d1 r1 → Comes count now given made → length given ≡ count
      → has_quit made ≡ false
      → IsFilling old d r made d2 r2 → ShowsLine made new count → IsFilled old new
  IsFilling-line old now made new d d1 d2 r r1 r2 count given before comes counted going f shows =
      let kept = Comes-counted old now made d d1 d2 r r1 r2 count given before comes counted
      going in
      let len : length (held_bytes made) ≡ length (held_bytes old) + (length now.rest + count) =
      ap (λ l. length (l ++ made.rest)) f.shown ∙ length-append (held_bytes old) made.rest
      ∙ ap (λ l. length (held_bytes old) + length l) comes.rest
      ∙ ap (λ n. length (held_bytes old) + n)
      (length-append now.rest (detected_bytes now.detection now.terminator given))
      ∙ ap (λ n. length (held_bytes old) + (length now.rest + n)) kept in
      inl (record {
        came = omega (arith, len, shows.reached);
        ends = subst (λ t. EndsWith t new.shown) f.same.terminator shows.ends;
        none = subst (λ t. Lacks t new.rest) f.same.terminator shows.none;
        unended = ap ended_of shows.others ∙ f.unended;
      })

  -- it goes on if no line ended
  pub HasNone-more : (old now made new : BufferState) (d d1 d2 : DecoderState) (r r1 r2 : R)
      (count : ℕ) (given : List ℕ)
      → HasNone old d r now d1 r1 → Comes count now given made → length given ≡ count
      → has_quit made ≡ false → IsFilling old d r made d2 r2
      → Lacks made.terminator (drop (length made.rest - count) made.rest) → made.offset
      + length (held_bytes made) < 2 ^ 64
      → new ≡ made → (HasReadNothing d → HasWaitedForLine remaining step old d r r2)
      → (r2 ≡ r) ⊎ HasWaitedForLine remaining step old d r r2 → HasNone old d r new d2 r2
  HasNone-more old now made new d d1 d2 r r1 r2 count given before comes counted going f lacks
      offset is begun waited =
      let kept = Comes-counted old now made d d1 d2 r r1 r2 count given before comes counted
      going in
      let last = subst (λ t. Lacks t (drop (length made.rest - count) made.rest)) f.same.terminator
      lacks in
      subst (λ w. HasNone old d r w d2 r2) (sym is) (record {
        filling = f;
        none = Lacks-more old.terminator count now.rest
            (detected_bytes now.detection now.terminator given) made.rest
            comes.rest kept before.none last;
        offset = offset;
        going = going;
        begun = λ nothing. inr (begun nothing);
        waited = waited;
      })

  -- an offset would be above 2^64 - 1
  pub IsFilling-past : (old now next : BufferState) (d d1 d2 : DecoderState) (r r1 r2 : R)
      → HasNone old d r now d1 r1 → IsFilling old d r next d2 r2
      → 2 ^ 64 ≤ next.offset + length (held_bytes next) → PassesOffsets old next
  IsFilling-past old now next d d1 d2 r r1 r2 before f past = grind (arith, length-append)

  -- a full buffer that can't grow
  pub HasNone-full : (old now new : BufferState) (d d1 : DecoderState) (r r1 : R) (e : FillError)
      → HasNone old d r now d1 r1
      → new ≡ now → now.free ≡ 0 → IsFullFault now.limit now.size e → FillFails old new e
  HasNone-full old now new d d1 r r1 HeapLimit before is none fault = grind arith
  HasNone-full old now new d d1 r r1 Memory before is none fault = grind arith
  HasNone-full old now new d d1 r r1 Offset before is none fault = absurd fault
  HasNone-full old now new d d1 r r1 (Read e) before is none fault = absurd fault
