-- Why a reader's input wasn't searched to its end: a fill of the line buffer failed.
use Rattle.std.proofs.Common.{◌≡◌, ◌≢◌, ℕ, ◌+◌, ◌<◌, ◌≤◌, Bool, false, true, List, [], ◌++◌, length}
use Rattle.std.proofs.Common.{Option, Some, None, Err, refl, sym, ◌∙◌, ap, subst, arith, ⊎_elim}
use Rattle.std.proofs.Common.{append_assoc, length-append}
use Rattle.std.proofs.lemmas.Bool.{cases_lt, false≢true}
use Rattle.std.specs.Prelude.{All, IfSome}
use Rattle.std.specs.declared.io.Error.{Error}
use Rattle.grep_decode.specs.DecoderStates.{DecoderState, Decodes, IsWaiting, started}
use Rattle.grep_decode.specs.Source.{ReadResult}
use Rattle.grep_line_buffer.specs.declared.fill_error.FillError.{FillError}
use Rattle.grep_line_buffer.specs.declared.fill_error.FillError.TheVariants.{Read, HeapLimit}
use Rattle.grep_line_buffer.specs.declared.fill_error.FillError.TheVariants.{Offset, Memory}
use Rattle.grep_line_buffer.specs.BufferStates.{BufferState, held_bytes, has_quit, GrowsIfFull}
use Rattle.grep_line_buffer.specs.BufferStates.{HasNoLine, IsSameBuffer, IsWithin}
use Rattle.grep_line_buffer.specs.Detections.{detected_bytes}
use Rattle.grep_line_buffer.specs.Fills.{FillFails, Fills, IfRead, ReadFails, UnlessRead}
use Rattle.grep_matcher.specs.Meanings.{Meaning}
use Rattle.grep_matcher.specs.Lines.{byte_of}
use Rattle.grep_definitions.specs.Plans.{is_at, Settings, SearcherState, Steps}
use Rattle.grep_definitions.specs.Searches.{before_quit, view_of, CutsShort, IsCrowded, IsCut}
use Rattle.grep_definitions.specs.Searches.{IsInput, StopsInLines, Taken, of_limit, of_lines}
use Rattle.grep_definitions.specs.Searches.{of_memory, of_offset, of_reader}
use Rattle.grep_walk.specs.declared.walk.Walk.{Walk}
use Rattle.grep_searcher.specs.Rolls.{IsRolling}
use Rattle.grep_searcher.specs.SearchBuffers.{IsFitting, IsMadeOf, least_size}
use Rattle.grep_definitions.proofs.FrontLemmas.{crowded}
use Rattle.grep_walk.specs.Origins.{Origin}
use Rattle.grep_line_buffer.proofs.BufferStateLemmas.{grown, unended-rest}
use Rattle.grep_searcher.proofs.ReadingLemmas as reading
use Rattle.grep_searcher.proofs.ReadingLemmas.{IsHeld, IsStream}
use Rattle.grep_searcher.proofs.RollingLemmas as rolls
use Rattle.grep_searcher.proofs.StreamViewLemmas.{as-unquit}
use Rattle.grep_line_buffer.proofs.InputViewLemmas.{before-kept}

-- a limit that isn't 0 is above it
limit-above : (limit : Option ℕ) (size : ℕ) → is_at 0 limit ≡ false → limit ≡ Some size → 0 < size
limit-above limit size allowed is = ⊎_elim (λ some. some)
    (λ none. let zero : size ≡ 0 = omega (arith, none) in
    absurd (false≢true (sym allowed ∙ (ap (is_at 0) (is ∙ ap Some zero))))) (cases_lt 0 size)

-- a buffer that may grow is as large as it was made, and its limit is above that
may-grow : (limit : Option ℕ) (size : ℕ) → least_size limit ≤ size → IsWithin limit size
    → (limit ≡ Some size → ⊥) → IfSome limit (λ most. 65536 < most) × (65536 ≤ size)
may-grow None size least within below = (tt, least)
may-grow (Some most) size least within below = ⊎_elim
    (λ above. (above, omega (arith, least, above)))
    (λ low. let same : most ≡ size = omega (arith, low, least, within) in absurd
    (below (ap Some same))) (cases_lt 65536 most)

module _ {R : Type 0} (remaining : R → Option (List ℕ)) (read_step : R → ReadResult → R → Type 0)
  where
    -- why an input wasn't searched to its end, and what was taken then
    pub record IsShort (state : SearcherState) (meaning : Meaning) (reader : R)
        (given seen : List ℕ) (reader' : R)
        (io : Error) : Type 0 where
      pub mid : R
      pub taken : Taken remaining read_step reader mid
      pub begins : (bytes : List ℕ) → IsInput state.settings taken.ended taken.pieces bytes
          → (later : List ℕ) × (bytes ≡ given ++ later)
      pub cause : IsCut remaining read_step state meaning reader mid reader' taken seen true io

    -- a fill of a buffer failed
    pub record HasNotFilled (k : Settings) (old : BufferState) (d : DecoderState) (r : R)
        (new : BufferState)
        (d' : DecoderState) (r' : R) (error : FillError) : Type 0 where
      pub fitting : IsFitting k.heap_limit (byte_of k.line_terminator) old
      pub allowed : is_at 0 k.heap_limit ≡ false
      pub same : IsSameBuffer old new
      pub grows : GrowsIfFull old new
      pub within : IsWithin new.limit new.size
      pub fails : FillFails old new error
      pub reads : UnlessRead {X = Bool} (Err error) (Fills remaining read_step old d r new d' r')
      pub read : IfRead {X = Bool} (Err error) (λ e. ReadFails remaining read_step e old d r new
          d' r')

module _ {R : Type 0} {remaining : R → Option (List ℕ)} {read_step : R → ReadResult → R → Type 0}
    {S E : Type 0}
    {step : Steps S E} {k : Settings} {meaning : Meaning} {decoder d : DecoderState} {reader r : R}
    {first : Origin S} {old : BufferState} {w : Walk} {now : S} (has_buffers : Bool)
    (stream : IsStream remaining read_step k meaning decoder)
    (so_far : IsRolling step k meaning remaining read_step decoder reader first old d r w now) where
  abbrev t : ℕ
  t = byte_of k.line_terminator

  abbrev seen : List ℕ
  seen = so_far.gone ++ old.shown

  abbrev IsShortTo : R → Error → Type 0
  IsShortTo reader' io = IsShort remaining read_step (record {
    settings = k;
    has_buffers = has_buffers;
  }) meaning reader so_far.given seen reader' io

  -- a fill that failed, after these bytes were given since the one before
  module _ {new : BufferState} {d' : DecoderState} {r' mid : R} {error : FillError}
      (fill : HasNotFilled remaining read_step k old d r new d' r' error)
      (fills : Fills remaining read_step old d r new d' mid) where
    abbrev given : List ℕ
    given = detected_bytes old.detection old.terminator fills.given

    abbrev raw : List ℕ
    raw = so_far.given ++ fills.given

    held-now : IsHeld remaining read_step k so_far.gone raw old new decoder d' reader mid
    held-now = record {
      holds = reading.held-next so_far.between.offset so_far.uncut so_far.holds fills;
      detects = so_far.detects;
      ends_at = fill.fitting.terminator;
      same = fill.same;
    }

    abbrev reads-now : Decodes remaining read_step
        (started decoder.capacity k.encoding k.bom_sniffing) reader raw d' mid
    reads-now = reading.reads stream held-now

    -- what is gone and held is what was seen, and the bytes after it
    seen-is : so_far.gone ++ held_bytes new ≡ seen ++ (old.rest ++ given)
    seen-is = ap (λ xs. so_far.gone ++ xs) (fills.appended ∙ append_assoc old.shown old.rest given)
        ∙ sym (append_assoc so_far.gone old.shown (old.rest ++ given))

    text-is : {bytes : List ℕ} (later : List ℕ) → bytes ≡ (so_far.gone ++ held_bytes new) ++ later
        → bytes ≡ seen ++ ((old.rest ++ given) ++ later)
    text-is later is = is
        ∙ (ap (λ xs. xs ++ later) seen-is ∙ append_assoc seen (old.rest ++ given) later)

    room-is : length (held_bytes new) ≡ length old.shown + length (old.rest ++ given)
    room-is = omega (
      arith,
      ap length fills.appended,
      length-append (held_bytes old) given,
      length-append old.shown old.rest,
      length-append old.rest given,
    )

    -- the bytes after it end no line
    unended-is : HasNoLine old new → All (λ b. b ≢ t) (old.rest ++ given)
    unended-is = unended-rest given fill.fitting.terminator fills.appended so_far.between.unfinished

    limit-is : new.limit ≡ k.heap_limit
    limit-is = fill.same.limit ∙ fill.fitting.limit

    -- a buffer that is full cuts an input short that goes on with what was given
    crowded-there : {bytes : List ℕ} (later : List ℕ) (least : ℕ) → HasNoLine old new
        → bytes ≡ (so_far.gone ++ held_bytes new) ++ later
        → length (held_bytes new) ≡ new.size → 0 < least → least ≤ new.size
        → IsCrowded k meaning bytes seen least
    crowded-there later least no_line is full some enough = rw (text-is later is)
        (crowded k _ _ _ _ later least so_far.between.opens so_far.between.shut
        (rolls.unreported-shown so_far.between) (unended-is no_line)
        (omega (arith, so_far.between.few)) some (omega (arith, enough, full, room-is)))

    -- the buffer's error does
    cuts-short : (error : FillError) {io : Error} → IsMadeOf error io → FillFails old new error
        → ((e : Error) → error ≡ Read e → ⊥)
        → {bytes : List ℕ} (later : List ℕ) → bytes ≡ (so_far.gone ++ held_bytes new) ++ later
        → CutsShort k meaning bytes seen io
    cuts-short (Read e) made fails other later is = absurd (other e refl)
    cuts-short HeapLimit made (no_line, at) other later is =
        let limit = sym limit-is ∙ at.limit in
        of_limit new.size limit made
        (crowded-there later _ no_line is at.full (limit-above _ _ fill.allowed limit)
        (omega arith))
    cuts-short Offset made fails other later is = of_offset made (omega (
      arith,
      fails.past,
      fill.same.offset,
      so_far.between.offset,
      ap length is,
      length-append (so_far.gone ++ held_bytes new) later,
      length-append so_far.gone (held_bytes new),
    ))
    cuts-short Memory made (no_line, may) other later is =
        let large = may-grow _ _ (grown old new fill.grows fill.fitting.size)
        (subst (λ m. IsWithin m new.size) limit-is fill.within) (λ is. may.limit (limit-is ∙ is)) in
        of_memory made large.0 (crowded-there later 65536 no_line is may.full (omega arith) large.1)

    -- what is gone and held is the front of the view of every input that begins with what was given
    -- so far, also before a byte that ends the search. It holds none
    stops : StopsInLines remaining read_step (record {
      settings = k;
      has_buffers = has_buffers;
    }) meaning reader mid r' (reading.taken k reads-now) seen
    stops = (
      stream.by_line,
      as-unquit k.binary_detection _ ∙ before-kept _ seen _ (sym (as-unquit k.binary_detection _)
          ∙ (ap (before_quit k.binary_detection) (sym seen-is)
          ∙ (reading.unquit-held held-now ∙ seen-is))),
      λ bytes input.
          let text = reading.front-is k reads-now (view_of k) _
          (reading.fronts-there held-now) bytes input in
          rolls.goes-on so_far.between _ (text-is _ text.1),
    )

    begins-to : (bytes : List ℕ) → IsInput k d'.has_ended reads-now.pieces bytes
        → (later : List ℕ) × (bytes ≡ so_far.given ++ later)
    begins-to bytes input =
        let text = reading.input-is k reads-now bytes input in
        (fills.given ++ text.0, text.1 ∙ append_assoc so_far.given fills.given text.0)

    -- the reader's own error
    short-read : {e : Error} → has_quit new ≡ false → HasNoLine old new → length (held_bytes new)
        < new.size → d'.has_ended ≡ false
        → read_step mid (Err e) r' → d'.ready ≡ [] → IsWaiting d'.mode d'.held → IsShortTo r' e
    short-read uncut no_line room unended failed ready waits =
        let decoded = reading.decoded-so_far k reads-now unended ready waits in
        let shows = reading.view-there held-now uncut in
        let unquit = reading.unquit-held held-now in
        record {
          mid = mid;
          taken = reading.taken k reads-now;
          begins = begins-to;
          cause = of_reader stops (unended, failed) raw (record {
            none = decoded.none;
            all = decoded.all;
          })
              (record {
                rest = old.rest ++ given;
                whole = shows ∙ seen-is;
                unended = unended-is no_line;
                room = λ limit is. omega (
                  arith,
                  subst (λ m. IsWithin m new.size) (limit-is ∙ is) fill.within,
                  room,
                  room-is,
                );
                unquit = ap (before_quit k.binary_detection) shows ∙ (unquit ∙ sym shows);
              });
        }

  -- the buffer's own error
  short-by : (error : FillError) {io : Error} {new : BufferState} {d' : DecoderState} {r' : R}
      → IsMadeOf error io → ((e : Error) → error ≡ Read e → ⊥)
      → HasNotFilled remaining read_step k old d r new d' r' error
      → Fills remaining read_step old d r new d' r' → IsShortTo r' io
  short-by error {new} {r'} made other fill fills = record {
    mid = r';
    taken = reading.taken k (reads-now fill fills);
    begins = begins-to fill fills;
    cause = of_lines (stops fill fills) refl (λ bytes input.
        let before = reading.front-is k (reads-now fill fills)
        (λ xs. before_quit k.binary_detection (view_of k xs))
        _ (reading.before-there (held-now fill fills)) bytes input in
        cuts-short fill fills error made fill.fails other _ before.1);
  }

  pub short-filled : (error : FillError) {io : Error} {new : BufferState} {d' : DecoderState}
      {r' : R} → IsMadeOf error io → HasNotFilled remaining read_step k old d r new d' r' error
      → IsShortTo r' io
  short-filled (Read e) {r'} made fill = subst (IsShortTo r') (sym made)
      (short-read fill fill.read.fails.fills fill.read.uncut fill.fails.0 fill.fails.1
      fill.read.fails.unended fill.read.fails.failed fill.read.waiting.empty
      fill.read.waiting.waits)
  short-filled HeapLimit made fill = short-by _ made (λ e is. cc) fill fill.reads
  short-filled Offset made fill = short-by _ made (λ e is. cc) fill fill.reads
  short-filled Memory made fill = short-by _ made (λ e is. cc) fill fill.reads
