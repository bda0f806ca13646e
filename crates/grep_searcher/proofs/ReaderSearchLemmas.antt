-- A search of whole contents, by how it looks for a binary byte, and the searches of a reader by
-- line and across lines.
use Rattle.grep_searcher.specs.SearchBuffers.{IsMadeOf}
use Rattle.grep_decode.specs.DecoderStates.{DecoderState, Decodes, IsDone, IsWaiting, started}
use Rattle.grep_decode.specs.Source.{ReadResult}
use Rattle.grep_definitions.proofs.FrontLemmas.{front-whole}
use Rattle.grep_definitions.proofs.PlannedReaderLemmas.{contents-read}
use Rattle.grep_definitions.proofs.PlannedStreamLemmas.{undetected-read}
use Rattle.grep_definitions.specs.Plans.{is_across, Steps, Settings, SearcherState}
use Rattle.grep_definitions.specs.Searches.{in_contents, look_at, nowhere, on_stream, look_of}
use Rattle.grep_definitions.specs.Searches.{view_in, IsInput, CutsContents, IsBelowLimit, of_full}
use Rattle.grep_definitions.specs.Searches.{of_no_memory, IsReaderSearch, IsSeenOf, Look, IsRead}
use Rattle.grep_definitions.specs.Searches.{IsUnread, of_contents, of_failed_read}
use Rattle.grep_definitions.specs.SliceSearches.{IsContentsSearch}
use Rattle.grep_line_buffer.specs.Contents.{IsBelow, ContentsFail, FailsAfter}
use Rattle.grep_line_buffer.specs.Fills.{IfRead, UnlessRead}
use Rattle.grep_line_buffer.specs.declared.fill_error.FillError.{FillError}
use Rattle.grep_line_buffer.specs.declared.fill_error.FillError.TheVariants.{Read, HeapLimit}
use Rattle.grep_line_buffer.specs.declared.fill_error.FillError.TheVariants.{Offset, Memory}
use Rattle.grep_matcher.specs.Meanings.{MatcherFacts, Meaning}
use Rattle.grep_report.specs.ErrorMakers.{ErrorMakers}
use Rattle.grep_report.specs.declared.binary_detection.BinaryDetection.{BinaryDetection}
use Rattle.grep_report.specs.declared.binary_detection.BinaryDetection.TheVariants.{None as no_detection}
use Rattle.grep_report.specs.declared.binary_detection.BinaryDetection.TheVariants.{Quit, Convert}
use Rattle.std.proofs.Common.{◌≡◌, ℕ, Bool, true, false, List, Result, Ok, Err, refl, ap, sym}
use Rattle.std.proofs.Common.{subst, length, inl, Option, ◌≤◌, ◌∙◌, not, [], ◌++◌, arith}
use Rattle.std.proofs.Common.{append-nil, length-append}
use Rattle.std.specs.declared.io.Error.{Error}
use Rattle.grep_searcher.proofs.ReadingLemmas as reading

module _ {R : Type 0} (remaining : R → Option (List ℕ)) (read_step : R → ReadResult → R → Type 0)
    (state : SearcherState) {S E F : Type 0} (step : Steps S E) (errors : ErrorMakers F E)
    (matcher : MatcherFacts F)
    (reader : R) (old : S) (result : Result (Unit {0}) E) (reader' : R) (new : S) where
  -- a search across lines looks in whole contents, or nowhere
  pub read-across : is_across state.settings matcher.meaning ≡ true
      → IsRead remaining read_step step errors matcher state
      (look_at state.settings.binary_detection false) reader old result reader' new
      → IsRead remaining read_step step errors matcher state
      (look_of state.settings matcher.meaning false) reader old result reader' new
  read-across across searched =
      subst (λ m. IsRead remaining read_step step errors matcher state
      (look_at state.settings.binary_detection (not m)) reader old result reader' new) (sym across)
      searched

  -- a search by line looks on the stream, or nowhere
  pub read-by_line : is_across state.settings matcher.meaning ≡ false
      → IsRead remaining read_step step errors matcher state on_stream reader old result reader' new
      → IsRead remaining read_step step errors matcher state
      (look_of state.settings matcher.meaning false) reader old result reader' new
  read-by_line by_line searched =
      subst (λ m. IsRead remaining read_step step errors matcher state
      (look_at state.settings.binary_detection (not m)) reader old result reader' new) (sym by_line)
      (go state.settings.binary_detection refl)
    where
      go : (d : BinaryDetection) → state.settings.binary_detection ≡ d
          → IsRead remaining read_step step errors matcher state (look_at d true) reader old result
          reader' new
      go no_detection is = undetected-read _ _ step _ _ state is _ old _ _ new searched
      go (Quit b) is = searched
      go (Convert b) is = searched

-- why not all was read, by the error
module _ {R : Type 0} (remaining : R → Option (List ℕ)) (read_step : R → ReadResult → R → Type 0)
    (k : Settings)
    (reader reader' : R) (has_buffers : Bool) (meaning : Meaning) (across : is_across k meaning
    ≡ true) (given : List ℕ) (d d' : DecoderState) (start : d
    ≡ started d.capacity k.encoding k.bom_sniffing) where
  abbrev Unread : Error → Type 0
  Unread error =
      IsUnread remaining read_step (record {
        settings = k;
        has_buffers = has_buffers;
      }) meaning reader false [] error reader'

  -- there was no room for all of it
  unread-contents : {error : Error} → Decodes remaining read_step d reader given d' reader'
      → ((bytes : List ℕ) → length given ≤ length bytes → CutsContents k bytes error) → Unread error
  unread-contents decodes cut =
      let reads = subst (λ from. Decodes remaining read_step from reader given d' reader') start
      decodes in (
        reader',
        reading.taken k reads,
        of_contents across refl (λ bytes input.
            let text = reading.input-is k reads bytes input in
            cut bytes (omega (arith, ap length text.1, length-append given text.0))),
      )

  pub unread-read : (e : FillError) {error : Error} → IsMadeOf e error → (size : ℕ)
      → ContentsFail k.heap_limit size given e
      → UnlessRead {X = Unit {0}} (Err e) (Decodes remaining read_step d reader given d' reader')
      → IfRead {X = Unit {0}} (Err e) (λ io. FailsAfter remaining read_step io d reader given d'
      reader') → IfRead {X = Unit {0}} (Err e) (λ _. d'.ready ≡ [])
      → IfRead {X = Unit {0}} (Err e) (λ _. IsWaiting d'.mode d'.held) → Unread error
  unread-read (Read io) made size below reads fails ready waits =
      let fails' = subst (λ from. FailsAfter remaining read_step io from reader given d' reader')
      start fails in
      subst Unread (sym made) (
        fails'.mid,
        reading.taken k fails'.decodes,
        of_failed_read across (fails'.unended, fails'.failed) given
            (reading.decoded-so_far k fails'.decodes fails'.unended ready waits)
            (λ limit is. subst (λ l. IsBelow l (length given)) is below),
      )
  unread-read HeapLimit made size full reads fails ready waits =
      unread-contents reads (λ bytes enough. of_full (length given) full made enough)
  unread-read Offset made size never reads fails ready waits = absurd never
  unread-read Memory made size lacks reads fails ready waits =
      unread-contents reads (λ bytes enough. of_no_memory made)

-- all of it was read, and searched across lines
module _ {R : Type 0} {remaining : R → Option (List ℕ)} {read_step : R → ReadResult → R → Type 0}
    (k : Settings) {reader reader' : R} {given : List ℕ} {d d' : DecoderState} (start : d
    ≡ started d.capacity k.encoding k.bom_sniffing)
    (reads : Decodes remaining read_step d reader given d' reader') (done : IsDone d')
    (below : IsBelow k.heap_limit (length given)) where
  abbrev from-start : Decodes remaining read_step (started d.capacity k.encoding k.bom_sniffing)
      reader given d' reader'
  from-start = subst (λ from. Decodes remaining read_step from reader given d' reader') start reads

  given-is : (bytes : List ℕ) → IsInput k d'.has_ended from-start.pieces bytes → given ≡ bytes
  given-is bytes input =
      let text = reading.input-is k from-start bytes input in
      sym (text.1 ∙ (ap (λ xs. given ++ xs) (text.2 done) ∙ append-nil given))

  below-limit : IsBelowLimit k given
  below-limit limit is = subst (λ l. IsBelow l (length given)) is below

  module _ {S E F : Type 0} (step : Steps S E) (errors : ErrorMakers F E) (matcher : MatcherFacts F)
      (has_buffers : Bool) (old : S) (across : is_across k matcher.meaning ≡ true) where
    abbrev state : SearcherState
    state = record { settings = k; has_buffers = has_buffers }

    abbrev IsSearched : Look → Result (Unit {0}) E → S → Type 0
    IsSearched look =
        IsContentsSearch step errors matcher k look (is_across k matcher.meaning) given old

    contents-searched : (result : Result (Unit {0}) E) (new : S)
        → IsSearched (look_at k.binary_detection false) result new
        → IsReaderSearch remaining read_step step errors matcher state
        (look_at k.binary_detection false) reader old result reader' new
    contents-searched result new = go k.binary_detection
      where
        read : (look : Look) → view_in k look given ≡ given → IsSeenOf k look given given
            → IsSearched look result new
            → IsReaderSearch remaining read_step step errors matcher state look reader old result
            reader' new
        read look view front = contents-read remaining read_step step errors matcher state look
            across
            (reading.taken k from-start) done.ended given given-is below-limit view front result new

        go : (b : BinaryDetection) → IsSearched (look_at b false) result new
            → IsReaderSearch remaining read_step step errors matcher state (look_at b false) reader
            old result reader' new
        go no_detection = read nowhere refl (front-whole k given below-limit)
        go (Quit b) = read (in_contents b) refl refl
        go (Convert b) = read nowhere refl (front-whole k given below-limit)

    pub contents-read-all : (result : Result (Unit {0}) E) (new : S)
        → IsSearched (look_at k.binary_detection false) result new
        → IsRead remaining read_step step errors matcher state (look_at k.binary_detection false)
        reader old result reader' new
    contents-read-all (Ok u) new searched = contents-searched (Ok u) new searched
    contents-read-all (Err e) new searched = inl (contents-searched (Err e) new searched)
