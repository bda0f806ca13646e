-- A search of a reader, fill by fill of a line buffer: `gone` are the bytes that were moved past.
-- The contracts of private functions cite these definitions; no public contract does.
use Rattle.std.specs.Prelude.{◌≡◌, ◌⊎◌, ℕ, ◌+◌, ◌-◌, ◌<◌, ◌≤◌, ◌^◌, ◌&&◌, Bool, true, false, Ok}
use Rattle.std.specs.Prelude.{List, [], ◌++◌, length, take, drop, All, Option, Some, None, ◌∷◌, min}
use Rattle.std.specs.List.{concat}
use Rattle.grep_decode.specs.DecoderStates.{DecoderState}
use Rattle.grep_decode.specs.Source.{ReadResult}
use Rattle.grep_line_buffer.specs.BufferStates.{BufferState, has_quit, Lacks}
use Rattle.grep_searcher.specs.HeldViews.{HoldsGiven}
use Rattle.grep_matcher.specs.Lines.{byte_of, lines}
use Rattle.grep_matcher.specs.Meanings.{Meaning, MatcherFacts}
use Rattle.grep_definitions.specs.SinkRuns.{IsMadeTo}
use Rattle.grep_definitions.specs.Plans.{counted, line_plan, reports_end, search_plan, AreMade}
use Rattle.grep_definitions.specs.Plans.{Finish, Planned, begins, binary_data, Steps, Outcome}
use Rattle.grep_definitions.specs.Plans.{all_true, planned, Settings}
use Rattle.grep_definitions.specs.Searches.{binary_of, is_detecting, on_stream, view_of}
use Rattle.grep_definitions.specs.Searches.{BinaryPoint, plan_with, quits, IsCutAt, IsPoint}
use Rattle.grep_definitions.specs.Searches.{IsInput, IsClosed, IsFront, IsTooLong, Taken}
use Rattle.grep_definitions.specs.Searches.{IsReadForLine, reports_nothing, reads_lines}
use Rattle.grep_definitions.specs.Searches.{encoding_of}
use Rattle.grep_report.specs.ErrorMakers.{ErrorMakers}
use Rattle.grep_searcher.specs.BinaryCalls.{Noted}
use Rattle.grep_walk.specs.declared.walk.Walk.{Walk}
use Rattle.grep_walk.specs.WalkFaults.{IsWalkFault}
use Rattle.grep_searcher.specs.SearchBuffers.{detection_of}
use Rattle.grep_walk.specs.Windows.{HasSearched}
use Rattle.grep_walk.specs.Origins.{Origin, fresh, AreMadeFrom, IsMadeToFrom}

-- how far a walk is into the bytes that a buffer shows
abbrev pub start_in : BufferState → Walk → ℕ
start_in buffer w = w.offset - buffer.offset

-- no lines come after the bytes that are shown: the walk is at their end, or they are unterminated
abbrev pub IsLast : ℕ → List ℕ → ℕ → Type 0
IsLast t shown start = (start ≡ length shown) ⊎ (IsClosed t shown → ⊥)

module _ {S E : Type 0} (step : Steps S E) (settings : Settings) (meaning : Meaning) where
  -- a walk is at `start` of the bytes that are shown, whatever comes after them
  abbrev pub IsInShown : List ℕ → List ℕ → ℕ → Origin S → Walk → S → Type 0
  IsInShown gone shown start first w now =
      (after : List ℕ) → (0 < length after → IsClosed (byte_of settings.line_terminator) shown)
      → HasSearched step settings meaning gone shown (gone ++ (shown ++ after)) first start w now

  -- a walk has passed the bytes that are shown, whatever is shown with them next
  abbrev pub IsNext : List ℕ → List ℕ → Origin S → Walk → S → Type 0
  IsNext gone shown first w now =
      (more : List ℕ) → IsInShown gone (shown ++ more) (length shown) first w now

  -- the calls were counted for an input
  abbrev pub IsCountedFor : Origin S → List ℕ → ℕ → Outcome E → S → Type 0
  IsCountedFor first input count outcome new =
      IsMadeToFrom step settings first (line_plan settings meaning input) outcome
      (counted count) new

  -- a search in which no line may be reported has read nothing yet, and looks for a binary byte
  pub record IsIdle (gone : List ℕ) (buffer : BufferState) (first : Origin S) (now : S) : Type 0
    where
      pub none : gone ++ buffer.shown ≡ []
      pub detecting : is_detecting settings.binary_detection ≡ true
      pub begun : AreMadeFrom step settings first (planned begins 0 ∷ []) all_true now

  -- between two fills
  pub record IsBetween (gone : List ℕ) (buffer : BufferState) (first : Origin S) (w : Walk)
      (now : S) : Type 0 where
    pub opens : IsClosed (byte_of settings.line_terminator) gone
    pub shut : IsClosed (byte_of settings.line_terminator) buffer.shown
    pub unfinished : Lacks (byte_of settings.line_terminator) buffer.rest
    pub offset : buffer.offset ≡ length gone
    pub unended : buffer.has_ended ≡ false
    pub few : length (lines (byte_of settings.line_terminator) buffer.shown)
        ≤ min settings.before_context (w.line - w.next_unreported)
    pub fits : (limit : ℕ) → settings.heap_limit ≡ Some limit
        → All (λ line. IsTooLong (byte_of settings.line_terminator) limit line → ⊥)
        (lines (byte_of settings.line_terminator) (gone ++ buffer.shown))
    pub at : w.offset ≡ length gone + length buffer.shown
    pub next : reports_nothing settings ≡ false → IsNext gone buffer.shown first w now
    pub idle : reports_nothing settings ≡ true → IsIdle gone buffer first now

  -- a walk went to the end of what a buffer shows, which are whole lines, and the buffer moved past
  -- some of them, and may have become larger
  pub record HasMovedOn (old : BufferState) (w : Walk) (now : S) (new : BufferState) (w' : Walk)
      (now' : S) : Type 0 where
    pub count : ℕ
    pub within : count ≤ length old.shown
    pub some : start_in old w < length old.shown
    pub at : w'.offset ≡ old.offset + length old.shown
    pub below : w'.offset < 2 ^ 64
    pub moved : new ≡ record old {
      shown = drop count old.shown;
      offset = old.offset + count;
      size = new.size;
      free = new.free;
    }
    pub closed : IsClosed (byte_of settings.line_terminator) old.shown
    pub few : length (lines (byte_of settings.line_terminator) (drop count old.shown))
        ≤ min settings.before_context (w'.line - w'.next_unreported)
    pub next : (gone : List ℕ) (first : Origin S) → IsClosed (byte_of settings.line_terminator) gone
        → IsInShown gone old.shown (start_in old w) first w now
        → IsClosed (byte_of settings.line_terminator) (gone ++ take count old.shown)
        × IsNext (gone ++ take count old.shown) (drop count old.shown) first w' now'

  -- the search ended within what a buffer shows, or nothing comes after it
  pub record HasEnded (old : BufferState) (w : Walk) (now : S) (w' : Walk) (now' : S) : Type 0 where
    pub outcome : Outcome E
    pub low : w.offset ≤ w'.offset
    pub high : w'.offset ≤ old.offset + length old.shown
    pub counted : (gone : List ℕ) (first : Origin S) → IsClosed (byte_of settings.line_terminator)
        gone
        → IsInShown gone old.shown (start_in old w) first w now
        → (after : List ℕ) → (0 < length after
        → IsClosed (byte_of settings.line_terminator) old.shown)
        → (IsLast (byte_of settings.line_terminator) old.shown (start_in old w) → after ≡ [])
        → IsCountedFor first (gone ++ (old.shown ++ after)) w'.offset outcome now'

  -- the search ended within what a buffer shows in this error, the sink's or the matcher's,
  -- whatever comes after that
  abbrev pub FailsInShown : {F : Type 0} → ErrorMakers F E → MatcherFacts F → BufferState → Walk → S
      → E → S → Type 0
  FailsInShown errors matcher old w now e now' =
      (gone : List ℕ) (first : Origin S)
      → IsInShown gone old.shown (start_in old w) first w now
      → (after : List ℕ) → (0 < length after
      → IsClosed (byte_of settings.line_terminator) old.shown)
      → IsWalkFault step errors matcher settings (gone ++ (old.shown ++ after)) first e now'

  module _ {R : Type 0} (remaining : R → Option (List ℕ))
      (read_step : R → ReadResult → R → Type 0) where
    -- a search that reads on: what is gone and what is held is what detection makes of the bytes
    -- that were given since its start, and they hold no byte that ends it
    pub record IsRolling (decoder : DecoderState) (reader : R) (first : Origin S) (buffer :
        BufferState)
        (decoder' : DecoderState)
        (reader' : R) (w : Walk) (now : S) : Type 0 where
      pub gone : List ℕ
      pub given : List ℕ
      pub between : IsBetween gone buffer first w now
      pub holds : HoldsGiven remaining read_step gone buffer.detection buffer.terminator buffer
          decoder reader given
          decoder' reader'
      pub detects : buffer.detection ≡ detection_of settings.binary_detection
      pub uncut : has_quit buffer ≡ false

    -- A reader's input of which so much was taken, and these lines were seen, at least so many
    -- bytes. Each input begins with what was given; if no binary byte was found, the lines that
    -- were seen hold none.
    pub record HasSeen (reader : R) (given : List ℕ) (found : Option ℕ) (low : ℕ)
        (reader' : R) : Type 0 where
      pub taken : Taken remaining read_step reader reader'
      pub seen : List ℕ
      pub within : low ≤ length seen
      pub begins : (bytes : List ℕ) → IsInput settings taken.ended taken.pieces bytes
          → (later : List ℕ) × (bytes ≡ given ++ later)
      pub front : (bytes : List ℕ) → IsInput settings taken.ended taken.pieces bytes
          → IsFront settings (view_of settings bytes) seen
      pub clear : found ≡ None → (bytes : List ℕ)
          → IsInput settings taken.ended taken.pieces bytes
          → binary_of settings (take (length seen) bytes) ≡ None

    -- a walk over the lines that were seen of such an input came to its end with this count
    pub record HasCounted (reader : R) (first : Origin S) (given : List ℕ) (found : Option ℕ) (count
        : ℕ)
        (reader' : R) (new : S) : Type 0 where
      pub input : HasSeen reader given found count reader'
      pub outcome : Outcome E
      pub over_seen : IsCountedFor first input.seen count outcome new
      pub all : (bytes : List ℕ) → IsInput settings input.taken.ended input.taken.pieces bytes
          → outcome ≡ all_true
          → reports_end settings meaning (view_of settings bytes)
          ≤ length (lines (byte_of settings.line_terminator) input.seen)
      pub ahead : (limit : ℕ) → settings.heap_limit ≡ Some limit
          → encoding_of settings (concat input.taken.pieces) ≡ None
          → length (concat input.taken.pieces) ≤ count + limit + 3

    -- or it ended in the sink's error or in the matcher's
    pub record HasFailed {F : Type 0} (errors : ErrorMakers F E) (matcher : MatcherFacts F)
        (reader : R) (first : Origin S) (given : List ℕ) (found : Option ℕ) (low : ℕ) (e : E)
        (reader' : R) (new : S) : Type 0 where
      pub input : HasSeen reader given found low reader'
      pub over_seen : IsWalkFault step errors matcher settings input.seen first e new

    -- a search of a reader begins. It reads nothing unless `begin` returned true and it reads
    -- lines, and fills the buffer once if it may report nothing
    pub record HasStarted (reader : R) (old : S) (reader' : R) : Type 0 where
      pub begun : Bool
      pub first : S
      pub begin : step old settings begins (Ok begun) first
      pub unread : (begun && reads_lines settings) ≡ false → reader' ≡ reader
      pub once : (begun && reads_lines settings) ≡ true → reports_nothing settings ≡ true
          → IsReadForLine remaining read_step settings reader reader'

-- `binary_data` was called in the midst of a search, which went on from the state after it
module _ {S E : Type 0} (step : Steps S E) (settings : Settings) (meaning : Meaning) where
  -- Of each input that begins with what was given, these lines were seen when the byte was found,
  -- at most so many bytes. Their calls had been made, and all returned true, as `binary_data` did:
  -- so the walk goes on from the state after it, before which those calls were made.
  pub record HasPassedByte (given : List ℕ) (at : ℕ) (old : S) (offset : ℕ) (next : Origin S)
      : Type 0 where
    pub seen : List ℕ
    pub mid : S
    pub before : AreMade step settings old (line_plan settings meaning seen).calls all_true mid
    pub call : step mid settings (binary_data offset) (Ok true) next.state
    pub goes_on : quits settings.binary_detection ≡ false
    pub made : next.before ≡ (line_plan settings meaning seen).calls
    pub passed : length seen ≤ at
    pub cut : (later : List ℕ) → IsCutAt settings meaning (given ++ later) seen offset

  -- or it wasn't
  pub data IsStartAt (given : List ℕ) (at : ℕ) (old : S) (next : Origin S) : Option ℕ → Type 0 where
    not_passed : next ≡ fresh old → IsStartAt given at old next None
    was_passed : (offset : ℕ) → HasPassedByte given at old offset next
        → IsStartAt given at old next (Some offset)

  -- a search that reads on, and what was reported to its sink
  pub record IsReadingOn {R : Type 0} (remaining : R → Option (List ℕ))
      (read_step : R → ReadResult → R → Type 0) (decoder : DecoderState) (reader : R) (old : S)
      (buffer : BufferState) (decoder' : DecoderState) (reader' : R) (w : Walk)
      (now : Noted S) : Type 0 where
    pub start : Origin S
    pub rolling : IsRolling step settings meaning remaining read_step decoder reader start buffer
        decoder' reader' w now.sink
    pub passed : IsStartAt rolling.given w.offset old start now.binary

-- a search of a reader came to its end, and `finish` is still to be called
pub record IsStreamCounted {S E : Type 0} (step : Steps S E) (settings : Settings)
    (meaning : Meaning) {R : Type 0} (remaining : R → Option (List ℕ))
    (read_step : R → ReadResult → R → Type 0) (reader : R) (old : S) (finish : Finish) (reader' : R)
    (last : S) : Type 0 where
  pub taken : Taken remaining read_step reader reader'
  pub seen : List ℕ
  pub point : Option BinaryPoint
  pub outcome : Outcome E
  pub front : (bytes : List ℕ) → IsInput settings taken.ended taken.pieces bytes
      → IsFront settings (view_of settings bytes) seen
  pub begins : (bytes : List ℕ) → IsInput settings taken.ended taken.pieces bytes
      → (later : List Planned) × ((search_plan settings meaning (view_of settings bytes)).calls
      ≡ (search_plan settings meaning seen).calls ++ later)
  pub at_seen : (bytes : List ℕ) → IsInput settings taken.ended taken.pieces bytes
      → IsPoint settings meaning bytes on_stream (length seen)
      (search_plan settings meaning seen).calls point
  pub over_seen : IsMadeTo step settings old
      (plan_with settings.binary_detection point (search_plan settings meaning seen)) outcome finish
      last
  pub within : finish.count ≤ length seen
  -- unless a call returned false, or a byte ended the search, each line that may be reported was
  -- seen
  pub all : outcome ≡ all_true
      → (quits settings.binary_detection ≡ true → finish.binary ≡ None)
      → (bytes : List ℕ) → IsInput settings taken.ended taken.pieces bytes
      → reports_end settings meaning (view_of settings bytes)
      ≤ length (lines (byte_of settings.line_terminator) seen)
  pub ahead : (limit : ℕ) → settings.heap_limit ≡ Some limit
      → encoding_of settings (concat taken.pieces) ≡ None
      → length (concat taken.pieces) ≤ finish.count + limit + 3
