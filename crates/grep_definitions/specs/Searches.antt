-- What a search does to its sink, what it reads of its input, and what it returns.
use Rattle.std.specs.Prelude.{◌≡◌, ◌≢◌, ◌⊎◌, ℕ, ◌+◌, ◌-◌, ◌^◌, ◌<◌, ◌≤◌, ◌==◌, Bool, true, false}
use Rattle.std.specs.Prelude.{not, ◌&&◌, ◌||◌, if◌then◌else◌, List, [], ◌∷◌, ◌++◌, length, map}
use Rattle.std.specs.Prelude.{take, drop, slice_index, slice_index_or, count_by, All, Option, None}
use Rattle.std.specs.Prelude.{Some, is_some, IfSome, Result, Ok, Err, OnOk}
use Rattle.std.specs.Io.KnownBytes.{Consumes}
use Rattle.std.specs.IoError.{error_kind}
use Rattle.std.specs.List.{concat, position, position_or_len}
use Rattle.std.specs.Option.{option_map}
use Rattle.std.specs.declared.io.Error.{Error}
use Rattle.std.specs.declared.io.ErrorKind.TheVariants.{InvalidData, Other, OutOfMemory}
use Rattle.grep_decode.specs.declared.label.Label.{Label}
use Rattle.grep_decode.specs.declared.label.Label.TheVariants.{Utf8}
use Rattle.grep_decode.specs.Decoded.{IsUnfinished, by_label, decoded, found_mark}
use Rattle.grep_decode.specs.Source.{ReadResult}
pub use Rattle.grep_decode.specs.Source.{Reads}
use Rattle.grep_matcher.specs.Lines.{byte_of, lines}
use Rattle.grep_matcher.specs.Meanings.{MatcherFacts, Meaning}
use Rattle.grep_report.specs.ErrorMakers.{ErrorMakers}
use Rattle.grep_report.specs.declared.binary_detection.BinaryDetection.{BinaryDetection}
use Rattle.grep_report.specs.declared.binary_detection.BinaryDetection.TheVariants.{
  None as no_detection,
  Quit,
  Convert,
}
use Rattle.grep_report.specs.declared.config_error.ConfigError.{ConfigError}
use Rattle.grep_definitions.specs.Plans.{Settings, SearcherState, Call, begins, binary_data}
use Rattle.grep_definitions.specs.Plans.{finishes, reported_bytes, reported_from, is_break}
use Rattle.grep_definitions.specs.Plans.{is_binary_data, Finish, counted, Planned, planned, Plan}
use Rattle.grep_definitions.specs.Plans.{Steps, Outcome, all_true, finish_after, AreMade, IsRun}
use Rattle.grep_definitions.specs.Plans.{line_count, line, start, reports_end, is_across}
use Rattle.grep_definitions.specs.Plans.{is_reported, selected_lines, refusal_of, IsLawful}
use Rattle.grep_definitions.specs.Plans.{selection_in, search_plan, IsAskedWith, has_room}

-- where a byte first is
abbrev pub position_of : ℕ → List ℕ → Option ℕ
position_of b bytes = position (λ x. x == b) bytes

-- where the first binary byte is, if lines end with t. A byte that ends lines isn't converted
abbrev pub binary_position : BinaryDetection → ℕ → List ℕ → Option ℕ
binary_position no_detection t bytes = None
binary_position (Quit b) t bytes = position_of b bytes
binary_position (Convert b) t bytes = if b == t then None else position_of b bytes

-- what comes before the first byte that ends a search
abbrev pub before_quit : BinaryDetection → List ℕ → List ℕ
before_quit (Quit b) bytes = take (position_or_len (λ x. x == b) bytes) bytes
before_quit _ bytes = bytes

-- whether some byte is looked for, and whether it ends the search
abbrev pub is_detecting : BinaryDetection → Bool
is_detecting no_detection = false
is_detecting _ = true

abbrev pub quits : BinaryDetection → Bool
quits (Quit b) = true
quits _ = false

-- what is searched of an input as it is read: each byte that is converted becomes the byte t
abbrev pub stream_view : BinaryDetection → ℕ → List ℕ → List ℕ
stream_view (Convert b) t bytes = map (λ x. if x == b then t else x) bytes
stream_view _ t bytes = bytes

-- what is searched of the decoded bytes of such an input, and where its first binary byte is
abbrev pub view_of : Settings → List ℕ → List ℕ
view_of settings = stream_view settings.binary_detection (byte_of settings.line_terminator)

abbrev pub binary_of : Settings → List ℕ → Option ℕ
binary_of settings = binary_position settings.binary_detection (byte_of settings.line_terminator)

-- where binary bytes are looked for: nowhere; in whole contents, to end at one; in what is read
pub data Look : Type 0 where
  nowhere : Look
  in_contents : ℕ → Look
  on_stream : Look

-- by whether the input is searched as it is read
abbrev pub look_at : BinaryDetection → Bool → Look
look_at no_detection is_stream = nowhere
look_at (Quit b) false = in_contents b
look_at (Convert b) false = nowhere
look_at _ true = on_stream

-- only by line, and not of a slice that is searched as it is, is an input searched as it is read
abbrev pub look_of : Settings → Meaning → Bool → Look
look_of settings meaning unchanged =
    look_at settings.binary_detection (not unchanged && not (is_across settings meaning))

-- where `binary_data` is in a plan: after so many calls, at an offset; the count if it ends there
pub record BinaryPoint : Type 0 where
  pub position : ℕ
  pub offset : ℕ
  pub count : ℕ

-- from it on `finish` has the offset
abbrev pub with_offset : ℕ → Finish → Finish
with_offset offset finish = record finish { binary = Some offset }

abbrev pub planned_binary : BinaryPoint → Planned
planned_binary point = record {
  call = binary_data point.offset;
  if_false = with_offset point.offset (counted point.count);
}

-- the calls with it, if the search goes on
abbrev pub calls_with : Option BinaryPoint → List Planned → List Planned
calls_with None calls = calls
calls_with (Some point) calls = take point.position calls ++ planned_binary point
    ∷ map (λ (later : Planned). record later { if_false = with_offset point.offset later.if_false })
    (drop point.position calls)

-- the plan with it: after a byte that ends the search only `finish` follows
abbrev pub plan_with : BinaryDetection → Option BinaryPoint → Plan → Plan
plan_with detection None plan = plan
plan_with detection (Some point) plan =
    if quits detection
    then record {
      calls = take point.position plan.calls ++ planned_binary point ∷ [];
      finish = with_offset point.offset (counted point.count);
    }
    else record {
      calls = calls_with (Some point) plan.calls;
      finish = with_offset point.offset plan.finish;
    }

-- in whole contents the byte is looked for among the first 65,536, and then in what is reported
module _ (b : ℕ) (calls : List Planned) where
  abbrev pub call_at : ℕ → Planned
  call_at n = slice_index_or calls n (planned begins 0)

  -- the offset of the byte in what call n reports
  abbrev pub offset_at : ℕ → ℕ
  offset_at n = reported_from (call_at n).call
      + position_or_len (λ x. x == b) (reported_bytes (call_at n).call)

  -- the first report that holds the byte isn't made, nor is its break
  abbrev pub point_at : ℕ → BinaryPoint
  point_at n = record {
    position = if is_break (call_at (n - 1)).call then n - 1 else n;
    offset = offset_at n;
    count = offset_at n;
  }

  abbrev pub point_unless : Option ℕ → Option BinaryPoint
  point_unless None =
      option_map point_at (position (λ p. is_some (position_of b (reported_bytes p.call))) calls)
  point_unless (Some offset) = Some (record { position = 1; offset = offset; count = 0 })

-- how many bytes of contents are looked at before the first line
abbrev pub first_look : ℕ
first_look = 65536

-- where a search of some contents with these calls ends at the byte
abbrev pub contents_point : ℕ → List ℕ → List Planned → Option BinaryPoint
contents_point b bytes calls = point_unless b calls (position_of b (take first_look bytes))

-- ---- the bytes that are searched, and what came of them

-- the input, decoded as the settings say
unfoldable pub searched_bytes : Settings → List ℕ → List ℕ
searched_bytes settings input = decoded settings.encoding settings.bom_sniffing input

abbrev pub looks_for_mark : Settings → Bool
looks_for_mark settings = settings.bom_sniffing || is_some settings.encoding

-- the encoding of the bytes after this mark, or without one, and none if they pass unchanged
abbrev pub encoding_after : Option Label → Option Label → Option Label
encoding_after None label = label
encoding_after (Some Utf8) label = None
encoding_after mark label = mark

-- the encoding from which the input is decoded after its mark, if it has one
unfoldable pub encoding_of : Settings → List ℕ → Option Label
encoding_of settings input =
    encoding_after (found_mark settings.encoding settings.bom_sniffing input) settings.encoding

-- bytes that wait for more: the beginning of a character, and none if they pass unchanged
abbrev pub AreWaiting : Option Label → List ℕ → Type 0
AreWaiting None bytes = bytes ≡ []
AreWaiting (Some label) bytes = IsUnfinished label bytes

-- the bytes that are searched if these pieces of an input came, and no more if it ended with them
abbrev pub IsInput : Settings → Bool → List (List ℕ) → List ℕ → Type 0
IsInput settings ended pieces bytes = (more : List ℕ) × (ended ≡ true → more ≡ [])
    × (bytes ≡ searched_bytes settings (concat pieces ++ more))

-- What is decoded of an input of which these pieces came, whatever else would come: nothing while a
-- mark is looked for in fewer than three bytes; else all but the last bytes that came if they wait,
-- and the text goes on with theirs and what follows. Of bytes that pass unchanged it is all.
pub record IsDecodedSoFar (settings : Settings) (pieces : List (List ℕ)) (came : List ℕ)
    : Type 0 where
  pub none : looks_for_mark settings ≡ true → length (concat pieces) < 3 → came ≡ []
  pub all : (looks_for_mark settings ≡ true → 3 ≤ length (concat pieces))
      → (front waiting : List ℕ) × (concat pieces ≡ front ++ waiting)
      × AreWaiting (encoding_of settings (concat pieces)) waiting
      × ((more : List ℕ) → searched_bytes settings (concat pieces ++ more)
      ≡ came ++ by_label (encoding_of settings (concat pieces)) (waiting ++ more))

-- ---- which lines are seen, and when a search goes on after them

-- bytes that are empty or end in the terminator
abbrev pub IsClosed : ℕ → List ℕ → Type 0
IsClosed t bytes = 0 < length bytes → slice_index bytes (length bytes - 1) ≡ t

-- a buffer of so many bytes can't hold a line that is longer, or an unterminated one that fills it
abbrev pub IsTooLong : ℕ → ℕ → List ℕ → Type 0
IsTooLong t size line =
    (size < length line) ⊎ ((length line ≡ size) × (slice_index line (size - 1) ≢ t))

-- whole lines at the front of an input, or all of it, none of which is too long for the heap limit
pub record IsFront (settings : Settings) (input seen : List ℕ) : Type 0 where
  pub after : List ℕ
  pub whole : input ≡ seen ++ after
  pub closed : 0 < length after → IsClosed (byte_of settings.line_terminator) seen
  pub held : (limit : ℕ) → settings.heap_limit ≡ Some limit
      → All (λ line. IsTooLong (byte_of settings.line_terminator) limit line → ⊥)
      (lines (byte_of settings.line_terminator) seen)

-- what is searched of decoded bytes that are read
abbrev pub view_in : Settings → Look → List ℕ → List ℕ
view_in settings on_stream bytes = view_of settings bytes
view_in settings _ bytes = bytes

-- and its plan, by where binary bytes are looked for
abbrev pub viewed_plan : Settings → Meaning → Look → List ℕ → Plan
viewed_plan settings meaning look bytes = search_plan settings meaning (view_in settings look bytes)

-- which lines of them are seen: all across lines if a byte may end the search
abbrev pub IsSeenOf : Settings → Look → List ℕ → List ℕ → Type 0
IsSeenOf settings (in_contents b) bytes seen = seen ≡ bytes
IsSeenOf settings look bytes seen = IsFront settings (view_in settings look bytes) seen

-- an input is shorter than the heap limit, if there is one
abbrev pub IsBelowLimit : Settings → List ℕ → Type 0
IsBelowLimit settings input = (limit : ℕ) → settings.heap_limit ≡ Some limit → length input < limit

-- after the lines seen came fewer bytes than the limit, and none that ends a line or the search
pub record HasOpenLine (settings : Settings) (came seen : List ℕ) : Type 0 where
  pub rest : List ℕ
  pub whole : came ≡ seen ++ rest
  pub unended : All (λ b. b ≢ byte_of settings.line_terminator) rest
  pub room : IsBelowLimit settings rest
  pub unquit : before_quit settings.binary_detection came ≡ came

-- whether no line may be reported
abbrev pub reports_nothing : Settings → Bool
reports_nothing settings = not settings.passthru && not (has_room settings 0)

-- whether a search by line may read after `begin`: a line may be reported, or it looks for a byte
abbrev pub reads_lines : Settings → Bool
reads_lines settings = not (reports_nothing settings) || is_detecting settings.binary_detection

module _ (settings : Settings) (meaning : Meaning) (input seen : List ℕ) where
  abbrev pub seen_count : ℕ
  seen_count = length (lines (byte_of settings.line_terminator) seen)

  -- a search goes on after whole lines at the front of an input: the next line, if there is one,
  -- may be reported. Under detection the first bytes may be read in any case
  pub record GoesOnAfter : Type 0 where
    pub front : IsFront settings input seen
    pub closed : IsClosed (byte_of settings.line_terminator) seen
    pub may_report : (is_detecting settings.binary_detection && seen_count == 0) ≡ false
        → seen_count < line_count settings input
        → seen_count < reports_end settings meaning input

  -- a buffer of so many bytes can't hold the next line and the lines before it that are kept: those
  -- that a match after them would report, at most as many as are reported before a match, and none
  -- that was reported. If none is kept, that line alone is too long
  pub record IsCrowded (size : ℕ) : Type 0 where
    pub kept : ℕ
    pub passed : kept ≤ seen_count
    pub near : kept ≤ settings.before_context
    pub unreported : (i : ℕ) → seen_count - kept ≤ i → i < seen_count
        → is_reported settings seen (selected_lines settings meaning seen) i ≡ false
    pub full : size ≤ start settings input (seen_count + 1) - start settings input
        (seen_count - kept)
    pub alone : kept ≡ 0 → (seen_count < line_count settings input)
        × IsTooLong (byte_of settings.line_terminator) size (line settings input seen_count)

  -- why no more is read after the lines that were seen: a buffer of the heap limit can't hold the
  -- next line and those kept before it; an offset is above 2^64 - 1; or memory to grow is lacking
  pub data CutsShort (error : Error) : Type 0 where
    of_limit : (limit : ℕ) → settings.heap_limit ≡ Some limit
        → error_kind error ≡ Other → IsCrowded limit → CutsShort error
    of_offset : error_kind error ≡ InvalidData → 2 ^ 64 ≤ length input → CutsShort error
    of_memory : error_kind error ≡ OutOfMemory
        → IfSome settings.heap_limit (λ limit. 65536 < limit) → IsCrowded 65536 → CutsShort error

-- why not all is read before a search across lines: as much as the limit came, or memory lacked
pub data CutsContents (settings : Settings) (input : List ℕ) (error : Error) : Type 0 where
  of_full : (limit : ℕ) → settings.heap_limit ≡ Some limit
      → error_kind error ≡ Other → limit ≤ length input → CutsContents settings input error
  of_no_memory : error_kind error ≡ OutOfMemory → CutsContents settings input error

-- an error of reading that isn't a reader's: of the heap limit, of offsets, or of memory
abbrev pub IsOwnError : Error → Type 0
IsOwnError error = (error_kind error ≡ Other)
    ⊎ ((error_kind error ≡ InvalidData) ⊎ (error_kind error ≡ OutOfMemory))

-- where `binary_data` comes among some calls, if it does
abbrev pub Points : Type 1
Points = List Planned → Option BinaryPoint → Type 0

module _ (settings : Settings) (meaning : Meaning) (bytes : List ℕ) where
  -- whole lines before the first binary byte were seen, and fewer bytes than the limit are between
  pub record IsCutAt (seen : List ℕ) (offset : ℕ) : Type 0 where
    pub front : GoesOnAfter settings meaning (view_of settings bytes) seen
    pub first : binary_of settings bytes ≡ Some offset
    pub after : length seen ≤ offset
    pub near : (limit : ℕ) → settings.heap_limit ≡ Some limit → offset < length seen + limit

  -- on a stream it comes after the calls for the lines that were seen when the byte came
  pub record IsStreamPoint (calls : List Planned) (point : BinaryPoint) : Type 0 where
    pub seen : List ℕ
    pub cut : IsCutAt seen point.offset
    pub count : point.count ≡ length seen
    pub within : point.position ≤ length calls
    pub before : take point.position calls ≡ (search_plan settings meaning seen).calls

  -- among these calls for so many first bytes
  abbrev pub IsPoint : Look → ℕ → Points
  IsPoint nowhere n calls point = point ≡ None
  IsPoint (in_contents b) n calls point = point ≡ contents_point b bytes calls
  IsPoint on_stream n calls None = binary_of settings (take n bytes) ≡ None
  IsPoint on_stream n calls (Some point) = IsStreamPoint calls point

-- whether a call may come between `begin` and `finish`, by whether binary bytes are looked for
abbrev pub comes_between : Bool → Call → Bool
comes_between detecting begins = false
comes_between detecting (finishes count binary) = false
comes_between detecting (binary_data offset) = detecting
comes_between detecting _ = true

-- ---- a search that isn't refused

module _ {S E F : Type 0} (step : Steps S E) (errors : ErrorMakers F E) (matcher : MatcherFacts F)
    (settings : Settings) where
  -- some calls that all returned true, with `binary_data`, after which the search goes on
  abbrev pub GoesOnWith : Points → List Planned → S → S → Type 0
  GoesOnWith IsAt calls old new = (point : Option BinaryPoint) × IsAt calls point
      × (quits settings.binary_detection ≡ true → point ≡ None)
      × AreMade step settings old (calls_with point calls) all_true new

  -- how a search with a plan ends: along it, or in the matcher's error at a question
  pub data IsSearchOf (IsAt : Points) (IsAsked : List ℕ → List Planned → Type 0)
      (HasRead : Plan → Outcome E → Result (Unit {0}) E → Type 0) (plan : Plan) (old : S)
      : Result (Unit {0}) E → S → Type 0 where
    ran : {result : Result (Unit {0}) E} {new : S} (point : Option BinaryPoint)
        → IsAt plan.calls point
        → (run : IsRun step settings old (plan_with settings.binary_detection point plan) result
        new)
        → HasRead (plan_with settings.binary_detection point plan) run.outcome result
        → IsSearchOf IsAt IsAsked HasRead plan old result new
    asked : {e : E} {new : S} (haystack : List ℕ) (error : F) (calls : List Planned)
        → IsAsked haystack calls → matcher.fails haystack error → errors.is_message error e
        → GoesOnWith IsAt calls old new → IsSearchOf IsAt IsAsked HasRead plan old (Err e) new

  -- with any matcher and reader the calls come in this order
  abbrev pub detecting : Bool
  detecting = is_detecting settings.binary_detection

  -- `begin`, and such calls, of which at most one is `binary_data`
  pub record AreInOrder (calls : List Planned) : Type 0 where
    pub first : Planned
    pub later : List Planned
    pub all : calls ≡ first ∷ later
    pub begin : (first.call ≡ begins) × (first.if_false.count ≡ 0)
    pub inner : All (λ planned. comes_between detecting planned.call ≡ true) later
    pub once : count_by (λ planned. is_binary_data planned.call) later ≤ 1
    pub plain : detecting ≡ false → All (λ planned. planned.if_false.binary ≡ None) calls

  -- some calls in this order that all returned true
  abbrev pub HasBegun : S → S → Type 0
  HasBegun old new = (calls : List Planned) × AreInOrder calls
      × AreMade step settings old calls all_true new

  -- it runs along some calls in this order; or it ends in the matcher's error, or in one of reading
  pub data IsInOrder (IsOfReading : Error → Type 0) (old : S) : Result (Unit {0}) E → S
      → Type 0 where
    ran_in_order : {result : Result (Unit {0}) E} {new : S} (plan : Plan) → AreInOrder plan.calls
        → (detecting ≡ false → plan.finish.binary ≡ None)
        → IsRun step settings old plan result new → IsInOrder IsOfReading old result new
    asked_in_order : {e : E} {new : S} (haystack : List ℕ) (error : F)
        → matcher.fails haystack error → errors.is_message error e
        → HasBegun old new → IsInOrder IsOfReading old (Err e) new
    read_in_order : {e : E} {new : S} (error : Error) → IsOfReading error → errors.is_io error e
        → (new ≡ old) ⊎ HasBegun old new → IsInOrder IsOfReading old (Err e) new

-- a search is refused, with no call and nothing read, or is this if the matcher is lawful
module _ {S E F : Type 0} (errors : ErrorMakers F E) (matcher : MatcherFacts F)
    (settings : Settings) (old : S) (result : Result (Unit {0}) E) (new : S)
    (IsSame IsSearched : Type 0) where
  abbrev pub IsUnlessRefusedBy : Option ConfigError → Type 0
  IsUnlessRefusedBy None = IsLawful matcher settings → IsSearched
  IsUnlessRefusedBy (Some refusal) =
      (e : E) × (result ≡ Err e) × errors.is_config refusal e × (new ≡ old) × IsSame

-- ---- a search of a reader

module _ {R : Type 0} (remaining : R → Option (List ℕ))
    (read_step : R → ReadResult → R → Type 0) where
  -- What was taken of a reader: its calls returned some pieces, and `ended` says whether one more
  -- returned none. If the reader says which bytes remain, the pieces are the front of them.
  pub record Taken (old new : R) : Type 0 where
    pub ended : Bool
    pub pieces : List (List ℕ)
    pub calls : Reads remaining read_step ended old pieces new
    pub takes : Consumes (remaining old) (remaining new) (concat pieces)

  -- the inputs that begin with what was taken
  abbrev pub IsInputOf : {old new : R} → Taken old new → Settings → List ℕ → Type 0
  IsInputOf taken settings = IsInput settings taken.ended taken.pieces

  -- a reader is called until a line has come: of what was decoded before its last call, no byte
  -- ends a line or the search
  pub record IsReadForLine (settings : Settings) (old new : R) : Type 0 where
    pub mid : R
    pub before : Taken old mid
    pub unended : before.ended ≡ false
    pub piece : List ℕ
    pub last : read_step mid (Ok piece) new
    pub came : List ℕ
    pub so_far : IsDecodedSoFar settings before.pieces came
    pub open_line : HasOpenLine settings (view_of settings came) []

  module _ (state : SearcherState) (meaning : Meaning) (old mid new : R) (taken : Taken old mid)
      (seen : List ℕ) where
    -- the reader's last call failed
    abbrev pub HasFailed : Error → Type 0
    HasFailed error = (taken.ended ≡ false) × read_step mid (Err error) new

    -- by line a search goes on after the lines that were seen, in which no byte ends it
    abbrev pub StopsInLines : Type 0
    StopsInLines = (is_across state.settings meaning ≡ false)
        × (before_quit state.settings.binary_detection seen ≡ seen)
        × ((bytes : List ℕ) → IsInputOf taken state.settings bytes
        → GoesOnAfter state.settings meaning (view_of state.settings bytes) seen)

    -- why an input wasn't searched to its end: after the lines that were seen, or before `begin`
    pub data IsCut : Bool → Error → Type 0 where
      -- before a byte that ends the search
      of_lines : {error : Error} → StopsInLines → mid ≡ new
          → ((bytes : List ℕ) → IsInputOf taken state.settings bytes
          → CutsShort state.settings meaning (before_quit state.settings.binary_detection
          (view_of state.settings bytes)) seen error) → IsCut true error
      -- all lines that came whole were seen
      of_reader : {error : Error} → StopsInLines → HasFailed error
          → (came : List ℕ) → IsDecodedSoFar state.settings taken.pieces came
          → HasOpenLine state.settings (view_of state.settings came) seen → IsCut true error
      -- across lines all is read before `begin`
      of_contents : {error : Error} → is_across state.settings meaning ≡ true → mid ≡ new
          → ((bytes : List ℕ) → IsInputOf taken state.settings bytes
          → CutsContents state.settings bytes error) → IsCut false error
      of_failed_read : {error : Error} → is_across state.settings meaning ≡ true → HasFailed error
          → (came : List ℕ) → IsDecodedSoFar state.settings taken.pieces came
          → IsBelowLimit state.settings came → IsCut false error
      -- there were no buffers, and no memory for them
      of_buffers : {error : Error} → state.has_buffers ≡ false → error_kind error ≡ OutOfMemory
          → new ≡ old → IsCut false error

  -- so it is, of what was taken of a reader
  abbrev pub IsUnread : SearcherState → Meaning → R → Bool → List ℕ → Error → R → Type 0
  IsUnread state meaning old begun seen error new = (mid : R) × (taken : Taken old mid)
      × IsCut state meaning old mid new taken seen begun error

  -- the error of a search is made of one by which its input wasn't searched to its end
  abbrev pub EndsUnread : {E : Type 0} → (Error → E → Type 0) → SearcherState → Meaning → R → E → R
      → Type 0
  EndsUnread is_io state meaning old e new = (begun : Bool) × (seen : List ℕ) × (error : Error)
      × IsUnread state meaning old begun seen error new × is_io error e

  -- some calls of a reader, of which the last one failed
  abbrev pub HasFailedRead : R → Error → R → Type 0
  HasFailedRead old error new = (mid : R) × (taken : Taken old mid) × (taken.ended ≡ false)
      × read_step mid (Err error) new

  -- an error of reading, whatever the search: that of the reader's last call, or no reader's
  abbrev pub IsReadingError : R → R → Error → Type 0
  IsReadingError old new error = HasFailedRead old error new ⊎ IsOwnError error

  -- what a search by line that ended in `Ok` has read: nothing if `begin` returned false
  pub record HasReadLines {S E : Type 0} (step : Steps S E) (settings : Settings) (reader : R)
      (old : S) (reader' : R) (taken : Taken reader reader') (seen : List ℕ) (finish : Finish)
      : Type 0 where
    pub begun : Bool
    pub first : S
    pub begin : step old settings begins (Ok begun) first
    pub unread : (begun && reads_lines settings) ≡ false → reader' ≡ reader
    -- and a search that reads lines and may report none fills the buffer once
    pub once : (begun && reads_lines settings) ≡ true → reports_nothing settings ≡ true
        → IsReadForLine settings reader reader'
    -- the bytes that `finish` counts were seen
    pub counted : finish.count ≤ length seen
    -- under a heap limit, of bytes that pass unchanged: three more may be read to look for a mark
    pub ahead : (limit : ℕ) → settings.heap_limit ≡ Some limit
        → encoding_of settings (concat taken.pieces) ≡ None
        → length (concat taken.pieces) ≤ finish.count + limit + 3

  module _ {S E F : Type 0} (step : Steps S E) (errors : ErrorMakers F E) (matcher : MatcherFacts F)
      (state : SearcherState) (look : Look) where
    abbrev pub settings : Settings
    settings = state.settings

    -- where `binary_data` comes, whichever of these inputs it is, of which n first bytes were seen
    abbrev pub EachPoint : (List ℕ → Type 0) → ℕ → Points
    EachPoint IsOne n calls point =
        (bytes : List ℕ) → IsOne bytes → IsPoint settings matcher.meaning bytes look n calls point

    -- a question in the lines that were seen is one in each of these inputs
    abbrev pub EachAsked : (List ℕ → Type 0) → List ℕ → List ℕ → List Planned → Type 0
    EachAsked IsOne seen haystack calls =
        IsAskedWith settings matcher.meaning seen haystack calls
        × ((bytes : List ℕ) → IsOne bytes → IsAskedWith settings matcher.meaning
        (view_in settings look bytes) haystack calls)

    -- an input of which these lines were seen: its calls begin with theirs
    pub record IsSeenIn (seen bytes : List ℕ) : Type 0 where
      pub front : IsSeenOf settings look bytes seen
      pub later : List Planned
      pub calls : (viewed_plan settings matcher.meaning look bytes).calls
          ≡ (search_plan settings matcher.meaning seen).calls ++ later

    -- each line of an input that may be reported was seen: it has the same plan
    pub record IsAllSeen (seen bytes : List ℕ) : Type 0 where
      pub few : (selection_in settings matcher.meaning (view_in settings look bytes)
          (is_across settings matcher.meaning)).end ≤ line_count settings seen
      pub plan : viewed_plan settings matcher.meaning look bytes
          ≡ search_plan settings matcher.meaning seen

    -- the search of the lines that were seen, whichever input begins with what was taken
    pub record IsReaderSearch (reader : R) (old : S) (result : Result (Unit {0}) E) (reader' : R)
        (new : S) : Type 0 where
      pub taken : Taken reader reader'
      pub seen : List ℕ
      pub each : (bytes : List ℕ) → IsInputOf taken settings bytes → IsSeenIn seen bytes
      pub over_seen : IsSearchOf step errors matcher settings
          (EachPoint (IsInputOf taken settings) (length seen))
          (EachAsked (IsInputOf taken settings) seen)
          (λ plan outcome ended.
          -- unless a false or a byte ended the search, each line that may be reported was seen
          (outcome ≡ all_true → (quits settings.binary_detection ≡ true → plan.finish.binary ≡ None)
          → (bytes : List ℕ) → IsInputOf taken settings bytes → IsAllSeen seen bytes)
          × OnOk ended (is_across settings matcher.meaning ≡ false
          → HasReadLines step settings reader old reader' taken seen
          (finish_after outcome plan.finish)))
          (search_plan settings matcher.meaning seen) old result new
      -- across lines all was read, and it is shorter than the heap limit
      pub whole : is_across settings matcher.meaning ≡ true → (taken.ended ≡ true)
          × ((bytes : List ℕ) → IsInputOf taken settings bytes → IsBelowLimit settings bytes)

    -- reading ended before the search did: after the calls for the lines seen, or before `begin`
    pub record IsCutSearch (reader : R) (old : S) (e : E) (reader' : R) (new : S) : Type 0 where
      pub mid : R
      pub taken : Taken reader mid
      pub seen : List ℕ
      pub begun : Bool
      pub error : Error
      pub cause : IsCut state matcher.meaning reader mid reader' taken seen begun error
      pub made : errors.is_io error e
      pub calls : begun ≡ true → GoesOnWith step errors matcher settings
          (EachPoint (IsInputOf taken settings) (length seen))
          (search_plan settings matcher.meaning seen).calls old new
      pub none : begun ≡ false → new ≡ old

    abbrev pub IsRead : R → S → Result (Unit {0}) E → R → S → Type 0
    IsRead reader old (Ok u) reader' new = IsReaderSearch reader old (Ok u) reader' new
    IsRead reader old (Err e) reader' new =
        IsReaderSearch reader old (Err e) reader' new ⊎ IsCutSearch reader old e reader' new

  -- what a search of a reader promises
  abbrev pub IsReaderSearched : {S E F : Type 0} → Steps S E → ErrorMakers F E → MatcherFacts F
      → SearcherState → R → S → Result (Unit {0}) E → R → S → Type 0
  IsReaderSearched step errors matcher state reader old result reader' new =
      IsUnlessRefusedBy errors matcher state.settings old result new (reader' ≡ reader)
      (IsRead step errors matcher state (look_of state.settings matcher.meaning false)
      reader old result reader' new) (refusal_of state.settings matcher.meaning)
