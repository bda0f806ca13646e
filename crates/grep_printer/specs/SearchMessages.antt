-- The messages of a whole search, and what a reader of JSON makes of its text.
use Rattle.std.specs.Prelude.{◌≡◌, ℕ, ◌-◌, ◌<◌, ◌^◌, ◌&&◌, not, Bool, if◌then◌else◌, All, List}
use Rattle.std.specs.Prelude.{[], ◌∷◌, ◌++◌, codes, length, map, Option}
use Rattle.std.specs.List.{AllZip, flat_map, list_any}
use Rattle.std.specs.Borrow.{Bor}
use Rattle.std.specs.Option.{IfSome}
use Rattle.base64.specs.GeneralPurpose.{IsBytes}
use Rattle.json.specs.Json.{Json}
use Rattle.grep_searcher.specs.Lines.{lines}
use Rattle.grep_searcher.specs.MatchHandlers.{reported_number}
use Rattle.grep_searcher.specs.Meanings.{Meaning}
use Rattle.grep_searcher.specs.Plans.{Call, Settings, begins, matches, context}
use Rattle.grep_searcher.specs.Plans.{reported_bytes, reported_from, search_plan}
use Rattle.grep_searcher.specs.SearchLaws.{calls_of, is_report}
use Rattle.grep_searcher.specs.Searches.{BinaryPoint, plan_with}
use Rattle.grep_searcher.specs.declared.BinaryDetection.{BinaryDetection}
use Rattle.grep_printer.specs.CallParts.{HasParts}
use Rattle.grep_printer.specs.Formats.{PrintedCall, Scene, printed_by}
use Rattle.grep_printer.specs.Hyperlinks.{shown_path}
use Rattle.grep_printer.specs.JsonLaws.{IsLineOf, IsSameReport, IsWordRange, Reported}
use Rattle.grep_printer.specs.JsonLaws.{message_of_report}
use Rattle.grep_printer.specs.JsonMessages.{begin_json, json_line}
use Rattle.grep_printer.specs.JsonTexts.{json_rules}
use Rattle.grep_printer.specs.ReplacerTexts.{TextAt}
use Rattle.grep_printer.specs.declared.json_printer.JsonFormat.{JsonFormat}

-- what would replace the match at a position of a call's report, if something would
abbrev pub CallTextAt : Type 0
CallTextAt = Call → ℕ → Option (List ℕ)

module _ (path : Option (Bor (List ℕ))) (text_at : CallTextAt) where
  -- the report of a call with its matches, if it reports lines
  abbrev pub report_in : Call → List (ℕ × ℕ) → List Reported
  report_in (matches number offset bytes around) ranges = record {
    type = codes "match";
    path = path;
    bytes = bytes;
    number = number;
    offset = offset;
    text_at = text_at (matches number offset bytes around);
    ranges = ranges;
  } ∷ []
  report_in (context kind number offset bytes) ranges = record {
    type = codes "context";
    path = path;
    bytes = bytes;
    number = number;
    offset = offset;
    text_at = text_at (context kind number offset bytes);
    ranges = ranges;
  } ∷ []
  report_in _ ranges = []

  -- the reports of some calls, in order
  abbrev pub reports_of : List PrintedCall → List Reported
  reports_of calls = flat_map (λ printed. report_in printed.call printed.parts) calls

-- whether `begin` is due with a call
abbrev pub opens : Bool → Call → Bool
opens always_begin_end begins = always_begin_end
opens always_begin_end call = is_report call

-- the messages of some calls, in order: `begin`, if it is due with one of them and wasn't written
-- before, and then the message of each report
abbrev pub messages_of : Bool → Option (Bor (List ℕ)) → CallTextAt → Bool → List PrintedCall
    → List Json
messages_of always_begin_end path text_at is_begun calls =
    (if not is_begun && list_any (λ printed. opens always_begin_end printed.call) calls
    then begin_json path ∷ []
    else [])
    ++ map message_of_report (reports_of path text_at calls)

-- the number, the offset and the length of what a call reports are numbers of 64 bits, and it
-- reports bytes
pub record HasWords (call : Call) : Type 0 where
  pub number : IfSome (reported_number call) (λ n. n < 2 ^ 64)
  pub offset : reported_from call < 2 ^ 64
  pub size : length (reported_bytes call) < 2 ^ 64
  pub bytes : IsBytes (reported_bytes call)

-- the calls of a search of bytes have such numbers, if there are fewer bytes than the greatest
-- number of 64 bits, wherever `binary_data` comes among the calls
abbrev pub PlansHaveWords : Type 0
PlansHaveWords =
    (settings : Settings) (meaning : Meaning) (bytes : List ℕ) (detection : BinaryDetection)
    (point : Option BinaryPoint) → IsBytes bytes → length bytes < 2 ^ 64 - 1
    → All HasWords
    (calls_of (plan_with detection point (search_plan settings meaning bytes)).calls)

-- the text is the lines of these messages, one after another: split after each line feed, it has a
-- line for each message, in order, which is read as this message
pub record AreReadBack (messages : List Json) (text : List ℕ) : Type 0 where
  pub joined : text ≡ flat_map json_line messages
  pub split : lines 10 text ≡ map json_line messages
  pub read : AllZip IsLineOf messages (lines 10 text)

-- a call has numbers of 64 bits, and so have the positions of its parts
pub record HasPrintedWords (printed : PrintedCall) : Type 0 where
  pub call : HasWords printed.call
  pub ranges : All IsWordRange printed.parts

abbrev pub PartsHaveWords : Type 0
PartsHaveWords =
    (first_at : List ℕ → ℕ → Option (ℕ × ℕ)) (settings : Settings) (meaning : Meaning)
    (is_asked : Bool) (printed : PrintedCall)
    → HasParts first_at settings meaning is_asked printed
    → HasWords printed.call → HasPrintedWords printed

module _ {R : Type 0} (text_at : R → TextAt) where
  -- what would replace the matches of a search
  abbrev pub texts_of : JsonFormat R → Scene → CallTextAt
  texts_of format scene = text_at format.replacer scene.settings

  -- the text of a search is read back as the messages of its calls
  abbrev pub SearchesAreReadBack : Type 0
  SearchesAreReadBack =
      (format : JsonFormat R) (scene : Scene) (calls : List PrintedCall) → All HasPrintedWords calls
      → AreReadBack (messages_of format.always_begin_end (shown_path scene.path)
      (texts_of format scene) format.progress.is_begun calls)
      (printed_by (json_rules text_at) scene format calls).text

  -- the text of a search tells its reports: any search with this text has the same reports
  abbrev pub SearchesTell : Type 0
  SearchesTell =
      (format other : JsonFormat R) (scene another : Scene) (calls others : List PrintedCall)
      → All HasPrintedWords calls → All HasPrintedWords others
      → (printed_by (json_rules text_at) scene format calls).text
      ≡ (printed_by (json_rules text_at) another other others).text
      → AllZip IsSameReport (reports_of (shown_path scene.path) (texts_of format scene) calls)
      (reports_of (shown_path another.path) (texts_of other another) others)
