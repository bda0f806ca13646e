-- The text that a printer of JSON writes for the calls of a search.
use Rattle.std.specs.Prelude.{ℕ, Bool, true, false, ◌&&◌, if◌then◌else◌, List, [], ◌++◌, length}
use Rattle.std.specs.Prelude.{codes, Option, None, Some, is_some, not, unwrap_or}
use Rattle.std.specs.Borrow.{Bor}
use Rattle.grep_matcher.specs.Lines.{byte_of}
use Rattle.grep_searcher.specs.Lines.{lines}
use Rattle.grep_searcher.specs.Plans.{Call, begins, matches, context, breaks, binary_data, finishes}
use Rattle.grep_printer.specs.Formats.{Rules, Scene}
use Rattle.grep_printer.specs.Hyperlinks.{shown_path}
use Rattle.grep_printer.specs.JsonMessages.{begin_json, end_json, json_line, report_json}
use Rattle.grep_printer.specs.ReplacerTexts.{TextAt}
use Rattle.grep_printer.specs.StatsSums.{capped_sum, no_stats}
use Rattle.grep_printer.specs.declared.json_printer.JsonFormat.{JsonFormat}
use Rattle.grep_printer.specs.declared.json_printer.JsonProgress.{JsonProgress}
use Rattle.grep_printer.specs.declared.stats.Stats.{Stats}

-- nothing was reported yet
abbrev pub new_json_progress : JsonProgress
new_json_progress = record {
  is_begun = false;
  has_match = false;
  bytes_printed = 0;
  matched_lines = 0;
  matches = 0;
  byte_count = None;
  binary_offset = None;
}

-- the format before the first call of a search
abbrev pub new_json_format : {R : Type 0} → Bool → R → JsonFormat R
new_json_format always_begin_end replacer = record {
  always_begin_end = always_begin_end;
  replacer = replacer;
  progress = new_json_progress;
}

-- the message before the first report of a search, by whether it was written
abbrev pub opening_line : Option (Bor (List ℕ)) → Bool → List ℕ
opening_line path is_begun = if is_begun then [] else json_line (begin_json path)

-- the text of a report, by its type, its bytes, the number of its first line, its offset, its
-- matches, and what would replace the match at a position
abbrev pub report_line : Option (Bor (List ℕ)) → JsonProgress → List ℕ → List ℕ → Option ℕ → ℕ
    → (ℕ → Option (List ℕ)) → List (ℕ × ℕ) → List ℕ
report_line path progress type bytes number offset text_at ranges =
    opening_line path progress.is_begun
    ++ json_line (report_json type path bytes number offset text_at ranges)

-- what was reported so far, after some more bytes were written
abbrev pub with_size : JsonProgress → ℕ → JsonProgress
with_size progress size = record progress {
  is_begun = true;
  bytes_printed = capped_sum progress.bytes_printed size;
}

-- what was reported so far, after a text was written
abbrev pub with_text : JsonProgress → List ℕ → JsonProgress
with_text progress text = with_size progress (length text)

-- what was reported so far, after a match, by how many lines it has, and how often the matcher
-- matches in it
abbrev pub with_match : JsonProgress → ℕ → ℕ → JsonProgress
with_match progress line_count match_count = record progress {
  has_match = true;
  matched_lines = capped_sum progress.matched_lines line_count;
  matches = capped_sum progress.matches match_count;
}

-- what was reported, after the end of the search
abbrev pub with_end : JsonProgress → ℕ → Option ℕ → JsonProgress
with_end progress count binary =
    record progress { byte_count = Some count; binary_offset = binary }

-- whether a message is written when the search begins
abbrev pub is_opened : Bool → JsonProgress → Bool
is_opened always_begin_end progress = always_begin_end && not progress.is_begun

-- By whether `begin` and `end` are written for every search, and by what would replace the match at
-- a position of a report, if something would.
module _ (always_begin_end : Bool) (scene : Scene) (text_at : ℕ → Option (List ℕ)) where
  -- the text of a call with the matches in its report, by what was reported before
  abbrev pub json_text : JsonProgress → Call → List (ℕ × ℕ) → List ℕ
  json_text progress begins ranges =
      if is_opened always_begin_end progress then json_line (begin_json (shown_path scene.path))
      else []
  json_text progress (matches number offset bytes around) ranges =
      report_line (shown_path scene.path) progress (codes "match") bytes number offset text_at
      ranges
  json_text progress (context kind number offset bytes) ranges =
      report_line (shown_path scene.path) progress (codes "context") bytes number offset text_at
      ranges
  json_text progress breaks ranges = []
  json_text progress (binary_data offset) ranges = []
  json_text progress (finishes count binary) ranges = []

  -- what was reported so far, after a call
  abbrev pub json_progress : JsonProgress → Call → List (ℕ × ℕ) → JsonProgress
  json_progress progress begins ranges =
      if is_opened always_begin_end progress
      then with_text progress (json_text progress begins ranges)
      else progress
  json_progress progress (matches number offset bytes around) ranges =
      with_match
      (with_text progress (json_text progress (matches number offset bytes around) ranges))
      (length (lines (byte_of scene.settings.line_terminator) bytes)) (length ranges)
  json_progress progress (context kind number offset bytes) ranges =
      with_text progress (json_text progress (context kind number offset bytes) ranges)
  json_progress progress breaks ranges = progress
  json_progress progress (binary_data offset) ranges = progress
  json_progress progress (finishes count binary) ranges = with_end progress count binary

-- the messages of a search: the text of each call, and what was reported
abbrev pub json_rules : {R : Type 0} → (R → TextAt) → Rules (JsonFormat R)
json_rules text_at = record {
  begun = λ format follows. record format { progress = new_json_progress };
  asks = λ format call. true;
  text = λ format scene printed. json_text format.always_begin_end scene
      (text_at format.replacer scene.settings printed.call) format.progress
      printed.call printed.parts;
  next = λ format scene printed. record format {
    progress = json_progress format.always_begin_end scene
        (text_at format.replacer scene.settings printed.call) format.progress
        printed.call printed.parts;
  };
  goes_on = λ format scene printed. true;
  has_match = λ format. format.progress.has_match;
  is_bare = λ format scene. false;
}

-- whether the search has ended, and something was written of it
abbrev pub is_reported : JsonProgress → Bool
is_reported progress = progress.is_begun && is_some progress.byte_count

-- what was searched, found and written in a search that has ended, by how many nanoseconds it took
abbrev pub stats_of : JsonProgress → ℕ → Stats
stats_of progress elapsed =
    if is_some progress.byte_count
    then record {
      elapsed = elapsed;
      searches = 1;
      searches_with_match = if progress.has_match then 1 else 0;
      bytes_searched = unwrap_or progress.byte_count 0;
      bytes_printed = progress.bytes_printed;
      matched_lines = progress.matched_lines;
      matches = progress.matches;
    }
    else no_stats

-- the message that a search has ended, or nothing if nothing was written of it
abbrev pub end_text : Option (Bor (List ℕ)) → JsonProgress → ℕ → List ℕ
end_text path progress elapsed =
    if is_reported progress
    then json_line (end_json path progress.binary_offset (stats_of progress elapsed))
    else []
