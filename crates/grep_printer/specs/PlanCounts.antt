-- What the counts of a printer come to for a whole search, in terms of all its calls.
use Rattle.std.specs.Prelude.{◌≡◌, ℕ, not, Bool, true, false, ◌==◌, if◌then◌else◌}
use Rattle.std.specs.Prelude.{All, List, [], ◌∷◌, ◌++◌, length, max, Option, Some}
use Rattle.std.specs.List.{filter, sum_by}
use Rattle.grep_matcher.specs.Lines.{byte_of}
use Rattle.grep_searcher.specs.Lines.{lines}
use Rattle.grep_searcher.specs.Plans.{Call}
use Rattle.grep_searcher.specs.Plans.{finishes, reported_bytes}
use Rattle.grep_searcher.specs.SearchLaws.{is_match}
use Rattle.grep_printer.specs.Formats.{PrintedCall, Scene, is_text, printed_by}
use Rattle.grep_printer.specs.JsonTexts.{json_rules, new_json_format}
use Rattle.grep_printer.specs.ReplacerTexts.{TextAt}
use Rattle.grep_printer.specs.StatsSums.{capped}
use Rattle.grep_printer.specs.SummaryTexts.{finish_text, is_left_out, no_counts}
use Rattle.grep_printer.specs.SummaryTexts.{summary_rules}
use Rattle.grep_printer.specs.declared.json_printer.JsonProgress.{JsonProgress}
use Rattle.grep_printer.specs.declared.summary.Counts.{Counts}
use Rattle.grep_printer.specs.declared.summary_builder.SummaryConfig.{SummaryConfig}

-- the matches among some calls
abbrev pub matched : List PrintedCall → List PrintedCall
matched calls = filter (λ printed. is_match printed.call) calls

-- how many lines the report of a call has, by the byte at which they end, and how many parts
abbrev pub line_count_of : ℕ → PrintedCall → ℕ
line_count_of terminator printed = length (lines terminator (reported_bytes printed.call))

abbrev pub part_count_of : PrintedCall → ℕ
part_count_of printed = length printed.parts

-- a call that isn't the last one of a search
abbrev pub is_inner : Call → Bool
is_inner (finishes count binary) = false
is_inner call = true

-- the counts of a whole search, by its matches, the text that was made, and its end
abbrev pub json_counts : ℕ → List PrintedCall → List ℕ → ℕ → Option ℕ → JsonProgress
json_counts terminator found text count binary = record {
  is_begun = is_text text;
  has_match = not (length found == 0);
  bytes_printed = capped (length text);
  matched_lines = capped (sum_by (line_count_of terminator) found);
  matches = capped (sum_by part_count_of found);
  byte_count = Some count;
  binary_offset = binary;
}

-- a printer of JSON has these counts at the end of a search
abbrev pub JsonCounts : {R : Type 0} → (R → TextAt) → Type 0
JsonCounts {R} text_at =
    (always_begin_end : Bool) (replacer : R) (scene : Scene) (calls : List PrintedCall)
    (last : PrintedCall) (count : ℕ) (binary : Option ℕ) → last.call ≡ finishes count binary
    → (printed_by (json_rules text_at) scene
    (new_json_format always_begin_end replacer) (calls ++ last ∷ [])).format.progress
    ≡ json_counts (byte_of scene.settings.line_terminator) (matched calls)
    (printed_by (json_rules text_at) scene
    (new_json_format always_begin_end replacer) (calls ++ last ∷ [])).text
    count binary

-- how often a match counts: for each part, and once at least
abbrev pub times_counted : PrintedCall → ℕ
times_counted printed = max 1 (length printed.parts)

-- the counts of a search, by its matches
abbrev pub summary_counts : List PrintedCall → Counts
summary_counts found = record {
  match_count = capped (length found);
  part_count = capped (sum_by times_counted found);
}

-- the matches of a search are counted, and the text is the one for these counts, unless a binary
-- byte ended the search
pub record IsSummedUp (config : SummaryConfig) (scene : Scene) (calls : List PrintedCall)
    (last : PrintedCall) (binary : Option ℕ) : Type 0 where
  pub counts : (printed_by summary_rules scene (record { config = config; counts = no_counts })
      (calls ++ last ∷ [])).format.counts
      ≡ (if is_left_out scene.settings.binary_detection binary
      then no_counts
      else summary_counts (matched calls))
  pub text : (printed_by summary_rules scene (record { config = config; counts = no_counts })
      (calls ++ last ∷ [])).text
      ≡ (if is_left_out scene.settings.binary_detection binary
      then []
      else finish_text config.kind config scene.path (byte_of scene.settings.line_terminator)
      (summary_counts (matched calls)))

abbrev pub SummariesCount : Type 0
SummariesCount =
    (config : SummaryConfig) (scene : Scene) (calls : List PrintedCall) (last : PrintedCall)
    (count : ℕ) (binary : Option ℕ) → All (λ printed. is_inner printed.call ≡ true) calls
    → last.call ≡ finishes count binary → IsSummedUp config scene calls last binary
