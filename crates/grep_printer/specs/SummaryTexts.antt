-- The text that a printer of summaries writes for a search.
use Rattle.std.specs.Prelude.{ℕ, nat_lt, Bool, true, false, ◌==◌, if◌then◌else◌, List, [], ◌∷◌}
use Rattle.std.specs.Prelude.{◌++◌, decimal, length, max, Option, None, is_some, not, ◌&&◌, ◌||◌}
use Rattle.std.specs.Option.{unwrap_or}
use Rattle.grep_matcher.specs.Lines.{byte_of}
use Rattle.grep_searcher.specs.BinaryDetections.{quit_byte_of}
use Rattle.grep_searcher.specs.Plans.{Call, begins, matches, context, breaks, binary_data, finishes}
use Rattle.grep_searcher.specs.SearchLaws.{is_match}
use Rattle.grep_searcher.specs.declared.BinaryDetection.{BinaryDetection}
use Rattle.grep_printer.specs.ColoredTexts.{path_color}
use Rattle.grep_printer.specs.Formats.{Rules, Scene}
use Rattle.grep_printer.specs.LineTexts.{path_field}
use Rattle.grep_printer.specs.StatsSums.{capped_sum}
use Rattle.grep_printer.specs.declared.colors.ColorSpecs.TheVariants.{Plain}
use Rattle.grep_printer.specs.declared.hyperlinks.PrinterPath.{PrinterPath}
use Rattle.grep_printer.specs.declared.summary.Counts.{Counts}
use Rattle.grep_printer.specs.declared.summary.SummaryFormat.{SummaryFormat}
use Rattle.grep_printer.specs.declared.summary_builder.SummaryConfig.{SummaryConfig}
use Rattle.grep_printer.specs.declared.summary_builder.SummaryKind.{SummaryKind}
use Rattle.grep_printer.specs.declared.summary_builder.SummaryKind.TheVariants.{Count}
use Rattle.grep_printer.specs.declared.summary_builder.SummaryKind.TheVariants.{CountMatches}
use Rattle.grep_printer.specs.declared.summary_builder.SummaryKind.TheVariants.{PathWithMatch}
use Rattle.grep_printer.specs.declared.summary_builder.SummaryKind.TheVariants.{PathWithoutMatch}
use Rattle.grep_printer.specs.declared.summary_builder.SummaryKind.TheVariants.{Quiet}

-- the settings of a new builder
abbrev pub default_summary_config : SummaryConfig
default_summary_config = record {
  kind = Count;
  exclude_zero = true;
  counts_all = false;
  path_terminator = None;
  color_specs = Plain;
}

-- nothing was reported yet
abbrev pub no_counts : Counts
no_counts = record { match_count = 0; part_count = 0 }

-- what was reported so far, after some more matches, by how many parts these have. Each count goes
-- up to the greatest number of 64 bits
abbrev pub with_matches : Counts → ℕ → ℕ → Counts
with_matches counts count parts = record {
  match_count = capped_sum counts.match_count count;
  part_count = capped_sum counts.part_count parts;
}

-- a count in a line of its own, after the path if there is one
abbrev pub count_line : SummaryConfig → Option PrinterPath → ℕ → ℕ → List ℕ
count_line config path terminator count =
    path_field (path_color config.color_specs) (unwrap_or config.path_terminator 58 ∷ []) path
    ++ (decimal count ++ terminator ∷ [])

-- a path in a line of its own, if there is one
abbrev pub path_line : SummaryConfig → Option PrinterPath → ℕ → List ℕ
path_line config path terminator =
    path_field (path_color config.color_specs)
    (unwrap_or config.path_terminator terminator ∷ []) path

-- whether a search found what it is for, by how many matches were reported
abbrev pub has_found : SummaryKind → ℕ → Bool
has_found Count count = nat_lt 0 count
has_found CountMatches count = nat_lt 0 count
has_found PathWithMatch count = nat_lt 0 count
has_found PathWithoutMatch count = count == 0
has_found Quiet count = nat_lt 0 count

-- whether the search goes on after a match: only to count the others
abbrev pub counts_on : SummaryKind → Bool
counts_on Count = true
counts_on CountMatches = true
counts_on PathWithMatch = false
counts_on PathWithoutMatch = false
counts_on Quiet = false

-- whether something is written of a search: if it found what it is for, or if counts are written,
-- zero too
abbrev pub is_written : SummaryKind → ℕ → Bool → Bool
is_written kind count exclude_zero =
    has_found kind count || (counts_on kind && not exclude_zero)

-- what is written of a search that found what it is for, by its counts
abbrev pub found_line : SummaryKind → SummaryConfig → Option PrinterPath → ℕ → Counts → List ℕ
found_line Count config path terminator counts =
    count_line config path terminator counts.match_count
found_line CountMatches config path terminator counts =
    count_line config path terminator counts.part_count
found_line PathWithMatch config path terminator counts = path_line config path terminator
found_line PathWithoutMatch config path terminator counts = path_line config path terminator
found_line Quiet config path terminator counts = []

-- what is written when a search has ended, by its counts
abbrev pub finish_text : SummaryKind → SummaryConfig → Option PrinterPath → ℕ → Counts
    → List ℕ
finish_text kind config path terminator counts =
    if is_written kind counts.match_count config.exclude_zero
    then found_line kind config path terminator counts else []

-- a search that a binary byte ended counts for nothing: its matches don't count, and nothing is
-- written of it
abbrev pub is_left_out : BinaryDetection → Option ℕ → Bool
is_left_out detection binary = is_some binary && is_some (quit_byte_of detection)

-- the text of a call, by what was reported: only the end of a search has one
abbrev pub summary_text : SummaryConfig → Counts → Scene → Call → List ℕ
summary_text config counts scene begins = []
summary_text config counts scene (matches number offset bytes around) = []
summary_text config counts scene (context which number offset line) = []
summary_text config counts scene breaks = []
summary_text config counts scene (binary_data offset) = []
summary_text config counts scene (finishes bytes binary) =
    if is_left_out scene.settings.binary_detection binary
    then []
    else finish_text config.kind config scene.path (byte_of scene.settings.line_terminator) counts

-- whether the parts of the reported matches are counted
abbrev pub counts_parts : SummaryKind → Bool
counts_parts Count = false
counts_parts CountMatches = true
counts_parts PathWithMatch = false
counts_parts PathWithoutMatch = false
counts_parts Quiet = false

-- whether the search goes on after a call. It may have to go on after each, so that all is counted
abbrev pub sums_on : Bool → SummaryKind → Call → Bool
sums_on counts_all kind begins = true
sums_on counts_all kind (matches number offset bytes around) = counts_on kind || counts_all
sums_on counts_all kind (context which number offset line) = true
sums_on counts_all kind breaks = true
sums_on counts_all kind (binary_data offset) = true
sums_on counts_all kind (finishes count binary) = true

-- whether the parts of a call are asked for: those of a match, if they are counted
abbrev pub asks_to_count : SummaryKind → Call → Bool
asks_to_count kind call = counts_parts kind && is_match call

-- what was reported so far, after a call, by how many parts it has. A match counts as one part at
-- least. Nothing counts once the search is left out
abbrev pub counts_after : Counts → BinaryDetection → Call → ℕ → Counts
counts_after counts detection begins parts = counts
counts_after counts detection (matches number offset bytes around) parts =
    with_matches counts 1 (max 1 parts)
counts_after counts detection (context which number offset line) parts = counts
counts_after counts detection breaks parts = counts
counts_after counts detection (binary_data offset) parts = counts
counts_after counts detection (finishes bytes binary) parts =
    if is_left_out detection binary then no_counts else counts

-- the summary of a search: the text of each call, and what was reported
abbrev pub summary_rules : Rules SummaryFormat
summary_rules = record {
  begun = λ format follows. record { config = format.config; counts = no_counts };
  asks = λ format call. asks_to_count format.config.kind call;
  text = λ format scene printed. summary_text format.config format.counts scene printed.call;
  next = λ format scene printed. record {
    config = format.config;
    counts = counts_after format.counts scene.settings.binary_detection printed.call
        (length printed.parts);
  };
  goes_on = λ format scene printed.
      sums_on format.config.counts_all format.config.kind printed.call;
  has_match = λ format. has_found format.config.kind format.counts.match_count;
  is_bare = λ format scene. false;
}
