-- The text that a standard printer writes for the calls of a search.
use Rattle.std.specs.Prelude.{ℕ, Bool, true, false, not, ◌&&◌, ◌||◌, if◌then◌else◌}
use Rattle.std.specs.Prelude.{List, [], ◌++◌, codes, decimal, Option, Some, None}
use Rattle.std.specs.Prelude.{is_some}
use Rattle.grep_searcher.specs.Plans.{Call, begins, matches, context, breaks, binary_data}
use Rattle.grep_searcher.specs.Plans.{finishes}
use Rattle.grep_searcher.specs.BinaryDetections.{convert_byte_of}
use Rattle.grep_searcher.specs.declared.BinaryDetection.{BinaryDetection}
use Rattle.grep_searcher.specs.declared.BinaryDetection.TheVariants.{None as no_detection, Quit}
use Rattle.grep_searcher.specs.declared.BinaryDetection.TheVariants.{Convert}
use Rattle.grep_printer.specs.BareTexts.{is_bare}
use Rattle.grep_printer.specs.ColoredTexts.{matched_color, path_color}
use Rattle.grep_printer.specs.Formats.{Rules, Scene}
use Rattle.grep_printer.specs.Hyperlinks.{linked_path}
use Rattle.grep_printer.specs.LineTexts.{break_text, end_byte, opening_text}
use Rattle.grep_printer.specs.PartTexts.{context_text, match_text}
use Rattle.grep_printer.specs.declared.colors.ColorSpecs.TheVariants.{Plain}
use Rattle.grep_printer.specs.declared.config.Config.{Config}
use Rattle.grep_printer.specs.declared.config.SearchSeparator.TheVariants.{Nothing}
use Rattle.grep_printer.specs.declared.fields.Layout.{Layout}
use Rattle.grep_printer.specs.declared.hyperlinks.PrinterPath.{PrinterPath}
use Rattle.grep_printer.specs.declared.standard.Progress.{Progress}
use Rattle.grep_printer.specs.declared.standard.StandardFormat.{StandardFormat}

-- the settings of a new builder
abbrev pub default_config : Config
default_config = record {
  heading = false;
  column = false;
  byte_offset = false;
  only_matching = false;
  max_columns = None;
  max_columns_preview = false;
  path_terminator = None;
  separator = Nothing;
  color_specs = Plain;
  trim_ascii = false;
  separators = None;
}

-- what was reported at the beginning: nothing. It is kept whether the printer has written anything
-- before
abbrev pub new_progress : Bool → Progress
new_progress follows =
    record { follows = follows; has_match = false; is_open = false; binary = None }

-- a path before a message, in a color if there is one and as a link if it has one, if there is a
-- path
abbrev pub path_prefix : Option (List ℕ) → Option PrinterPath → List ℕ
path_prefix color None = []
path_prefix color (Some path) = linked_path color path ++ codes ": "

-- what is written after a search that found a match, and a NUL at an offset, by the color of paths
-- and by what the search does about a NUL
abbrev pub binary_message : Option (List ℕ) → BinaryDetection → Option PrinterPath → ℕ → List ℕ
binary_message color no_detection path offset = []
binary_message color (Quit byte) path offset =
    path_prefix color path
    ++ (codes
    "WARNING: stopped searching binary file after match (found \"\\0\" byte around offset "
    ++ (decimal offset ++ codes ")\n"))
binary_message color (Convert byte) path offset =
    path_prefix color path
    ++ (codes "binary file matches (found \"\\0\" byte around offset "
    ++ (decimal offset ++ codes ")\n"))

-- the message about a binary byte, if the search found one
abbrev pub message_text : Option (List ℕ) → BinaryDetection → Option PrinterPath → Option ℕ
    → List ℕ
message_text color detection path None = []
message_text color detection path (Some offset) = binary_message color detection path offset

-- how lines are laid out
abbrev pub layout_of : Config → Scene → Layout
layout_of config scene = record {
  config = config;
  path = scene.path;
  terminator = scene.settings.line_terminator;
}

-- whether the parts of reports that match are asked for: to write them, their columns, or their
-- colors
abbrev pub asks_for_parts : Config → Bool
asks_for_parts config =
    config.only_matching || config.column || is_some (matched_color config.color_specs)

-- the text of a report with its parts, or of a break between two groups of lines
abbrev pub report_text : Layout → Call → List (ℕ × ℕ) → List ℕ
report_text layout begins parts = []
report_text layout (matches number offset bytes around) parts =
    match_text layout number offset bytes parts
report_text layout (context kind number offset line) parts =
    context_text layout number offset line parts
report_text layout breaks parts = break_text layout.config.separators (end_byte layout)
report_text layout (binary_data offset) parts = []
report_text layout (finishes count binary) parts = []

-- a report isn't written after a binary byte was found that is replaced: it may hold one
abbrev pub is_hidden : Progress → BinaryDetection → Bool
is_hidden progress detection = is_some progress.binary && is_some (convert_byte_of detection)

-- what comes before a report: the opening, if nothing was reported yet
abbrev pub text_before : Layout → Progress → List ℕ
text_before layout progress =
    if progress.is_open then [] else opening_text layout progress.follows

-- the text of a call with its parts, by what was reported before
abbrev pub call_text : Config → Progress → Scene → Call → List (ℕ × ℕ) → List ℕ
call_text config progress scene begins parts = []
call_text config progress scene (matches number offset bytes around) parts =
    if is_hidden progress scene.settings.binary_detection then []
    else text_before (layout_of config scene) progress
    ++ report_text (layout_of config scene) (matches number offset bytes around) parts
call_text config progress scene (context kind number offset line) parts =
    if is_hidden progress scene.settings.binary_detection then []
    else text_before (layout_of config scene) progress
    ++ report_text (layout_of config scene) (context kind number offset line) parts
call_text config progress scene breaks parts = report_text (layout_of config scene) breaks parts
call_text config progress scene (binary_data offset) parts = []
call_text config progress scene (finishes count binary) parts =
    if progress.has_match
    then message_text (path_color config.color_specs) scene.settings.binary_detection scene.path
    binary
    else []

-- whether the search goes on after a call: not after a report that is hidden
abbrev pub goes_on : Progress → BinaryDetection → Call → Bool
goes_on progress detection begins = true
goes_on progress detection (matches number offset bytes around) = not (is_hidden progress detection)
goes_on progress detection (context kind number offset line) = not (is_hidden progress detection)
goes_on progress detection breaks = true
goes_on progress detection (binary_data offset) = true
goes_on progress detection (finishes count binary) = true

-- what was reported so far, after a call
abbrev pub progress_after : Progress → Call → Progress
progress_after progress begins = progress
progress_after progress (matches number offset bytes around) =
    record progress { has_match = true; is_open = true }
progress_after progress (context kind number offset line) = record progress { is_open = true }
progress_after progress breaks = progress
progress_after progress (binary_data offset) = record progress { binary = Some offset }
progress_after progress (finishes count binary) = progress

-- the lines of a search: the text of each call, and what was reported
abbrev pub standard_rules : Rules StandardFormat
standard_rules = record {
  begun = λ format follows. record { config = format.config; progress = new_progress follows };
  asks = λ format call. asks_for_parts format.config;
  text = λ format scene printed.
      call_text format.config format.progress scene printed.call printed.parts;
  next = λ format scene printed.
      record { config = format.config; progress = progress_after format.progress printed.call };
  goes_on = λ format scene printed.
      goes_on format.progress scene.settings.binary_detection printed.call;
  has_match = λ format. format.progress.has_match;
  is_bare = λ format scene. is_bare format.config scene;
}
