-- The settings of the searcher that options ask for.
use Rattle.std.specs.Prelude.{◌≡◌, ◌⊎◌, ℕ, Bool, true, false, not, ◌&&◌, ◌||◌, if◌then◌else◌}
use Rattle.std.specs.Prelude.{List, codes, nat_lt, Option, None, Some, is_none}
use Rattle.std.specs.Borrow.{Bor}
use Rattle.std.specs.Str.{bytes_eq}
use Rattle.grep_searcher.specs.Labels.{label_named}
use Rattle.grep_searcher.specs.ConfigErrors.{IsUnknownEncoding}
use Rattle.grep_searcher.specs.declared.ConfigError.{ConfigError}
use Rattle.grep_searcher.specs.declared.ConfigError.TheVariants.{Memory}
use Rattle.grep_searcher.specs.declared.Label.{Label}
use Rattle.grep_searcher.specs.BuiltSettings.{built, default_settings}
use Rattle.grep_searcher.specs.Plans.{Settings}
use Rattle.grep_searcher.specs.declared.BinaryDetection.{BinaryDetection}
use Rattle.grep_searcher.specs.declared.BinaryDetection.TheVariants.{None as no_detection, Convert}
use Rattle.grep_searcher.specs.declared.LineTerminator.{LineTerminator}
use Rattle.grep_searcher.specs.declared.LineTerminator.TheVariants.{Byte}
use Rattle.grep_searcher.specs.declared.LineTerminator.TheVariants.{Crlf as carriage_line_feed}
use Rattle.linegrep_cli.specs.OptionMeanings.{after_lines, before_lines, shows_numbers}
use Rattle.linegrep_cli.specs.OptionUses.{has, last_use}
use Rattle.linegrep_options.specs.declared.option_id.OptionId.TheVariants.{Crlf, Encoding}
use Rattle.linegrep_options.specs.declared.option_id.OptionId.TheVariants.{InvertMatch, Multiline}
use Rattle.linegrep_options.specs.declared.option_id.OptionId.TheVariants.{NoBinary, NoText}
use Rattle.linegrep_options.specs.declared.option_id.OptionId.TheVariants.{NullData}
use Rattle.linegrep_options.specs.declared.option_id.OptionId.TheVariants.{Passthru}
use Rattle.linegrep_options.specs.declared.option_id.OptionId.TheVariants.{StopOnNonmatch, Text}
use Rattle.linegrep_options.specs.declared.option_id.OptionId.{OptionId}
use Rattle.linegrep_cli.specs.declared.options.Options.{Options}

-- what ends a line
abbrev pub terminator_of : Options → LineTerminator
terminator_of options = if has options NullData then Byte 0
    else if has options Crlf then carriage_line_feed else Byte 10

-- `-u` is given a third time, and nothing after that about binary files
abbrev pub is_all_searched : Options → Bool
is_all_searched options = is_before Text && is_before NoText && is_before NoBinary
  where
    is_before : OptionId → Bool
    is_before option = nat_lt (last_use options option) options.unrestricted.binary

-- what is done about a file with a NUL
abbrev pub detection_of : Options → BinaryDetection
detection_of options =
    if (has options Text && not (is_all_searched options)) || has options NullData
    then no_detection else Convert 0

-- the label that `-E` gives
abbrev pub label_of : Options → Option (Bor (List ℕ))
label_of options = if has options Encoding then options.encoding else None

-- a label that says whether a mark at the start is looked for, and names no encoding
abbrev pub is_choice : List ℕ → Bool
is_choice label = bytes_eq label (codes "auto") || bytes_eq label (codes "none")

-- the encoding that a label names, if there is a label of an encoding
abbrev pub encoding_of_label : Option (Bor (List ℕ)) → Option Label
encoding_of_label None = None
encoding_of_label (Some label) = if is_choice label.now then None else label_named label.now

-- a mark at the start of the input is looked for
abbrev pub looks_for_mark : Option (Bor (List ℕ)) → Bool
looks_for_mark None = true
looks_for_mark (Some label) = not (bytes_eq label.now (codes "none"))

-- a label that names no encoding, and isn't a choice either
abbrev pub is_unknown_label : Option (Bor (List ℕ)) → Bool
is_unknown_label None = false
is_unknown_label (Some label) = not (is_choice label.now) && is_none (label_named label.now)

-- the error of a label that isn't known, or that there is no memory for it
abbrev pub IsLabelError : Option (Bor (List ℕ)) → ConfigError → Type 0
IsLabelError None error = ⊥
IsLabelError (Some label) error = IsUnknownEncoding label.now error ⊎ (error ≡ Memory)

-- the label of the encoding is refused
abbrev pub refuses_label : Options → Bool
refuses_label options = is_unknown_label (label_of options)

-- some settings, with what options ask for of which lines a search selects
abbrev pub with_selection : Options → Settings → Settings
with_selection options settings = record settings {
  line_terminator = terminator_of options;
  invert_match = has options InvertMatch;
  multi_line = has options Multiline;
  stop_on_nonmatch = has options StopOnNonmatch;
  max_matches = options.max_count;
  binary_detection = detection_of options;
}

-- the settings of the searcher. What no option sets has its default
abbrev pub asked_settings : Options → Settings
asked_settings options = record default_settings {
  line_terminator = terminator_of options;
  invert_match = has options InvertMatch;
  line_number = shows_numbers options;
  multi_line = has options Multiline;
  after_context = after_lines options;
  before_context = before_lines options;
  passthru = has options Passthru;
  binary_detection = detection_of options;
  encoding = encoding_of_label (label_of options);
  bom_sniffing = looks_for_mark (label_of options);
  stop_on_nonmatch = has options StopOnNonmatch;
  max_matches = options.max_count;
}

-- the settings of the searcher
abbrev pub searcher_settings : Options → Settings
searcher_settings options = built (asked_settings options)
