-- The text that a printer in the form of Vim's quickfix list writes: of each part of a report that
-- matches the line in which it starts.
use Rattle.std.specs.Prelude.{ℕ, ◌+◌, ◌-◌, true, false, if◌then◌else◌, List, [], ◌∷◌, ◌++◌}
use Rattle.std.specs.Prelude.{Option, Some, slice_range}
use Rattle.std.specs.List.{flat_map}
use Rattle.grep_lines.specs.Blocks.{block_end, block_start, lines_before}
use Rattle.grep_searcher.specs.Plans.{Call, matches, context}
use Rattle.grep_printer.specs.Formats.{Rules, Scene}
use Rattle.grep_printer.specs.LineTexts.{end_byte, line_text, number_after}
use Rattle.grep_printer.specs.StandardTexts.{call_text, is_hidden, layout_of, standard_rules}
use Rattle.grep_printer.specs.StandardTexts.{text_before}
use Rattle.grep_printer.specs.declared.config.Config.{Config}
use Rattle.grep_printer.specs.declared.fields.Layout.{Layout}
use Rattle.grep_printer.specs.declared.fields.LineKind.{LineKind}
use Rattle.grep_printer.specs.declared.fields.LineKind.TheVariants.{Match, Context}
use Rattle.grep_printer.specs.declared.standard.Progress.{Progress}
use Rattle.grep_printer.specs.declared.vimgrep.VimgrepFormat.{VimgrepFormat}

-- the settings of such a printer: the path is in each line, and the line is written whole
abbrev pub vimgrep_config : Config → Config
vimgrep_config config = record config { heading = false; only_matching = false }

-- By the layout of the lines, what they belong to, and a report.
module _ (layout : Layout) (kind : LineKind) (offset : ℕ) (bytes : List ℕ) where
  -- the line in which a part starts, with the line's number, the column of the part in it, and the
  -- part's offset
  abbrev pub part_line : Option ℕ → ℕ × ℕ → List ℕ
  part_line number part =
      line_text layout kind
      (record {
        number = number;
        column = Some (part.0 - block_start (end_byte layout) bytes (part.0, part.0) + 1);
        offset = offset + part.0;
        start = block_start (end_byte layout) bytes (part.0, part.0);
      })
      (part ∷ [])
      (slice_range bytes (block_start (end_byte layout) bytes (part.0, part.0))
      (block_end (end_byte layout) bytes (part.0, part.0)))

  -- the line of each part, by the number of the first line
  abbrev pub part_lines : Option ℕ → List (ℕ × ℕ) → List ℕ
  part_lines number parts = flat_map
      (λ part. part_line (number_after number (lines_before (end_byte layout) bytes part.0)) part)
      parts

-- the text of a call, by what was reported before. A report with parts has the line of each part,
-- and any other call has the text that a printer of lines writes
abbrev pub vimgrep_text : Config → Progress → Scene → Call → List (ℕ × ℕ) → List ℕ
vimgrep_text config progress scene (matches number offset bytes around) (part ∷ later) =
    if is_hidden progress scene.settings.binary_detection then []
    else text_before (layout_of config scene) progress
    ++ part_lines (layout_of config scene) Match offset bytes number (part ∷ later)
vimgrep_text config progress scene (context kind number offset bytes) (part ∷ later) =
    if is_hidden progress scene.settings.binary_detection then []
    else text_before (layout_of config scene) progress
    ++ part_lines (layout_of config scene) Context offset bytes number (part ∷ later)
vimgrep_text config progress scene call parts = call_text config progress scene call []

-- a search in this form: the text of each call; what was reported is kept as for lines
abbrev pub vimgrep_rules : Rules VimgrepFormat
vimgrep_rules = record {
  begun = λ format follows. record { lines = standard_rules.begun format.lines follows };
  asks = λ format call. true;
  text = λ format scene printed.
      vimgrep_text format.lines.config format.lines.progress scene printed.call printed.parts;
  next = λ format scene printed.
      record { lines = standard_rules.next format.lines scene printed };
  goes_on = λ format scene printed. standard_rules.goes_on format.lines scene printed;
  has_match = λ format. standard_rules.has_match format.lines;
  is_bare = λ format scene. false;
}
