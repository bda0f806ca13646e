-- The text of a report: its lines, or the parts of it that match, each in a line of its own.
use Rattle.std.specs.Prelude.{ℕ, ◌+◌, min, max, Bool, not, ◌&&◌, ◌||◌, ◌==◌, if◌then◌else◌}
use Rattle.std.specs.Prelude.{nat_le, nat_lt, List, [], ◌∷◌, ◌++◌, length, Option, Some, None}
use Rattle.std.specs.Prelude.{slice_range}
use Rattle.std.specs.List.{flat_map}
use Rattle.grep_matcher.specs.declared.line_terminator.LineTerminator.{LineTerminator}
use Rattle.grep_searcher.specs.Lines.{lines, strip}
use Rattle.grep_printer.specs.LineTexts.{end_byte, line_text, lines_text, next_number}
use Rattle.grep_printer.specs.declared.fields.Layout.{Layout}
use Rattle.grep_printer.specs.declared.fields.LineKind.{LineKind}
use Rattle.grep_printer.specs.declared.fields.LineKind.TheVariants.{Match, Context}
use Rattle.grep_printer.specs.declared.fields.Place.{Place}
use Rattle.grep_printer.specs.declared.reports.Span.{Span}

-- a line that begins at a position of its report
abbrev pub line_span : LineTerminator → ℕ → List ℕ → Span
line_span terminator start line = record {
  start = start;
  end = start + length (strip terminator line);
  next = start + length line;
}

-- whether a part has bytes of a line without its terminator, or is empty and in the line
abbrev pub is_in_span : Span → ℕ × ℕ → Bool
is_in_span span part =
    nat_lt (max part.0 span.start) (min part.1 span.end)
    || (part.0 == part.1 && (nat_le span.start part.0 && nat_lt part.0 span.next))

-- the place of a part, by the offset of its report: the number of its line, and its own column and
-- offset
abbrev pub part_place : ℕ → Option ℕ → ℕ × ℕ → Place
part_place offset number part = record {
  number = number;
  column = Some (part.0 + 1);
  offset = offset + part.0;
  start = part.0;
}

-- By the layout of the lines, what they belong to, and the bytes of the report with their offset.
module _ (layout : Layout) (kind : LineKind) (offset : ℕ) (bytes : List ℕ) where
  -- a part in a line of its own
  abbrev pub part_text : Option ℕ → ℕ × ℕ → List ℕ
  part_text number part =
      line_text layout kind (part_place offset number part) (part ∷ [])
      (slice_range bytes part.0 part.1)

  -- each part in a line of its own, with the same number
  abbrev pub parts_text : Option ℕ → List (ℕ × ℕ) → List ℕ
  parts_text number parts = flat_map (part_text number) parts

  -- what a part has in a line, with the place of the part: the bytes of the line without its
  -- terminator that are in the part, or nothing if an empty part is in the line
  abbrev pub clipped_text : Option ℕ → Span → ℕ × ℕ → List ℕ
  clipped_text number span part =
      if is_in_span span part
      then line_text layout kind
      (record (part_place offset number part) { start = max part.0 span.start }) (part ∷ [])
      (slice_range bytes (max part.0 span.start)
      (max (max part.0 span.start) (min part.1 span.end)))
      else []

  -- what each part has in each line, line after line, by the number and the position of the first
  -- line
  abbrev pub across_text : Option ℕ → ℕ → List (List ℕ) → List (ℕ × ℕ) → List ℕ
  across_text number start [] parts = []
  across_text number start (line ∷ later) parts =
      flat_map (clipped_text number (line_span layout.terminator start line)) parts
      ++ across_text (next_number number) (start + length line) later parts

-- the column of the first part, counted from 1, if there is a part
abbrev pub column_of : List (ℕ × ℕ) → Option ℕ
column_of [] = None
column_of (part ∷ later) = Some (part.0 + 1)

module _ (layout : Layout) where
  -- whether the parts of a report are written in place of its lines
  abbrev pub writes_parts : List (ℕ × ℕ) → Bool
  writes_parts parts = layout.config.only_matching && not (length parts == 0)

  -- a match: what its parts have in each of its lines, or its lines
  abbrev pub match_text : Option ℕ → ℕ → List ℕ → List (ℕ × ℕ) → List ℕ
  match_text number offset bytes parts =
      if writes_parts parts
      then across_text layout Match offset bytes number 0 (lines (end_byte layout) bytes) parts
      else lines_text layout Match
      (record { number = number; column = column_of parts; offset = offset; start = 0 })
      parts (lines (end_byte layout) bytes)

  -- a line that isn't a match: its parts, or all of it
  abbrev pub context_text : Option ℕ → ℕ → List ℕ → List (ℕ × ℕ) → List ℕ
  context_text number offset line parts =
      if writes_parts parts
      then parts_text layout Context offset line number parts
      else line_text layout Context
      (record { number = number; column = column_of parts; offset = offset; start = 0 })
      parts line
