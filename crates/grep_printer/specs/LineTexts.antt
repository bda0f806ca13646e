-- The text of a line, with the fields before it, and what is written before the first report of a
-- search.
use Rattle.std.specs.Prelude.{ℕ, ◌+◌, ◌-◌, ◌^◌, min, nat_eq, nat_le, Bool, if◌then◌else◌, List, []}
use Rattle.std.specs.Prelude.{◌∷◌}
use Rattle.std.specs.Prelude.{◌++◌, ◌==◌, ◌&&◌, ◌||◌, false, not, nat_lt, length, codes, decimal}
use Rattle.std.specs.Prelude.{drop, take, Vec}
use Rattle.std.specs.Prelude.{Option, Some, None, slice_range}
use Rattle.std.specs.Borrow.{Bor}
use Rattle.std.specs.Global.{Global}
use Rattle.std.specs.List.{count_by, ends_with, list_any, prefix_len}
use Rattle.std.specs.Option.{is_none, option_map, unwrap_or}
use Rattle.bstr.specs.Unicode.{Span, grapheme_spans}
use Rattle.grep_matcher.specs.Lines.{byte_of}
use Rattle.grep_searcher.specs.Lines.{strip}
use Rattle.grep_printer.specs.ColoredTexts.{colored, column_color, highlight_color, line_color}
use Rattle.grep_printer.specs.ColoredTexts.{matched_color, painted, path_color, reaches}
use Rattle.grep_printer.specs.Hyperlinks.{link_end, link_start, linked_path, path_within}
use Rattle.grep_printer.specs.Hyperlinks.{prefix_link, shown_path}
use Rattle.grep_printer.specs.declared.config.Config.{Config}
use Rattle.grep_printer.specs.declared.config.SearchSeparator.{SearchSeparator}
use Rattle.grep_printer.specs.declared.config.SearchSeparator.TheVariants.{Nothing, Blank, Groups}
use Rattle.grep_printer.specs.declared.fields.Layout.{Layout}
use Rattle.grep_printer.specs.declared.fields.LineKind.{LineKind}
use Rattle.grep_printer.specs.declared.fields.LineKind.TheVariants.{Match, Context}
use Rattle.grep_printer.specs.declared.fields.Place.{Place}
use Rattle.grep_printer.specs.declared.hyperlinks.Hyperlink.{Hyperlink}
use Rattle.grep_printer.specs.declared.hyperlinks.PrinterPath.{PrinterPath}
use Rattle.grep_printer.specs.declared.separators.Separators.{Separators}

-- a number, in a color if there is one, and a mark, if there is a number
abbrev pub number_field : Option (List ℕ) → List ℕ → Option ℕ → List ℕ
number_field color mark None = []
number_field color mark (Some number) = colored color (decimal number) ++ mark

-- a text, in a color if there is one, and a mark, if there is a text
abbrev pub text_field : Option (List ℕ) → List ℕ → Option (Bor (List ℕ)) → List ℕ
text_field color mark None = []
text_field color mark (Some text) = colored color text.now ++ mark

-- a path, in a color if there is one and as a link if it has one, and a mark, if there is a path
abbrev pub path_field : Option (List ℕ) → List ℕ → Option PrinterPath → List ℕ
path_field color mark None = []
path_field color mark (Some path) = linked_path color path ++ mark

-- a number after a mark, in a color if there is one, if there is a number
abbrev pub next_number_field : Option (List ℕ) → List ℕ → Option ℕ → List ℕ
next_number_field color before None = []
next_number_field color before (Some number) = before ++ colored color (decimal number)

-- the mark that comes after a number, or the one that has come before it if there is no number
abbrev pub next_mark : List ℕ → List ℕ → Option ℕ → List ℕ
next_mark before mark None = before
next_mark before mark (Some number) = mark

-- the mark after the path before a line, unless a byte comes in its place
abbrev pub mark_after : Option ℕ → List ℕ → List ℕ
mark_after None mark = mark
mark_after (Some end) mark = end ∷ []

-- the terminator of a line, if it isn't at its end
abbrev pub missing_end : ℕ → List ℕ → List ℕ
missing_end terminator line =
    if ends_with nat_eq line (terminator ∷ []) then [] else terminator ∷ []

-- numbers go up by one, and stay at the greatest of 64 bits
abbrev pub next_number : Option ℕ → Option ℕ
next_number None = None
next_number (Some number) = Some (min (number + 1) (2 ^ 64 - 1))

-- the number of a line after so many others, by the number of the first; it stays at the greatest
-- of 64 bits
abbrev pub number_after : Option ℕ → ℕ → Option ℕ
number_after number count = option_map (λ first. min (first + count) (2 ^ 64 - 1)) number

-- the place after a line
abbrev pub place_after : Place → List ℕ → Place
place_after place line = record {
  number = next_number place.number;
  column = place.column;
  offset = place.offset + length line;
  start = place.start + length line;
}

-- lines, or parts in their place, are written as they are, each after its number alone: there is no
-- other field, no link, no limit, no color and no trimming, and the separators are the usual ones
abbrev pub is_plain : Config → Option PrinterPath → Bool
is_plain config path =
    (config.heading || is_none path) && is_none (prefix_link config.heading path)
    && not config.column && not config.byte_offset
    && is_none config.max_columns && is_none (line_color config.color_specs)
    && is_none (matched_color config.color_specs) && not config.trim_ascii
    && is_none config.separators

-- a line as it is, after its number and a mark, if it has one
abbrev pub plain_line : ℕ → ℕ → Option ℕ → List ℕ → List ℕ
plain_line terminator mark number line =
    number_field None (mark ∷ []) number ++ (line ++ missing_end terminator line)

-- lines as they are, each after its own number
abbrev pub plain_lines : ℕ → ℕ → Option ℕ → List (List ℕ) → List ℕ
plain_lines terminator mark number [] = []
plain_lines terminator mark number (line ∷ later) =
    plain_line terminator mark number line
    ++ plain_lines terminator mark (next_number number) later

-- a part of some bytes as a line
abbrev pub plain_part : ℕ → ℕ → Option ℕ → List ℕ → ℕ × ℕ → List ℕ
plain_part terminator mark number bytes part =
    plain_line terminator mark number (slice_range bytes part.0 part.1)

-- a text in a line of its own, if there is one
abbrev pub context_line : Option (Vec ℕ Global) → ℕ → List ℕ
context_line None terminator = []
context_line (Some text) terminator = text.items ++ terminator ∷ []

-- what is written between two groups of lines: two dashes, unless separators are set
abbrev pub break_text : Option (Bor Separators) → ℕ → List ℕ
break_text None terminator = 45 ∷ 45 ∷ terminator ∷ []
break_text (Some separators) terminator = context_line separators.now.context terminator

-- what is written between two searches
abbrev pub separator_text : SearchSeparator → Option (Bor Separators) → ℕ → List ℕ
separator_text Nothing separators terminator = []
separator_text Blank separators terminator = terminator ∷ []
separator_text Groups separators terminator = break_text separators terminator

-- the byte after each field of a line: a colon in a match, and a dash in any other line
abbrev pub mark_byte : LineKind → ℕ
mark_byte Match = 58
mark_byte Context = 45

-- the separator that stands in place of that byte
abbrev pub field_mark : Separators → LineKind → List ℕ
field_mark separators Match = separators.field_match.items
field_mark separators Context = separators.field_context.items

-- the mark after each field of a line: a colon or a dash, unless separators are set
abbrev pub mark_of : Option (Bor Separators) → LineKind → List ℕ
mark_of None kind = mark_byte kind ∷ []
mark_of (Some separators) kind = field_mark separators.now kind

-- whether a line has more bytes than are written
abbrev pub is_long : Option ℕ → List ℕ → Bool
is_long None line = false
is_long (Some most) line = nat_lt most (length line)

-- white space of ASCII
abbrev pub is_space : ℕ → Bool
is_space byte = byte == 32 || (nat_le 9 byte && nat_le byte 13)

-- how many parts are in a line that is too long
abbrev pub counted_notice : ℕ → List ℕ
counted_notice count = codes "[Omitted long line with " ++ (decimal count ++ codes " matches]")

-- what is written in place of a line that is too long, by how many parts are in it
abbrev pub notice : LineKind → ℕ → List ℕ
notice Match count =
    if count == 0 then codes "[Omitted long matching line]" else counted_notice count
notice Context count =
    if count == 0 then codes "[Omitted long context line]" else counted_notice count

-- whether a part has bytes of a line from a position to another, or is empty and begins in it
abbrev pub is_touching : ℕ → ℕ → ℕ × ℕ → Bool
is_touching start end part =
    nat_lt part.0 end && (nat_lt start part.1 || nat_le start part.0)

-- whether a part begins at a position of a line or after it, before the line's end
abbrev pub begins_after : ℕ → ℕ → ℕ × ℕ → Bool
begins_after start end part = nat_le start part.0 && nat_lt part.0 end

-- where the last of some spans ends, or a position if there is none
abbrev pub end_of : ℕ → List Span → ℕ
end_of from [] = from
end_of from (span ∷ later) = end_of span.1 later

-- how many bytes the first so many characters have, as a reader sees characters
abbrev pub preview_len : ℕ → List ℕ → ℕ
preview_len most bytes = end_of 0 (take most (grapheme_spans bytes))

-- what a notice says of parts that begin after the first bytes of a line, by how many there are
abbrev pub counted_more : ℕ → List ℕ
counted_more count = codes " [... "
    ++ (decimal count ++ (if count == 1 then codes " more match]" else codes " more matches]"))

-- what is written after the first bytes of a line that is too long, by how many parts are in it,
-- and how many begin after those bytes
abbrev pub more_notice : ℕ → ℕ → List ℕ
more_notice all later =
    if all == 0 then codes " [... omitted end of long line]" else counted_more later

-- the byte at the end of each line
abbrev pub end_byte : Layout → ℕ
end_byte layout = byte_of layout.terminator

module _ (layout : Layout) where
  -- the column that is written before a line
  abbrev pub shown_column : Place → Option ℕ
  shown_column place = if layout.config.column then place.column else None

  -- the offset that is written before a line
  abbrev pub shown_offset : Place → Option ℕ
  shown_offset place = if layout.config.byte_offset then Some place.offset else None

  -- the fields before a line, each with a mark after it: the path, the number, the column and the
  -- offset. A path that is written as a heading isn't among them
  abbrev pub marked_fields : LineKind → Place → List ℕ
  marked_fields kind place =
      let mark = mark_of layout.config.separators kind in
      (if layout.config.heading then []
      else text_field (path_color layout.config.color_specs)
      (mark_after layout.config.path_terminator mark) (shown_path layout.path))
      ++ (number_field (line_color layout.config.color_specs) mark place.number
      ++ (number_field (column_color layout.config.color_specs) mark (shown_column place)
      ++ number_field (column_color layout.config.color_specs) mark (shown_offset place)))

  -- what comes after the path before a line; nothing does, if the path is written as a heading
  abbrev pub path_mark : List ℕ → List ℕ
  path_mark mark =
      if layout.config.heading then [] else mark_after layout.config.path_terminator mark

  -- the fields before a line as a link to the line. Each mark comes between two fields, and the
  -- last one after the link
  abbrev pub linked_fields : Hyperlink → LineKind → Place → List ℕ
  linked_fields link kind place =
      let mark = mark_of layout.config.separators kind in
      let first = path_mark mark in
      let second = next_mark first mark place.number in
      let third = next_mark second mark (shown_column place) in
      let last = next_mark third mark (shown_offset place) in
      link_start link place.number place.column
      ++ ((if layout.config.heading then []
      else path_within (path_color layout.config.color_specs) layout.path)
      ++ (next_number_field (line_color layout.config.color_specs) first place.number
      ++ (next_number_field (column_color layout.config.color_specs) second (shown_column place)
      ++ (next_number_field (column_color layout.config.color_specs) third (shown_offset place)
      ++ (link_end ++ last)))))

  -- the fields before a line, as a link if they have one
  abbrev pub fields_with : Option Hyperlink → LineKind → Place → List ℕ
  fields_with None kind place = marked_fields kind place
  fields_with (Some link) kind place = linked_fields link kind place

  abbrev pub fields : LineKind → Place → List ℕ
  fields kind place = fields_with (prefix_link layout.config.heading layout.path) kind place

  -- the highlight of a line. A line of a match has it if a part reaches into it, or begins after
  -- its start
  abbrev pub highlight_of : LineKind → Place → List (ℕ × ℕ) → Option (List ℕ)
  highlight_of Match place parts =
      if list_any (reaches place.start) parts then highlight_color layout.config.color_specs
      else None
  highlight_of Context place parts = None

  -- a line that begins at a position of its report. The bytes that are in a part are colored, and
  -- if there is a highlight, the line has it, but for its terminator
  abbrev pub painted_line : Option (List ℕ) → List (ℕ × ℕ) → ℕ → List ℕ → List ℕ
  painted_line highlight parts start line =
      painted (matched_color layout.config.color_specs) highlight parts
      (start + length (strip layout.terminator line)) start line

  -- how many parts are in a line that begins at a position of its report; where parts are written
  -- in place of lines they aren't counted
  abbrev pub counted_parts : List (ℕ × ℕ) → ℕ → List ℕ → ℕ
  counted_parts parts start line =
      if layout.config.only_matching
      then 0
      else count_by (is_touching start (start + length line)) parts

  -- how many bytes at the start of a line are left out: its white space, if lines are trimmed
  abbrev pub indentation : List ℕ → ℕ
  indentation line =
      if layout.config.trim_ascii then prefix_len is_space (strip layout.terminator line) else 0

  -- what is shown of a line
  abbrev pub trimmed : List ℕ → List ℕ
  trimmed line = drop (indentation line) line

  -- the first bytes of a line that is too long
  abbrev pub previewed : List ℕ → List ℕ
  previewed line =
      take (preview_len (unwrap_or layout.config.max_columns 0) (strip layout.terminator line)) line

  -- the first bytes of a line that is too long, and a notice after them. The line begins at a
  -- position of its report
  unfoldable pub preview_text : Option (List ℕ) → List (ℕ × ℕ) → ℕ → List ℕ → List ℕ
  preview_text highlight parts start line =
      painted_line highlight parts start (previewed line)
      ++ more_notice (count_by (is_touching start (start + length line)) parts)
      (count_by (begins_after (start + length (previewed line)) (start + length line)) parts)

  -- what is written of a line that is too long
  unfoldable pub long_text : LineKind → Place → List (ℕ × ℕ) → List ℕ → List ℕ
  long_text kind place parts line =
      if layout.config.max_columns_preview
      then preview_text (highlight_of kind place parts) parts (place.start + indentation line)
      (trimmed line)
      else notice kind (counted_parts parts place.start line)

  -- what is shown of a line, with a terminator at its end: the line as it is trimmed, or what is
  -- written of one that is too long
  unfoldable pub shown_line : LineKind → Place → List (ℕ × ℕ) → List ℕ → List ℕ
  shown_line kind place parts line =
      if is_long layout.config.max_columns (trimmed line)
      then long_text kind place parts line ++ end_byte layout ∷ []
      else painted_line (highlight_of kind place parts) parts (place.start + indentation line)
      (trimmed line)
      ++ missing_end (end_byte layout) (trimmed line)

  -- a line after its fields
  abbrev pub line_text : LineKind → Place → List (ℕ × ℕ) → List ℕ → List ℕ
  line_text kind place parts line =
      fields kind place ++ shown_line kind place parts line

  -- the lines of a match, each with its own number and its own offset, and with the column of the
  -- first match in all of them
  abbrev pub lines_text : LineKind → Place → List (ℕ × ℕ) → List (List ℕ) → List ℕ
  lines_text kind place parts [] = []
  lines_text kind place parts (line ∷ later) =
      line_text kind place parts line ++ lines_text kind (place_after place line) parts later

  -- the path in a line of its own, if it is written as a heading
  abbrev pub heading_text : List ℕ
  heading_text =
      if layout.config.heading
      then path_field (path_color layout.config.color_specs)
      (unwrap_or layout.config.path_terminator (end_byte layout) ∷ []) layout.path
      else []

  -- what is written before the first report of a search, by whether anything was written before it
  abbrev pub opening_text : Bool → List ℕ
  opening_text has_written =
      (if has_written
      then separator_text layout.config.separator layout.config.separators (end_byte layout)
      else [])
      ++ heading_text
