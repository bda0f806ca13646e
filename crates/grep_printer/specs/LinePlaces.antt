-- A law of the text of some lines: each of them has its place in all of them.
use Rattle.std.specs.Prelude.{◌≡◌, ℕ, ◌+◌, ◌<◌, ◌^◌, List, length, take, Option}
use Rattle.std.specs.List.{concat, enumerate_from, flat_map}
use Rattle.std.specs.Option.{IfSome}
use Rattle.grep_printer.specs.LineTexts.{line_text, lines_text, number_after}
use Rattle.grep_printer.specs.LineTexts.{plain_line, plain_lines}
use Rattle.grep_printer.specs.declared.fields.Layout.{Layout}
use Rattle.grep_printer.specs.declared.fields.LineKind.{LineKind}
use Rattle.grep_printer.specs.declared.fields.Place.{Place}

-- a number is one of 64 bits, if there is one
abbrev pub IsWordNumber : Option ℕ → Type 0
IsWordNumber number = IfSome number (λ n. n < 2 ^ 64)

-- the place of the line after some lines, by the place of the first of them: it begins where they
-- end
abbrev pub place_past : Place → List (List ℕ) → Place
place_past place before = record {
  number = number_after place.number (length before);
  column = place.column;
  offset = place.offset + length (concat before);
  start = place.start + length (concat before);
}

-- the text of some lines is that of each, in order, at its place after those before it
abbrev pub LinesArePlaced : Type 0
LinesArePlaced =
    (layout : Layout) (kind : LineKind) (place : Place) (parts : List (ℕ × ℕ))
    (ls : List (List ℕ)) → IsWordNumber place.number → lines_text layout kind place parts ls
    ≡ flat_map (λ line. line_text layout kind (place_past place (take line.0 ls)) parts line.1)
    (enumerate_from 0 ls)

-- the text of lines that are written as they are is the text of each, after its number
abbrev pub PlainLinesAreNumbered : Type 0
PlainLinesAreNumbered =
    (terminator mark : ℕ) (number : Option ℕ) (ls : List (List ℕ)) → IsWordNumber number
    → plain_lines terminator mark number ls
    ≡ flat_map (λ line. plain_line terminator mark (number_after number line.0) line.1)
    (enumerate_from 0 ls)
