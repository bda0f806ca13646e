-- A link is around the fields before a line as they are without one, but for the last mark.
use Rattle.std.proofs.Common.{◌≡◌, ◌∙◌, ℕ, List, [], ◌++◌, ap, append_assoc, refl, sym}
use Rattle.std.proofs.lemmas.List.{append-nil}
use Rattle.std.specs.Prelude.{Bool, true, false, if◌then◌else◌, decimal, Option, None, Some}
use Rattle.grep_printer.specs.ColoredTexts.{colored, column_color, line_color, path_color}
use Rattle.grep_printer.specs.Hyperlinks.{link_end, link_start, path_within, shown_path}
use Rattle.grep_printer.specs.LineTexts.{mark_after, mark_of, next_mark, next_number_field, number_field, text_field}
use Rattle.grep_printer.specs.LineTexts.{path_mark, shown_column, shown_offset}
use Rattle.grep_printer.specs.LinkedFields.{AreAround, LinksAreAround}
use Rattle.grep_printer.specs.declared.fields.Layout.{Layout}
use Rattle.grep_printer.specs.declared.fields.LineKind.{LineKind}
use Rattle.grep_printer.specs.declared.fields.Place.{Place}
use Rattle.grep_printer.specs.declared.hyperlinks.Hyperlink.{Hyperlink}
use Rattle.grep_printer.specs.declared.hyperlinks.PrinterPath.{PrinterPath}

-- a number with the mark after it, and the mark before it
mark-moved : (color : Option (List ℕ)) (before mark : List ℕ) (number : Option ℕ)
    → before ++ number_field color mark number
    ≡ next_number_field color before number ++ next_mark before mark number
mark-moved color before mark None = append-nil before
mark-moved color before mark (Some number) = sym (append_assoc before (colored color (decimal number)) mark)

-- a mark that is moved past what comes after it
moved : (a b c d rest : List ℕ) → a ++ b ≡ c ++ d → a ++ (b ++ rest) ≡ c ++ (d ++ rest)
moved a b c d rest same = sym (append_assoc a b rest)
    ∙ (ap (λ (xs : List ℕ). xs ++ rest) same ∙ append_assoc c d rest)

-- three marks that are moved
all-moved : (first second third last one two three own other final : List ℕ) → first ++ one ≡ own ++ second
    → second ++ two ≡ other ++ third → third ++ three ≡ final ++ last
    → first ++ (one ++ (two ++ three)) ≡ own ++ (other ++ (final ++ last))
all-moved first second third last one two three own other final a b c =
    moved first one own second (two ++ three) a
    ∙ ap (λ (xs : List ℕ). own ++ xs) (moved second two other third three b
    ∙ ap (λ (xs : List ℕ). other ++ xs) c)

module _ (layout : Layout) (path : PrinterPath) (link : Hyperlink) (kind : LineKind) (place : Place)
    (is : layout.path ≡ Some path) where
  abbrev mark : List ℕ
  mark = mark_of layout.config.separators kind

  abbrev first : List ℕ
  first = path_mark layout mark

  abbrev second : List ℕ
  second = next_mark first mark place.number

  abbrev third : List ℕ
  third = next_mark second mark (shown_column layout place)

  abbrev last : List ℕ
  last = next_mark third mark (shown_offset layout place)

  abbrev own : List ℕ
  own = if layout.config.heading then [] else path_within (path_color layout.config.color_specs) layout.path

  abbrev number : List ℕ
  number = next_number_field (line_color layout.config.color_specs) first place.number

  abbrev column : List ℕ
  column = next_number_field (column_color layout.config.color_specs) second (shown_column layout place)

  abbrev offset : List ℕ
  offset = next_number_field (column_color layout.config.color_specs) third (shown_offset layout place)

  abbrev numbers : List ℕ
  numbers = number_field (line_color layout.config.color_specs) mark place.number
      ++ (number_field (column_color layout.config.color_specs) mark (shown_column layout place)
      ++ number_field (column_color layout.config.color_specs) mark (shown_offset layout place))

  -- the path and the mark after it, as they are without a link
  path-moved : own ++ first ≡ (if layout.config.heading then []
      else text_field (path_color layout.config.color_specs) (mark_after layout.config.path_terminator mark)
      (shown_path layout.path))
  path-moved = by layout.config.heading layout.path is
    where
      by : (heading : Bool) (given : Option PrinterPath) → given ≡ Some path
          → (if heading then [] else path_within (path_color layout.config.color_specs) given)
          ++ (if heading then [] else mark_after layout.config.path_terminator mark)
          ≡ (if heading then [] else text_field (path_color layout.config.color_specs)
          (mark_after layout.config.path_terminator mark) (shown_path given))
      by true given is = refl
      by false None is = absurd cc
      by false (Some given) is = refl

  around : AreAround layout link kind place
  around = record {
    within = own ++ (number ++ (column ++ offset));
    mark = last;
    linked = ap (λ (xs : List ℕ). link_start link place.number place.column ++ xs)
        (sym (append_assoc own (number ++ (column ++ offset)) (link_end ++ last)
        ∙ ap (λ (xs : List ℕ). own ++ xs) (append_assoc number (column ++ offset) (link_end ++ last)
        ∙ ap (λ (xs : List ℕ). number ++ xs) (append_assoc column offset (link_end ++ last)))));
    unlinked = append_assoc own (number ++ (column ++ offset)) last
        ∙ (ap (λ (xs : List ℕ). own ++ xs) (append_assoc number (column ++ offset) last
        ∙ ap (λ (xs : List ℕ). number ++ xs) (append_assoc column offset last))
        ∙ (ap (λ (xs : List ℕ). own ++ xs) (sym (all-moved first second third last
        (number_field (line_color layout.config.color_specs) mark place.number)
        (number_field (column_color layout.config.color_specs) mark (shown_column layout place))
        (number_field (column_color layout.config.color_specs) mark (shown_offset layout place)) number column offset
        (mark-moved (line_color layout.config.color_specs) first mark place.number)
        (mark-moved (column_color layout.config.color_specs) second mark (shown_column layout place))
        (mark-moved (column_color layout.config.color_specs) third mark (shown_offset layout place))))
        ∙ (sym (append_assoc own first numbers)
        ∙ ap (λ (xs : List ℕ). xs ++ numbers) path-moved)));
  }

pub links-around : LinksAreAround
links-around layout path link kind place is = around layout path link kind place is
