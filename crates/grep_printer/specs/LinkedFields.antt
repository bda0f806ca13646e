-- A law of the fields before a line that are a link: the link is around the fields as they are
-- without one, but for the last mark.
use Rattle.std.specs.Prelude.{◌≡◌, List, ◌++◌, ℕ, Some}
use Rattle.grep_printer.specs.Hyperlinks.{link_end, link_start}
use Rattle.grep_printer.specs.LineTexts.{linked_fields, marked_fields}
use Rattle.grep_printer.specs.declared.fields.Layout.{Layout}
use Rattle.grep_printer.specs.declared.fields.LineKind.{LineKind}
use Rattle.grep_printer.specs.declared.fields.Place.{Place}
use Rattle.grep_printer.specs.declared.hyperlinks.Hyperlink.{Hyperlink}
use Rattle.grep_printer.specs.declared.hyperlinks.PrinterPath.{PrinterPath}

-- the fields before a line that are a link: what is within the link, and the mark after it
pub record AreAround (layout : Layout) (link : Hyperlink) (kind : LineKind) (place : Place) : Type 0
  where
    pub within : List ℕ
    pub mark : List ℕ
    pub linked : linked_fields layout link kind place
        ≡ link_start link place.number place.column ++ (within ++ (link_end ++ mark))
    pub unlinked : within ++ mark ≡ marked_fields layout kind place

-- a link is around the fields as they are without one, and the last mark comes after it
abbrev pub LinksAreAround : Type 0
LinksAreAround = (layout : Layout) (path : PrinterPath) (link : Hyperlink) (kind : LineKind)
    (place : Place) → layout.path ≡ Some path → AreAround layout link kind place
