-- The text that a printer of paths writes.
use Rattle.std.specs.Prelude.{List, [], ◌∷◌, ◌++◌, ℕ}
use Rattle.grep_printer.specs.ColoredTexts.{path_color}
use Rattle.grep_printer.specs.Hyperlinks.{linked_path}
use Rattle.grep_printer.specs.declared.colors.ColorSpecs.TheVariants.{Plain}
use Rattle.grep_printer.specs.declared.hyperlinks.PrinterPath.{PrinterPath}
use Rattle.grep_printer.specs.declared.path.PathFormat.{PathFormat}

-- the settings of a new builder
abbrev pub default_path_format : PathFormat
default_path_format = record { color_specs = Plain; terminator = 10 }

-- a path, in its color if there is one and as a link if it has one, and the byte after it
abbrev pub path_text : PathFormat → PrinterPath → List ℕ
path_text format path = linked_path (path_color format.color_specs) path ++ format.terminator ∷ []
