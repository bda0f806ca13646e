-- What is known of a failed writer.
use Rattle.std.specs.Prelude.{◌≡◌, Bool}
use Rattle.std.specs.Global.{Global}
use Rattle.std.specs.IoError.{error_kind}
use Rattle.std.specs.declared.io.Error.{Error}
use Rattle.std.specs.declared.io.ErrorKind.TheVariants.{Other}
use Rattle.grep_searcher.specs.declared.SearchError.{SearchError}
use Rattle.grep_searcher.specs.declared.SearchError.TheVariants.{Io}
use Rattle.linegrep_cli.specs.declared.printers.Printer.{Printer}
use Rattle.linegrep_cli.specs.declared.printers.Printer.TheVariants.{Json, Lines, Parts}
use Rattle.linegrep_cli.specs.declared.printers.Printer.TheVariants.{ReplacedLines}
use Rattle.linegrep_cli.specs.declared.printers.Printer.TheVariants.{ReplacedParts, Summary}

-- the writer of a printer failed
abbrev pub has_failed : {M : Type 0} → Printer M → Bool
has_failed (Lines run) = run.printer.has_failed
has_failed (Parts run) = run.printer.has_failed
has_failed (ReplacedLines run) = run.printer.has_failed
has_failed (ReplacedParts run) = run.printer.has_failed
has_failed (Summary run) = run.printer.has_failed
has_failed (Json run) = run.printer.has_failed

-- an error is the writer's, in the error of a search
abbrev pub IsWrittenError : SearchError Global → Error → Type 0
IsWrittenError (Io cause) error = error ≡ cause
IsWrittenError e error = error_kind error ≡ Other
