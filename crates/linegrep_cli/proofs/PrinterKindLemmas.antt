-- A printer of a kind is one of its runs.
use Rattle.std.proofs.Common.{◌≡◌, Option, refl}
use Rattle.grep_printer.specs.declared.replaced_format.ReplacedFormat.{ReplacedFormat}
use Rattle.grep_printer.specs.declared.replacers.TemplateReplacer.{TemplateReplacer}
use Rattle.grep_printer.specs.declared.standard.StandardFormat.{StandardFormat}
use Rattle.grep_printer.specs.declared.summary.SummaryFormat.{SummaryFormat}
use Rattle.grep_printer.specs.declared.vimgrep.VimgrepFormat.{VimgrepFormat}
use Rattle.linegrep_cli.specs.PrinterKinds.{IsJson, IsLines, IsParts, IsReplacedLines, IsReplacedParts, IsSummary}
use Rattle.linegrep_cli.specs.declared.counted_run.CountedRun.{CountedRun}
use Rattle.linegrep_cli.specs.declared.json_run.JsonRun.{JsonRun}
use Rattle.linegrep_cli.specs.declared.printers.Printer.{Printer}
use Rattle.linegrep_cli.specs.declared.printers.Printer.TheVariants.{Json, Lines, Parts, ReplacedLines, ReplacedParts}
use Rattle.linegrep_cli.specs.declared.printers.Printer.TheVariants.{Summary}

module _ {M : Type 0} where
  pub lines-run : {P : CountedRun StandardFormat → Type 0} (printer : Printer M) → IsLines P printer
      → (run : CountedRun StandardFormat) × (printer ≡ Lines run) × P run
  lines-run (Lines run) holds = (run, refl, holds)
  lines-run (Parts run) holds = absurd holds
  lines-run (ReplacedLines run) holds = absurd holds
  lines-run (ReplacedParts run) holds = absurd holds
  lines-run (Summary run) holds = absurd holds
  lines-run (Json run) holds = absurd holds

  pub parts-run : {P : CountedRun VimgrepFormat → Type 0} (printer : Printer M) → IsParts P printer
      → (run : CountedRun VimgrepFormat) × (printer ≡ Parts run) × P run
  parts-run (Lines run) holds = absurd holds
  parts-run (Parts run) holds = (run, refl, holds)
  parts-run (ReplacedLines run) holds = absurd holds
  parts-run (ReplacedParts run) holds = absurd holds
  parts-run (Summary run) holds = absurd holds
  parts-run (Json run) holds = absurd holds

  pub replaced-lines-run : {P : CountedRun (ReplacedFormat StandardFormat M) → Type 0} (printer : Printer M)
      → IsReplacedLines P printer
      → (run : CountedRun (ReplacedFormat StandardFormat M)) × (printer ≡ ReplacedLines run) × P run
  replaced-lines-run (Lines run) holds = absurd holds
  replaced-lines-run (Parts run) holds = absurd holds
  replaced-lines-run (ReplacedLines run) holds = (run, refl, holds)
  replaced-lines-run (ReplacedParts run) holds = absurd holds
  replaced-lines-run (Summary run) holds = absurd holds
  replaced-lines-run (Json run) holds = absurd holds

  pub replaced-parts-run : {P : CountedRun (ReplacedFormat VimgrepFormat M) → Type 0} (printer : Printer M)
      → IsReplacedParts P printer
      → (run : CountedRun (ReplacedFormat VimgrepFormat M)) × (printer ≡ ReplacedParts run) × P run
  replaced-parts-run (Lines run) holds = absurd holds
  replaced-parts-run (Parts run) holds = absurd holds
  replaced-parts-run (ReplacedLines run) holds = absurd holds
  replaced-parts-run (ReplacedParts run) holds = (run, refl, holds)
  replaced-parts-run (Summary run) holds = absurd holds
  replaced-parts-run (Json run) holds = absurd holds

  pub summary-run : {P : CountedRun SummaryFormat → Type 0} (printer : Printer M) → IsSummary P printer
      → (run : CountedRun SummaryFormat) × (printer ≡ Summary run) × P run
  summary-run (Lines run) holds = absurd holds
  summary-run (Parts run) holds = absurd holds
  summary-run (ReplacedLines run) holds = absurd holds
  summary-run (ReplacedParts run) holds = absurd holds
  summary-run (Summary run) holds = (run, refl, holds)
  summary-run (Json run) holds = absurd holds

  pub json-run : {P : JsonRun (Option (TemplateReplacer M)) → Type 0} (printer : Printer M) → IsJson P printer
      → (run : JsonRun (Option (TemplateReplacer M))) × (printer ≡ Json run) × P run
  json-run (Lines run) holds = absurd holds
  json-run (Parts run) holds = absurd holds
  json-run (ReplacedLines run) holds = absurd holds
  json-run (ReplacedParts run) holds = absurd holds
  json-run (Summary run) holds = absurd holds
  json-run (Json run) holds = (run, refl, holds)
