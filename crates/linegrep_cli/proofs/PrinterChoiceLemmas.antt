-- The printer of a run, by options that change nothing of it.
use Rattle.std.proofs.Common.{◌≡◌, ◌∙◌, Bool, false, Option, None, Some, ap}
use Rattle.std.proofs.Common.{subst, sym}
use Rattle.std.proofs.lemmas.Option.{same_Some}
use Rattle.std.specs.Borrow.{Bor}
use Rattle.grep_definitions.proofs.BoolLemmas.{clash}
use Rattle.grep_printer.specs.declared.colors.ColorSpecs.{ColorSpecs}
use Rattle.grep_printer.specs.declared.separators.Separators.{Separators}
use Rattle.grep_printer.specs.declared.summary_builder.SummaryKind.{SummaryKind}
use Rattle.grep_replace.specs.declared.template.Template.{Template}
use Rattle.linegrep_cli.specs.OptionUses.{has}
use Rattle.linegrep_cli.specs.PrinterKinds.{IsLines, IsSummary}
use Rattle.linegrep_cli.specs.PrinterOptions.{IsNewRun, IsPrinterFor, IsReplacing, is_vimgrep}
use Rattle.linegrep_cli.specs.PrinterOptions.{line_settings, summary_kind, summary_settings}
use Rattle.linegrep_cli.specs.declared.options.Options.{Options}
use Rattle.linegrep_cli.specs.declared.printers.Printer.{Printer}
use Rattle.linegrep_cli.specs.declared.printers.Printer.TheVariants.{Json, Lines, Parts}
use Rattle.linegrep_cli.specs.declared.printers.Printer.TheVariants.{ReplacedLines, ReplacedParts}
use Rattle.linegrep_cli.specs.declared.printers.Printer.TheVariants.{Summary}
use Rattle.linegrep_options.specs.declared.option_id.OptionId.TheVariants.{Json as json_option}

module _ {M : Type 0} (options : Options) (across : Bool) (separators : Option (Bor Separators))
    (matcher : M) (template : Option (Bor Template)) (colors : ColorSpecs) where
  -- the printer of lines
  pub lines-printer : (printer : Printer M) → summary_kind options across ≡ None
      → is_vimgrep options ≡ false → has options json_option ≡ false → template ≡ None
      → IsPrinterFor options across separators matcher template colors printer
      → IsLines (λ run. (run.printer.format.format.config ≡ line_settings options colors separators)
      × IsNewRun options run) printer
  lines-printer (Lines run) lines whole text plain (none, unread, one, bare, config, new) =
      (config, new)
  lines-printer (Parts run) lines whole text plain (none, unread, parts, bare, config, new) =
      absurd (clash parts whole)
  lines-printer (ReplacedLines run) lines whole text plain (none, unread, one, replaces, config, new) =
      absurd (subst (λ t. IsReplacing matcher t run.printer.format.format) plain replaces)
  lines-printer (ReplacedParts run) lines whole text plain (none, unread, parts, replaces, config, new) =
      absurd (clash parts whole)
  lines-printer (Summary run) lines whole text plain (kind, some, config, new) =
      absurd (let never = sym lines ∙ some in cc)
  lines-printer (Json run) lines whole text plain (none, messages, both, replaces, new, stats) =
      absurd (clash messages text)

  -- the printer of a summary
  pub summary-printer : (printer : Printer M) (kind : SummaryKind)
      → summary_kind options across ≡ Some kind
      → IsPrinterFor options across separators matcher template colors printer
      → IsSummary (λ run. (run.printer.format.format.config ≡ summary_settings options kind colors)
      × IsNewRun options run) printer
  summary-printer (Lines run) kind some (absent, unread, whole, others, config, new) = absurd (let never = sym some ∙ absent in cc)
  summary-printer (Parts run) kind some (absent, unread, whole, others, config, new) = absurd (let never = sym some ∙ absent in cc)
  summary-printer (ReplacedLines run) kind some (absent, unread, whole, others, config, new) =
      absurd (let never = sym some ∙ absent in cc)
  summary-printer (ReplacedParts run) kind some (absent, unread, whole, others, config, new) =
      absurd (let never = sym some ∙ absent in cc)
  summary-printer (Summary run) kind some (other, is, config, new) =
      let same : other ≡ kind = same_Some other kind (sym is ∙ some) in
      (config ∙ ap (λ one. summary_settings options one colors) same, new)
  summary-printer (Json run) kind some (absent, unread, whole, others, config, new) = absurd (let never = sym some ∙ absent in cc)
