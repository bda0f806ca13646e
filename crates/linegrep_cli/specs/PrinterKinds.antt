-- Which kind a printer is of.
use Rattle.std.specs.Prelude.{Option}
use Rattle.grep_printer.specs.declared.replaced_format.ReplacedFormat.{ReplacedFormat}
use Rattle.grep_printer.specs.declared.replacers.TemplateReplacer.{TemplateReplacer}
use Rattle.grep_printer.specs.declared.standard.StandardFormat.{StandardFormat}
use Rattle.grep_printer.specs.declared.summary.SummaryFormat.{SummaryFormat}
use Rattle.grep_printer.specs.declared.vimgrep.VimgrepFormat.{VimgrepFormat}
use Rattle.linegrep_cli.specs.declared.counted_run.CountedRun.{CountedRun}
use Rattle.linegrep_cli.specs.declared.json_run.JsonRun.{JsonRun}
use Rattle.linegrep_cli.specs.declared.printers.Printer.{Printer}
use Rattle.linegrep_cli.specs.declared.printers.Printer.TheVariants.{Json, Lines, Parts}
use Rattle.linegrep_cli.specs.declared.printers.Printer.TheVariants.{ReplacedLines}
use Rattle.linegrep_cli.specs.declared.printers.Printer.TheVariants.{ReplacedParts, Summary}

-- the printer writes lines, and this holds of its run
abbrev pub IsLines : {M : Type 0} → (CountedRun StandardFormat → Type 0) → Printer M → Type 0
IsLines P (Lines run) = P run
IsLines P printer = ⊥

-- it writes the line of each part that matches
abbrev pub IsParts : {M : Type 0} → (CountedRun VimgrepFormat → Type 0) → Printer M → Type 0
IsParts P (Parts run) = P run
IsParts P printer = ⊥

-- it writes lines in which each match is replaced
abbrev pub IsReplacedLines : {M : Type 0} → (CountedRun (ReplacedFormat StandardFormat M) → Type 0)
    → Printer M → Type 0
IsReplacedLines P (ReplacedLines run) = P run
IsReplacedLines P printer = ⊥

-- it writes such a line for each match
abbrev pub IsReplacedParts : {M : Type 0} → (CountedRun (ReplacedFormat VimgrepFormat M) → Type 0)
    → Printer M → Type 0
IsReplacedParts P (ReplacedParts run) = P run
IsReplacedParts P printer = ⊥

-- it writes a count or a path for each file, or nothing
abbrev pub IsSummary : {M : Type 0} → (CountedRun SummaryFormat → Type 0) → Printer M → Type 0
IsSummary P (Summary run) = P run
IsSummary P printer = ⊥

-- it writes messages in JSON
abbrev pub IsJson : {M : Type 0} → (JsonRun (Option (TemplateReplacer M)) → Type 0) → Printer M
    → Type 0
IsJson P (Json run) = P run
IsJson P printer = ⊥
