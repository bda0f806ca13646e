-- What a run does that lists files.
use Rattle.std.specs.Prelude.{◌≡◌, ◌⊎◌, ℕ, true, if◌then◌else◌, List, MatchBool}
use Rattle.std.specs.Prelude.{MatchResult, Option, Some, Result, Ok, is_ok, is_some}
use Rattle.std.specs.Borrow.{Bor}
use Rattle.std.specs.declared.io.Error.{Error}
use Rattle.grep_output.specs.Outputs.{OutputCall}
use Rattle.grep_printer.specs.JsonEnds.{FailsToPutText, PutsText}
use Rattle.grep_printer.specs.PathTexts.{path_text}
use Rattle.grep_printer.specs.declared.colors.ColorTexts.{ColorTexts}
use Rattle.grep_printer.specs.declared.hyperlinks.PrinterPath.{PrinterPath}
use Rattle.grep_printer.specs.declared.path.PathFormat.{PathFormat}
use Rattle.grep_printer.specs.declared.printed_search.Searched.{Searched}
use Rattle.grep_printer.specs.declared.printer.Printer.{Printer}
use Rattle.linegrep_cli.specs.AcceptedOptions.{AreAcceptedForFiles}
use Rattle.linegrep_cli.specs.ColorOptions.{AreColorsLent}
use Rattle.linegrep_cli.specs.EngineCalls.{EngineCall, finishes, lists, says, searches_file}
use Rattle.linegrep_cli.specs.EngineCalls.{searches_input, sets_quits}
use Rattle.linegrep_cli.specs.FileChoices.{AreChoicesOf}
use Rattle.linegrep_cli.specs.HyperlinkOptions.{AreHyperlinksLent, IsPathShown}
use Rattle.linegrep_cli.specs.OperandRuns.{IsRunOver}
use Rattle.linegrep_cli.specs.OptionMeanings.{paths_of}
use Rattle.linegrep_cli.specs.OptionUses.{has}
use Rattle.linegrep_cli.specs.PathSeparators.{path_separator_of}
use Rattle.linegrep_cli.specs.PrinterOptions.{color_choice, IsNew}
use Rattle.linegrep_cli.specs.PrintingEngines.{IsNothingFound, IsUnsearched}
use Rattle.linegrep_cli.specs.RunScopes.{IsScopeOf}
use Rattle.linegrep_cli.specs.TerminalColors.{colors_for}
use Rattle.linegrep_cli.specs.WriterFlushes.{IsWriterFlushed}
use Rattle.linegrep_cli.specs.Worlds.{World}
use Rattle.linegrep_cli.specs.declared.listing.Lister.{Lister}
use Rattle.linegrep_cli.specs.declared.options.Options.{Options}
use Rattle.linegrep_cli.specs.declared.search.Ended.{Ended}
use Rattle.linegrep_cli.specs.declared.scope.Scope.{Scope}
use Rattle.linegrep_files.specs.FolderFacts.{FolderFacts}
use Rattle.linegrep_files.specs.declared.choices.Choices.{Choices}
use Rattle.linegrep_options.specs.declared.option_id.OptionId.TheVariants.{Null, Quiet}

-- how the paths of files are written that options ask to list: each in its color if there are
-- colors, and after it a line feed, or a NUL
abbrev pub path_format_of : Options → Option (Bor ColorTexts) → PathFormat
path_format_of options chosen = record {
  color_specs = colors_for chosen (color_choice options) options.streams;
  terminator = if has options Null then 0 else 10;
}

-- the printer of paths that options ask for. It has written nothing yet
pub record IsPathPrinterOf (options : Options) (chosen : Option (Bor ColorTexts))
    (printer : Printer PathFormat) : Type 0 where
  pub format : printer.format ≡ path_format_of options chosen
  pub new : IsNew options printer

module _ {S W X : Type 0} (write_step : W → OutputCall → W → Type 0) where
  -- a path is written, unless no path is
  pub record IsPathWritten (old : Lister S W X) (path : PrinterPath) (searched : Searched)
      (new : Lister S W X) : Type 0 where
    pub written : MatchBool old.is_quiet
        ((searched.result ≡ Ok tt) × (new.printer ≡ old.printer) × (new.writer ≡ old.writer))
        (MatchResult searched.result
        (λ _. PutsText write_step old.writer old.printer (path_text old.printer.format path)
        new.writer new.printer)
        (λ e. FailsToPutText write_step old.writer old.printer (path_text old.printer.format path) e
        new.writer new.printer))
    pub has_match : searched.has_match ≡ is_ok searched.result
    pub others : new ≡ record old { printer = new.printer; writer = new.writer }

  -- a file is listed: its path is written as it is shown; or there is no memory for that path, and
  -- nothing is done
  abbrev pub IsListed : (S → FolderFacts) → Lister S W X → Bor (List ℕ) → Searched → Lister S W X
      → Type 0
  IsListed facts_of old path searched new = ((shown : PrinterPath)
      × IsPathShown (facts_of old.system.now) old.path_separator old.hyperlinks (Some path)
      (Some shown)
      × IsPathWritten old shown searched new)
      ⊎ ((is_some old.path_separator ≡ true) × IsUnsearched searched × (new ≡ old))

  -- before a text on standard error, all that is kept of what was written is written
  pub record IsSaidAfter (old : Lister S W X) (result : Result (Unit {0}) Error)
      (new : Lister S W X) : Type 0 where
    pub flushed : IsWriterFlushed write_step old.writer old.printer result new.writer new.printer
    pub others : new ≡ record old {
      printer = new.printer;
      writer = new.writer;
      errors = new.errors;
    }

  -- all that is kept of what was written is written in the end
  pub record IsAllWritten (old : Lister S W X) (result : Result (Unit {0}) Error)
      (new : Lister S W X) : Type 0 where
    pub flushed : IsWriterFlushed write_step old.writer old.printer result new.writer new.printer
    pub others : new ≡ record old { printer = new.printer; writer = new.writer }

  -- what one call does, by what a system may say. Nothing is searched
  abbrev pub IsListerStep : {F : Type 0} → (S → FolderFacts) → Lister S W X → EngineCall F
      → Lister S W X → Type 0
  IsListerStep facts_of old (searches_file path file searched) new =
      IsNothingFound searched × (new ≡ old)
  IsListerStep facts_of old (searches_input path searched) new =
      IsNothingFound searched × (new ≡ old)
  IsListerStep facts_of old (lists path searched) new = IsListed facts_of old path searched new
  IsListerStep facts_of old (says result) new = IsSaidAfter old result new
  IsListerStep facts_of old (sets_quits quits) new = new ≡ old
  IsListerStep facts_of old (finishes result) new = IsAllWritten old result new

-- By what surrounds a run.
module _ {S F R W X : Type 0} (world : World S F R W X) (system : S) where
  -- the engine that options ask for. It has written nothing yet
  pub record IsListerFor (options : Options) (output : W) (errors : X) (lister : Lister S W X)
      : Type 0 where
    pub chosen : Option (Bor ColorTexts)
    pub colored : AreColorsLent options chosen
    pub printer : IsPathPrinterOf options chosen lister.printer
    pub is_quiet : lister.is_quiet ≡ has options Quiet
    pub writes_to : lister.writer ≡ output
    pub says : lister.errors.now ≡ errors
    pub path_separator : lister.path_separator ≡ path_separator_of options
    pub hyperlinks : AreHyperlinksLent (world.folders.facts system) options lister.hyperlinks
    pub asks_system : lister.system.now ≡ system

  -- a run that lists files, by options that are accepted, with the choices of files and the engine
  -- that they ask for. Nothing is read of standard input
  pub record IsListingRun (options : Options) (input : R) (output : W) (errors : X)
      (ended : Ended R W) : Type 0 where
    pub accepted : AreAcceptedForFiles (world.folders.facts system) options
    pub scope : Scope
    pub is_scope : IsScopeOf (world.system.finds system) options scope
    pub choices : Choices
    pub are_choices : AreChoicesOf (world.folders.facts system) options choices
    pub first : Lister S W X
    pub last : Lister S W X
    pub begins : IsListerFor options output errors first
    pub run : IsRunOver (world.folders.facts system) (world.system.finds system)
        (world.opening.opens system) (world.system.identifies system)
        (IsListerStep world.output.step world.folders.facts) (λ lister. lister.printer.has_failed)
        scope choices (paths_of options) first ended.status last
    pub unread : ended.input ≡ input
    pub output_after : ended.output ≡ last.writer
