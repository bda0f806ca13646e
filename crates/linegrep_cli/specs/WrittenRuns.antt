-- The theorem of a run: what is written to standard output, and the status, if nothing fails.
use Rattle.std.specs.Prelude.{◌≡◌, ◌≢◌, ◌⊎◌, ℕ, false, if◌then◌else◌, List, ◌++◌}
use Rattle.std.specs.Prelude.{Option, None, Some, Ok, Err, String, Vec, map, string_bytes}
use Rattle.std.specs.Prelude.{length, nat_lt, true}
use Rattle.std.specs.Borrow.{Bor}
use Rattle.std.specs.Global.{Global}
use Rattle.std.specs.IoError.{error_kind}
use Rattle.std.specs.declared.alloc.AllocError.{AllocError}
use Rattle.std.specs.declared.io.Error.{Error}
use Rattle.std.specs.declared.io.ErrorKind.TheVariants.{BrokenPipe}
use Rattle.grep_output.specs.Outputs.{EndsIn, OutputCall, flushes, writes}
use Rattle.grep_printer.specs.declared.colors.ColorTexts.{ColorTexts}
use Rattle.grep_printer.specs.declared.hyperlinks.HyperlinkConfig.{HyperlinkConfig}
use Rattle.grep_printer.specs.declared.separators.Separators.{Separators}
use Rattle.grep_regex.specs.Views.{regex_groups_at, regex_options, regex_patterns}
use Rattle.grep_regex.specs.declared.regex.Regex.{Regex}
use Rattle.grep_replace.specs.declared.template.Template.{Template}
use Rattle.grep_searcher.specs.Meanings.{MatcherFacts}
use Rattle.grep_searcher.specs.Plans.{is_across}
use Rattle.linegrep_cli.specs.AcceptedOptions.{AreAccepted, AreAcceptedForFiles}
use Rattle.linegrep_cli.specs.ColorOptions.{AreColorsLent}
use Rattle.linegrep_cli.specs.ConfigFiles.{AreWords}
use Rattle.linegrep_cli.specs.FileChoices.{AreChoicesOf}
use Rattle.linegrep_cli.specs.HyperlinkOptions.{AreHyperlinksLent}
use Rattle.linegrep_cli.specs.OperandTexts.{operand_texts}
use Rattle.linegrep_cli.specs.OptionMeanings.{paths_of}
use Rattle.linegrep_cli.specs.OptionUses.{has}
use Rattle.linegrep_cli.specs.OptionValues.{AreLists, AreOptions}
use Rattle.linegrep_cli.specs.PathSeparators.{path_separator_of}
use Rattle.linegrep_cli.specs.PatternOptions.{pattern_options, pattern_texts}
use Rattle.linegrep_cli.specs.PrinterOptions.{IsPrinterOf}
use Rattle.linegrep_cli.specs.ListedFiles.{AreListed, ArePathTexts}
use Rattle.linegrep_cli.specs.Listings.{path_format_of}
use Rattle.linegrep_cli.specs.NamedPatterns.{ArePatterns}
use Rattle.linegrep_cli.specs.ProgramRuns.{exclude_each_other, text_asked}
use Rattle.linegrep_cli.specs.RunInputs.{AreSearched, IsFileInput, IsReaderInput}
use Rattle.linegrep_cli.specs.RunScopes.{IsScopeOf}
use Rattle.linegrep_cli.specs.SearchTexts.{AreTextsFor, AreTotals, Findings, Input}
use Rattle.linegrep_cli.specs.SearcherOptions.{searcher_settings}
use Rattle.linegrep_cli.specs.SeparatorOptions.{AreLent}
use Rattle.linegrep_cli.specs.TemplateOptions.{IsTemplateLent}
use Rattle.linegrep_cli.specs.WholeRuns.{IsMatcherOf, Literal, Named, literal_facts}
use Rattle.linegrep_cli.specs.WholeRuns.{literal_first_at, literal_groups_at, named_facts}
use Rattle.linegrep_cli.specs.WholeRuns.{named_first_at, named_groups_at, naming_of}
use Rattle.linegrep_cli.specs.Worlds.{World}
use Rattle.linegrep_cli.specs.declared.lists.Lists.{Lists}
use Rattle.linegrep_cli.specs.declared.options.Options.{Options}
use Rattle.linegrep_cli.specs.declared.printers.Printer.{Printer}
use Rattle.linegrep_cli.specs.declared.program.Streams.{Streams}
use Rattle.linegrep_cli.specs.declared.scope.Scope.{Scope}
use Rattle.linegrep_cli.specs.declared.search.Ended.{Ended}
use Rattle.linegrep_files.specs.Choices.{SaysTheSame}
use Rattle.linegrep_files.specs.FolderFacts.{FolderFacts}
use Rattle.linegrep_files.specs.TypeDefinitions.{IsTypeListOf}
use Rattle.linegrep_files.specs.declared.choices.Choices.{Choices}
use Rattle.linegrep_options.specs.ParsedWords.{AreRead}
use Rattle.linegrep_options.specs.declared.command_line.Parsed.{Parsed}
use Rattle.linegrep_options.specs.declared.option_id.OptionId.TheVariants.{Files, FilesWithoutMatch}
use Rattle.linegrep_options.specs.declared.option_id.OptionId.TheVariants.{Quiet, TypeList}
use Rattle.linegrep_options.specs.declared.uses.Use.{Use}

-- a call of an output fails with an error: it returned the error, or took none of some bytes
abbrev pub FailsWith : Error → OutputCall → Type 0
FailsWith error (flushes (Ok u)) = ⊥
FailsWith error (flushes (Err e)) = e ≡ error
FailsWith error (writes bytes result) = EndsIn error (writes bytes result)

-- the last call of an output failed with an error
abbrev pub HasFailedWith : {W : Type 0} → (W → OutputCall → W → Type 0) → Error → W → Type 0
HasFailedWith {W} write_step error output = (before : W) × (call : OutputCall)
    × write_step before call output × FailsWith error call

-- nobody reads an output any more: its last call said so
abbrev pub IsClosed : {W : Type 0} → (W → OutputCall → W → Type 0) → W → Type 0
IsClosed write_step output = (error : Error) × (error_kind error ≡ BrokenPipe)
    × HasFailedWith write_step error output

-- these are the options that arguments ask for, after those of a file of options
pub record AreOptionsFor {X : Type 0} (say_step : X → OutputCall → X → Type 0)
    (folders : FolderFacts) (arguments : List (Vec ℕ Global)) (streams : Streams) (errors : X)
    (options : Options) : Type 0 where
  pub words : List (Vec ℕ Global)
  pub said : X
  pub are_words : AreWords say_step folders arguments errors words said
  pub parsed : Parsed
  pub are_read : AreRead words parsed
  pub uses : Bor (List Use)
  pub operands : List (Bor (List ℕ))
  pub lists : Lists
  pub uses_are : uses.now ≡ parsed.uses.items
  pub operands_are : map (λ operand. operand.now) operands ≡ operand_texts parsed.operands.items
  pub are_lists : AreLists uses.now operands lists
  pub are_options : AreOptions uses lists streams options

-- a text answers options in place of a search: help, the version, a generated text, or the list of
-- types
abbrev pub IsAnswer : Options → List ℕ → Type 0
IsAnswer options text = (text_asked options ≡ Some text)
    ⊎ ((text_asked options ≡ None) × (has options TypeList ≡ true)
    × IsTypeListOf options.types text)

-- a run has visited all that its options ask for: it isn't quiet, or it is, and looks for a match,
-- and its status says that there is none
abbrev pub VisitsAll : Options → ℕ → Type 0
VisitsAll options status = (has options Quiet ≡ false)
    ⊎ ((has options FilesWithoutMatch ≡ false) × (status ≡ 1))

-- By what surrounds a run, and by what its output held before it.
module _ {S F R W X : Type 0} (world : World S F R W X) (system : S) (before : List ℕ) where
  -- What a run has written that searches for a regular expression: the texts of its searches, one
  -- after the other, in the order in which the inputs are searched, and then the totals. Its status
  -- says whether one of the searches found something.
  pub record HasWritten {M : Type 0} (facts : M → MatcherFacts AllocError)
      (first_at : M → List ℕ → ℕ → Option (ℕ × ℕ))
      (groups_at : M → List ℕ → ℕ → List (Option (ℕ × ℕ))) (options : Options) (regex : Regex)
      (input : R) (ended : Ended R W) : Type 0 where
    pub accepted : AreAccepted (world.folders.facts system) options
    pub matcher : M
    pub is_matcher : IsMatcherOf facts first_at regex matcher
    pub groups : groups_at matcher ≡ regex_groups_at regex
    pub template : Option (Bor Template)
    pub is_template : IsTemplateLent options regex template
    pub separators : Option (Bor Separators)
    pub are_separators : AreLent options separators
    pub colors : Option (Bor ColorTexts)
    pub are_colors : AreColorsLent options colors
    pub hyperlinks : Option (Bor HyperlinkConfig)
    pub are_hyperlinks : AreHyperlinksLent (world.folders.facts system) options hyperlinks
    pub printer : Printer M
    pub is_printer : IsPrinterOf options
        (is_across (searcher_settings options) (facts matcher).meaning) separators colors matcher
        template printer
    pub scope : Scope
    pub is_scope : IsScopeOf (world.system.finds system) options scope
    pub named : Choices
    pub are_named : AreChoicesOf (world.folders.facts system) options named
    pub choices : Choices
    pub are_choices : SaysTheSame named choices
    pub inputs : List Input
    pub are_searched : AreSearched (world.folders.facts system) (world.system.finds system)
        (world.opening.opens system) (world.system.identifies system) scope
        (IsFileInput world.files.remaining (world.folders.facts system) (path_separator_of options)
        hyperlinks)
        (IsReaderInput world.input.remaining world.input.step (world.folders.facts system)
        (path_separator_of options))
        choices (paths_of options) input inputs ended.input
    pub findings : Findings
    pub texts : AreTextsFor facts first_at groups_at (searcher_settings options) matcher printer
        inputs findings
    pub totals : List ℕ
    pub are_totals : AreTotals printer findings.stats totals
    pub written : world.output.contents ended.output ≡ Some (before ++ (findings.text ++ totals))
    pub status_is : ended.status ≡ (if findings.found then 0 else 1)

  -- What a run has written that lists files: the paths of these, one after the other, in the order
  -- in which they would be searched. Its status says whether there is one.
  pub record HasListed (options : Options) (ended : Ended R W) : Type 0 where
    pub accepted : AreAcceptedForFiles (world.folders.facts system) options
    pub colors : Option (Bor ColorTexts)
    pub are_colors : AreColorsLent options colors
    pub hyperlinks : Option (Bor HyperlinkConfig)
    pub are_hyperlinks : AreHyperlinksLent (world.folders.facts system) options hyperlinks
    pub scope : Scope
    pub is_scope : IsScopeOf (world.system.finds system) options scope
    pub named : Choices
    pub are_named : AreChoicesOf (world.folders.facts system) options named
    pub choices : Choices
    pub are_choices : SaysTheSame named choices
    pub paths : List (List ℕ)
    pub are_listed : AreListed (world.folders.facts system) (world.system.finds system) scope
        choices (paths_of options) paths
    pub text : List ℕ
    pub are_texts : ArePathTexts (world.folders.facts system) (path_separator_of options)
        hyperlinks (path_format_of options colors) paths text
    pub written : world.output.contents ended.output ≡ Some (before ++ text)
    pub status_is : ended.status ≡ (if nat_lt 0 (length paths) then 0 else 1)

  -- what a run has written with the matcher that an expression has: that of a literal, or a named
  -- one
  abbrev pub HasWrittenOf : Options → Regex → R → Ended R W → Type 0
  HasWrittenOf options regex input ended =
      HasWritten {M = Literal} literal_facts literal_first_at literal_groups_at options regex input
      ended
      ⊎ HasWritten {M = Named (naming_of regex)} named_facts named_first_at named_groups_at options
      regex input ended

  -- what a run does that neither fails nor is refused: it gives the answer that options ask for; or
  -- else it lists files, or searches, and has written what it found. Nothing is said of a run that
  -- ended at what it looked for
  pub data HasEnded (options : Options) (input : R) (ended : Ended R W) : Type 0 where
    of_answer : (text : List ℕ) → IsAnswer options text → ended.status ≡ 0 → ended.input ≡ input
        → world.output.contents ended.output ≡ Some (before ++ text)
        → HasEnded options input ended
    of_listing : text_asked options ≡ None → has options TypeList ≡ false
        → exclude_each_other options ≡ false → has options Files ≡ true → ended.input ≡ input
        → (VisitsAll options ended.status → HasListed options ended)
        → HasEnded options input ended
    of_search : (patterns : List (String Global)) (mid : R) (regex : Regex)
        → text_asked options ≡ None → has options TypeList ≡ false
        → exclude_each_other options ≡ false → has options Files ≡ false
        → ArePatterns world.input.remaining world.input.step (world.folders.facts system).reads
        options input (map string_bytes patterns) mid
        → regex_options regex ≡ pattern_options options patterns
        → regex_patterns regex ≡ pattern_texts options patterns
        → (VisitsAll options ended.status → HasWrittenOf options regex mid ended)
        → HasEnded options input ended

-- The theorem of a run. If the status isn't 2, nobody reads standard output any more, or it has
-- taken exactly the answer that the arguments ask for, or the texts of the searches that they ask
-- for.
abbrev pub DoesAsAsked : {S F R W X : Type 0} → World S F R W X → S → List (Vec ℕ Global) → Streams
    → R → W → X → Ended R W → Type 0
DoesAsAsked world system arguments streams input output errors ended =
    (before : List ℕ) → world.output.contents output ≡ Some before → ended.status ≢ 2
    → IsClosed world.output.step ended.output
    ⊎ ((options : Options)
    × AreOptionsFor world.errors.step (world.folders.facts system) arguments streams errors options
    × HasEnded world system before options input ended)
