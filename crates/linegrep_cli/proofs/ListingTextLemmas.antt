-- What a whole run has written that lists files, and whose status isn't 2.
use Rattle.std.proofs.Common.{◌≡◌, ◌∙◌, ◌⊎◌, ℕ, Bool, true, false, List, [], ◌++◌, ap, inl, inr, refl, subst, sym}
use Rattle.std.proofs.Math.Bool.{and-false}
use Rattle.std.specs.Prelude.{◌≢◌, ◌&&◌, None, Option, Some, Result, if◌then◌else◌, not}
use Rattle.std.specs.Io.KnownBytes.{Appends}
use Rattle.std.specs.declared.io.Error.{Error}
use Rattle.grep_output.specs.Outputs.{OutputCall, taken_by}
use Rattle.linegrep_cli.proofs.FoundLemmas.{said-found}
use Rattle.linegrep_cli.proofs.ListedLemmas.{Has, IsCut, IsSound, calls-keep, finishes-listed, finishing, keep, ordered-listed}
use Rattle.linegrep_cli.proofs.RunEndLemmas.{IsGoodEnd, IsWhole, good-end, run-ended}
use Rattle.linegrep_cli.specs.EngineCalls.{EngineCall}
use Rattle.linegrep_cli.specs.ListedFiles.{IsPath, no_path}
use Rattle.linegrep_cli.specs.Listings.{IsListerStep, IsListingRun, path_format_of}
use Rattle.linegrep_cli.specs.OperandRuns.{ends_with_match, seeks_unmatched}
use Rattle.linegrep_cli.specs.OptionMeanings.{paths_of}
use Rattle.linegrep_cli.specs.OptionUses.{has}
use Rattle.linegrep_cli.specs.PathSeparators.{path_separator_of}
use Rattle.linegrep_cli.specs.PrinterOptions.{counts_all}
use Rattle.linegrep_cli.specs.RunScopes.{quiet_of}
use Rattle.linegrep_cli.specs.WrittenRuns.{HasFailedWith, HasListed, IsClosed, VisitsAll}
use Rattle.linegrep_cli.specs.Worlds.{World}
use Rattle.linegrep_cli.specs.declared.listing.Lister.{Lister}
use Rattle.linegrep_cli.specs.declared.scope.Scope.{Scope}
use Rattle.linegrep_cli.specs.declared.search.Ended.{Ended}
use Rattle.linegrep_cli.specs.declared.options.Options.{Options}
use Rattle.linegrep_files.specs.FolderFacts.{FolderFacts}
use Rattle.linegrep_files.specs.declared.file_id.FileId.{FileId}
use Rattle.linegrep_options.specs.declared.option_id.OptionId.TheVariants.{Files, FilesWithoutMatch}
use Rattle.linegrep_options.specs.declared.option_id.OptionId.TheVariants.{Quiet}

module _ {S F R W X : Type 0} (world : World S F R W X) (system : S)
    (grows : (old new : W) (call : OutputCall) → world.output.step old call new
    → Appends (world.output.contents old) (world.output.contents new) (taken_by call)) (before : List ℕ)
    (options : Options) (input : R) (output : W) (errors : X) (ended : Ended R W)
    (held : world.output.contents output ≡ Some before) (other : ended.status ≢ 2) (visits : VisitsAll options ended.status)
    (lists : has options Files ≡ true) (run : IsListingRun world system options input output errors ended) where
  abbrev contents : W → Option (List ℕ)
  contents = world.output.contents

  abbrev write_step : W → OutputCall → W → Type 0
  write_step = world.output.step

  abbrev facts_of : S → FolderFacts
  facts_of = world.folders.facts

  abbrev finds : List ℕ → Result Bool Error → Type 0
  finds = world.system.finds system

  abbrev opens : List ℕ → Result F Error → Type 0
  opens = world.opening.opens system

  abbrev identifies : F → Option FileId → Type 0
  identifies = world.system.identifies system

  abbrev Step : Lister S W X → EngineCall F → Lister S W X → Type 0
  Step = IsListerStep write_step facts_of

  abbrev failed : Lister S W X → Bool
  failed lister = lister.printer.has_failed

  abbrev At : Bool → List (List ℕ) → Bool → Lister S W X → Type 0
  At = Has contents write_step grows facts_of system (path_separator_of options) run.first.hyperlinks
      (path_format_of options run.begins.chosen) run.first.is_quiet before

  scoped : run.scope.quiet ≡ quiet_of options
  scoped = ap (λ (s : Scope). s.quiet) run.is_scope.2

  -- a file is what is looked for
  sought : seeks_unmatched run.scope.quiet ≡ false
  sought = ap seeks_unmatched scoped ∙ by (has options Quiet)
    where
      by : (quiet : Bool) → seeks_unmatched (if quiet then Some (record {
        seeks_unmatched = has options FilesWithoutMatch && not (has options Files);
        counts_all = counts_all options && not (has options Files);
      }) else None) ≡ false
      by true = ap (λ lists. has options FilesWithoutMatch && not lists) lists
          ∙ and-false (has options FilesWithoutMatch)
      by false = refl

  -- the first one ends a run that is quiet
  ends : run.first.is_quiet ≡ true → ends_with_match run.scope.quiet ≡ true
  ends quiet = ap ends_with_match scoped
      ∙ (ap (λ (is : Bool). ends_with_match (if is then Some (record {
        seeks_unmatched = has options FilesWithoutMatch && not (has options Files);
        counts_all = counts_all options && not (has options Files);
      }) else None)) (sym run.begins.is_quiet ∙ quiet)
      ∙ (ap (λ lists. not (counts_all options && not lists)) lists
      ∙ ap not (and-false (counts_all options))))

  all : run.scope.lists_files ≡ true
  all = ap (λ (s : Scope). s.lists_files) run.is_scope.2 ∙ lists

  reads : run.scope.lists_input ≡ true
  reads = ap (λ (s : Scope). s.lists_input) run.is_scope.2 ∙ lists

  -- the engine as the run begins
  at-first : At false [] false run.first
  at-first = record {
    text = [];
    texts = no_path;
    matched = refl;
    quiet = refl;
    formats = run.begins.printer.format;
    separates = run.begins.path_separator;
    links = refl;
    asks_system = run.begins.asks_system;
    held = before;
    holds = ap contents run.begins.writes_to ∙ held;
    whole = ap (λ waiting. before ++ waiting) (sym run.begins.printer.new.pending);
  }

  abbrev Sound : Lister S W X → Type 0
  Sound = IsSound contents write_step grows facts_of system (path_separator_of options) run.first.hyperlinks
      (path_format_of options run.begins.chosen) run.first.is_quiet before

  abbrev Cut : Error → Lister S W X → Type 0
  Cut = IsCut contents write_step grows facts_of system (path_separator_of options) run.first.hyperlinks
      (path_format_of options run.begins.chosen) run.first.is_quiet before

  abbrev Written : Type 0
  Written = IsClosed write_step ended.output ⊎ HasListed world system before options ended

  -- all was visited and written: the paths
  whole : IsWhole (facts_of system) finds opens identifies Step failed run.scope Sound Cut
      (calls-keep contents write_step grows facts_of system (path_separator_of options) run.first.hyperlinks
      (path_format_of options run.begins.chosen) run.first.is_quiet before F) (λ lister sound. sound)
      (finishing contents write_step grows facts_of system (path_separator_of options) run.first.hyperlinks
      (path_format_of options run.begins.chosen) run.first.is_quiet before F)
      run.choices (paths_of options) run.first ended.status run.last other → Written
  whole is =
      let (paths, are, now) = ordered-listed contents write_step grows facts_of system (path_separator_of options)
      run.first.hyperlinks (path_format_of options run.begins.chosen) run.first.is_quiet before F run.scope sought ends reads opens identifies all
      (facts_of system) finds is.left (paths_of options) is.begun is.total is.mid is.visited good.0
      (said-found IsPath Step failed run.scope At
      (keep contents write_step grows facts_of system (path_separator_of options) run.first.hyperlinks
      (path_format_of options run.begins.chosen) run.first.is_quiet before F run.scope sought ends reads)
      false [] false run.first is.warned None is.begun is.said refl at-first) in
      let (text, texts, matched, holds) = finishes-listed contents write_step grows facts_of system
      (path_separator_of options) run.first.hyperlinks (path_format_of options run.begins.chosen) run.first.is_quiet before F paths
      is.total.has_match is.mid run.last now is.finished in
      inr (record {
        accepted = run.accepted;
        colors = run.begins.chosen;
        are_colors = run.begins.colored;
        hyperlinks = run.first.hyperlinks;
        are_hyperlinks = run.begins.hyperlinks;
        scope = run.scope;
        is_scope = run.is_scope;
        named = run.choices;
        are_named = run.are_choices;
        choices = is.left;
        are_choices = is.same;
        paths = paths;
        are_listed = are;
        text = text;
        are_texts = texts;
        written = ap contents run.output_after ∙ holds;
        status_is = is.status_is ∙ (good.1 ∙ ap (λ found. if found then 0 else 1) matched);
      })
    where
      good : IsGoodEnd run.scope is.total
      good = good-end options run.scope is.total ended.status scoped is.no_failure is.status_is other visits

  pub listing-written : Written
  listing-written = elim (run-ended (facts_of system) finds opens identifies Step failed run.scope Sound Cut
      (calls-keep contents write_step grows facts_of system (path_separator_of options) run.first.hyperlinks
      (path_format_of options run.begins.chosen) run.first.is_quiet before F) (λ lister sound. sound)
      (finishing contents write_step grows facts_of system (path_separator_of options) run.first.hyperlinks
      (path_format_of options run.begins.chosen) run.first.is_quiet before F)
      run.choices (paths_of options) run.first ended.status run.last other run.run run.begins.printer.new.has_failed) [
        | inl (error, broken, cut) ↦ inl (error, broken, subst (HasFailedWith write_step error) (sym run.output_after) cut)
        | inr is ↦ whole is
      ]
