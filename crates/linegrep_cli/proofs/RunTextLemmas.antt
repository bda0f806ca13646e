-- What a whole run has written whose status isn't 2.
use Rattle.std.proofs.Common.{◌≡◌, ◌∙◌, ℕ, Bool, true, false, List, [], ◌++◌, ap, refl, subst, sym}
use Rattle.std.proofs.Common.{◌⊎◌, inl, inr, true≢false}
use Rattle.std.specs.Prelude.{◌≢◌, ◌&&◌, None, Option, Some, Result, Ok, Err, Vec, not}
use Rattle.std.specs.Prelude.{if◌then◌else◌}
use Rattle.std.specs.Borrow.{Bor}
use Rattle.std.specs.Global.{Global}
use Rattle.std.specs.declared.alloc.AllocError.{AllocError}
use Rattle.std.specs.declared.io.Error.{Error}
use Rattle.std.specs.Io.KnownBytes.{Appends}
use Rattle.grep_output.specs.Outputs.{OutputCall, taken_by}
use Rattle.grep_output.specs.PendingTexts.{Flushes}
use Rattle.grep_printer.specs.declared.colors.ColorSpecs.{ColorSpecs}
use Rattle.grep_printer.specs.declared.printer.Printer.{Printer as Writer}
use Rattle.grep_printer.specs.declared.separators.Separators.{Separators}
use Rattle.grep_regex.specs.declared.regex.Regex.{Regex}
use Rattle.grep_replace.specs.declared.template.Template.{Template}
use Rattle.grep_searcher.specs.Meanings.{MatcherFacts}
use Rattle.grep_searcher.specs.Plans.{Settings}
use Rattle.grep_searcher.specs.Source.{ReadResult}
use Rattle.grep_searcher.specs.declared.BinaryDetection.{BinaryDetection}
use Rattle.grep_searcher.specs.declared.BinaryDetection.TheVariants.{Convert, Quit, None as no_detection}
use Rattle.grep_searcher.specs.declared.LineTerminator.{LineTerminator}
use Rattle.linegrep_cli.proofs.EngineTextLemmas.{IsAt, IsSound, calls-keep, file-kept, finishes-after}
use Rattle.linegrep_cli.proofs.EngineTextLemmas.{finishes-kept, finishes-sound, input-kept, quits-kept, text-kept}
use Rattle.linegrep_cli.proofs.OutputTextLemmas.{all-flushed, flush-failed}
use Rattle.linegrep_cli.proofs.PrinterTextLemmas.{IsPrinterAfter, IsRunAfter, IsWriterAfter, pending_of}
use Rattle.linegrep_cli.proofs.PrinterTotalLemmas.{after-unfailed}
use Rattle.linegrep_cli.proofs.LateTextLemmas.{ordered-visited}
use Rattle.linegrep_cli.proofs.ListingTextLemmas.{listing-written}
use Rattle.linegrep_cli.proofs.RunEndLemmas.{IsGoodEnd, IsWhole, good-end, run-ended, visits-or-not}
use Rattle.linegrep_cli.proofs.VisitSoundLemmas.{CallsKeep}
use Rattle.linegrep_cli.proofs.VisitTextLemmas.{StepsKeep, said-all}
use Rattle.linegrep_cli.specs.EngineCalls.{EngineCall, finishes}
use Rattle.linegrep_cli.specs.EngineSteps.{has_failed}
use Rattle.linegrep_cli.specs.OperandRuns.{seeks_unmatched}
use Rattle.linegrep_cli.specs.OptionMeanings.{paths_of}
use Rattle.linegrep_cli.specs.OptionUses.{has}
use Rattle.linegrep_cli.specs.PathSeparators.{path_separator_of}
use Rattle.linegrep_cli.specs.PrinterOptions.{IsNew, IsNewRun, IsPrinterFor, counts_all}
use Rattle.linegrep_cli.specs.PrintingEngines.{IsEngineStep, detection_with}
use Rattle.linegrep_cli.specs.ProgramRuns.{HasAnswerStatus, IsAnswered, IsOptionsRun, IsProgramRun}
use Rattle.linegrep_cli.specs.ProgramRuns.{of_fault, of_listing as OfListing, of_options, of_parsed, of_refusal}
use Rattle.linegrep_cli.specs.ProgramRuns.{of_search as OfSearch}
use Rattle.linegrep_cli.specs.ProgramRuns.{of_text, of_types}
use Rattle.linegrep_cli.specs.ProgramRuns.{without_memory}
use Rattle.linegrep_cli.specs.RunInputs.{AreSearched, IsFileInput, IsReaderInput}
use Rattle.linegrep_cli.specs.RunScopes.{quiet_of}
use Rattle.linegrep_cli.specs.SearchTexts.{Input, no_findings, no_input, settings_for}
use Rattle.linegrep_cli.specs.SearcherOptions.{searcher_settings}
use Rattle.linegrep_cli.specs.WholeRuns.{IsRunFor, IsRunWith}
use Rattle.linegrep_cli.specs.WrittenRuns.{AreOptionsFor, DoesAsAsked, HasEnded, HasFailedWith, HasWritten}
use Rattle.linegrep_cli.specs.WrittenRuns.{HasWrittenOf, IsAnswer, IsClosed, VisitsAll, of_answer, of_listing, of_search}
use Rattle.linegrep_cli.specs.Worlds.{World}
use Rattle.linegrep_cli.specs.declared.counted_run.CountedRun.{CountedRun}
use Rattle.linegrep_cli.specs.declared.engine.PrintingEngine.{PrintingEngine}
use Rattle.linegrep_cli.specs.declared.options.Options.{Options}
use Rattle.linegrep_cli.specs.declared.printers.Printer.{Printer}
use Rattle.linegrep_cli.specs.declared.printers.Printer.TheVariants.{Json, Lines, Parts, ReplacedLines, ReplacedParts}
use Rattle.linegrep_cli.specs.declared.printers.Printer.TheVariants.{Summary}
use Rattle.linegrep_cli.specs.declared.program.Streams.{Streams}
use Rattle.linegrep_cli.specs.declared.scope.Scope.{Scope}
use Rattle.linegrep_cli.specs.declared.search.Ended.{Ended}
use Rattle.linegrep_options.specs.declared.option_id.OptionId.TheVariants.{Files, FilesWithoutMatch}
use Rattle.linegrep_options.specs.declared.option_id.OptionId.TheVariants.{Quiet}
use Rattle.linegrep_files.specs.FolderFacts.{FolderFacts}
use Rattle.linegrep_files.specs.declared.file_id.FileId.{FileId}

-- the printer of a run that begins has found nothing
begun-writer : {G : Type 0} (options : Options) (printer : Writer G) → IsNew options printer
    → IsWriterAfter printer.format printer no_findings
begun-writer options printer is = record { same = refl; has_written = is.has_written; unfailed = is.has_failed }

begun-run : {G : Type 0} (options : Options) (run : CountedRun G) → IsNewRun options run
    → IsRunAfter run.printer.format run no_findings
begun-run options run is = record { writer = begun-writer options run.printer is.printer; counts = is.stats }

begun-printer : {M : Type 0} (options : Options) (across : Bool) (separators : Option (Bor Separators)) (matcher : M)
    (template : Option (Bor Template)) (colors : ColorSpecs) (printer : Printer M)
    → IsPrinterFor options across separators matcher template colors printer
    → IsPrinterAfter printer printer no_findings × (pending_of printer ≡ [])
begun-printer options across separators matcher template colors (Lines run) (kind, json, parts, none, is, new) =
    (begun-run options run new, new.printer.pending)
begun-printer options across separators matcher template colors (Parts run) (kind, json, parts, none, is, new) =
    (begun-run options run new, new.printer.pending)
begun-printer options across separators matcher template colors (ReplacedLines run)
    (kind, json, parts, replacing, is, new) = (begun-run options run new, new.printer.pending)
begun-printer options across separators matcher template colors (ReplacedParts run)
    (kind, json, parts, replacing, is, new) = (begun-run options run new, new.printer.pending)
begun-printer options across separators matcher template colors (Summary run) (kind, is_kind, is, new) =
    (begun-run options run new, new.printer.pending)
begun-printer options across separators matcher template colors (Json run)
    (kind, json, begins, replacing, new, counts) =
    (record { writer = begun-writer options run.printer new; counts = counts }, new.pending)

-- binary files are searched to their end at first
ends-late : (settings : Settings) → settings ≡ settings_for settings false
ends-late settings = ap (λ d. record settings { binary_detection = d }) (by settings.binary_detection)
  where
    by : (detection : BinaryDetection) → detection ≡ detection_with false detection
    by no_detection = refl
    by (Quit byte) = refl
    by (Convert byte) = refl

module _ {S F R W X : Type 0} (message : AllocError → Option (List ℕ)) (world : World S F R W X) (system : S)
    (grows : (old new : W) (call : OutputCall) → world.output.step old call new
    → Appends (world.output.contents old) (world.output.contents new) (taken_by call)) (before : List ℕ)
    (options : Options) where
  abbrev contents : W → Option (List ℕ)
  contents = world.output.contents

  abbrev write_step : W → OutputCall → W → Type 0
  write_step = world.output.step

  abbrev file_remaining : F → Option (List ℕ)
  file_remaining = world.files.remaining

  abbrev remaining : R → Option (List ℕ)
  remaining = world.input.remaining

  abbrev read_step : R → ReadResult → R → Type 0
  read_step = world.input.step

  abbrev facts_of : S → FolderFacts
  facts_of = world.folders.facts

  abbrev finds : List ℕ → Result Bool Error → Type 0
  finds = world.system.finds system

  abbrev opens : List ℕ → Result F Error → Type 0
  opens = world.opening.opens system

  abbrev identifies : F → Option FileId → Type 0
  identifies = world.system.identifies system

  abbrev folders : FolderFacts
  folders = facts_of system

  -- an answer, unless nobody reads it
  answered : (text : List ℕ) (input : R) (output : W) (errors : X) (ended : Ended R W) (errors' : X)
      → contents output ≡ Some before → ended.status ≢ 2
      → IsAnswered write_step world.errors.step text input output errors ended errors'
      → IsClosed write_step ended.output
      ⊎ ((ended.status ≡ 0) × (contents ended.output ≡ Some (before ++ text)))
  answered text input output errors ended errors' held other is = by is.written is.flushed is.status
    where
      by : (written : Result (Unit {0}) Error) → Flushes write_step output text written ended.output
          → HasAnswerStatus written ended.status
          → IsClosed write_step ended.output
          ⊎ ((ended.status ≡ 0) × (contents ended.output ≡ Some (before ++ text)))
      by (Ok u) flushed zero =
          inr (zero, all-flushed contents write_step grows output ended.output before text held flushed)
      by (Err error) flushed (inl (broken, zero)) =
          inl (error, broken, flush-failed write_step output ended.output text error flushed)
      by (Err error) flushed (inr (whole, two)) = absurd (other two)

  module _ {M : Type 0} (facts : M → MatcherFacts AllocError) (first_at : M → List ℕ → ℕ → Option (ℕ × ℕ))
      (groups_at : M → List ℕ → ℕ → List (Option (ℕ × ℕ))) (regex : Regex) (input : R) (output : W) (errors : X)
      (ended : Ended R W) (held : contents output ≡ Some before) (other : ended.status ≢ 2)
      (visits : VisitsAll options ended.status) (searching : has options Files ≡ false)
      (run-for : IsRunFor message facts first_at groups_at world system options regex input output errors ended) where
    abbrev run : IsRunWith message facts first_at groups_at world system options run-for.matcher run-for.template input
        output errors ended
    run = run-for.run

    abbrev settings : Settings
    settings = searcher_settings options

    abbrev Step : PrintingEngine S F M R W X → EngineCall F → PrintingEngine S F M R W X → Type 0
    Step = IsEngineStep message facts first_at groups_at write_step file_remaining remaining read_step facts_of

    abbrev trusted : (terminator : LineTerminator) → (facts run-for.matcher).is_lawful terminator
    trusted = run-for.is_matcher.trusted

    abbrev At : Bool → List Input → Bool → R → PrintingEngine S F M R W X → Type 0
    At = IsAt message facts first_at groups_at write_step file_remaining remaining read_step contents grows settings
        (path_separator_of options) facts_of system run.first.hyperlinks run-for.matcher trusted run.first.printer before

    abbrev Sound : PrintingEngine S F M R W X → Type 0
    Sound = IsSound message facts first_at groups_at write_step file_remaining remaining read_step contents grows
        settings
        (path_separator_of options) facts_of system run.first.hyperlinks run-for.matcher trusted run.first.printer before

    scoped : run.scope.quiet ≡ quiet_of options
    scoped = ap (λ (s : Scope). s.quiet) run.is_scope.2

    -- a match is what is looked for
    sought : seeks_unmatched run.scope.quiet ≡ false
    sought = ap seeks_unmatched scoped ∙ by (has options Quiet) refl visits
      where
        by : (quiet : Bool) → has options Quiet ≡ quiet → VisitsAll options ended.status
            → seeks_unmatched (if quiet then Some (record {
              seeks_unmatched = has options FilesWithoutMatch && not (has options Files);
              counts_all = counts_all options && not (has options Files);
            }) else None) ≡ false
        by true is (inl loud) = absurd (true≢false (sym is ∙ loud))
        by true is (inr (seeks, one)) = ap (λ seeks. seeks && not (has options Files)) seeks
        by false is visits = refl

    searches : run.scope.lists_files ≡ false
    searches = ap (λ (s : Scope). s.lists_files) run.is_scope.2 ∙ searching

    reads_input : run.scope.lists_input ≡ false
    reads_input = ap (λ (s : Scope). s.lists_input) run.is_scope.2 ∙ searching

    begun : IsPrinterAfter run.first.printer run.first.printer no_findings × (pending_of run.first.printer ≡ [])
    begun = begun-printer options _ run.begins.separators run-for.matcher run-for.template _ run.first.printer
        run.begins.printer

    -- the engine as the run begins
    at-first : At false [] false input run.first
    at-first = record {
      findings = no_findings;
      texts = no_input;
      found_is = refl;
      is_settings = run.begins.settings ∙ ends-late settings;
      asks = run.begins.asks;
      detects = run.begins.detection;
      separates = run.begins.path_separator;
      links = refl;
      asks_system = run.begins.asks_system;
      reads = run.begins.haystack;
      after = begun.0;
      held = before;
      holds = ap contents run.begins.writes_to ∙ held;
      whole = ap (λ waiting. before ++ waiting) (sym begun.1);
    }

    sound-first : Sound run.first
    sound-first = record {
      asks = run.begins.asks;
      unfailed = after-unfailed run.first.printer run.first.printer no_findings begun.0;
    }

    abbrev IsFile : Option (Bor (List ℕ)) → F → Bool → Input → Type 0
    IsFile = IsFileInput file_remaining folders (path_separator_of options) run.first.hyperlinks

    abbrev IsReader : Option (Bor (List ℕ)) → R → Input → R → Type 0
    IsReader = IsReaderInput remaining read_step folders (path_separator_of options)

    kept : StepsKeep folders finds opens identifies Step
        (λ engine. has_failed engine.printer) run.scope IsFile IsReader At
    kept = record {
      file = file-kept message facts first_at groups_at write_step file_remaining remaining read_step contents grows
          settings
          (path_separator_of options) facts_of system run.first.hyperlinks run-for.matcher trusted run.first.printer before;
      input = input-kept message facts first_at groups_at write_step file_remaining remaining read_step contents grows
          settings (path_separator_of options) facts_of system run.first.hyperlinks run-for.matcher trusted run.first.printer before;
      text = text-kept message facts first_at groups_at write_step file_remaining remaining read_step contents grows
          settings
          (path_separator_of options) facts_of system run.first.hyperlinks run-for.matcher trusted run.first.printer before;
      quits = quits-kept message facts first_at groups_at write_step file_remaining remaining read_step contents grows
          settings (path_separator_of options) facts_of system run.first.hyperlinks run-for.matcher trusted run.first.printer before;
    }

    abbrev Cut : Error → PrintingEngine S F M R W X → Type 0
    Cut error engine = HasFailedWith write_step error engine.writer

    keep : CallsKeep Step (λ engine. has_failed engine.printer) Sound Cut
    keep = calls-keep message facts first_at groups_at write_step file_remaining remaining read_step contents grows
        settings
        (path_separator_of options) facts_of system run.first.hyperlinks run-for.matcher trusted run.first.printer before

    is-unfailed : (engine : PrintingEngine S F M R W X) → Sound engine → has_failed engine.printer ≡ false
    is-unfailed engine sound = sound.unfailed

    finishing : (old new : PrintingEngine S F M R W X) (error : Error) → Sound old → Step old (finishes (Err error)) new
        → Sound new ⊎ Cut error new
    finishing old new error sound failed = elim (finishes-after message facts first_at groups_at write_step file_remaining
        remaining read_step contents grows settings (path_separator_of options) facts_of system run.first.hyperlinks
        run-for.matcher trusted run.first.printer before old new error sound failed) [
          | inl still ↦ inl (finishes-sound message facts first_at groups_at write_step file_remaining remaining read_step
              contents grows settings (path_separator_of options) facts_of system run.first.hyperlinks run-for.matcher
              trusted run.first.printer before old new (Err error) sound failed still)
          | inr cut ↦ inr cut
        ]

    abbrev Written : Type 0
    Written = IsClosed write_step ended.output
        ⊎ HasWritten world system before facts first_at groups_at options regex input ended

    -- all was visited and written: the texts of the searches
    whole : IsWhole folders finds opens identifies Step (λ engine. has_failed engine.printer) run.scope Sound Cut keep
        is-unfailed finishing run.choices (paths_of options) run.first ended.status run.last other → Written
    whole is =
        let (inputs, reader, are, now) = ordered-visited folders finds opens identifies Step
        (λ engine. has_failed engine.printer) run.scope IsFile IsReader At kept sought searches reads_input input is.left
        (paths_of options) is.begun is.total is.mid is.visited good.0
        (said-all folders finds opens identifies Step (λ engine. has_failed engine.printer) run.scope IsFile IsReader At
        kept sought searches reads_input false [] false input run.first is.warned None is.begun is.said refl at-first) in
        let done = finishes-kept message facts first_at groups_at write_step file_remaining remaining read_step contents
        grows settings (path_separator_of options) facts_of system run.first.hyperlinks run-for.matcher trusted
        run.first.printer before inputs is.total.has_match reader is.mid run.last now is.finished in
        inr (record {
          accepted = run.accepted;
          matcher = run-for.matcher;
          is_matcher = run-for.is_matcher;
          groups = run-for.groups;
          template = run-for.template;
          is_template = run-for.is_template;
          separators = run.begins.separators;
          are_separators = run.begins.lent;
          colors = run.begins.chosen;
          are_colors = run.begins.colored;
          hyperlinks = run.first.hyperlinks;
          are_hyperlinks = run.begins.hyperlinks;
          printer = run.first.printer;
          is_printer = run.begins.printer;
          scope = run.scope;
          is_scope = run.is_scope;
          named = run.choices;
          are_named = run.are_choices;
          choices = is.left;
          are_choices = is.same;
          inputs = inputs;
          are_searched = subst
              (λ r. AreSearched folders finds opens identifies run.scope IsFile IsReader is.left (paths_of options) input
              inputs r) (sym (run.input_after ∙ done.reads)) are;
          findings = done.findings;
          texts = done.texts;
          totals = done.totals;
          are_totals = done.are_totals;
          written = ap contents run.output_after ∙ done.holds;
          status_is = is.status_is ∙ (good.1 ∙ ap (λ found. if found then 0 else 1) (sym done.found_is));
        })
      where
        good : IsGoodEnd run.scope is.total
        good = good-end options run.scope is.total ended.status scoped is.no_failure is.status_is other visits

    run-written : Written
    run-written = elim (run-ended folders finds opens identifies Step (λ engine. has_failed engine.printer) run.scope
        Sound Cut keep is-unfailed finishing run.choices (paths_of options) run.first ended.status run.last other run.run
        sound-first) [
          | inl (error, broken, cut) ↦ inl (
            error,
            broken,
            subst (HasFailedWith write_step error) (sym run.output_after)
                cut,
          )
          | inr is ↦ whole is
        ]

-- a whole run
module _ {S F R W X : Type 0} (message : AllocError → Option (List ℕ)) (world : World S F R W X) (system : S)
    (arguments : List (Vec ℕ Global)) (streams : Streams) (input : R) (output : W) (errors : X) (ended : Ended R W)
    (errors' : X) where
  module _ (grows : (old new : W) (call : OutputCall) → world.output.step old call new
      → Appends (world.output.contents old) (world.output.contents new) (taken_by call)) (before : List ℕ)
      (held : world.output.contents output ≡ Some before) (other : ended.status ≢ 2) where
    abbrev Done : Options → Type 0
    Done options = IsClosed world.output.step ended.output ⊎ HasEnded world system before options input ended

    -- what is known of a run that has visited all, unless nobody reads its output
    visited : (options : Options) {Found : Type 0}
        → (VisitsAll options ended.status → IsClosed world.output.step ended.output ⊎ Found)
        → ((VisitsAll options ended.status → Found) → HasEnded world system before options input ended)
        → Done options
    visited options found done = elim (visits-or-not options ended.status) [
      | inl visits ↦ elim (found visits) [
        | inl unread ↦ inl unread
        | inr is ↦ inr (done (λ visits. is))
      ]
      | inr otherwise ↦ inr (done (λ visits. absurd (otherwise visits)))
    ]

    by-answer : (options : Options) (text : List ℕ) (said : X) → IsAnswer options text
        → IsAnswered world.output.step world.errors.step text input output said ended errors' → Done options
    by-answer options text said is answer = elim (answered message world system grows before options text input output
        said ended errors' held other answer) [
          | inl unread ↦ inl unread
          | inr (zero, taken) ↦ inr (of_answer text is zero answer.unread taken)
        ]

    by-options : (options : Options) (said : X)
        → IsOptionsRun message world system options input output said ended errors' → Done options
    by-options options said (without_memory (failure, memory, refused)) = absurd (other refused.status)
    by-options options said (of_text text asked answer) = by-answer options text said (inl asked) answer
    by-options options said (of_types text none types list answer) =
        by-answer options text said (inr (none, types, list)) answer
    by-options options said (of_refusal mid failure none caused refused) = absurd (other refused.status)
    by-options options said (OfListing none types together lists (inl refused)) = absurd (other refused.refused.status)
    by-options options said (OfListing none types together lists (inr listing)) =
        visited options (λ visits. listing-written world system grows before options input output said ended held other
        visits lists listing) (of_listing none types together lists listing.unread)
    by-options options said (OfSearch patterns mid none types together searching are (inl refused)) =
        absurd (other refused.refused.status)
    by-options options said (OfSearch patterns mid none types together searching are (inr whole)) =
        visited options written (of_search patterns mid whole.regex none types together searching are whole.has_options
        whole.has_patterns)
      where
        written : VisitsAll options ended.status → IsClosed world.output.step ended.output
            ⊎ HasWrittenOf world system before options whole.regex mid ended
        written visits = elim whole.run [
          | inl literal ↦ elim (run-written message world system grows before options _ _ _ whole.regex mid output said
              ended held other visits searching literal) [
                | inl unread ↦ inl unread
                | inr found ↦ inr (inl found)
              ]
          | inr named ↦ elim (run-written message world system grows before options _ _ _ whole.regex mid output said
              ended held other visits searching named) [
                | inl unread ↦ inl unread
                | inr found ↦ inr (inr found)
              ]
        ]

    by-words : IsProgramRun message world system arguments streams input output errors ended errors'
        → IsClosed world.output.step ended.output
        ⊎ ((options : Options)
        × AreOptionsFor world.errors.step (world.folders.facts system) arguments streams errors options
        × HasEnded world system before options input ended)
    by-words (of_fault words said refusal failure are reads refused) = absurd (other refused.status)
    by-words (without_memory (failure, memory, refused)) = absurd (other refused.status)
    by-words (of_parsed words said parsed are read (without_memory (failure, memory, refused))) =
        absurd (other refused.status)
    by-words (of_parsed words said parsed are read (of_options options uses operands lists used named listed set run)) =
        elim (by-options options said run) [
          | inl unread ↦ inl unread
          | inr done ↦ inr (
            options,
            record {
              words = words;
              said = said;
              are_words = are;
              parsed = parsed;
              are_read = read;
              uses = uses;
              operands = operands;
              lists = lists;
              uses_are = used;
              operands_are = named;
              are_lists = listed;
              are_options = set;
            },
            done,
          )
        ]

  -- it does what its arguments ask for
  pub as-asked : ((old new : W) (call : OutputCall) → world.output.step old call new
      → Appends (world.output.contents old) (world.output.contents new) (taken_by call))
      → IsProgramRun message world system arguments streams input output errors ended errors'
      → DoesAsAsked world system arguments streams input output errors ended
  as-asked grows ran before held other = by-words grows before held other ran
