-- What a run does from its options on, and what it writes.
use Rattle.std.specs.Prelude.{◌≡◌, ◌⊎◌, ℕ, List, Option, None, String}
use Rattle.std.specs.Borrow.{Bor}
use Rattle.std.specs.Global.{Global}
use Rattle.std.specs.declared.alloc.AllocError.{AllocError}
use Rattle.std.specs.declared.marker.Brand.{Brand}
use Rattle.grep_printer.specs.declared.colors.ColorTexts.{ColorTexts}
use Rattle.grep_printer.specs.declared.separators.Separators.{Separators}
use Rattle.grep_regex.specs.LiteralViews.{literal_regex}
use Rattle.grep_regex.specs.NamedViews.{named_regex}
use Rattle.grep_regex.specs.Sizes.{AreSized}
use Rattle.grep_regex.specs.Views.{regex_first_at, regex_groups_at, regex_meaning, regex_options}
use Rattle.grep_regex.specs.Views.{regex_patterns, regex_programs}
use Rattle.grep_regex.specs.declared.literal_matcher.LiteralRegexMatcher.{LiteralRegexMatcher}
use Rattle.grep_regex.specs.declared.named.NamedMatcher.{NamedMatcher}
use Rattle.grep_regex.specs.declared.named.Naming.{Ghosts}
use Rattle.grep_regex.specs.declared.regex.Regex.{Regex}
use Rattle.grep_replace.specs.declared.template.Template.{Template}
use Rattle.grep_searcher.specs.Meanings.{MatcherFacts}
use Rattle.grep_searcher.specs.Plans.{is_across}
use Rattle.grep_searcher.specs.declared.LineTerminator.{LineTerminator}
use Rattle.linegrep_cli.specs.AcceptedOptions.{AreAccepted}
use Rattle.linegrep_cli.specs.ColorOptions.{AreColorsLent}
use Rattle.linegrep_cli.specs.EngineSteps.{has_failed}
use Rattle.linegrep_cli.specs.FileChoices.{AreChoicesOf}
use Rattle.linegrep_cli.specs.HyperlinkOptions.{AreHyperlinksLent}
use Rattle.linegrep_cli.specs.OperandRuns.{IsRunOver}
use Rattle.linegrep_cli.specs.OptionMeanings.{paths_of}
use Rattle.linegrep_cli.specs.PathSeparators.{path_separator_of}
use Rattle.linegrep_cli.specs.PatternOptions.{pattern_options, pattern_texts}
use Rattle.linegrep_cli.specs.PrinterOptions.{IsPrinterOf}
use Rattle.linegrep_cli.specs.PrintingEngines.{IsEngineStep}
use Rattle.linegrep_cli.specs.Refusals.{IsCause, IsRefusedFor}
use Rattle.linegrep_cli.specs.RunScopes.{IsScopeOf}
use Rattle.linegrep_cli.specs.SearcherOptions.{searcher_settings}
use Rattle.linegrep_cli.specs.SeparatorOptions.{AreLent}
use Rattle.linegrep_cli.specs.TemplateOptions.{IsTemplateLent}
use Rattle.linegrep_cli.specs.Worlds.{World}
use Rattle.linegrep_cli.specs.declared.engine.PrintingEngine.{PrintingEngine}
use Rattle.linegrep_files.specs.declared.choices.Choices.{Choices}
use Rattle.linegrep_cli.specs.declared.scope.Scope.{Scope}
use Rattle.linegrep_cli.specs.declared.options.Options.{Options}
use Rattle.linegrep_cli.specs.declared.search.Ended.{Ended}

-- a matcher finds what a regular expression means, and can be trusted
pub record IsMatcherOf {M E : Type 0} (facts : M → MatcherFacts E)
    (first_at : M → List ℕ → ℕ → Option (ℕ × ℕ)) (regex : Regex) (matcher : M) : Type 0 where
  pub meaning : (facts matcher).meaning ≡ regex_meaning regex
  pub first : first_at matcher ≡ regex_first_at regex
  pub trusted : (terminator : LineTerminator) → (facts matcher).is_lawful terminator

module _ {S F M R W X E : Type 0} (message : E → Option (List ℕ)) (facts : M → MatcherFacts E)
    (first_at : M → List ℕ → ℕ → Option (ℕ × ℕ))
    (groups_at : M → List ℕ → ℕ → List (Option (ℕ × ℕ))) (world : World S F R W X) (system : S)
  where
    -- the engine that options ask for. It has written nothing yet, and has no file open
    pub record IsEngineFor (options : Options) (matcher : M) (template : Option (Bor Template))
        (input : R) (output : W) (errors : X) (engine : PrintingEngine S F M R W X) : Type 0 where
      pub settings : engine.searcher.settings ≡ searcher_settings options
      pub asks : engine.matcher ≡ matcher
      pub separators : Option (Bor Separators)
      pub lent : AreLent options separators
      pub chosen : Option (Bor ColorTexts)
      pub colored : AreColorsLent options chosen
      pub printer : IsPrinterOf options
          (is_across (searcher_settings options) (facts matcher).meaning) separators chosen matcher
          template engine.printer
      pub writes_to : engine.writer ≡ output
      pub haystack : engine.haystack ≡ record { file = None; reader = input }
      pub says : engine.errors.now ≡ errors
      pub path_separator : engine.path_separator ≡ path_separator_of options
      pub hyperlinks : AreHyperlinksLent (world.folders.facts system) options engine.hyperlinks
      pub asks_system : engine.system.now ≡ system
      pub detection : engine.detection ≡ (searcher_settings options).binary_detection

    -- a run with a matcher and a template, over the operands of options that are accepted, with the
    -- choices of files and the engine that they ask for
    pub record IsRunWith (options : Options) (matcher : M) (template : Option (Bor Template))
        (input : R) (output : W) (errors : X) (ended : Ended R W) : Type 0 where
      pub accepted : AreAccepted (world.folders.facts system) options
      pub scope : Scope
      pub first : PrintingEngine S F M R W X
      pub last : PrintingEngine S F M R W X
      pub is_scope : IsScopeOf (world.system.finds system) options scope
      pub choices : Choices
      pub are_choices : AreChoicesOf (world.folders.facts system) options choices
      pub begins : IsEngineFor options matcher template input output errors first
      pub run : IsRunOver (world.folders.facts system) (world.system.finds system)
          (world.opening.opens system) (world.system.identifies system)
          (IsEngineStep message facts first_at groups_at world.output.step world.files.remaining
          world.input.remaining world.input.step world.folders.facts)
          (λ engine. has_failed engine.printer) scope choices (paths_of options) first ended.status
          last
      pub input_after : ended.input ≡ last.haystack.reader
      pub output_after : ended.output ≡ last.writer

    -- a run for a regular expression: a run with a matcher of the expression, and with a template
    -- for its groups, if there is one
    pub record IsRunFor (options : Options) (regex : Regex) (input : R) (output : W) (errors : X)
        (ended : Ended R W) : Type 0 where
      pub matcher : M
      pub is_matcher : IsMatcherOf facts first_at regex matcher
      pub template : Option (Bor Template)
      pub is_template : IsTemplateLent options regex template
      pub groups : groups_at matcher ≡ regex_groups_at regex
      pub run : IsRunWith options matcher template input output errors ended

-- the name of a regular expression: its options, and the texts of its patterns
abbrev pub naming_of : Regex → Ghosts Brand
naming_of regex = record { options = regex_options regex; patterns = regex_patterns regex }

-- a matcher that has a name
abbrev pub Named : {N : Type 0} → Ghosts N → Type 0
Named {N} naming = Bor (NamedMatcher N naming)

module _ {N : Type 0} {naming : Ghosts N} where
  -- what a named matcher finds, from a place on. It may fail at any question, and can be trusted
  abbrev pub named_facts : Named naming → MatcherFacts AllocError
  named_facts matcher = record {
    meaning = regex_meaning (named_regex matcher.now);
    fails = λ haystack error. Unit {0};
    is_lawful = λ terminator. Unit {0};
  }

  abbrev pub named_first_at : Named naming → List ℕ → ℕ → Option (ℕ × ℕ)
  named_first_at matcher = regex_first_at (named_regex matcher.now)

  abbrev pub named_groups_at : Named naming → List ℕ → ℕ → List (Option (ℕ × ℕ))
  named_groups_at matcher = regex_groups_at (named_regex matcher.now)

-- a matcher of a literal
abbrev pub Literal : Type 0
Literal = Bor LiteralRegexMatcher

-- what a matcher of a literal finds, from a place on. It never fails, and can be trusted
abbrev pub literal_facts : Literal → MatcherFacts AllocError
literal_facts matcher = record {
  meaning = regex_meaning (literal_regex matcher.now);
  fails = λ haystack error. ⊥;
  is_lawful = λ terminator. Unit {0};
}

abbrev pub literal_first_at : Literal → List ℕ → ℕ → Option (ℕ × ℕ)
literal_first_at matcher = regex_first_at (literal_regex matcher.now)

abbrev pub literal_groups_at : Literal → List ℕ → ℕ → List (Option (ℕ × ℕ))
literal_groups_at matcher = regex_groups_at (literal_regex matcher.now)

-- By the text of an error of memory, and by what surrounds a run.
module _ {S F R W X : Type 0} (message : AllocError → Option (List ℕ)) (world : World S F R W X)
    (system : S) where
  -- a run with the matcher that an expression has: that of a literal, or one that has a name
  abbrev pub IsRunOf : {N : Type 0} → Ghosts N → Options → Regex → R → W → X → Ended R W → Type 0
  IsRunOf naming options regex input output errors ended =
      IsRunFor {M = Literal} message literal_facts literal_first_at literal_groups_at world system
      options regex input output errors ended
      ⊎ IsRunFor {M = Named naming} message named_facts named_first_at named_groups_at world system
      options regex input output errors ended

  -- a whole run, by its options and patterns. The patterns are compiled as the options say, to
  -- tables that are no larger than these allow, and the run is one for the expression that they
  -- give
  pub record IsWholeRun (options : Options) (patterns : List (String Global)) (input : R)
      (output : W) (errors : X) (ended : Ended R W) : Type 0 where
    pub regex : Regex
    pub has_options : regex_options regex ≡ pattern_options options patterns
    pub has_patterns : regex_patterns regex ≡ pattern_texts options patterns
    pub sized : AreSized (pattern_options options patterns) (pattern_texts options patterns)
        (regex_programs regex)
    pub run : IsRunOf (naming_of regex) options regex input output errors ended

  -- what a search does by its options and patterns: it is refused, maybe since there is no memory,
  -- or it runs
  abbrev pub IsSearchRun : Options → List (String Global) → R → W → X → Ended R W → X → Type 0
  IsSearchRun options patterns input output errors ended errors' =
      IsRefusedFor world.errors.step (IsCause (world.folders.facts system) options patterns)
      input output errors ended errors'
      ⊎ IsWholeRun options patterns input output errors ended
