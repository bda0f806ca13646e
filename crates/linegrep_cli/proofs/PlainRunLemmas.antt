-- A run that has searched one input, by options that change nothing of how its lines are written.
use Rattle.std.proofs.Common.{◌≡◌, ◌∙◌, Bool, true, false, List, [], ◌∷◌, Option}
use Rattle.std.proofs.Common.{None, Some, ap, ap₂, refl, subst}
use Rattle.std.proofs.Math.Bool.{and-false}
use Rattle.std.specs.Borrow.{Bor}
use Rattle.std.specs.Prelude.{◌&&◌, not}
use Rattle.grep_definitions.proofs.BoolLemmas.{clash}
use Rattle.grep_printer.specs.Formats.{Scene}
use Rattle.grep_printer.specs.LineTexts.{is_plain}
use Rattle.grep_printer.specs.declared.colors.ColorSpecs.{ColorSpecs}
use Rattle.grep_printer.specs.declared.colors.ColorSpecs.TheVariants.{Plain}
use Rattle.grep_printer.specs.declared.colors.ColorTexts.{ColorTexts}
use Rattle.grep_printer.specs.declared.config.Config.{Config}
use Rattle.grep_printer.specs.declared.separators.Separators.{Separators}
use Rattle.grep_printer.specs.declared.summary_builder.SummaryKind.TheVariants.{Count as CountKind}
use Rattle.grep_printer.specs.declared.summary_builder.SummaryKind.TheVariants.{PathWithMatch}
use Rattle.grep_regex.specs.Groups.{group_names}
use Rattle.grep_regex.specs.Views.{regex_options, regex_patterns}
use Rattle.grep_regex.specs.declared.regex.Regex.{Regex}
use Rattle.grep_replace.specs.declared.template.Template.{Template}
use Rattle.linegrep_cli.proofs.PlainTextLemmas.{WritesLines}
use Rattle.linegrep_cli.proofs.UnusedOptionLemmas.{AreOthers, AreRefused, not-used, number-none, other-uses, value-none}
use Rattle.linegrep_cli.specs.Corollaries.{UseOnly, is_among}
use Rattle.linegrep_cli.specs.OptionUses.{has}
use Rattle.linegrep_cli.specs.PrinterOptions.{color_choice, counts_all, is_vimgrep, line_settings}
use Rattle.linegrep_cli.specs.PrinterOptions.{path_terminator_of, shows_headings, summary_kind}
use Rattle.linegrep_cli.specs.SeparatorOptions.{AreLent, asks_for_separators}
use Rattle.linegrep_cli.specs.TemplateOptions.{IsReadFrom, IsTemplateLent}
use Rattle.linegrep_cli.specs.TerminalColors.{colors_for}
use Rattle.linegrep_cli.specs.declared.options.Options.{Options}
use Rattle.linegrep_cli.specs.declared.program.Streams.{Streams}
use Rattle.linegrep_options.specs.declared.option_id.OptionId.{OptionId}
use Rattle.linegrep_options.specs.declared.option_id.OptionId.TheVariants.{ByteOffset, Color}
use Rattle.linegrep_options.specs.declared.option_id.OptionId.TheVariants.{Column, ContextSeparator}
use Rattle.linegrep_options.specs.declared.option_id.OptionId.TheVariants.{Count, CountMatches}
use Rattle.linegrep_options.specs.declared.option_id.OptionId.TheVariants.{FieldContextSeparator}
use Rattle.linegrep_options.specs.declared.option_id.OptionId.TheVariants.{FieldMatchSeparator}
use Rattle.linegrep_options.specs.declared.option_id.OptionId.TheVariants.{FilesWithMatches}
use Rattle.linegrep_options.specs.declared.option_id.OptionId.TheVariants.{FilesWithoutMatch}
use Rattle.linegrep_options.specs.declared.option_id.OptionId.TheVariants.{Heading, IncludeZero}
use Rattle.linegrep_options.specs.declared.option_id.OptionId.TheVariants.{InvertMatch}
use Rattle.linegrep_options.specs.declared.option_id.OptionId.TheVariants.{Json, MaxColumns}
use Rattle.linegrep_options.specs.declared.option_id.OptionId.TheVariants.{NoContextSeparator, NoHeading}
use Rattle.linegrep_options.specs.declared.option_id.OptionId.TheVariants.{Null}
use Rattle.linegrep_options.specs.declared.option_id.OptionId.TheVariants.{OnlyMatching, Pretty}
use Rattle.linegrep_options.specs.declared.option_id.OptionId.TheVariants.{Quiet, Replace, Stats}
use Rattle.linegrep_options.specs.declared.option_id.OptionId.TheVariants.{Trim, Vimgrep}

-- the options that ask for something else than lines
abbrev pub look_options : List OptionId
look_options = Quiet ∷ Count ∷ CountMatches ∷ FilesWithMatches ∷ FilesWithoutMatch ∷ []

abbrev pub KeepLook : List OptionId → Type 0
KeepLook allowed = AreRefused allowed look_options

-- the options that ask for something else than a count of lines
abbrev pub count_options : List OptionId
count_options = Quiet ∷ CountMatches ∷ IncludeZero ∷ OnlyMatching ∷ []

abbrev pub KeepCount : List OptionId → Type 0
KeepCount allowed = AreRefused allowed count_options

-- the options that ask for something else than the path of a file with a match
abbrev pub path_options : List OptionId
path_options = Quiet ∷ Count ∷ CountMatches ∷ Null ∷ []

abbrev pub KeepPath : List OptionId → Type 0
KeepPath allowed = AreRefused allowed path_options

-- the options that change how each line looks
abbrev pub text_options : List OptionId
text_options = Json ∷ Vimgrep ∷ Replace ∷ Heading ∷ Pretty ∷ Color ∷ Column ∷ ByteOffset
    ∷ MaxColumns ∷ Trim ∷ Stats ∷ ContextSeparator ∷ NoContextSeparator ∷ FieldMatchSeparator
    ∷ FieldContextSeparator ∷ []

abbrev pub KeepText : List OptionId → Type 0
KeepText allowed = AreRefused allowed text_options

module _ (allowed : List OptionId) (options : Options) (only : UseOnly allowed options)
    (text : KeepText allowed) where
  none : (option : OptionId) → is_among text_options option ≡ true → has options option ≡ false
  none = not-used allowed options only text_options text

  no-value : (option : OptionId) → is_among text_options option ≡ true
      → AreOthers option only.uses.now
  no-value = other-uses allowed options only text_options text

  -- what asks for a summary
  no-look : KeepLook allowed → (option : OptionId) → is_among look_options option ≡ true
      → has options option ≡ false
  no-look = not-used allowed options only look_options

  no-other-count : KeepCount allowed → (option : OptionId) → is_among count_options option ≡ true
      → has options option ≡ false
  no-other-count = not-used allowed options only count_options

  pub no-terminal : options.streams.is_terminal ≡ false
  no-terminal = ap (λ (s : Streams). s.is_terminal) only.are_options.streams_are ∙ only.no_terminal

  pub not-vimgrep : is_vimgrep options ≡ false
  not-vimgrep = rw (none Vimgrep refl) refl

  pub not-json : has options Json ≡ false
  not-json = none Json refl

  pub not-counted : counts_all options ≡ false
  not-counted = rw (none Stats refl) refl

  -- lines have no color
  pub no-color : (chosen : Option (Bor ColorTexts))
      → colors_for chosen (color_choice options) options.streams ≡ Plain
  no-color chosen = rw (none Color refl, none Pretty refl, no-terminal) refl

  -- there are no separators but the usual ones
  pub no-separators : (separators : Option (Bor Separators)) → AreLent options separators
      → separators ≡ None
  no-separators None are = refl
  no-separators (Some separators) are =
      let unasked : asks_for_separators options ≡ false =
      rw (
        only.are_options.field_match_separator
            ∙ value-none only.uses.now FieldMatchSeparator (no-value FieldMatchSeparator refl),
        only.are_options.field_context_separator
            ∙ value-none only.uses.now FieldContextSeparator
            (no-value FieldContextSeparator refl),
        only.are_options.context_separator
            ∙ value-none only.uses.now ContextSeparator (no-value ContextSeparator refl),
        none NoContextSeparator refl,
      ) refl in
      absurd (clash are.0 unasked)

  -- there is no template
  pub no-template : (regex : Regex) (template : Option (Bor Template))
      → IsTemplateLent options regex template → template ≡ None
  no-template regex None is = refl
  no-template regex (Some template) is =
      let unasked : options.replace ≡ None =
      only.are_options.replace ∙ value-none only.uses.now Replace (no-value Replace refl) in
      absurd (subst (λ text. IsReadFrom (group_names (regex_options regex) (regex_patterns regex)) text
      template.now) unasked is)

  no-heading : shows_headings options ≡ false
  no-heading = rw (none Heading refl, none Pretty refl, no-terminal)
      (and-false (not (has options NoHeading) && not (has options Vimgrep)))

  no-limit : options.max_columns ≡ None
  no-limit = only.are_options.max_columns
      ∙ number-none only.uses.now MaxColumns (no-value MaxColumns refl)

  -- lines are written as they are
  pub plain-lines : (colors : ColorSpecs) (separators : Option (Bor Separators)) (config : Config)
      (scene : Scene) → colors ≡ Plain → separators ≡ None → scene.path ≡ None
      → config ≡ line_settings options colors separators → WritesLines config scene
  plain-lines colors separators config scene plain usual nameless is =
      let same : config ≡ line_settings options Plain None =
      is ∙ ap₂ (line_settings options) plain usual in record {
        plain = ap₂ is_plain same nameless ∙ rw (
          no-heading,
          none Column refl,
          none Vimgrep refl,
          none ByteOffset refl,
          no-limit,
          none Trim refl,
        )
            refl;
        no_heading = ap (λ (c : Config). c.heading) same ∙ no-heading;
      }

  -- lines are written, or their parts
  pub parts-as-asked : (colors : ColorSpecs) (separators : Option (Bor Separators)) (config : Config)
      → config ≡ line_settings options colors separators
      → config.only_matching ≡ has options OnlyMatching
  parts-as-asked colors separators config is = ap (λ (c : Config). c.only_matching) is

  -- lines are written, and no summary
  pub no-summary : KeepLook allowed → (across : Bool)
      → summary_kind options across ≡ None
  no-summary look across = rw (
    no-look look Quiet refl,
    no-look look CountMatches refl,
    no-look look Count refl,
    and-false (not (has options InvertMatch)),
    no-look look FilesWithMatches refl,
    no-look look FilesWithoutMatch refl,
  ) refl

  -- how many lines match is written, in a search by line
  pub count-kind : KeepCount allowed → has options Count ≡ true
      → (across : Bool) → across ≡ false → summary_kind options across ≡ Some CountKind
  count-kind look counts across by-line = rw (
    no-other-count look Quiet refl,
    no-other-count look CountMatches refl,
    counts,
    no-other-count look OnlyMatching refl,
    by-line,
    and-false (not (has options InvertMatch)),
  ) refl

  -- a count of 0 isn't written
  pub without-zero : KeepCount allowed → has options IncludeZero ≡ false
  without-zero look = no-other-count look IncludeZero refl

module _ (allowed : List OptionId) (options : Options) (only : UseOnly allowed options)
    (look : KeepPath allowed) where
  no-other-path : (option : OptionId) → is_among path_options option ≡ true
      → has options option ≡ false
  no-other-path = not-used allowed options only path_options look

  -- the path of a file with a match is written
  pub path-kind : has options FilesWithMatches ≡ true → (across : Bool) → across ≡ false
      → summary_kind options across ≡ Some PathWithMatch
  path-kind lists across by-line = rw (
    no-other-path Quiet refl,
    no-other-path CountMatches refl,
    no-other-path Count refl,
    lists,
    and-false (not (has options InvertMatch)),
  ) refl

  -- a line feed comes after it
  pub without-null : path_terminator_of options ≡ None
  without-null = rw (no-other-path Null refl) refl
