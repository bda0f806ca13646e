-- The settings of a search, and of the printer, by options that change nothing of them.
use Rattle.std.proofs.Common.{◌≡◌, ◌∙◌, Bool, true, false, List, [], ◌∷◌, ap}
use Rattle.std.proofs.Common.{if◌then◌else◌, inr, refl, subst, sym}
use Rattle.grep_searcher.specs.BuiltSettings.{built}
use Rattle.grep_searcher.specs.Plans.{Settings}
use Rattle.grep_searcher.specs.declared.BinaryDetection.{BinaryDetection}
use Rattle.grep_searcher.specs.declared.BinaryDetection.TheVariants.{None as no_detection, Quit}
use Rattle.grep_searcher.specs.declared.BinaryDetection.TheVariants.{Convert}
use Rattle.grep_searcher.specs.declared.LineTerminator.TheVariants.{Byte}
use Rattle.linegrep_cli.proofs.MatchPlanLemmas.{ReportsMatches}
use Rattle.linegrep_cli.proofs.TextSearchLemmas.{LooksForNul}
use Rattle.linegrep_cli.proofs.UnusedOptionLemmas.{AreRefused, not-used}
use Rattle.linegrep_cli.specs.Corollaries.{UseOnly, is_among}
use Rattle.linegrep_cli.specs.OptionMeanings.{after_lines, before_lines}
use Rattle.linegrep_cli.specs.OptionUses.{has}
use Rattle.linegrep_cli.specs.PrintingEngines.{detection_with}
use Rattle.linegrep_cli.specs.SearchTexts.{settings_for}
use Rattle.linegrep_cli.specs.SearcherOptions.{asked_settings, searcher_settings}
use Rattle.linegrep_cli.specs.declared.options.Options.{Options}
use Rattle.linegrep_options.specs.declared.option_id.OptionId.{OptionId}
use Rattle.linegrep_options.specs.declared.option_id.OptionId.TheVariants.{AfterContext}
use Rattle.linegrep_options.specs.declared.option_id.OptionId.TheVariants.{BeforeContext, Context}
use Rattle.linegrep_options.specs.declared.option_id.OptionId.TheVariants.{Crlf, Multiline}
use Rattle.linegrep_options.specs.declared.option_id.OptionId.TheVariants.{NullData, Passthru}
use Rattle.linegrep_options.specs.declared.option_id.OptionId.TheVariants.{StopOnNonmatch}

-- the options that change lines, their terminators or their context
abbrev pub line_options : List OptionId
line_options = Multiline ∷ Crlf ∷ NullData ∷ Passthru ∷ AfterContext ∷ BeforeContext ∷ Context
    ∷ StopOnNonmatch ∷ []

abbrev pub KeepLines : List OptionId → Type 0
KeepLines allowed = AreRefused allowed line_options

-- the settings of a search by line at line feeds, which reports matches alone
pub record ArePlainSettings (k : Settings) : Type 0 where
  pub by_feeds : k.line_terminator ≡ Byte 10
  pub single : k.multi_line ≡ false
  pub reports : ReportsMatches k
  pub looks : LooksForNul k.binary_detection

looks-for : (b : Bool) → LooksForNul (if b then no_detection else Convert 0)
looks-for true = tt
looks-for false = refl

looks-with : (quits : Bool) (detection : BinaryDetection) → LooksForNul detection
    → LooksForNul (detection_with quits detection)
looks-with quits no_detection looks = tt
looks-with quits (Quit byte) looks = looks
looks-with true (Convert byte) looks = looks
looks-with false (Convert byte) looks = looks

module _ (allowed : List OptionId) (options : Options) (only : UseOnly allowed options)
    (keep : KeepLines allowed) (quits : Bool) where
  none : (option : OptionId) → is_among line_options option ≡ true → has options option ≡ false
  none = not-used allowed options only line_options keep

  pub asked : searcher_settings options ≡ built (asked_settings options)
  asked = refl

  asked-after : (if has options Passthru then 0 else after_lines options) ≡ 0
  asked-after = rw (none Passthru refl, none AfterContext refl, none Context refl) refl

  asked-before : (if has options Passthru then 0 else before_lines options) ≡ 0
  asked-before =
      rw (none Passthru refl, none BeforeContext refl, none Context refl) refl

  pub plain-settings : ArePlainSettings (settings_for (searcher_settings options) quits)
  plain-settings = record {
    by_feeds = ap (λ (s : Settings). s.line_terminator) asked
        ∙ rw (none NullData refl, none Crlf refl) refl;
    single = ap (λ (s : Settings). s.multi_line) asked ∙ none Multiline refl;
    reports = record {
      filter = record {
        unstopped = ap (λ (s : Settings). s.stop_on_nonmatch) asked ∙ none StopOnNonmatch refl;
        untrailed = inr (ap (λ (s : Settings). s.after_context) asked
            ∙ asked-after);
      };
      after = ap (λ (s : Settings). s.after_context) asked ∙ asked-after;
      before = ap (λ (s : Settings). s.before_context) asked ∙ asked-before;
      few = ap (λ (s : Settings). s.passthru) asked ∙ none Passthru refl;
    };
    looks = looks-with quits (searcher_settings options).binary_detection
        (subst LooksForNul (sym (ap (λ (s : Settings). s.binary_detection) asked)) (looks-for _));
  }
