-- What a printer of lines alone has put to which the calls of a search are reported.
use Rattle.std.proofs.Common.{◌≡◌, ◌∙◌, ℕ, List, [], ◌∷◌, ◌++◌, ap, ap₂, inl, inr, refl, sym, subst}
use Rattle.std.specs.Prelude.{Bool, true, false, ◌&&◌, ◌||◌, Option, None, Result, Ok, Err}
use Rattle.std.proofs.Math.Bool.{and-false}
use Rattle.std.specs.Global.{Global}
use Rattle.std.specs.declared.io.Error.{Error}
use Rattle.grep_matcher.specs.Meanings.{IsInfallible, MatcherFacts}
use Rattle.grep_output.proofs.OutputLemmas.{Writes-cut}
use Rattle.grep_output.proofs.PendingLemmas.{Puts-more}
use Rattle.grep_output.specs.Outputs.{OutputCall, Writes}
use Rattle.grep_output.specs.PendingTexts.{PutsAll, pending_bytes}
use Rattle.grep_printer.proofs.BareRunLemmas.{AreBare, along, any-match, go-on, no-parts, settings-stay}
use Rattle.grep_printer.specs.BareTexts.{is_bare}
use Rattle.grep_printer.specs.CallParts.{has_match as matched}
use Rattle.grep_printer.specs.Formats.{Printed, PrintedCall, Scene, printed_by}
use Rattle.grep_printer.specs.PrintedSearches.{IsInputPrinted, PrintsCalls, PrintsPlan, of_matcher, of_plan}
use Rattle.grep_printer.specs.PrinterSteps.{FailsAlongPlan, FailsBefore, HasFound}
use Rattle.grep_printer.specs.PrinterSteps.{IsCutShort, PrintsAll, scene_of, text_of}
use Rattle.grep_printer.specs.StandardTexts.{asks_for_parts, default_config, standard_rules}
use Rattle.grep_printer.specs.declared.config.Config.{Config}
use Rattle.grep_printer.specs.declared.printer.PrinterSink.{PrinterSink}
use Rattle.grep_printer.specs.declared.standard.StandardFormat.{StandardFormat}
use Rattle.grep_searcher.specs.Plans.{Plan, Planned, Settings, search_plan}
use Rattle.grep_searcher.specs.Searches.{BinaryPoint, nowhere, plan_with}
use Rattle.grep_searcher.specs.declared.SearchError.{SearchError}
use Rattle.grep_searcher.specs.declared.SearchError.TheVariants.{Io}
use Rattle.lgrep_cli.specs.OptionSettings.{settings_of_options}
use Rattle.lgrep_cli.specs.PrintedTexts.{has_match, text}
use Rattle.lgrep_cli.specs.ProgramRuns.{calls_of, meaning_of}
use Rattle.lgrep_cli.specs.declared.options.Options.{Options}

-- a sink that has printed nothing yet, of a printer of lines alone
pub record IsBegun {M W : Type 0} (sink : PrinterSink StandardFormat M W) : Type 0 where
  pub path : sink.path ≡ None
  pub config : sink.format.config ≡ default_config
  pub has_match : sink.format.progress.has_match ≡ false
  pub pending : pending_bytes sink.printer.now.pending ≡ []
  pub has_failed : sink.printer.now.has_failed ≡ false

module _ {M W E : Type 0} (output : E → Option (List ℕ)) (facts : M → MatcherFacts E)
    (first_at : M → List ℕ → ℕ → Option (ℕ × ℕ)) (write_step : W → OutputCall → W → Type 0) (options : Options)
    (begun : PrinterSink StandardFormat M W) (is : IsBegun begun) where
  abbrev settings : Settings
  settings = settings_of_options options

  abbrev scene : Scene
  scene = scene_of begun settings

  abbrev Found : StandardFormat → PrintedCall → Type 0
  Found = HasFound standard_rules facts first_at begun settings

  -- lines alone are written
  bare : is_bare begun.format.config scene ≡ true
  bare = ap₂ (λ (config : Config) path. is_bare config (record { path = path; settings = settings })) is.config is.path

  none : (format : StandardFormat) (printed : PrintedCall) → format.config ≡ begun.format.config → Found format printed
      → printed.parts ≡ []
  none format printed same found =
      no-parts facts first_at begun settings format printed (ap asks_for_parts (same ∙ is.config)) found

  abbrev start : Printed StandardFormat
  start = record { format = begun.format; text = [] }

  -- the text of some calls is put
  pub record ArePut (calls : List Planned) (ended : PrinterSink StandardFormat M W) : Type 0 where
    pub put : PutsAll write_step begun.writer.now [] (text calls) ended.writer.now
        (pending_bytes ended.printer.now.pending)
    pub is_found : ended.format.progress.has_match ≡ has_match calls
    pub has_failed : ended.printer.now.has_failed ≡ false

  -- or the writer failed, after some first bytes of it
  pub record IsCut (calls : List Planned) (e : SearchError Global) (ended : PrinterSink StandardFormat M W) : Type 0
    where
      pub has_failed : ended.printer.now.has_failed ≡ true
      pub error : Error
      pub is_io : e ≡ Io error
      pub put : Writes write_step begun.writer.now (text calls) (Err error) ended.writer.now

  -- what came of the calls of a plan
  abbrev pub IsEnd : List Planned → Result (Unit {0}) (SearchError Global) → PrinterSink StandardFormat M W → Type 0
  IsEnd calls (Ok u) ended = ArePut calls ended
  IsEnd calls (Err e) ended = IsCut calls e ended

  abbrev made_by : List PrintedCall → Printed StandardFormat
  made_by printed = printed_by standard_rules scene begun.format printed

  put-of : (calls : List Planned) (printed : List PrintedCall) (ended : PrinterSink StandardFormat M W)
      → AreBare scene Found begun.format.config bare none start calls (made_by printed)
      → PrintsAll standard_rules output facts first_at write_step begun settings printed ended → ArePut calls ended
  put-of calls printed ended are all = record {
    put = subst (λ p. PutsAll write_step begun.writer.now p (text calls) ended.writer.now
        (pending_bytes ended.printer.now.pending)) is.pending
        (subst (λ t. PutsAll write_step begun.writer.now (pending_bytes begun.printer.now.pending) t ended.writer.now
        (pending_bytes ended.printer.now.pending)) are.text all.put);
    is_found = ap (λ (format : StandardFormat). format.progress.has_match) all.format
        ∙ (are.found ∙ ap (λ b. b || any-match calls) is.has_match);
    has_failed = all.has_failed ∙ is.has_failed;
  }

  -- calls after which the search went on
  pub goes-put : (calls : List Planned) (ended : PrinterSink StandardFormat M W)
      → PrintsCalls standard_rules output facts first_at write_step begun settings calls ended → ArePut calls ended
  goes-put calls ended (printed, all, put) =
      put-of calls printed ended (go-on scene Found begun.format.config bare none calls start printed refl all) put

  -- no call was cut short for lack of memory or of parts
  module _ (plan : Plan) (e : SearchError Global) (ended : PrinterSink StandardFormat M W)
      (fails : FailsAlongPlan standard_rules output facts first_at write_step begun settings plan e ended) where
    abbrev mid : PrinterSink StandardFormat M W
    mid = fails.mid

    mid-config : mid.format.config ≡ default_config
    mid-config = ap (λ (format : StandardFormat). format.config) fails.printed.format
        ∙ (settings-stay scene fails.before start ∙ is.config)

    not-asked : (b : Bool) → (b && asks_for_parts mid.format.config) ≡ true → ⊥
    not-asked b asked =
        let never : true ≡ false = sym asked ∙ (ap (λ a. b && asks_for_parts a) mid-config ∙ and-false b) in
        absurd cc

    not-bare : is_bare mid.format.config (scene_of mid settings) ≡ false → ⊥
    not-bare unbare =
        let shown : is_bare mid.format.config (scene_of mid settings) ≡ true =
        ap₂ (λ (config : Config) path. is_bare config (record { path = path; settings = settings }))
        mid-config (fails.printed.same.path ∙ is.path) in
        let never : true ≡ false = sym shown ∙ unbare in
        absurd cc

    not-before : FailsBefore standard_rules output facts first_at write_step mid settings fails.tried.call e
        ended → ⊥
    not-before before = elim before.cause [
      | inl memory ↦ elim memory.1 [
        | inl asked ↦ not-asked (matched settings fails.tried.call) asked
        | inr unbare ↦ not-bare unbare
      ]
      | inr failed ↦ not-asked (matched settings fails.tried.call) failed.0
    ]

    -- the text of the call that failed
    tried-text : text_of standard_rules mid settings fails.tried
        ≡ (standard_rules).text (made_by fails.before).format scene fails.tried
    tried-text =
        ap (λ path. (standard_rules).text mid.format (record { path = path; settings = settings }) fails.tried)
        fails.printed.same.path
        ∙ ap (λ format. (standard_rules).text format scene fails.tried) fails.printed.format

    whole-text : (made_by (fails.before ++ fails.tried ∷ fails.later)).text ≡ text plan.calls
    whole-text = (along scene Found begun.format.config bare none plan.calls plan.finish start
        (fails.before ++ fails.tried ∷ fails.later) refl fails.along).text

    cut-by : IsCutShort standard_rules output facts first_at write_step mid settings fails.tried e ended
        → IsCut plan.calls e ended
    cut-by (inl (error, is_io, pending, format, has_failed, wrote)) = record {
      has_failed = has_failed;
      error = error;
      is_io = is_io;
      put =
          let before = (made_by fails.before).text in
          let tried = text_of standard_rules mid settings fails.tried in
          let put = Puts-more write_step begun.writer.now mid.writer.now ended.writer.now
          (pending_bytes begun.printer.now.pending) before (pending_bytes mid.printer.now.pending) tried []
          (Err error) fails.printed.put wrote in
          let first = subst (λ p. Writes write_step begun.writer.now (p ++ (before ++ tried)) (Err error)
          ended.writer.now) is.pending put in
          let own = subst (λ t. Writes write_step begun.writer.now (before ++ t) (Err error) ended.writer.now)
          tried-text first in
          subst (λ t. Writes write_step begun.writer.now t (Err error) ended.writer.now)
          (sym fails.begins.1 ∙ whole-text)
          (Writes-cut write_step begun.writer.now ended.writer.now
          (before ++ (standard_rules).text (made_by fails.before).format scene fails.tried) fails.begins.0 error own);
    }
    cut-by (inr (inl before)) = absurd (not-before before)
    cut-by (inr (inr some)) = absurd (not-asked (matched settings fails.tried.call) some.asked)

  -- the calls of a plan
  plan-put : (plan : Plan) (result : Result (Unit {0}) (SearchError Global)) (ended : PrinterSink StandardFormat M W)
      → PrintsPlan standard_rules output facts first_at write_step (λ plan printed. Unit {0}) begun settings plan result
      ended
      → IsEnd plan.calls result ended
  plan-put plan (Ok u) ended (printed, all, put, kept, known) = put-of plan.calls printed ended
      (along scene Found begun.format.config bare none plan.calls plan.finish start printed refl all) put
  plan-put plan (Err e) ended fails = cut-by plan e ended fails fails.cut

  -- an input, with the matcher of the options' literal
  pub input-put : (facts begun.matcher).meaning ≡ meaning_of options → IsInfallible (facts begun.matcher).fails
      → (bytes : List ℕ) (count : ℕ) (result : Result (Unit {0}) (SearchError Global))
      (ended : PrinterSink StandardFormat M W)
      → IsInputPrinted standard_rules output facts first_at write_step settings nowhere bytes count begun result ended
      → IsEnd (calls_of options bytes) result ended
  input-put known infallible bytes count result ended (of_plan point at printed) =
      plan-put (search_plan settings (meaning_of options) bytes) result ended
      (subst (λ meaning. PrintsPlan standard_rules output facts first_at write_step (λ plan printed. Unit {0}) begun settings
      (search_plan settings meaning bytes) result ended) known
      (subst (λ (p : Option BinaryPoint). PrintsPlan standard_rules output facts first_at write_step (λ plan printed. Unit {0}) begun
      settings (plan_with settings.binary_detection p (search_plan settings (facts begun.matcher).meaning bytes)) result ended)
      at printed))
  input-put known infallible bytes count (Err e) ended (of_matcher haystack error calls asked fails message first) =
      absurd (infallible haystack error fails)
