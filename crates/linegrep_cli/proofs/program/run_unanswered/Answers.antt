use Rattle.std.proofs.Common.{◌∙◌, List, ap, map, string_bytes, subst, sym}
use Rattle.std.specs.Global.{Global}
use Rattle.std.specs.Prelude.{String, is_some}
use Rattle.linegrep_cli.specs.NamedPatterns.{ArePatterns}
use Rattle.linegrep_cli.specs.ProgramRuns.{of_contraries, of_definition, of_listing, of_patterns, of_refusal}
use Rattle.linegrep_cli.specs.ProgramRuns.{of_search, of_types}
use Rattle.linegrep_cli.proofs.program.run_unanswered.Goals as goal

pub returns-in-Ok : goal.returns-in-Ok
returns-in-Ok g c = of_types c.as_str.result.now
    c.requires.unanswered
    (sym c.has.ensures ∙ c.if-has.true) (rw c.as_str.ensures.value c.in-Ok.ensures.list)
    c.write_answer.ensures

pub returns-in-Err : goal.returns-in-Err
returns-in-Err g c =
    of_refusal c.args.input c.in-Err.failure
    c.requires.unanswered
    (λ caused. of_definition (sym c.has.ensures ∙ c.if-has.true) (c.in-Err.ensures.malformed caused))
    c.refused.ensures

pub returns-in-Some : goal.returns-in-Some
returns-in-Some g c =
    of_refusal c.args.input c.arguments_failure.result
    c.requires.unanswered
    (λ caused. of_contraries (sym c.fault_of.ensures ∙ ap is_some c.in-Some.is))
    c.refused-in-Some.ensures

pub returns-then-has-2 : goal.returns-then-has-2
returns-then-has-2 g c = of_listing c.requires.unanswered
    (sym c.has.ensures ∙ c.if-has.false) (sym c.fault_of.ensures ∙ ap is_some c.in_default.is)
    (sym c.has-2.ensures ∙ c.if-has-2.true) c.list_all.ensures

pub returns-in-Ok-read_patterns : goal.returns-in-Ok-read_patterns
returns-in-Ok-read_patterns g c = of_search c.deref.result.now c.read_patterns.new.input
    c.requires.unanswered
    (sym c.has.ensures ∙ c.if-has.false) (sym c.fault_of.ensures ∙ ap is_some c.in_default.is)
    (sym c.has-2.ensures ∙ c.if-has-2.false)
    (subst (λ (patterns : List (String Global)). ArePatterns g.R.Source.remaining g.R.Source.step
    (g.S.Folders.facts c.args.system.now).reads c.args.options.now c.args.input (map string_bytes patterns)
    c.read_patterns.new.input) (sym c.deref.ensures.value) c.in-Ok-read_patterns.ensures.patterns)
    c.search_all.ensures

pub returns-in-Err-read_patterns : goal.returns-in-Err-read_patterns
returns-in-Err-read_patterns g c =
    of_refusal c.read_patterns.new.input c.in-Err-read_patterns.failure
    c.requires.unanswered
    (λ caused. of_patterns (sym c.has-2.ensures ∙ c.if-has-2.false) (c.in-Err-read_patterns.ensures.refused caused))
    c.refused-in-Err-read_patterns.ensures
