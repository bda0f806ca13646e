use Rattle.std.proofs.Common.{◌≡◌, ◌∙◌, ◌⊎◌, ◌+◌, ◌≤◌, ℕ, List, Result, Ok, Err, map, subst, sym, ⊎_elim}
use Rattle.std.proofs.lemmas.Result.{IfOk-weaker}
use Rattle.std.specs.Prelude.{IfOk, IfErr}
use Rattle.regex_hir.specs.Meaning.{meaning}
use Rattle.regex_meta.specs.declared.program.Program.{Program}
use Rattle.regex_nfa.specs.Sizes.{table_bytes}
use Rattle.grep_regex.specs.Patterns.{FindsAs, FindsSpans}
use Rattle.grep_regex.specs.Programs.{HasRoom, capturing_program}
use Rattle.grep_regex.specs.Refusals.{AreAccepted, IsRefusal}
use Rattle.grep_regex.specs.SameEnds.{HasSameSpans}
use Rattle.grep_regex.specs.Sizes.{AreSized, IsSized}
use Rattle.grep_regex.specs.declared.error.Error.{Error}
use Rattle.grep_regex.specs.declared.error.Error.TheVariants.{TooBig, Memory}
use Rattle.grep_regex.specs.declared.options.Options.{Options}
use Rattle.grep_regex.specs.declared.programs.Programs.{Programs}
use Rattle.grep_regex.proofs.regex.programs_of.Goals as goal

are-sized : (o : Options) (patterns : List (List ℕ)) (program : Program) → IsSized o patterns program
    → (r : Result Programs Error) → IfOk r (λ programs. capturing_program programs ≡ program)
    → IfOk r (λ programs. HasRoom programs.finding)
    → IfOk r (λ programs. table_bytes programs.finding.dfa.nfa ≤ o.size_limit + 24) → IfOk r (AreSized o patterns)
are-sized o patterns program sized (Ok programs) capturing room small = record {
  capturing = subst (IsSized o patterns) (sym capturing) sized;
  small = small;
  room = room;
}
are-sized o patterns program sized (Err e) capturing room small = tt

is-refusal : (o : Options) (patterns : List (List ℕ)) → AreAccepted o patterns → (r : Result Programs Error)
    → IfErr r (λ error. (error ≡ TooBig) ⊎ (error ≡ Memory)) → IfErr r (IsRefusal o patterns)
is-refusal o patterns accepted (Ok programs) cause = tt
is-refusal o patterns accepted (Err e) cause = ⊎_elim
    (λ big. subst (IsRefusal o patterns) (sym big) accepted)
    (λ memory. subst (IsRefusal o patterns) (sym memory) tt)
    cause

pub returns-in-Ok-clause-finds : goal.returns-in-Ok-clause-finds
returns-in-Ok-clause-finds c = IfOk-weaker c.new.result
    (λ programs. HasSameSpans (meaning programs.finding.hir) (meaning c.in-Ok.program.hir))
    (λ programs. FindsSpans c.args.options.now (map (λ p. p.now) c.args.patterns.now) (meaning programs.finding.hir))
    (λ programs same. record {
      at = λ text start small from. same.at text start ∙ c.in-Ok.ensures.ok.at text start small from;
    })
    c.new.ensures.spans

pub returns-in-Ok-clause-captures : goal.returns-in-Ok-clause-captures
returns-in-Ok-clause-captures c = IfOk-weaker c.new.result
    (λ programs. capturing_program programs ≡ c.in-Ok.program)
    (λ programs. FindsAs c.args.options.now (map (λ p. p.now) c.args.patterns.now)
    (meaning (capturing_program programs).hir))
    (λ programs is. subst (λ p. FindsAs c.args.options.now (map (λ q. q.now) c.args.patterns.now) (meaning p.hir))
    (sym is) c.in-Ok.ensures.ok)
    c.new.ensures.capturing

pub returns-in-Ok-clause-sized : goal.returns-in-Ok-clause-sized
returns-in-Ok-clause-sized c = are-sized c.args.options.now (map (λ p. p.now) c.args.patterns.now) c.in-Ok.program
    c.in-Ok.ensures.sized c.new.result c.new.ensures.capturing c.new.ensures.room c.new.ensures.small

pub returns-in-Ok-clause-error : goal.returns-in-Ok-clause-error
returns-in-Ok-clause-error c = is-refusal c.args.options.now (map (λ p. p.now) c.args.patterns.now)
    c.in-Ok.ensures.accepted c.new.result c.new.ensures.error
