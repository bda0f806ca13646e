use Rattle.std.proofs.Common.{◌≡◌, ◌∙◌, None, Option, Some, ap, subst, sym}
use Rattle.std.specs.Prelude.{MatchOption}
use Rattle.linegrep_cli.specs.declared.visit.Visit.{Visit}
use Rattle.linegrep_cli.proofs.file_run.Run.complete.Goals as goal

-- what is so of an option, by what it is
by-option : {T : Type 0} (o v : Option T) (P : Type 0) (Q : T → Type 0) → o ≡ v → MatchOption v P Q
    → MatchOption o P Q
by-option o v P Q is so = subst (λ x. MatchOption x P Q) (sym is) so

pub returns-in-None : goal.returns-in-None
returns-in-None g c =
    let said = c.warn-warned.ensures.said in
    let is = sym (ap (λ (visit : Visit). visit.failure) said.2) ∙ c.in-None.is in record {
      failure = said.0;
      begun = c.warn-warned.new.engine;
      said = said.1;
      left = c.warn-warned.new.choices;
      same = c.warn-warned.ensures.same;
      none = c.warn-warned.ensures.none;
      run = by-option said.0 None _ _ is c.search_operands.ensures;
    }

pub returns-in-Some : goal.returns-in-Some
returns-in-Some g c =
    let said = c.warn-warned.ensures.said in
    let is = sym (ap (λ (visit : Visit). visit.failure) said.2) ∙ c.in-Some.is in record {
      failure = said.0;
      begun = c.warn-warned.new.engine;
      said = said.1;
      left = c.warn-warned.new.choices;
      same = c.warn-warned.ensures.same;
      none = c.warn-warned.ensures.none;
      run = by-option said.0 (Some c.in-Some.error) _ _ is c.fail.ensures;
    }
