use Rattle.std.proofs.Common.{◌≢◌, ◌≡◌, ◌+◌, ◌∙◌, [], false, inl, inr, rules, sym, true}
use Rattle.std.proofs.lemmas.List.{drop_all}
use Rattle.linegrep_files.proofs.AlikeLemmas.{alike-self, alike-then}
use Rattle.linegrep_cli.specs.OperandRuns.{is_over, no_operand}
use Rattle.linegrep_cli.proofs.OperandLemmas.{first-visited, next-over, next-visited, not-over}
use Rattle.linegrep_cli.proofs.file_run.Run.visit_in_turn.Goals as goal

pub loop-path-init : goal.loop-path-init
loop-path-init g c = record {
  visited = rw c.none-total.ensures no_operand;
  goes_on = rw c.none-total.ensures (not-over c.args.self.now.scope);
  choices = alike-self c.args.choices.now;
}

pub returns-then-is_over : goal.returns-then-is_over
returns-then-is_over g c =
    let some : c.args.paths.now ≢ [] = search rules in
    let over : is_over c.args.self.now.scope c.add.new.self ≡ true = sym c.is_over.ensures ∙ c.if-is_over.true in
    first-visited _ _ _ _ _ _ _ c.args.choices.now c.args.paths.now some (c.loop-path.path-index + 1)
    c.args.engine.now c.add.new.self c.visit_operand.new.engine
    (next-visited _ _ _ _ _ _ _ c.args.choices.now c.loop-path.choices c.loop-path.invariant.choices
    _ _ _ _ _ _ _ _ _ c.loop-path-test.true c.loop-path.invariant.visited c.loop-path.invariant.goes_on
    c.visit_operand.ensures.visited c.add.ensures)
    (inr over)

pub loop-path-preserved : goal.loop-path-preserved
loop-path-preserved g c =
    let on : is_over c.args.self.now.scope c.add.new.self ≡ false = sym c.is_over.ensures ∙ c.if-is_over.false in
    record {
      visited = next-visited _ _ _ _ _ _ _ c.args.choices.now c.loop-path.choices
          c.loop-path.invariant.choices _ _ _ _ _ _ _ _ _ c.loop-path-test.true
          c.loop-path.invariant.visited c.loop-path.invariant.goes_on c.visit_operand.ensures.visited
          c.add.ensures;
      goes_on = on;
      choices = alike-then _ _ _ c.loop-path.invariant.choices
          (c.visit_operand.ensures.choices (next-over c.args.self.now.scope c.loop-path.total c.visit_operand.result
          c.add.new.self c.add.ensures on));
    }

pub returns : goal.returns
returns g c =
    let some : c.args.paths.now ≢ [] = search rules in
    first-visited _ _ _ _ _ _ _ c.args.choices.now c.args.paths.now some c.loop-path.path-index
    c.args.engine.now c.loop-path.total c.loop-path.engine c.loop-path.invariant.visited
    (inl (drop_all c.loop-path.path-index c.args.paths.now c.loop-path-test.false))
