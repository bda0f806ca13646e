use Rattle.std.proofs.Common.{◌+◌, ◌∙◌, drop, inl, inr, sym, take}
use Rattle.std.proofs.lemmas.List.{drop_all, take-append-drop}
use Rattle.linegrep_cli.specs.OperandRuns.{none_waiting}
use Rattle.linegrep_cli.proofs.OperandLemmas.{next-waits, not-over}
use Rattle.linegrep_cli.proofs.file_run.Run.visit_all_waiting.Goals as goal

pub loop-waiting-init : goal.loop-waiting-init
loop-waiting-init g c = record {
  visited = rw c.none-total.ensures none_waiting;
  goes_on = rw c.none-total.ensures (not-over c.args.self.now.scope);
}

pub returns-then-is_over : goal.returns-then-is_over
returns-then-is_over g c = record {
  done = take (c.loop-waiting.waiting-index + 1) c.args.sorted.now;
  rest = drop (c.loop-waiting.waiting-index + 1) c.args.sorted.now;
  split = sym (take-append-drop (c.loop-waiting.waiting-index + 1) c.args.sorted.now);
  visited = next-waits _ _ _ _ _ _ _ _ _ _ _ _ _ _ _ c.loop-waiting-test.true (sym c.waiting-item.is) c.loop-waiting.invariant.visited
      c.loop-waiting.invariant.goes_on c.visit_waiting.ensures c.add.ensures;
  ends = inr (sym c.is_over.ensures ∙ c.if-is_over.true);
}

pub loop-waiting-preserved : goal.loop-waiting-preserved
loop-waiting-preserved g c = record {
  visited = next-waits _ _ _ _ _ _ _ _ _ _ _ _ _ _ _ c.loop-waiting-test.true (sym c.waiting-item.is) c.loop-waiting.invariant.visited
      c.loop-waiting.invariant.goes_on c.visit_waiting.ensures c.add.ensures;
  goes_on = sym c.is_over.ensures ∙ c.if-is_over.false;
}

pub returns : goal.returns
returns g c = record {
  done = take c.loop-waiting.waiting-index c.args.sorted.now;
  rest = drop c.loop-waiting.waiting-index c.args.sorted.now;
  split = sym (take-append-drop c.loop-waiting.waiting-index c.args.sorted.now);
  visited = c.loop-waiting.invariant.visited;
  ends = inl (drop_all c.loop-waiting.waiting-index c.args.sorted.now c.loop-waiting-test.false);
}
