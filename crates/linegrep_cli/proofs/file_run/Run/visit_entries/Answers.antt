use Rattle.std.proofs.Common.{◌≡◌, ◌++◌, ◌∷◌, ◌∙◌, [], inl, inr, refl, rules, sym, true}
use Rattle.std.proofs.lemmas.Bool.{true≢false}
use Rattle.linegrep_cli.specs.OperandRuns.{is_over, next_entry, no_entry}
use Rattle.linegrep_cli.proofs.FolderLemmas.{along-alike, along-end, along-next, along-none}
use Rattle.linegrep_cli.proofs.OperandLemmas.{not-over}
use Rattle.linegrep_cli.proofs.file_run.Run.visit_entries.Goals as goal

pub loop-init : goal.loop-init
loop-init g c = (
  [],
  rw c.none-total.ensures no_entry,
  rw c.none-total.ensures (not-over c.args.self.now.scope),
  along-none _ _ _ _ _ _ c.new-walk.ensures,
)

pub returns-then-not-is_out_of_memory-clause-visited : goal.returns-then-not-is_out_of_memory-clause-visited
returns-then-not-is_out_of_memory-clause-visited g c = λ first taken. record {
  visited = c.loop.invariant.0;
  total = c.loop.total;
  entries = c.loop.invariant.1;
  walked = inl (along-end _ _ _ _ _ _ _ _ c.pop.new.self _ first c.loop.invariant.3
      (rw c.in_default.is at c.pop.ensures) (search rules) taken);
  visit_is = inl refl;
}

pub returns-then-not-is_out_of_memory-clause-choices : goal.returns-then-not-is_out_of_memory-clause-choices
returns-then-not-is_out_of_memory-clause-choices g c = λ first taken on.
    along-alike _ _ _ _ _ _ _ _ c.pop.new.self _ first c.loop.invariant.3
    (rw c.in_default.is at c.pop.ensures) (search rules) taken

pub returns-then-is_over-clause-visited : goal.returns-then-is_over-clause-visited
returns-then-is_over-clause-visited g c = λ first taken.
    let over : is_over c.args.self.now.scope c.add.new.self ≡ true = sym c.is_over.ensures ∙ c.if-is_over.true in
    record {
      visited = c.loop.invariant.0 ++ c.in-Some.entry ∷ [];
      total = c.add.new.self;
      entries = rw c.add.ensures (next_entry _ _ _ _ c.loop.invariant.1 c.loop.invariant.2
          c.visit_entry.ensures.visited);
      walked = inr (
        over,
        (along-next _ _ _ _ _ _ _ _ _ _ _ _ _ c.loop.invariant.3
            (rw c.in-Some.is at c.pop.ensures) c.visit_entry.ensures.passed).are_first first taken,
      );
      visit_is = inl refl;
    }

pub returns-then-is_over-clause-choices : goal.returns-then-is_over-clause-choices
returns-then-is_over-clause-choices g c = λ first taken on.
    absurd (true≢false (sym (sym c.is_over.ensures ∙ c.if-is_over.true) ∙ on))

pub loop-preserved : goal.loop-preserved
loop-preserved g c = (
  c.loop.invariant.0 ++ c.in-Some.entry ∷ [],
  rw c.add.ensures (next_entry _ _ _ _ c.loop.invariant.1 c.loop.invariant.2 c.visit_entry.ensures.visited),
  sym c.is_over.ensures ∙ c.if-is_over.false,
  along-next _ _ _ _ _ _ _ _ _ _ _ _ _ c.loop.invariant.3 (rw c.in-Some.is at c.pop.ensures)
      c.visit_entry.ensures.passed,
)
