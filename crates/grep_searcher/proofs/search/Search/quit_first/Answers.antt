use Rattle.std.proofs.Common.{refl, inl, inr, Err, sym, subst}
use Rattle.std.proofs.lemmas.Result.{err_from_is_err_and}
use Rattle.grep_definitions.specs.Plans.{begins, binary_data, stopped, failed, counted}
use Rattle.grep_searcher.proofs.QuittingLemmas.{first-quit}
use Rattle.grep_searcher.proofs.search.Search.quit_first.Goals as goal

pub returns-in_err-begin-clause-quits : goal.returns-in_err-begin-clause-quits
returns-in_err-begin-clause-quits g c =
    let p = err_from_is_err_and c.from_residual.result c.from_residual.ensures.1 in
    record {
      outcome = failed p.0;
      mid = c.begin.new.self;
      made = inr (inr (
        p.0,
        refl,
        subst (λ e. g.S.Sink.step c.args.sink.now c.args.self.now.config begins
            (Err e) c.begin.new.self) (sym p.2)
            (rw c.args.self.now.same at c.in_err-begin.ensures.step),
      ));
      finished = (p.1, refl);
    }

pub returns-then-not-branch-clause-quits : goal.returns-then-not-branch-clause-quits
returns-then-not-branch-clause-quits g c = record {
  outcome = stopped (counted 0);
  mid = c.begin.new.self;
  made = inr (inl (refl, rw (c.args.self.now.same, c.if-not-branch.true) at c.in_ok-begin.ensures.step));
  finished = rw (c.args.self.now.same, c.new.ensures) at c.finish.ensures.step;
}

pub returns-in_err-binary_data-clause-quits : goal.returns-in_err-binary_data-clause-quits
returns-in_err-binary_data-clause-quits g c =
    let p = err_from_is_err_and c.from_residual-in_err-binary_data.result
    c.from_residual-in_err-binary_data.ensures.1 in
    record {
      outcome = failed p.0;
      mid = c.binary_data.new.self;
      made = inl (
        c.begin.new.self,
        (rw (c.args.self.now.same, c.if-not-branch.false) at c.in_ok-begin.ensures.step),
        inr (inr (
          p.0,
          refl,
          subst (λ e. g.S.Sink.step c.begin.new.self c.args.self.now.config
              (binary_data c.args.offset)
              (Err e) c.binary_data.new.self) (sym p.2)
              (rw c.args.self.now.same at c.in_err-binary_data.ensures.step),
        )),
      );
      finished = (p.1, refl);
    }

pub returns-clause-quits : goal.returns-clause-quits
returns-clause-quits g c =
    first-quit _ _ _ _
    (rw (c.args.self.now.same, c.if-not-branch.false) at c.in_ok-begin.ensures.step)
    (rw c.args.self.now.same at c.in_ok-binary_data.ensures.step)
    (rw (c.args.self.now.same, c.new-2.ensures) at c.finish-2.ensures.step)
