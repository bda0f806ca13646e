use Rattle.std.proofs.Common.{arith, ◌∙◌, sym, false, true, inl, refl}
use Rattle.std.proofs.lemmas.Bool.{false≢true}
use Rattle.std.proofs.lemmas.Result.{err_from_is_err_and}
use Rattle.grep_searcher.proofs.StreamSearchLemmas as streams
use Rattle.grep_searcher.proofs.StreamSearchLemmas.{idle-unread}
use Rattle.grep_definitions.proofs.CallOrderLemmas as order
use Rattle.grep_searcher.proofs.search.Search.finish_of_reader.Goals as goal

pub returns-in_err-begin-clause-fault : goal.returns-in_err-begin-clause-fault
returns-in_err-begin-clause-fault g c =
    let p = err_from_is_err_and c.from_residual.result c.from_residual.ensures.1 in
    rw (p.1, p.2) (λ lawful has_buffers. inl (streams.fault-begin _ _ _ _ _
    c.requires.by_line (λ passthru. (c.args.self.now.bare passthru).1) _ _
    (rw c.args.self.now.same at c.in_err-begin.ensures.step)))

pub returns-then-not-branch-clause-counted : goal.returns-then-not-branch-clause-counted
returns-then-not-branch-clause-counted g c = λ lawful.
    rw c.new.ensures (streams.counted-unbegun _ _ _ _ _ c.requires.by_line
    (λ passthru. (c.args.self.now.bare passthru).1)
    (rw (c.args.self.now.same, c.if-not-branch.true) at c.in_ok-begin.ensures.step))

pub returns-then-not-branch-clause-begun : goal.returns-then-not-branch-clause-begun
returns-then-not-branch-clause-begun g c = record {
  begun = false;
  first = c.begin.new.self;
  begin = rw (c.args.self.now.same, c.if-not-branch.true) at c.in_ok-begin.ensures.step;
  unread = λ e. refl;
  once = λ reads. cc;
}

pub returns-then-not-reads_lines-clause-begun : goal.returns-then-not-reads_lines-clause-begun
returns-then-not-reads_lines-clause-begun g c = record {
  begun = true;
  first = c.begin.new.self;
  begin = rw (c.args.self.now.same, c.if-not-branch.false) at c.in_ok-begin.ensures.step;
  unread = λ e. refl;
  once = λ reads. absurd
      (false≢true (sym c.if-not-reads_lines.true ∙ (c.reads_lines.ensures ∙ reads)));
}

pub returns-then-not-reads_lines-clause-counted : goal.returns-then-not-reads_lines-clause-counted
returns-then-not-reads_lines-clause-counted g c = λ lawful.
    rw c.new-then-not-reads_lines.ensures (streams.counted-idle _ _ _ _ _ c.requires.by_line
    (λ passthru. (c.args.self.now.bare passthru).1)
    (idle-unread _ _ (sym c.reads_lines.ensures ∙ c.if-not-reads_lines.true))
    (rw (c.args.self.now.same, c.if-not-branch.false) at c.in_ok-begin.ensures.step))

pub returns-in-Err-clause-succeeds : goal.returns-in-Err-clause-succeeds
returns-in-Err-clause-succeeds g c = λ never infallible lawful.
    let begun = rw (c.args.self.now.same, c.if-not-branch.false) at c.in_ok-begin.ensures.step in
    c.in-Err.ensures.succeeds never infallible lawful c.args.sink.now begun

pub returns-in-Err-clause-fault : goal.returns-in-Err-clause-fault
returns-in-Err-clause-fault g c = λ lawful. c.in-Err.ensures.fault lawful c.args.sink.now
    (rw (c.args.self.now.same, c.if-not-branch.false) at c.in_ok-begin.ensures.step)

pub returns-in_err-begin-clause-broken : goal.returns-in_err-begin-clause-broken
returns-in_err-begin-clause-broken g c =
    let p = err_from_is_err_and c.from_residual.result c.from_residual.ensures.1 in
    rw (p.1, p.2) (order.order-failed _ _ _ _ _ {bound = 0} (omega arith) _ _ _
    (order.failed-begin _ _ _ _ _ _ _ (rw c.args.self.now.same at c.in_err-begin.ensures.step)))

pub returns-then-not-branch-clause-in_order : goal.returns-then-not-branch-clause-in_order
returns-then-not-branch-clause-in_order g c =
    rw c.new.ensures (order.begun-to-0 _ _ _ _ _
    (rw c.args.self.now.same at c.in_ok-begin.ensures.step))

pub returns-in-Err-clause-broken : goal.returns-in-Err-clause-broken
returns-in-Err-clause-broken g c =
    order.order-read _ _ _ _ _ _ _ _ _
    (rw (c.args.self.now.same, c.if-not-branch.false) at c.in_ok-begin.ensures.step)
    c.in-Err.ensures.in_order
