use Rattle.std.proofs.Common.{rules, ◌≡◌, ◌∙◌, ◌-◌, ap, sym, subst, arith, length, true}
use Rattle.std.proofs.lemmas.Result.{err_from_is_err_and}
use Rattle.grep_definitions.specs.Searches.{IsClosed}
use Rattle.grep_line_buffer.specs.BufferStates.{BufferState}
use Rattle.grep_matcher.specs.Lines.{byte_of}
use Rattle.grep_searcher.proofs.RollingLemmas as rolls
use Rattle.grep_definitions.specs.Plans.{all_true}
use Rattle.grep_definitions.proofs.CallOrderLemmas.{called-none}
use Rattle.grep_searcher.proofs.search.Search.search_shown.Given.{Over}
use Rattle.grep_searcher.proofs.search.Search.search_shown.Goals as goal
use Rattle.grep_searcher.proofs.search.Search.search_shown.Goals.{After-search_window}

-- where the search of the window begins
start : (g : Over) (c : goal.After-search_window g) → c.args.walk.now.offset
    - c.absolute_byte_offset.result ≡ c.args.walk.now.offset - c.args.lines.now.offset
start g c = ap (λ o. c.args.walk.now.offset - o) c.absolute_byte_offset.ensures

pub returns-then-start-window-clause-ends : goal.returns-then-start-window-clause-ends
returns-then-start-window-clause-ends g c = λ lawful _. rolls.ended-nothing
    (ap (λ o. c.args.walk.now.offset - o) (sym c.absolute_byte_offset.ensures)
    ∙ (c.if-start-window.true ∙ ap (λ xs. length xs) c.buffer-window.ensures.value)) c.requires.low

pub returns-in_err-search_window-clause-fault : goal.returns-in_err-search_window-clause-fault
returns-in_err-search_window-clause-fault g c =
    let p = err_from_is_err_and c.from_residual.result c.from_residual.ensures.1 in
    let fault = rw (c.buffer-window.ensures.value, c.absolute_byte_offset.ensures) at
    c.in_err-search_window.ensures.fault in
    rw (p.1, p.2) (λ lawful gone first ready after closes. fault lawful gone _ first
    (ready after closes))

pub returns-then-not-branch-clause-ends : goal.returns-then-not-branch-clause-ends
returns-then-not-branch-clause-ends g c = λ lawful _.
    let searched = c.in_ok-search_window.ensures in
    let ends = searched.ends lawful c.if-not-branch.true in
    rolls.ended-within _ c.buffer-window.ensures.value
    (start g (goal.at.returns-then-not-branch-clause-ends g c).After-search_window) searched.ahead
    (omega (
      arith,
      searched.within,
      ap (λ xs. length xs) c.buffer-window.ensures.value,
      c.absolute_byte_offset.ensures,
      c.requires.low,
    )) _ ends.1

pub returns-then-not-is_terminated-clause-ends : goal.returns-then-not-is_terminated-clause-ends
returns-then-not-is_terminated-clause-ends g c = λ lawful _.
    let searched = c.in_ok-search_window.ensures in
    let goes : c.in_ok-search_window.field-0 ≡ true = search rules in
    rolls.ended-broken _ c.buffer-window.ensures.value
    (start g (goal.at.returns-then-not-is_terminated-clause-ends g c).After-search_window)
    (searched.goes_on lawful goes) searched.ahead
    (omega (
      arith,
      searched.within,
      ap (λ xs. length xs) c.buffer-window.ensures.value,
      c.absolute_byte_offset.ensures,
      c.requires.low,
    )) (rw c.buffer-window.ensures.value at c.if-not-is_terminated.ensures)

pub returns-clause-goes_on : goal.returns-clause-goes_on
returns-clause-goes_on g c = λ lawful _.
    let shown = c.buffer-window.ensures in
    let searched = c.in_ok-search_window.ensures in
    let goes : c.in_ok-search_window.field-0 ≡ true = search rules in
    let same = ap (λ xs. length xs) shown.value in
    let closed = subst (IsClosed (byte_of c.args.self.now.config.line_terminator)) shown.value
    c.if-not-is_terminated.ensures in
    let first = rw shown.value at c.first_kept-count.ensures in
    record {
      count = c.first_kept-count.result;
      within = omega (arith, c.first_kept-count.ensures.within, same);
      some = omega (
        arith,
        c.if-start-window.false,
        same,
        c.requires.inside,
        c.requires.low,
        c.absolute_byte_offset.ensures,
      );
      at = omega (arith, searched.moved goes, same, c.absolute_byte_offset.ensures, c.requires.low);
      below = omega (
        arith,
        searched.moved goes,
        same,
        shown.offset,
        c.absolute_byte_offset.ensures,
        c.requires.low,
      );
      moved = c.widen.ensures.same ∙ ap (λ (b : BufferState). record b {
        size = c.widen.new.self.size;
        free = c.widen.new.self.free;
      }) c.consume.ensures;
      closed = closed;
      few = first.few;
      next = rolls.next-rolled c.args.lines.now shown.value
          (start g (goal.at.returns-clause-goes_on g c).After-search_window)
          (searched.goes_on lawful goes) _ closed (λ gone opens. first.closed gone opens closed)
          (λ gone more after opens closes. first.kept gone more after opens closed closes);
    }

pub returns-then-start-window-clause-in_order : goal.returns-then-start-window-clause-in_order
returns-then-start-window-clause-in_order g c =
    record { outcome = all_true; ends = tt; called = called-none _ _ _ }

pub returns-then-not-branch-clause-in_order : goal.returns-then-not-branch-clause-in_order
returns-then-not-branch-clause-in_order g c =
    rw c.if-not-branch.true at c.in_ok-search_window.ensures.in_order

pub returns-then-not-is_terminated-clause-in_order :
    goal.returns-then-not-is_terminated-clause-in_order
returns-then-not-is_terminated-clause-in_order g c =
    let goes : c.in_ok-search_window.field-0 ≡ true = search rules in
    record {
      outcome = all_true;
      ends = tt;
      called = rw goes at c.in_ok-search_window.ensures.in_order;
    }

pub returns-clause-in_order : goal.returns-clause-in_order
returns-clause-in_order g c =
    let goes : c.in_ok-search_window.field-0 ≡ true = search rules in
    rw goes at c.in_ok-search_window.ensures.in_order
