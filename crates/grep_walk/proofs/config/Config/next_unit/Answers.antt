use Rattle.std.proofs.Common.{◌∙◌, sym, arith}
use Rattle.std.proofs.lemmas.Result.{err_from_is_err_and}
use Rattle.grep_walk.proofs.QuestionLemmas.{asked-unit}
use Rattle.grep_walk.proofs.UnitStepLemmas.{unit-last, left-last, unit-done, left-done, unit-apart}
use Rattle.grep_walk.proofs.UnitStepLemmas.{left-apart, reached-inside, reached-joined}
use Rattle.grep_walk.proofs.config.Config.next_unit.Goals as goal

pub returns-in_default-clause-unit : goal.returns-in_default-clause-unit
returns-in_default-clause-unit g c = rw c.zero.ensures
    (unit-last _ _ _ _ c.requires (sym c.take.ensures.value ∙ c.in_default.is))

pub returns-in_default-clause-left : goal.returns-in_default-clause-left
returns-in_default-clause-left g c =
    rw c.take.ensures.after (left-last _ _ _ _ c.requires (sym c.take.ensures.value
    ∙ c.in_default.is))

pub returns-in_err-found-clause-fault : goal.returns-in_err-found-clause-fault
returns-in_err-found-clause-fault g c =
    let p = err_from_is_err_and c.from_residual.result c.from_residual.ensures.1 in
    let reached = c.matches.invariant.reached in
    let fault = c.in_err-found.ensures.fault reached.asked reached.found in
    rw (p.1, p.2) (λ i at. (
      fault.0,
      asked-unit c.args.self.now (g.M.Matcher.facts c.args.matcher.now).meaning c.args.bytes.now
          c.args.blocks.now.end
          c.matches.blocks.position reached.asked c.matches.unit reached.touched
          c.in_err-found.ensures.inside i at fault.0 fault.1,
      fault.2,
    ))

pub matches-preserved-then-is_passed : goal.matches-preserved-then-is_passed
matches-preserved-then-is_passed g c =
    let found = rw c.in-Some-2.is at c.in_ok-found.ensures.some in
    let inside = rw c.end.ensures.value at (c.is_passed.ensures.yes c.if-is_passed.true) in
    record {
      reached = reached-inside _ _ _ _ _ c.next_match.new.blocks _ c.matches.invariant.reached
          c.next_match.ensures.next _ found inside.0 inside.1;
    }

pub returns-then-end-start-clause-unit : goal.returns-then-end-start-clause-unit
returns-then-end-start-clause-unit g c =
    let found = rw c.in-Some-2.is at c.in_ok-found.ensures.some in
    let over = rw c.end.ensures.value at (c.is_passed.ensures.not_yet c.if-is_passed.false) in
    let part = rw c.end-in-Some-2.ensures.value at c.block_from-block.ensures in
    unit-apart _ _ _ _ _ c.next_match.new.blocks _ c.matches.invariant.reached
    c.next_match.ensures.next _ found _ over part (omega arith)

pub returns-then-end-start-clause-left : goal.returns-then-end-start-clause-left
returns-then-end-start-clause-left g c =
    let found = rw c.in-Some-2.is at c.in_ok-found.ensures.some in
    let over = rw c.end.ensures.value at (c.is_passed.ensures.not_yet c.if-is_passed.false) in
    let part = rw c.end-in-Some-2.ensures.value at c.block_from-block.ensures in
    rw c.end-blocks.ensures.value
    (left-apart _ _ _ _ _ c.next_match.new.blocks _ c.matches.invariant.reached
    c.next_match.ensures.next _ found _ over part (omega arith))

pub matches-preserved : goal.matches-preserved
matches-preserved g c =
    let found = rw c.in-Some-2.is at c.in_ok-found.ensures.some in
    let over = rw c.end.ensures.value at (c.is_passed.ensures.not_yet c.if-is_passed.false) in
    let part = rw c.end-in-Some-2.ensures.value at c.block_from-block.ensures in
    let joined = reached-joined _ _ _ _ _ c.next_match.new.blocks _ c.matches.invariant.reached
    c.next_match.ensures.next _ found _ over part (omega arith) in
    record { reached = rw (c.with_end-unit.ensures, c.end-in-Some-2-3.ensures.value) joined }

pub returns-clause-left : goal.returns-clause-left
returns-clause-left g c =
    let more = rw c.in_default-2.is at c.in_ok-found.ensures.none in
    rw c.end-blocks-2.ensures.value
    (left-done _ _ _ _ _ c.next_match.new.blocks _ c.matches.invariant.reached
    c.next_match.ensures.next more)

pub returns-clause-unit : goal.returns-clause-unit
returns-clause-unit g c =
    let more = rw c.in_default-2.is at c.in_ok-found.ensures.none in
    unit-done _ _ _ _ _ c.next_match.new.blocks _ c.matches.invariant.reached
    c.next_match.ensures.next more
