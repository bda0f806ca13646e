use Rattle.std.proofs.Common.{◌∙◌, ap, drop, sym}
use Rattle.linegrep_files.proofs.ClassSetLemmas.{adds-one, at-close, at-end, at-next, cut-next, for-errors}
use Rattle.linegrep_files.proofs.ClassTextLemmas.{members-next, members-range}
use Rattle.linegrep_files.proofs.class.read_members.Goals as goal

pub loop-last-preserved-in-Some : goal.loop-last-preserved-in-Some
loop-last-preserved-in-Some c =
    let (begins, ends, ordered, goes) = c.in_ok-member-in-Some.ensures.range in
    let rest = goes ∙ c.tail-in-Some.ensures ∙ ap (drop 1) c.tail.ensures in
    record {
      text = members-range c.args.text.now c.loop-last.member.rest.now _ c.in-Some.last c.loop-last.invariant.text
          c.in-Some.ensures.0 c.in-Some.ensures.1 rest;
      ranges = rw (begins, ends) (at-end c.args.ignores_case _ c.args.text.now c.loop-last.member.first
          c.loop-last.member.last c.in-Some.last c.loop-last.member.rest.now _ c.loop-last.invariant.ranges
          c.in-Some.ensures.0 c.in-Some.ensures.1 ordered rest);
    }

pub returns-in_err-member-in-None-clause-cut : goal.returns-in_err-member-in-None-clause-cut
returns-in_err-member-in-None-clause-cut c = for-errors c.from_residual-in_err-member-in-None.result
    (cut-next c.args.ignores_case _ c.args.text.now _ c.loop-last.member.rest.now c.loop-last.invariant.ranges
    (sym c.begins_with.ensures ∙ c.loop-last-test.true) c.in-None.ensures c.in_err-member-in-None.ensures.cut)

pub loop-last-preserved : goal.loop-last-preserved
loop-last-preserved c =
    let opens = sym c.begins_with.ensures ∙ c.loop-last-test.true in
    record {
      text = members-next c.args.text.now c.loop-last.member.rest.now _ c.loop-last.invariant.text opens
          c.in_ok-member-in-None.ensures.text;
      ranges = at-next c.args.ignores_case _ _ c.args.text.now _ _ c.loop-last.member.rest.now _
          c.loop-last.invariant.ranges opens c.in-None.ensures
          (adds-one c.args.ignores_case (c.loop-last.member.first, c.loop-last.member.last) _ _ c.add_range.ensures)
          c.in_ok-member-in-None.ensures.range;
    }

pub returns-clause-set : goal.returns-clause-set
returns-clause-set c = at-close c.args.ignores_case _ _ c.args.text.now
    (c.loop-last.member.first, c.loop-last.member.last) c.loop-last.member.rest.now c.tail-2.result.now
    c.loop-last.invariant.ranges (sym c.begins_with.ensures ∙ c.loop-last-test.false) c.tail-2.ensures
    (adds-one c.args.ignores_case (c.loop-last.member.first, c.loop-last.member.last) _ _ c.add_range-2.ensures)
