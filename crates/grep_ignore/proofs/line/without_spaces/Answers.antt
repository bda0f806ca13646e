use Rattle.std.proofs.Common.{◌∙◌, ◌+◌, ◌<◌, ◌==◌, nat_lt, length, sym, ap, get_or, arith}
use Rattle.std.proofs.lemmas.Bool.{and_parts, ltb-true}
use Rattle.grep_ignore.proofs.LineLemmas.{cut_at, steps-escaped, steps-plain, start-cut, end-within}
use Rattle.grep_ignore.proofs.line.without_spaces.Goals as goal

pub loop-at-init : goal.loop-at-init
loop-at-init c = record { within = omega arith; before = omega arith; same = start-cut c.args.text.now }

pub loop-at-preserved-then-is_escape : goal.loop-at-preserved-then-is_escape
loop-at-preserved-then-is_escape c =
    let both = and_parts (get_or c.args.text.now c.loop-at.at 0 == 92)
    (nat_lt (c.loop-at.at + 1) (length c.args.text.now)) (sym c.if-is_escape.ensures) in
    let below : c.loop-at.at + 1 < length c.args.text.now = ltb-true _ _ both.1 in
    record {
      within = omega arith;
      before = omega arith;
      same = c.loop-at.invariant.same
          ∙ steps-escaped c.args.text.now c.loop-at.at c.loop-at.end below both.0;
    }

pub loop-at-preserved : goal.loop-at-preserved
loop-at-preserved c = record {
  within = omega (arith, c.loop-at-test.true);
  before = end-within _ c.loop-at.at c.loop-at.end _ c.loop-at.invariant.before c.end_after-end.ensures;
  same = c.loop-at.invariant.same ∙ steps-plain c.args.text.now c.loop-at.at c.loop-at.end
      c.loop-at-test.true (sym c.if-is_escape.ensures)
      ∙ ap (cut_at c.args.text.now (c.loop-at.at + 1)) (sym c.end_after-end.ensures);
}
