use Rattle.std.proofs.Common.{arith}
use Rattle.grep_regex.proofs.TextsLemmas.{sums-kept, texts-kept}
use Rattle.grep_regex.proofs.texts.Texts.new.Goals as goal

pub loop-i-preserved : goal.loop-i-preserved
loop-i-preserved c = record {
  whole = sums-kept c.args.texts.now c.loop-i.i _ c.loop-i.lens.items _ _ _ c.loop-i.invariant.whole
      c.in_ok-push_str.ensures.bytes c.in_ok-push.ensures.items;
  texts = texts-kept c.args.texts.now c.loop-i.i _ c.loop-i.lens.items _ _ _ (omega arith) c.loop-i.invariant.whole
      c.in_ok-push_str.ensures.bytes c.in_ok-push.ensures.items c.loop-i.invariant.texts;
}
