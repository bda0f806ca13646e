use Rattle.std.proofs.Common.{get_or, subst, sym, take}
use Rattle.std.proofs.lemmas.List.{take_more}
use Rattle.grep_regex.specs.Classes.{AreBytes}
use Rattle.grep_regex.proofs.RunLemmas.{bytes-more, only-byte}
use Rattle.grep_regex.proofs.class_tree.literal_sets.Goals as goal

pub loop-i-preserved : goal.loop-i-preserved
loop-i-preserved c =
    let bytes = c.args.bytes.now in
    subst (λ front. AreBytes front c.push.new.self.items) (sym (take_more bytes c.loop-i.i 0 c.loop-i-test.true))
    (rw c.in_ok-push.ensures.items (bytes-more (take c.loop-i.i bytes) c.loop-i.sets.items (get_or bytes c.loop-i.i 0) _
    c.loop-i.invariant (only-byte _ c.empty-set.result _ c.empty-set.ensures c.add.ensures)))
