use Rattle.std.proofs.Common.{◌∷◌, ◌++◌, [], ◌∙◌, ap, append_assoc, sym}
use Rattle.linegrep_files.proofs.PieceLemmas.{glob-tail, piece-shorter, texts-more}
use Rattle.linegrep_files.proofs.glob.add_pieces.Goals as goal

pub loop-rest-smaller : goal.loop-rest-smaller
loop-rest-smaller c = piece-shorter _ _ _ _ _ _ c.in-Ok.ensures.ok

pub loop-rest-preserved : goal.loop-rest-preserved
loop-rest-preserved c = (
  c.loop-rest.invariant.0 ++ c.in-Ok.step.piece ∷ [],
  c.in-Ok-push.ensures.items ∙ ap (λ l. l ++ c.in-Ok.step.piece ∷ []) c.loop-rest.invariant.1
      ∙ append_assoc c.args.pieces.now.items c.loop-rest.invariant.0 (c.in-Ok.step.piece ∷ []),
  texts-more _ _ _ _ _ _ _ _ _ c.loop-rest.invariant.2 c.in-Ok.ensures.ok,
)

pub returns-in-Err : goal.returns-in-Err
returns-in-Err c = record {
  ok = tt;
  err = (c.loop-rest.invariant.0, _, _, c.loop-rest.invariant.2, c.in-Err.ensures.err);
}

pub returns-in-Ok-from_slice-clause-ok : goal.returns-in-Ok-from_slice-clause-ok
returns-in-Ok-from_slice-clause-ok c = (
  c.loop-rest.invariant.0,
  c.loop-rest.invariant.1,
  rw c.in-Ok-from_slice.ensures.items (glob-tail _ _ _ _ _ c.tail_len-longest.result c.tail_len-longest.ensures
      c.loop-rest.invariant.2 (sym c.is_tail.ensures ∙ c.loop-rest-test.false)),
)
