use Rattle.std.proofs.Common.{◌<◌, ◌∙◌, ap, arith, length, sym}
use Rattle.std.specs.Str.{bytes_eq}
use Rattle.linegrep_files.proofs.TypeDefinitionLemmas.{last-next, selects-more, selects-same}
use Rattle.linegrep_files.proofs.type_definitions.KnownTypes.select_all.Goals as goal

pub loop-at-preserved-then-is_same : goal.loop-at-preserved-then-is_same
loop-at-preserved-then-is_same c =
    let below : c.loop-at.at < length c.args.self.now.definitions.items = omega arith in
    let is = rw c.loop-at.invariant.definitions at c.index-definition.ensures in
    record {
      last = c.as_bytes-last.ensures.value ∙ last-next _ c.loop-at.at c.index-definition.result.now below is;
      selections = selects-same _ c.loop-at.at c.index-definition.result.now c.loop-at.last.now _ _ _ below is
          c.loop-at.invariant.last
          (ap (λ l. bytes_eq l c.loop-at.last.now) (sym c.as_bytes.ensures.value) ∙ sym c.is_same.ensures ∙ c.if-is_same.true)
          c.loop-at.invariant.selections;
      definitions = c.loop-at.invariant.definitions;
    }

pub loop-at-preserved : goal.loop-at-preserved
loop-at-preserved c =
    let below : c.loop-at.at < length c.args.self.now.definitions.items = omega arith in
    let is = rw c.loop-at.invariant.definitions at c.index-definition.ensures in
    record {
      last = c.as_bytes-last-in-loop-at.ensures.value ∙ last-next _ c.loop-at.at c.index-definition.result.now below is;
      selections = selects-more _ c.loop-at.at c.index-definition.result.now c.loop-at.last.now _ _ _ _ below is
          c.loop-at.invariant.last
          (ap (λ l. bytes_eq l c.loop-at.last.now) (sym c.as_bytes.ensures.value) ∙ sym c.is_same.ensures ∙ c.if-is_same.false)
          c.loop-at.invariant.selections c.in_ok-push.ensures.selections;
      definitions = c.push.ensures.definitions ∙ c.loop-at.invariant.definitions;
    }
