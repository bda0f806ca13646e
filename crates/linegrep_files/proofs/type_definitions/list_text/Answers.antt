use Rattle.std.proofs.Common.{◌∙◌, ap, arith, sym}
use Rattle.std.specs.Str.{bytes_eq}
use Rattle.linegrep_files.specs.TypeDefinitions.{pairs_of}
use Rattle.linegrep_files.proofs.TypeListLemmas.{last-changes, last-stays, lines-more, lines-same}
use Rattle.linegrep_files.proofs.type_definitions.list_text.Goals as goal

pub loop-definition-preserved-then-is_same : goal.loop-definition-preserved-then-is_same
loop-definition-preserved-then-is_same c =
    let same = ap (λ l. bytes_eq l c.loop-definition.last.now) (sym c.as_bytes.ensures.value)
    ∙ sym c.is_same.ensures ∙ c.if-is_same.true in
    record {
      last = last-stays c.args.definitions.now c.loop-definition.definition-index _ _ (omega arith) same;
      text = lines-same (pairs_of c.args.definitions.now) c.args.definitions.now c.loop-definition.definition-index _ _ _
          (omega arith) c.loop-definition.invariant.last same c.loop-definition.invariant.text;
    }

pub loop-definition-preserved : goal.loop-definition-preserved
loop-definition-preserved c =
    let other = ap (λ l. bytes_eq l c.loop-definition.last.now) (sym c.as_bytes.ensures.value)
    ∙ sym c.is_same.ensures ∙ c.if-is_same.false in
    record {
      last = c.as_bytes-last.ensures.value
          ∙ last-changes c.args.definitions.now c.loop-definition.definition-index _ (omega arith);
      text = lines-more (pairs_of c.args.definitions.now) c.args.definitions.now c.loop-definition.definition-index _ _ _ _
          (omega arith) c.loop-definition.invariant.last other c.loop-definition.invariant.text
          c.in_ok-push_line.ensures;
    }
