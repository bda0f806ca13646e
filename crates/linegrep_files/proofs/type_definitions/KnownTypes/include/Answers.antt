use Rattle.std.proofs.Common.{◌∙◌, arith, sym}
use Rattle.linegrep_files.proofs.TypeDefinitionLemmas.{includes-more, includes-same}
use Rattle.linegrep_files.proofs.type_definitions.KnownTypes.include.Goals as goal

pub loop-at-preserved-then-is_of : goal.loop-at-preserved-then-is_of
loop-at-preserved-then-is_of c = record {
  definitions = includes-more c.loop-at.self.definitions.items c.args.self.now.definitions.items c.loop-at.at
      c.index.result.now _ c.args.name.now c.args.other.now (omega arith) c.index.ensures c.loop-at.invariant.definitions
      (sym c.is_of.ensures ∙ c.if-is_of.true) c.in_ok-define.ensures.definitions;
  selections = c.define.ensures.selections ∙ c.loop-at.invariant.selections;
}

pub loop-at-preserved : goal.loop-at-preserved
loop-at-preserved c = record {
  definitions = includes-same c.loop-at.self.definitions.items c.args.self.now.definitions.items c.loop-at.at
      c.index.result.now c.args.name.now c.args.other.now (omega arith) c.index.ensures c.loop-at.invariant.definitions
      (sym c.is_of.ensures ∙ c.if-is_of.false);
  selections = c.loop-at.invariant.selections;
}
