use Rattle.std.proofs.Common.{◌∙◌, ◌∷◌, subst, sym}
use Rattle.linegrep_files.specs.ClassTexts.{AreMembersBefore, HasRanges}
use Rattle.linegrep_files.proofs.ClassSetLemmas.{cut-plain, set-marked, set-plain}
use Rattle.linegrep_files.proofs.ClassTextLemmas.{class-marked, plain-members}
use Rattle.linegrep_files.proofs.class.read_class.Goals as goal

pub returns-then-is_negated : goal.returns-then-is_negated
returns-then-is_negated c =
    let marked = sym c.is_negated.ensures ∙ c.if-is_negated.true in
    record {
      text = class-marked c.args.text.now c.in_ok-class.class.rest.now marked
          (subst (λ t. AreMembersBefore t (93 ∷ c.in_ok-class.class.rest.now)) c.tail.ensures c.in_ok-class.ensures.text);
      set = set-marked c.args.ignores_case c.in_ok-class.class.set _ c.args.text.now c.in_ok-class.class.rest.now marked
          (subst (λ t. HasRanges c.args.ignores_case c.in_ok-class.class.set t (93 ∷ c.in_ok-class.class.rest.now))
          c.tail.ensures c.in_ok-class.ensures.set) c.others.ensures;
      malformed = tt;
    }

pub returns : goal.returns
returns c =
    let plain = sym c.is_negated.ensures ∙ c.if-is_negated.false in
    record {
      text = plain-members c.read_members-2.result c.args.text.now plain c.read_members-2.ensures.text;
      set = set-plain c.read_members-2.result c.args.ignores_case c.args.text.now plain c.read_members-2.ensures.set;
      malformed = cut-plain c.read_members-2.result c.args.text.now plain c.read_members-2.ensures.cut;
    }
