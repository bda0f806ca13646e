use Rattle.std.proofs.Common.{true, false, refl, sym, ◌∙◌}
use Rattle.grep_decode.proofs.LabelLemmas.{named-is}
use Rattle.grep_decode.proofs.label.label_of.Goals as goal

pub returns : goal.returns
returns c = named-is _ _ c.trim_ascii-name.ensures.value false false false
    (sym c.if-is_one_of.false ∙ c.is_one_of.ensures)
    (sym c.if-is_one_of-2.false ∙ c.is_one_of-2.ensures)
    (sym c.if-is_one_of-3.false ∙ c.is_one_of-3.ensures)

pub returns-then-is_one_of-3 : goal.returns-then-is_one_of-3
returns-then-is_one_of-3 c = named-is _ _ c.trim_ascii-name.ensures.value false false true
    (sym c.if-is_one_of.false ∙ c.is_one_of.ensures)
    (sym c.if-is_one_of-2.false ∙ c.is_one_of-2.ensures)
    (sym c.if-is_one_of-3.true ∙ c.is_one_of-3.ensures)

pub returns-then-is_one_of-2 : goal.returns-then-is_one_of-2
returns-then-is_one_of-2 c = named-is _ _ c.trim_ascii-name.ensures.value false true _
    (sym c.if-is_one_of.false ∙ c.is_one_of.ensures)
    (sym c.if-is_one_of-2.true ∙ c.is_one_of-2.ensures) refl

pub returns-then-is_one_of : goal.returns-then-is_one_of
returns-then-is_one_of c = named-is _ _ c.trim_ascii-name.ensures.value true _ _
    (sym c.if-is_one_of.true ∙ c.is_one_of.ensures) refl refl
