use Rattle.std.proofs.Common.{◌∙◌, sym, ap, not}
use Rattle.regex_class.specs.Ranges.{in_ranges}
use Rattle.grep_regex.proofs.NamedByteLemmas.{class-gone, class-has, class-kept, class-lost}
use Rattle.grep_regex.proofs.refused.is_lost.Goals as goal

pub returns-clause-yes : goal.returns-clause-yes
returns-clause-yes c = λ none. class-lost c.args.bytes.now c.args.byte c.args.members.now.ranges.items
    c.in_ok-left.left.ranges.items c.args.class.now.ranges.items c.requires c.in_ok-left.ensures
    (class-gone c.in_ok-left.left.ranges.items c.bounds.result c.bounds.ensures
    (c.is_none.ensures ∙ ap not none))
    (sym (ap (in_ranges c.args.members.now.ranges.items) c.from.ensures) ∙ (sym c.contains.ensures ∙ c.if-not-contains.false))

pub returns-clause-no : goal.returns-clause-no
returns-clause-no c = λ some lost.
    class-has c.in_ok-left.left.ranges.items c.bounds.result c.bounds.ensures {P = ⊥}
    (c.is_none.ensures ∙ ap not some)
    (λ b bounds. class-kept c.args.bytes.now c.args.byte c.args.members.now.ranges.items
    c.in_ok-left.left.ranges.items c.args.class.now.ranges.items c.requires c.in_ok-left.ensures b bounds lost)
