use Rattle.std.proofs.Common.{◌∙◌, ap, arith, ◌++◌, ◌∷◌, [], ℕ}
use Rattle.regex_class.specs.Ranges.{in_ranges}
use Rattle.regex_class.proofs.RangesLemmas.{in_ranges-nil}
use Rattle.grep_regex.proofs.StrippedTreeLemmas.{class-more, class-full}
use Rattle.grep_regex.proofs.strip.class_of.Goals as goal

pub loop-byte-init : goal.loop-byte-init
loop-byte-init c = λ x. ap (λ ranges. in_ranges ranges x) c.new-ranges.ensures.items ∙ in_ranges-nil x

pub loop-byte-preserved : goal.loop-byte-preserved
loop-byte-preserved c =
    class-more c.args.bytes.now c.loop-byte.ranges.items c.push.new.self.items c.loop-byte.byte-index (omega arith)
    c.loop-byte.invariant
    (c.in_ok-push.ensures.items ∙ ap (λ (x : ℕ). c.loop-byte.ranges.items ++ (x, x) ∷ []) c.from-member.ensures)

pub returns : goal.returns
returns c = class-full c.args.bytes.now c.loop-byte.ranges.items c.in_ok-class.class.ranges.items c.loop-byte.byte-index
    (omega arith) c.loop-byte.invariant c.in_ok-class.ensures
