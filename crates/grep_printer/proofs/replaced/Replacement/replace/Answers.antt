use Rattle.std.proofs.lemmas.List.{nil_from_length}
use Rattle.grep_printer.proofs.ReplacedLemmas.{replaced-all, replacing-more}
use Rattle.grep_printer.specs.ReplacedTexts.{replacement_at}
use Rattle.grep_printer.proofs.replaced.Replacement.replace.Goals as goal

pub loop-part-preserved : goal.loop-part-preserved
loop-part-preserved g c =
    rw c.end-position.ensures.value
    (replacing-more (replacement_at g.M.CapturesAt.groups_at c.args.self.now) c.args.bytes.now c.args.parts.now
    c.loop-part.replaced.bytes.items c.loop-part.replaced.parts.items c.loop-part.position c.in-Some.part.now
    c.in-Some.later.now c.loop-part.rest.now c.extend_from_slice.new.self.items c.push_part.new.replaced.bytes.items
    c.push_part.new.replaced.parts.items c.in-Some.ensures.cases.0
    (rw c.start.ensures.value at c.in_ok-extend_from_slice.ensures.items)
    (rw c.start-in-Some.ensures.value at c.in_ok-push_part.ensures.bytes) c.in_ok-push_part.ensures.parts
    c.loop-part.invariant)

pub returns-clause-bytes : goal.returns-clause-bytes
returns-clause-bytes g c =
    (replaced-all c.args.self.now.end (replacement_at g.M.CapturesAt.groups_at c.args.self.now) c.args.bytes.now
    c.args.parts.now c.loop-part.replaced.bytes.items c.loop-part.replaced.parts.items c.loop-part.position
    c.loop-part.rest.now c.extend_from_slice-2.new.self.items c.end_line.new.bytes.items
    (nil_from_length c.loop-part.rest.now c.in_default.ensures.cases) c.loop-part.invariant
    c.in_ok-extend_from_slice-2.ensures.items c.in_ok-end_line.ensures c.requires.ordered).0

pub returns-clause-parts : goal.returns-clause-parts
returns-clause-parts g c =
    (replaced-all c.args.self.now.end (replacement_at g.M.CapturesAt.groups_at c.args.self.now) c.args.bytes.now
    c.args.parts.now c.loop-part.replaced.bytes.items c.loop-part.replaced.parts.items c.loop-part.position
    c.loop-part.rest.now c.extend_from_slice-2.new.self.items c.end_line.new.bytes.items
    (nil_from_length c.loop-part.rest.now c.in_default.ensures.cases) c.loop-part.invariant
    c.in_ok-extend_from_slice-2.ensures.items c.in_ok-end_line.ensures c.requires.ordered).1

pub returns-clause-ordered : goal.returns-clause-ordered
returns-clause-ordered g c =
    (replaced-all c.args.self.now.end (replacement_at g.M.CapturesAt.groups_at c.args.self.now) c.args.bytes.now
    c.args.parts.now c.loop-part.replaced.bytes.items c.loop-part.replaced.parts.items c.loop-part.position
    c.loop-part.rest.now c.extend_from_slice-2.new.self.items c.end_line.new.bytes.items
    (nil_from_length c.loop-part.rest.now c.in_default.ensures.cases) c.loop-part.invariant
    c.in_ok-extend_from_slice-2.ensures.items c.in_ok-end_line.ensures c.requires.ordered).2
