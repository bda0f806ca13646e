use Rattle.std.proofs.Common.{refl, ◌++◌}
use Rattle.std.specs.List.{flat_map}
use Rattle.grep_printer.proofs.HyperlinkLemmas.{AreFollowed, followed-more}
use Rattle.grep_printer.proofs.PushLemmas.{pushed-more, pushed-none}
use Rattle.grep_printer.specs.Hyperlinks.{part_target}
use Rattle.grep_printer.proofs.hyperlinks.Hyperlink.push_parts.Goals as goal

pub loop-part-init : goal.loop-part-init
loop-part-init c = pushed-none c.args.text.now _ (record { pushed = refl })

pub loop-part-preserved : goal.loop-part-preserved
loop-part-preserved c =
    let target = part_target c.args.self.now c.args.line c.args.column in
    let whole = c.args.text.now.text ++ flat_map target c.args.parts.now in
    let pushed = c.loop-part.invariant in
    let part = c.in-Some.part.now in
    pushed-more c.args.text.now c.loop-part.text c.push_part.new.text
    (λ text. AreFollowed target whole text c.loop-part.rest.now)
    (λ text. AreFollowed target whole text c.in-Some.later.now) (target part) pushed
    c.push_part.ensures
    (followed-more target whole pushed.bytes c.loop-part.rest.now part c.in-Some.later.now pushed.is
    c.in-Some.ensures.cases.0)
