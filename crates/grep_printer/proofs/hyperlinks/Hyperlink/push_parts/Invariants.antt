use Rattle.std.proofs.Common.{length, ◌++◌}
use Rattle.std.specs.List.{flat_map}
use Rattle.grep_printer.proofs.HyperlinkLemmas.{AreFollowed}
use Rattle.grep_printer.proofs.PushLemmas.{HasPushed}
use Rattle.grep_printer.specs.Hyperlinks.{part_target}
use Rattle.grep_printer.proofs.hyperlinks.Hyperlink.push_parts.Given as goal

abbrev pub invariant-loop-part : goal.invariant-loop-part
invariant-loop-part l =
    HasPushed l.fn.text l.text (λ text. AreFollowed (part_target l.fn.self l.fn.line l.fn.column)
    (l.fn.text.text ++ flat_map (part_target l.fn.self l.fn.line l.fn.column) l.fn.parts) text l.rest)

abbrev pub decreases-loop-part : goal.decreases-loop-part
decreases-loop-part l = length l.rest
