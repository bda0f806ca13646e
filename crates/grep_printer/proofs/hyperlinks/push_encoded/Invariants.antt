use Rattle.std.proofs.Common.{length, ◌++◌}
use Rattle.std.specs.List.{flat_map}
use Rattle.grep_printer.proofs.HyperlinkLemmas.{AreFollowed}
use Rattle.grep_printer.proofs.PushLemmas.{HasPushed}
use Rattle.grep_printer.specs.Hyperlinks.{uri_byte}
use Rattle.grep_printer.proofs.hyperlinks.push_encoded.Given as goal

abbrev pub invariant-loop-byte : goal.invariant-loop-byte
invariant-loop-byte l =
    HasPushed l.fn.text l.text (λ text. AreFollowed uri_byte
    (l.fn.text.text ++ flat_map uri_byte l.fn.bytes) text l.rest)

abbrev pub decreases-loop-byte : goal.decreases-loop-byte
decreases-loop-byte l = length l.rest
