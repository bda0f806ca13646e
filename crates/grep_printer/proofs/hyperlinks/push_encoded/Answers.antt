use Rattle.std.proofs.Common.{refl, ◌++◌}
use Rattle.std.specs.List.{flat_map}
use Rattle.grep_printer.proofs.HyperlinkLemmas.{AreFollowed, followed-more}
use Rattle.grep_printer.proofs.PushLemmas.{pushed-more, pushed-none}
use Rattle.grep_printer.specs.Hyperlinks.{uri_byte}
use Rattle.grep_printer.proofs.hyperlinks.push_encoded.Goals as goal

pub loop-byte-init : goal.loop-byte-init
loop-byte-init c = pushed-none c.args.text.now _ (record { pushed = refl })

pub loop-byte-preserved : goal.loop-byte-preserved
loop-byte-preserved c =
    let whole = c.args.text.now.text ++ flat_map uri_byte c.args.bytes.now in
    let pushed = c.loop-byte.invariant in
    let byte = c.in-Some.byte.now in
    pushed-more c.args.text.now c.loop-byte.text c.push_uri_byte.new.text
    (λ text. AreFollowed uri_byte whole text c.loop-byte.rest.now)
    (λ text. AreFollowed uri_byte whole text c.in-Some.later.now) (uri_byte byte) pushed
    c.push_uri_byte.ensures
    (followed-more uri_byte whole pushed.bytes c.loop-byte.rest.now byte c.in-Some.later.now pushed.is
    c.in-Some.ensures.cases.0)
