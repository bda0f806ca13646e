use Rattle.std.proofs.Common.{◌≡◌, ◌∙◌, ◌-◌, ◌+◌, length, drop, refl, ap, ap₂, arith, take}
use Rattle.std.proofs.Common.{take_all, length-drop}
use Rattle.grep_lines.specs.Blocks.{block_start, block_end}
use Rattle.grep_matcher.specs.Lines.{byte_of}
use Rattle.grep_definitions.specs.Plans.{Settings}
use Rattle.grep_walk.proofs.config.Config.block_from.Goals as goal

pub returns : goal.returns
returns c =
    let low = c.args.low in
    let found = c.args.found in
    let rest = drop low c.args.bytes.now in
    let shown = take (length c.args.bytes.now - low) rest in
    let t = byte_of c.args.self.now.line_terminator in
    let part = c.new-part.result in
    let size = length-drop low c.args.bytes.now in
    let whole : shown ≡ rest = take_all (length c.args.bytes.now - low) rest (omega arith) in
    let terminator : c.as_byte.result ≡ t = c.as_byte.ensures
    ∙ ap (λ (s : Settings). byte_of s.line_terminator) c.self.view_is in
    let part_is : part ≡ (found.0 - low, found.1 - low) = c.new-part.ensures
    ∙ ap₂ (λ x y. (x, y)) (c.saturating_sub.ensures ∙ ap (λ x. x - low) c.start.ensures.value)
    (ap (λ x. x - low) c.end.ensures.value) in
    let from_start : part.0 ≡ found.0 - low = ap (λ x. x.0) part_is in
    let from_end : part.1 ≡ found.1 - low = ap (λ x. x.1) part_is in
    let start : block_start c.as_byte.result shown part ≡ block_start t rest (
      found.0 - low,
      found.1 - low,
    ) =
    rw (terminator, whole, part_is) refl in
    let end : block_end c.as_byte.result shown part ≡ block_end t rest (
      found.0 - low,
      found.1 - low,
    ) =
    rw (terminator, whole, part_is) refl in
    let at = c.locate.ensures in
    let at_start : c.offset.result.0 ≡ c.locate.result.0 + low = ap (λ x. x.0) c.offset.ensures in
    let at_end : c.offset.result.1 ≡ c.locate.result.1 + low = ap (λ x. x.1) c.offset.ensures in
    let all : length shown ≡ length c.args.bytes.now - low = ap length whole ∙ size in
    record {
      begins = omega (arith, ap (λ x. x.0) at.value);
      ends = omega (arith, ap (λ x. x.1) at.value);
      after = omega arith;
      before = λ over. omega arith;
      past = omega arith;
      within = omega arith;
    }
