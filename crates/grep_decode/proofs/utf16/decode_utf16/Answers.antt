use Rattle.std.proofs.Common.{◌≡◌, ◌<◌, ◌-◌, ◌++◌, ℕ, List, length, subst, take, drop, length-drop}
use Rattle.std.proofs.Common.{arith}
use Rattle.std.proofs.lemmas.List.{places, take_all}
use Rattle.grep_decode.specs.Decoded.{utf16_text}
use Rattle.grep_decode.proofs.PieceLemmas.{text-more}
use Rattle.grep_decode.proofs.utf16.decode_utf16.Goals as goal

pub loop-written-preserved : goal.loop-written-preserved
loop-written-preserved c =
    let l = c.loop-written in
    let next = c.decode_some-step.result.taken in
    let count = c.decode_some-step.result.written in
    let made = c.decode_some-step.ensures in
    let some : 0 < count = omega (arith, c.if-step-eq0.false) in
    let tail = drop l.taken c.args.input.now in
    let whole : take (length c.args.input.now - l.taken) tail ≡ tail =
    take_all (length c.args.input.now - l.taken) tail
    (omega (arith, length-drop l.taken c.args.input.now)) in
    let Written : List ℕ → List ℕ → Type 0 = λ more bytes. utf16_text c.args.order (bytes ++ more)
    ≡ take count c.decode_some-step.new.output ++ utf16_text c.args.order (drop next bytes
    ++ more) in
    record {
      taken = omega (
        arith,
        made.taken_within,
        l.invariant.taken,
        length-drop l.taken c.args.input.now,
      );
      written = grind (arith, places);
      progress = λ none. absurd (omega (arith, none, some));
      text = λ more when. text-more (utf16_text c.args.order) c.args.input.now l.output
          c.decode_some-step.new.output more l.taken l.written
          next count (length l.output - l.written) l.invariant.written made.written_within
          (l.invariant.text more when) (subst (Written more) whole (made.text more when));
    }
