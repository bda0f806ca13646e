use Rattle.std.proofs.Common.{◌≡◌, ◌+◌, ◌-◌, ◌≤◌, length, take, drop, ap, arith, length-drop}
use Rattle.std.proofs.lemmas.List.{take_rest}
use Rattle.grep_decode.proofs.LossyLemmas.{text-copied, text-replaced}
use Rattle.grep_decode.proofs.utf8.decode_utf8.Goals as goal

pub loop-written-preserved : goal.loop-written-preserved
loop-written-preserved c =
    let input = c.args.input.now in
    let taken = c.loop-written.taken in
    let written = c.loop-written.written in
    let front = c.scan_within-front.result in
    let rest : length (take (length input - taken) (drop taken input))
    ≡ length (drop taken input) = ap length (take_rest input taken) in
    let within : taken + front.well_formed + front.ill_formed ≤ length input =
    omega (arith, rest, length-drop taken input) in record {
      taken = within;
      written = omega arith;
      text = λ more when. text-replaced _ input more _ _ taken front.well_formed front.ill_formed
          (c.scan_within-front.ensures.ill_formed (omega arith) more when)
          (text-copied _ input more _ c.put.new.output taken written front.well_formed
          (omega arith) c.scan_within-front.ensures.well_formed
          (c.loop-written.invariant.text more when) c.put.ensures.bytes)
          c.put-in-loop-written.ensures.bytes;
      progress = λ none. absurd (omega arith);
    }

pub returns-then-front-eq0-clause-text : goal.returns-then-front-eq0-clause-text
returns-then-front-eq0-clause-text c = λ more when.
    let input = c.args.input.now in
    let taken = c.loop-written.taken in
    let front = c.scan_within-front.result in
    let rest : length (take (length input - taken) (drop taken input))
    ≡ length (drop taken input) = ap length (take_rest input taken) in
    text-copied _ input more _ c.put.new.output taken c.loop-written.written front.well_formed
    (omega (arith, rest, length-drop taken input)) c.scan_within-front.ensures.well_formed
    (c.loop-written.invariant.text more when) c.put.ensures.bytes
