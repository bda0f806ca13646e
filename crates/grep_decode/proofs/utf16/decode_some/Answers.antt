use Rattle.std.proofs.Common.{arith, drop, rules}
use Rattle.std.proofs.lemmas.List.{length-take-le}
use Rattle.grep_decode.specs.Decoded.{utf16_text}
use Rattle.grep_decode.proofs.PieceLemmas.{text-front}
use Rattle.grep_decode.proofs.utf16.decode_some.Goals as goal

pub returns-then-step-gt0 : goal.returns-then-step-gt0
returns-then-step-gt0 c =
    let made = c.put_block-step.ensures in
    let step = c.put_block-step.result in
    record {
      taken_within = omega (arith, made.taken);
      written_within = search rules;
      text = λ more when. text-front (utf16_text c.args.order) c.args.input.now
          c.put_block-step.new.output (drop 64 c.args.output.now) more 32 step.taken step.written
          (omega (arith, made.length, made.written))
          (omega (arith, made.taken, length-take-le 32 c.args.input.now (omega arith))) made.text;
      stops = λ none. absurd (omega (arith, none));
      unfinished = λ none. absurd (omega (arith, none));
      progress = made.progress;
    }
