use Rattle.std.proofs.Common.{arith}
use Rattle.grep_decode.proofs.EncodeLemmas.{encode-two, encode-three, encode-four, put-two}
use Rattle.grep_decode.proofs.EncodeLemmas.{put-three, put-four}
use Rattle.grep_decode.proofs.utf16.put_scalar.Goals as goal

pub returns-then-code-lt2048-clause-bytes : goal.returns-then-code-lt2048-clause-bytes
returns-then-code-lt2048-clause-bytes c =
    rw (encode-two c.args.code (omega arith) (omega arith)) (put-two c.args.output.now c.args.at _ _
    (omega arith))

pub returns-then-code-lt65536-clause-bytes : goal.returns-then-code-lt65536-clause-bytes
returns-then-code-lt65536-clause-bytes c =
    rw (encode-three c.args.code (omega arith) (omega arith))
    (put-three c.args.output.now c.args.at _ _ _ (omega arith))

pub returns-clause-bytes : goal.returns-clause-bytes
returns-clause-bytes c = rw (encode-four c.args.code (omega arith))
    (put-four c.args.output.now c.args.at _ _ _ _ (omega arith))
