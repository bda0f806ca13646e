use Rattle.std.proofs.Common.{◌++◌, length-append, ◌≡◌, length, refl, arith}
use Rattle.grep_decode.proofs.AsciiBlockLemmas.{picked-evens, picked-odds}
use Rattle.grep_decode.proofs.ascii.halves.Goals as goal

pub returns-clause-firsts : goal.returns-clause-firsts
returns-clause-firsts c =
    let all : length (c.args.front ++ c.args.back) ≡ 32 =
    omega (arith, length-append c.args.front c.args.back, c.fits-front.0, c.fits-back.0) in
    picked-evens 16 0 (c.args.front ++ c.args.back) (c.args.front ++ c.args.back) refl all

pub returns-clause-seconds : goal.returns-clause-seconds
returns-clause-seconds c =
    let all : length (c.args.front ++ c.args.back) ≡ 32 =
    omega (arith, length-append c.args.front c.args.back, c.fits-front.0, c.fits-back.0) in
    picked-odds 16 0 (c.args.front ++ c.args.back) (c.args.front ++ c.args.back) refl all
