use Rattle.std.proofs.Common.{length, arith}
use Rattle.grep_definitions.proofs.SuccessiveMatchLemmas.{matches_from-enough}
use Rattle.grep_definitions.proofs.laws.matches_are_all.Goals as goal

pub returns : goal.returns
returns c = λ meaning bytes n enough. matches_from-enough meaning bytes 0 n (length bytes)
    (omega arith) (omega arith)
