use Rattle.std.proofs.Common.{ap}
use Rattle.grep_decode.proofs.PieceLemmas.{dropped}
use Rattle.grep_decode.proofs.undecoded.Undecoded.decode.Goals as goal

pub returns-clause-last : goal.returns-clause-last
returns-clause-last g c =
    dropped c.args.self.now.bytes c.skip.new.self.bytes _ (ap (λ u. u.bytes) c.skip.ensures)
