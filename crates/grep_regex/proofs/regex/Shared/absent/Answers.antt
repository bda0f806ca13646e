use Rattle.std.proofs.Math.Logic.{∥∥₁_elim}
use Rattle.std.specs.Coded.{coded_bool}
use base.Stored.{Coded-set}
use Rattle.grep_regex.proofs.regex.Shared.absent.Goals as goal

pub returns : goal.returns
returns c = λ byte. ∥∥₁_elim c.args.self.now.lacks (Coded-set coded_bool _ _)
    (λ said. rw c.as_ref.ensures.value (said byte))
