use Rattle.std.proofs.Math.Logic.{∥∥₁_elim}
use Rattle.std.specs.Coded.{coded_bool}
use base.Stored.{Coded-set}
use Rattle.grep_regex.proofs.regex.Shared.is_by_line.Goals as goal

pub returns : goal.returns
returns c = record {
  local = λ yes. ∥∥₁_elim c.args.self.now.confirms (Coded-set coded_bool _ _) (λ said. said yes);
  strips = λ yes none. ∥∥₁_elim c.args.self.now.strips (Coded-set coded_bool _ _) (λ said. said yes none);
}
