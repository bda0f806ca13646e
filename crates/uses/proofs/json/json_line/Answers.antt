use Rattle.std.proofs.Common.{rules}
use Rattle.serde_json.proofs.OnLiterals.{serde_json_on_literals}
use Rattle.uses.proofs.json.json_line.Goals as goal

pub returns : goal.returns
unfolding serde_json_on_literals
returns c = search rules
