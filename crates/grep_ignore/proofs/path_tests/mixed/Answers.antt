use Rattle.std.proofs.Common.{refl}
use Rattle.grep_ignore.specs.Endings.{mixed}
use Rattle.grep_ignore.proofs.path_tests.mixed.Goals as goal

pub returns : goal.returns
unfolding mixed
returns c = refl
