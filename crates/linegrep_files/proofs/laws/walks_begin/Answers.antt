use Rattle.linegrep_files.proofs.TreeLemmas.{walks-begin}
use Rattle.linegrep_files.proofs.laws.walks_begin.Goals as goal

pub returns : goal.returns
returns g c system route folder begun walk new first choices inside visited entry alike is walked popped =
    walks-begin _ system route folder begun walk new first choices inside visited entry alike is walked
    popped
