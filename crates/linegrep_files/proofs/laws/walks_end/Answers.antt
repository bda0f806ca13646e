use Rattle.linegrep_files.proofs.TreeLemmas.{walks-end}
use Rattle.linegrep_files.proofs.laws.walks_end.Goals as goal

pub returns : goal.returns
returns g c system route folder begun walk end first choices inside visited alike is walked popped memory =
    walks-end _ system route folder begun walk end first choices inside visited alike is walked popped
    memory
