use Rattle.linegrep_files.proofs.TypeListLemmas.{listed}
use Rattle.linegrep_files.proofs.type_definitions.KnownTypes.list.Goals as goal

pub returns : goal.returns
returns c = listed c.list_text.result c.args.self.now.definitions.items _ c.sort.ensures.same c.sort.ensures.sorted
    (rw c.as_slice.ensures.value at c.list_text.ensures)
