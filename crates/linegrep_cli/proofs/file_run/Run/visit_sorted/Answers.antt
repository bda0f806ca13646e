use Rattle.std.proofs.Common.{rules}
use Rattle.linegrep_cli.specs.OperandRuns.{of_memory, of_sorted}
use Rattle.linegrep_cli.proofs.file_run.Run.visit_sorted.Goals as goal

pub returns-in-Ok : goal.returns-in-Ok
returns-in-Ok g c =
    let (ranked, are_ranked, in_order) = c.in-Ok.ensures in
    of_sorted ranked c.in-Ok.sorted.items are_ranked in_order
    (rw c.as_slice.ensures.value at c.visit_all_waiting.ensures)

pub returns-in-Err : goal.returns-in-Err
returns-in-Err g c = rw c.failed.ensures (of_memory c.from.result (search rules))
