use Rattle.linegrep_files.specs.Orders.{of_failure, of_time}
use Rattle.linegrep_files.proofs.order.Order.time.Goals as goal

pub returns-in-Ok : goal.returns-in-Ok
returns-in-Ok g c = of_time c.in-Ok.time (rw c.in-Ok.is at c.time.ensures)

pub returns-in-Err : goal.returns-in-Err
returns-in-Err g c = of_failure c.in-Err.field-0 (rw c.in-Err.is at c.time.ensures)
