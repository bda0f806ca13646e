use Rattle.linegrep_cli.specs.ConfigFiles.{of_other_name, of_unset}
use Rattle.linegrep_cli.proofs.config.read_config.Goals as goal

pub returns-in-Ok-None : goal.returns-in-Ok-None
returns-in-Ok-None g c = of_unset (rw (c.in-Ok-None.is, c.in-Ok-None.field-0-is) at c.variable.ensures)

pub returns-in_ok-text-in-Err-2 : goal.returns-in_ok-text-in-Err-2
returns-in_ok-text-in-Err-2 g c = of_other_name c.in_ok-text-in-Err-2.text c.in-Err.error
    (rw c.in-Err.is at c.variable.ensures)
    (rw c.if-is_out_of_memory.false at c.is_out_of_memory.ensures) c.in_ok-text-in-Err-2.ensures
