use Rattle.grep_printer.specs.StatsSums.{nanos_of}
use Rattle.linegrep_cli.proofs.json_run.write_end.Goals as goal

pub returns-in-Ok-clause-end : goal.returns-in-Ok-clause-end
returns-in-Ok-clause-end g c = (nanos_of c.elapsed.result, rw c.in-Ok.is c.write_end.ensures.end)
