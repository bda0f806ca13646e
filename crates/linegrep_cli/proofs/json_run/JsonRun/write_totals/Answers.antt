use Rattle.grep_printer.specs.StatsSums.{nanos_of}
use Rattle.linegrep_cli.proofs.json_run.JsonRun.write_totals.Goals as goal

pub returns-clause-totals : goal.returns-clause-totals
returns-clause-totals g c = (nanos_of c.elapsed.result, c.write_summary.ensures)
