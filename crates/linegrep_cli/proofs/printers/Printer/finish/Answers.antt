use Rattle.linegrep_cli.specs.PrinterSearches.{of_failed_flush, of_flush, of_totals}
use Rattle.linegrep_cli.proofs.printers.Printer.finish.Goals as goal

pub returns-in-Err : goal.returns-in-Err
returns-in-Err g c = of_totals c.in-Err.ensures

pub returns-in-Ok-flush : goal.returns-in-Ok-flush
returns-in-Ok-flush g c = of_flush c.write_totals.new.writer c.write_totals.new.self c.in-Ok.ensures c.in-Ok-flush.ensures

pub returns-in-Err-flush : goal.returns-in-Err-flush
returns-in-Err-flush g c = of_failed_flush c.write_totals.new.writer c.write_totals.new.self c.in-Ok.ensures
    c.in-Err-flush.ensures
