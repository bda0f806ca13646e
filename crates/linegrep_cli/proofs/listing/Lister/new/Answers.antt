use Rattle.linegrep_cli.proofs.listing.Lister.new.Goals as goal

pub returns-clause-printer : goal.returns-clause-printer
returns-clause-printer g c = (c.as_ref.result, c.as_ref.ensures.value, c.path_printer.ensures)
