use Rattle.std.proofs.Common.{rules}
use Rattle.linegrep_files.specs.Folders.{of_any, of_system, of_untold}
use Rattle.linegrep_files.proofs.finder.Finder.may_enter.Goals as goal

pub returns-then-not-is_one_system : goal.returns-then-not-is_one_system
returns-then-not-is_one_system g c = of_any (search rules)

pub returns-in-Ok : goal.returns-in-Ok
returns-in-Ok g c = search (rules, of_system)

pub returns-in-Err : goal.returns-in-Err
returns-in-Err g c = of_untold c.in-Err.field-0 (search rules)
    (rw (c.in-Err.is, c.as_str.ensures.value) at c.look.ensures)
