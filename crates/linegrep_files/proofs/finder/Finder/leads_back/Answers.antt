use Rattle.std.proofs.Common.{rules}
use Rattle.linegrep_files.specs.Folders.{of_link, of_unfollowed, of_unlinked, of_unlooked}
use Rattle.linegrep_files.proofs.finder.Finder.leads_back.Goals as goal

pub returns-then-not-self : goal.returns-then-not-self
returns-then-not-self g c = of_unfollowed (search rules)

pub returns-in-Link : goal.returns-in-Link
returns-in-Link g c = of_link c.in-Ok.found (search rules) (rw c.in-Ok.is at c.look.ensures) c.in-Link.is
    c.goes_through.ensures

pub returns-in-File : goal.returns-in-File
returns-in-File g c =
    of_unlinked c.in-Ok.found (rw c.in-Ok.is at c.look.ensures) (search (rules, c.in-File.is))

pub returns-in-Folder : goal.returns-in-Folder
returns-in-Folder g c =
    of_unlinked c.in-Ok.found (rw c.in-Ok.is at c.look.ensures) (search (rules, c.in-Folder.is))

pub returns-in-Other : goal.returns-in-Other
returns-in-Other g c =
    of_unlinked c.in-Ok.found (rw c.in-Ok.is at c.look.ensures) (search (rules, c.in-Other.is))

pub returns-in-Err : goal.returns-in-Err
returns-in-Err g c = of_unlooked c.in-Err.field-0 (rw c.in-Err.is at c.look.ensures)
