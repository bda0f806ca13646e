use Rattle.std.proofs.Common.{refl, rules}
use Rattle.linegrep_files.specs.Folders.{of_elsewhere, of_file, of_folder, of_large, of_link, of_other}
use Rattle.linegrep_files.proofs.finder.Finder.entry_of.Goals as goal

pub returns-then-allows_size-clause-at : goal.returns-then-allows_size-clause-at
returns-then-allows_size-clause-at g c =
    of_file c.args.found c.args.path c.requires c.in-File.is (search rules) refl

pub returns-in-File-clause-at : goal.returns-in-File-clause-at
returns-in-File-clause-at g c = of_large c.args.found c.requires c.in-File.is (search rules)

pub returns-then-may_enter-clause-at : goal.returns-then-may_enter-clause-at
returns-then-may_enter-clause-at g c =
    of_folder c.args.found c.folder.result c.requires c.in-Folder.is (search rules) c.folder.ensures

pub returns-in-Folder-clause-at : goal.returns-in-Folder-clause-at
returns-in-Folder-clause-at g c = of_elsewhere c.args.found c.requires c.in-Folder.is (search rules)

pub returns-in-Link-clause-at : goal.returns-in-Link-clause-at
returns-in-Link-clause-at g c = of_link c.args.found c.requires c.in-Link.is

pub returns-in-Other-clause-at : goal.returns-in-Other-clause-at
returns-in-Other-clause-at g c = of_other c.args.found c.requires c.in-Other.is
