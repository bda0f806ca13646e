use Rattle.std.proofs.Common.{length, refl, subst, sym}
use Rattle.linegrep_files.specs.IgnoreFiles.{IsFileRead, of_contents, of_failed, of_lines, of_unread}
use Rattle.linegrep_files.proofs.ignores.Ignores.add_file.Goals as goal

pub returns-in_ok-add_rules-in-Ok-clause-file : goal.returns-in_ok-add_rules-in-Ok-clause-file
returns-in_ok-add_rules-in-Ok-clause-file g c = of_lines c.in-Ok.contents
    (rw c.in-Ok.is at c.read.ensures)
    (rw c.as_slice.ensures.value at c.in_ok-add_rules-in-Ok.ensures.rules)

pub returns-in_ok-warn_unread-in-Err-2-clause-file : goal.returns-in_ok-warn_unread-in-Err-2-clause-file
returns-in_ok-warn_unread-in-Err-2-clause-file g c =
    subst (IsFileRead (g.S.Folders.facts c.args.system.now).reads c.args.self.now.sources.ignores_case
    c.args.origin c.args.depth (length c.args.self.now.path.items) c.args.path.now
    c.args.self.now.layers) (sym c.warn_unread.ensures.layers)
    (of_unread c.in-Err.error (rw c.in-Err.is at c.read.ensures))

pub returns-in_ok-add_rules-in-Ok-clause-warned : goal.returns-in_ok-add_rules-in-Ok-clause-warned
returns-in_ok-add_rules-in-Ok-clause-warned g c =
    let (count, faults, is) = c.in_ok-add_rules-in-Ok.ensures.warned in
    (count, of_contents c.in-Ok.contents (rw c.in-Ok.is at c.read.ensures) (rw c.as_slice.ensures.value at faults), is)

pub returns-in_ok-warn_unread-in-Err-2-clause-warned : goal.returns-in_ok-warn_unread-in-Err-2-clause-warned
returns-in_ok-warn_unread-in-Err-2-clause-warned g c = (
  _,
  of_failed c.in-Err.error (rw c.in-Err.is at c.read.ensures) refl,
  rw c.in-Err.error-is at c.in_ok-warn_unread-in-Err-2.ensures.warned,
)
