use Rattle.std.proofs.Common.{◌≡◌, ◌∙◌, ap, string_bytes, sym}
use Rattle.linegrep_cli.specs.OperandRuns.{of_listed, of_path, of_unread, of_entered}
use Rattle.linegrep_cli.proofs.ToldLemmas.{file-isnt-folder, same-folder, unread-isnt-folder}
use Rattle.linegrep_files.proofs.AlikeLemmas.{entered-same}
use Rattle.linegrep_cli.proofs.file_run.Run.visit_entry.Goals as goal

pub returns-in-File-clause-visited : goal.returns-in-File-clause-visited
returns-in-File-clause-visited g c = rw c.in-File.is
    (of_listed {text = c.in-File.path} _ c.as_str.ensures.value c.if-self.true c.list.ensures)

pub returns-in-File-2-clause-visited : goal.returns-in-File-2-clause-visited
returns-in-File-2-clause-visited g c = rw c.in-File-2.is
    (of_path {text = c.in-File-2.path} _ c.as_str-in-File-2.ensures.value c.if-self.false c.visit_path.ensures)

pub returns-in-Folder-clause-visited : goal.returns-in-Folder-clause-visited
returns-in-Folder-clause-visited g c = rw c.in-Folder.is
    (of_entered {text = c.in-Folder.path} c.enter.new.choices c.tell.ensures.told)

pub returns-in-Folder-clause-explained : goal.returns-in-Folder-clause-explained
returns-in-Folder-clause-explained g c text is memory =
    let same : string_bytes c.in-Folder.path ≡ string_bytes text =
    ap string_bytes (same-folder c.in-Folder.path text (sym c.in-Folder.is ∙ is)) in
    record {
      inside = c.enter.new.choices;
      noted = rw (c.as_str-in-Folder.ensures.value, same) at (c.enter.ensures.noted memory);
      told = c.tell.ensures.told;
    }

pub returns-in-File-clause-explained : goal.returns-in-File-clause-explained
returns-in-File-clause-explained g c text is memory =
    absurd (file-isnt-folder c.in-File.path text (sym c.in-File.is ∙ is))

pub returns-in-File-2-clause-explained : goal.returns-in-File-2-clause-explained
returns-in-File-2-clause-explained g c text is memory =
    absurd (file-isnt-folder c.in-File-2.path text (sym c.in-File-2.is ∙ is))

pub returns-in-Unread-clause-explained : goal.returns-in-Unread-clause-explained
returns-in-Unread-clause-explained g c text is memory =
    absurd (unread-isnt-folder _ _ text (sym c.in-Unread.is ∙ is))

pub returns-in-Folder-clause-passed : goal.returns-in-Folder-clause-passed
returns-in-Folder-clause-passed g c = rw c.in-Folder.is (
  λ memory. entered-same _ _ _ _ _ _ _
      (rw c.as_str-in-Folder.ensures.value at (c.enter.ensures.entered memory)) c.tell.ensures.same,
  c.enter.ensures.on,
)

pub returns-in-Unread-clause-visited : goal.returns-in-Unread-clause-visited
returns-in-Unread-clause-visited g c = rw c.in-Unread.is (of_unread c.report.ensures)
