use Rattle.std.proofs.Common.{refl}
use Rattle.std.specs.Prelude.{Some}
use Rattle.linegrep_files.proofs.NoteLemmas.{note-added}
use Rattle.linegrep_files.proofs.choices.Choices.note.Goals as goal

pub returns-in_ok-push-in-Some-clause-noted : goal.returns-in_ok-push-in-Some-clause-noted
returns-in_ok-push-in-Some-clause-noted c = note-added c.args.self.now
    (record c.args.self.now { notes = Some c.push.new.self }) _ _ c.in-Some.notes c.push.new.self
    _ c.in-Some.is refl c.in_ok-push-in-Some.ensures.items
    (record { path_is = refl; reason_is = refl; file_is = c.in_ok-file.ensures })
