use Rattle.std.proofs.Common.{◌≡◌, ap, subst, sym}
use Rattle.std.proofs.lemmas.Bool.{false≢true}
use Rattle.std.proofs.lemmas.Str.{IsUtf8-string_bytes}
use Rattle.std.specs.Prelude.{Some, string_bytes}
use Rattle.std.specs.Str.{IsUtf8}
use Rattle.linegrep_files.specs.GitFiles.{IsTextRead, of_other, of_text, of_unread}
use Rattle.linegrep_files.proofs.git_files.read_text.Goals as goal

pub returns-in-Ok-from_utf8 : goal.returns-in-Ok-from_utf8
returns-in-Ok-from_utf8 g c =
    let is : string_bytes c.in-Ok-from_utf8.text ≡ c.in-Ok.contents.items =
    ap (λ v. v.items) c.in-Ok-from_utf8.ensures.ok in
    subst (λ b. IsTextRead (g.S.Folders.facts c.args.system.now).reads c.args.path.now (Some b)) (sym is)
    (of_text c.in-Ok.contents (rw c.in-Ok.is at c.read.ensures)
    (subst IsUtf8 is (IsUtf8-string_bytes c.in-Ok-from_utf8.text)))

pub returns-in-Ok : goal.returns-in-Ok
returns-in-Ok g c = of_other c.in-Ok.contents (rw c.in-Ok.is at c.read.ensures)
    (λ utf8. false≢true (c.in-Err-from_utf8.ensures.succeeds utf8))

pub returns : goal.returns
returns g c = of_unread c.in-Err-2.field-0 (rw c.in-Err-2.is at c.read.ensures)
