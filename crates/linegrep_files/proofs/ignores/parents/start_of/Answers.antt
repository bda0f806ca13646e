use Rattle.std.proofs.Common.{◌≡◌, ◌∙◌, ℕ, ◌+◌, Bool, true, false, [], List, ap, refl}
use Rattle.std.specs.Prelude.{if◌then◌else◌}
use Rattle.linegrep_files.specs.ParentFiles.{is_within, of_none, start_in}
use Rattle.linegrep_files.proofs.ParentLemmas.{place-of}
use Rattle.linegrep_files.proofs.ignores.parents.start_of.Goals as goal

-- without another folder the first name is what counts
start-alone : (folder : List ℕ) → 1 ≡ start_in [] folder
start-alone folder = by (is_within [] folder)
  where
    by : (is : Bool) → 1 ≡ (if is then 0 + 1 else 1)
    by true = refl
    by false = refl

pub returns-in-Ok : goal.returns-in-Ok
returns-in-Ok g c = (
  c.without_slashes.result.now,
  place-of _ _ c.in-Ok.here c.as_str.result.now _ (rw c.in-Ok.is at c.resolve.ensures) c.as_str.ensures.value
      c.without_slashes.ensures,
  c.start_in.ensures ∙ ap (λ other. start_in other c.args.folder.now) c.as_bytes.ensures.value,
)

pub returns-in-Err-2 : goal.returns-in-Err-2
returns-in-Err-2 g c = (
  [],
  of_none c.in-Err-2.field-0 (rw c.in-Err-2.is at c.resolve.ensures),
  start-alone c.args.folder.now,
)
