use Rattle.std.proofs.Common.{◌∙◌, [], sym}
use Rattle.linegrep_files.specs.ParentFiles.{of_none}
use Rattle.linegrep_files.proofs.ParentLemmas.{place-of, taken-up}
use Rattle.linegrep_files.proofs.ignores.Ignores.begin.Goals as goal

pub returns-in_ok-begin_at-in-Ok-clause-begun : goal.returns-in_ok-begin_at-in-Ok-clause-begun
returns-in_ok-begin_at-in-Ok-clause-begun g c =
    let begun = c.in_ok-begin_at-in-Ok.ensures in
    taken-up _ _ _ _ (sym c.is_idle.ensures ∙ c.if-is_idle.false)
    (record { sources = begun.same.sources; named = begun.same.named })
    (record {
      place = c.without_slashes.result.now;
      is_place = place-of _ _ c.in-Ok.path c.as_str.result.now _
          (rw (c.in-Ok.is, c.name_of.ensures) at c.resolve.ensures) c.as_str.ensures.value
          c.without_slashes.ensures;
      root = begun.root;
      start = begun.start;
      path = begun.path;
      parents = rw c.leave.ensures at begun.parents;
    })

pub returns-in_ok-begin_at-in-Err-2-clause-begun : goal.returns-in_ok-begin_at-in-Err-2-clause-begun
returns-in_ok-begin_at-in-Err-2-clause-begun g c =
    let begun = c.in_ok-begin_at-in-Err-2.ensures in
    taken-up _ _ _ _ (sym c.is_idle.ensures ∙ c.if-is_idle.false)
    (record { sources = begun.same.sources; named = begun.same.named })
    (record {
      place = [];
      is_place = of_none c.in-Err-2.field-0 (rw (c.in-Err-2.is, c.name_of.ensures) at c.resolve.ensures);
      root = begun.root;
      start = begun.start;
      path = begun.path;
      parents = rw c.leave.ensures at begun.parents;
    })
