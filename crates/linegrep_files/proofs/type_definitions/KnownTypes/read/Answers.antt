use Rattle.std.proofs.Common.{◌∙◌, ap, sym}
use Rattle.std.proofs.lemmas.Result.{err_from_is_err_and}
use Rattle.linegrep_files.specs.TypeDefinitions.{all_changed}
use Rattle.linegrep_files.proofs.TypeDefinitionLemmas.{table-known}
use Rattle.linegrep_files.proofs.TypeFaultLemmas.{fault-weaker, never-changed}
use Rattle.linegrep_files.proofs.type_definitions.KnownTypes.read.Goals as goal

pub returns-clause-known : goal.returns-clause-known
returns-clause-known c = record {
  changes = c.in_ok-changes.changes.items;
  are = c.in_ok-changes.ensures;
  is = ap (λ known. all_changed known c.in_ok-changes.changes.items)
      (sym (table-known c.add_table.new.self (record { definitions = c.new.result; selections = c.new-2.result })
      c.table.result.now c.table.ensures c.new.ensures.items c.new-2.ensures.items
      c.in_ok-add_table.ensures.definitions c.add_table.ensures.selections))
      ∙ (rw c.as_slice.ensures.value at c.in_ok-apply_all.ensures.changed);
}

pub returns-in_err-apply_all-clause-malformed : goal.returns-in_err-apply_all-clause-malformed
returns-in_err-apply_all-clause-malformed c =
    let error = err_from_is_err_and c.from_residual-in_err-apply_all.result c.from_residual-in_err-apply_all.ensures.1 in
    rw (error.1, error.2) (fault-weaker _ (never-changed c.args.options.now c.in_ok-changes.changes.items _
    c.in_ok-changes.ensures (table-known c.add_table.new.self
    (record { definitions = c.new.result; selections = c.new-2.result }) c.table.result.now c.table.ensures
    c.new.ensures.items c.new-2.ensures.items c.in_ok-add_table.ensures.definitions c.add_table.ensures.selections))
    (rw c.as_slice.ensures.value at c.in_err-apply_all.ensures.malformed))
