use Rattle.std.proofs.Common.{[], inr, refl, rules}
use Rattle.linegrep_cli.specs.OperandRuns.{no_entry, no_visit}
use Rattle.linegrep_files.specs.Trees.{are_none}
use Rattle.linegrep_cli.proofs.file_run.Run.visit_begun.Goals as goal

pub returns-in-Ok-clause-visited : goal.returns-in-Ok-clause-visited
returns-in-Ok-clause-visited g c =
    c.visit_entries.ensures.visited c.args.choices.now (search (rules, c.in-Ok.is, c.begin.ensures))

pub returns-in-Ok-clause-choices : goal.returns-in-Ok-clause-choices
returns-in-Ok-clause-choices g c =
    c.visit_entries.ensures.choices c.args.choices.now (search (rules, c.in-Ok.is, c.begin.ensures))

pub returns-in-Err-clause-visited : goal.returns-in-Err-clause-visited
returns-in-Err-clause-visited g c = record {
  visited = [];
  total = no_visit;
  entries = no_entry;
  walked = inr (rw c.failed.ensures refl, are_none);
  visit_is = inr (c.from.result, search rules, c.failed.ensures);
}
