use Rattle.std.specs.Prelude.{None, Some}
use Rattle.std.proofs.Common.{refl}
use Rattle.linegrep_cli.proofs.file_run.Run.visit_late.Goals as goal

pub returns-in-Ok : goal.returns-in-Ok
returns-in-Ok g c = record {
  begun = c.new-collector.result;
  collector = c.visit_in_turn-finding.new.engine;
  begins = c.new-collector.ensures;
  finding = c.visit_in_turn-finding.result;
  finds_all = rw (c.finding.ensures.system, c.finding.ensures.scope) at c.visit_in_turn-finding.ensures;
  failure = None;
  mid = c.say_texts.new.engine;
  said = rw (c.as_slice.ensures.value, c.into_parts-found.ensures.texts) at c.in-Ok.ensures;
  visited = rw c.into_parts-found.ensures.found at c.visit_found.ensures;
}

pub returns-in-Err : goal.returns-in-Err
returns-in-Err g c = record {
  begun = c.new-collector.result;
  collector = c.visit_in_turn-finding.new.engine;
  begins = c.new-collector.ensures;
  finding = c.visit_in_turn-finding.result;
  finds_all = rw (c.finding.ensures.system, c.finding.ensures.scope) at c.visit_in_turn-finding.ensures;
  failure = Some c.in-Err.error;
  mid = c.say_texts.new.engine;
  said = rw (c.as_slice.ensures.value, c.into_parts-found.ensures.texts) at c.in-Err.ensures;
  visited = (c.failed.ensures, refl);
}
