use Rattle.std.proofs.Common.{◌∙◌, ap, Err}
use Rattle.lgrep_cli.specs.ProgramRuns.{of_usage, of_memory, of_run}
use Rattle.lgrep_cli.proofs.program.run_arguments.Goals as goal

pub returns-in-Err-Usage : goal.returns-in-Err-Usage
returns-in-Err-Usage g c =
    let usage = c.parse.ensures.usage.0 (c.in-Err-Usage.is ∙ ap Err c.in-Err-Usage.field-0-is) in
    rw (c.in-Ok.is, c.stop-in-Err-Usage.ensures.status)
    (of_usage (rw c.deref.ensures.value at usage) c.stop-in-Err-Usage.ensures.message)

pub returns-in-Err-Memory : goal.returns-in-Err-Memory
returns-in-Err-Memory g c =
    let memory = c.parse.ensures.memory (c.in-Err-Memory.is ∙ ap Err c.in-Err-Memory.field-0-is) in
    rw (c.in-Ok.is, c.stop-in-Err-Memory.ensures.status)
    (of_memory (rw c.deref.ensures.value at memory) c.stop-in-Err-Memory.ensures.message)

pub returns : goal.returns
returns g c =
    let asked = c.in-Ok-parse.ensures.options in
    rw (c.in-Ok.is, c.from.ensures, c.status.ensures)
    (of_run c.in-Ok-parse.options c.run_options-outcome.result (rw c.deref.ensures.value at asked)
    c.run_options-outcome.ensures c.write_failure.ensures)
