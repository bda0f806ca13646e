use Rattle.std.proofs.Common.{◌∙◌, sym}
use Rattle.linegrep_cli.specs.ConfigFiles.{of_command_line, of_no_file, of_unreadable}
use Rattle.linegrep_cli.specs.ProgramRuns.{of_parsed, without_memory}
use Rattle.linegrep_cli.proofs.program.run_command.Goals as goal

pub returns-then-skips_config : goal.returns-then-skips_config
returns-then-skips_config g c = of_parsed c.args.arguments.now c.args.errors.now c.args.parsed.now
    (of_command_line c.args.parsed.now c.requires
    (rw c.deref.ensures.value at (sym c.skips_config.ensures ∙ c.if-skips_config.true)))
    c.requires c.run_parsed.ensures

pub returns-in-Ok-Absent : goal.returns-in-Ok-Absent
returns-in-Ok-Absent g c = of_parsed c.args.arguments.now c.args.errors.now c.args.parsed.now
    (of_no_file (
      c.args.parsed.now,
      c.requires,
      rw c.deref.ensures.value at (sym c.skips_config.ensures ∙ c.if-skips_config.false),
    ) (rw c.in-Ok-Absent.field-0-is at c.in-Ok-Absent.ensures))
    c.requires c.run_parsed-in-Ok-Absent.ensures

pub returns-in-Ok-Unreadable : goal.returns-in-Ok-Unreadable
returns-in-Ok-Unreadable g c = of_parsed c.args.arguments.now _ c.args.parsed.now
    (of_unreadable c.args.parsed.now c.in-Ok-Unreadable.text c.requires
    (rw c.deref.ensures.value at (sym c.skips_config.ensures ∙ c.if-skips_config.false))
    (rw c.in-Ok-Unreadable.field-0-is at c.in-Ok-Unreadable.ensures)
    (rw (c.deref-in-Ok-Unreadable.ensures.value, c.as_str.ensures.value) at c.warn.ensures))
    c.requires c.run_parsed-in-Ok-Unreadable.ensures

pub returns-in-Err : goal.returns-in-Err
returns-in-Err g c = without_memory c.without_memory.ensures

pub run_with_file-requires-clause-command : goal.run_with_file-requires-clause-command
run_with_file-requires-clause-command g c = (
  c.args.parsed.now,
  c.requires,
  rw c.deref.ensures.value at (sym c.skips_config.ensures ∙ c.if-skips_config.false),
)
