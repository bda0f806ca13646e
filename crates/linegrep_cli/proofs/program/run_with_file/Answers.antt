use Rattle.std.proofs.Common.{◌∙◌, ◌++◌, ap}
use Rattle.linegrep_options.specs.ParsedWords.{refusal, texts}
use Rattle.linegrep_cli.specs.ConfigFiles.{of_file}
use Rattle.linegrep_cli.specs.ConfigWords.{config_words}
use Rattle.linegrep_cli.specs.ProgramRuns.{of_fault, of_parsed, without_memory}
use Rattle.linegrep_cli.proofs.program.run_with_file.Goals as goal

pub returns-in_default : goal.returns-in_default
returns-in_default g c = without_memory c.without_memory.ensures

pub returns-in-Ok-parse : goal.returns-in-Ok-parse
returns-in-Ok-parse g c = of_parsed c.deref-2.result.now c.args.errors.now c.in-Ok-parse.parsed
    (of_file c.args.file.now c.requires.command c.requires.file
    (ap texts c.deref-2.ensures.value ∙ c.in-Ok.ensures
    ∙ ap (λ contents. config_words contents ++ texts c.args.arguments.now) c.deref.ensures.value))
    c.in-Ok-parse.ensures.parsed c.run_parsed.ensures

pub returns-in-Err-Words : goal.returns-in-Err-Words
returns-in-Err-Words g c =
    of_fault c.deref-2.result.now c.args.errors.now (refusal c.in-Err-Words.fault) c.failure.result
    (of_file c.args.file.now c.requires.command c.requires.file
    (ap texts c.deref-2.ensures.value ∙ c.in-Ok.ensures
    ∙ ap (λ contents. config_words contents ++ texts c.args.arguments.now) c.deref.ensures.value))
    (rw c.in-Err-Words.field-0-is at c.in-Err-Words.ensures.refused)
    c.refused.ensures

pub returns : goal.returns
returns g c = without_memory c.without_memory-in-Err-Memory.ensures
