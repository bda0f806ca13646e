use Rattle.linegrep_options.specs.ParsedWords.{refusal}
use Rattle.linegrep_cli.specs.ConfigFiles.{of_refused_words}
use Rattle.linegrep_cli.specs.ProgramRuns.{of_fault, without_memory}
use Rattle.linegrep_cli.proofs.program.run_arguments.Goals as goal

pub returns-in-Err-Words : goal.returns-in-Err-Words
returns-in-Err-Words g c =
    let refused = rw c.in-Err-Words.field-0-is at c.in-Err-Words.ensures.refused in
    of_fault c.args.arguments.now c.args.errors.now (refusal c.in-Err-Words.fault) c.fault_failure-failure.result
    (of_refused_words (refusal c.in-Err-Words.fault) refused) refused
    c.refused.ensures

pub returns-in-Err-Memory : goal.returns-in-Err-Memory
returns-in-Err-Memory g c = without_memory c.without_memory.ensures
