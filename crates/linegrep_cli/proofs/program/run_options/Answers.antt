use Rattle.std.proofs.Common.{◌∙◌, Some, ap, string_bytes, sym}
use Rattle.std.specs.Global.{Global}
use Rattle.std.specs.Option.{option_map}
use Rattle.std.specs.Prelude.{String}
use Rattle.linegrep_cli.specs.ProgramRuns.{of_text, without_memory}
use Rattle.linegrep_cli.proofs.program.run_options.Goals as goal

pub returns-in-Some : goal.returns-in-Some
returns-in-Some g c = of_text c.as_str.result.now
    (sym c.in-Ok.ensures ∙ ap (option_map (λ (text : String Global). string_bytes text)) c.in-Some.is
    ∙ ap Some (sym c.as_str.ensures.value))
    c.write_answer.ensures

pub returns-in_default : goal.returns-in_default
returns-in_default g c = without_memory c.without_memory.ensures
