use Rattle.std.proofs.Common.{◌∙◌, List, ap, map, string_bytes, subst, sym}
use Rattle.std.specs.Global.{Global}
use Rattle.std.specs.Prelude.{String}
use Rattle.linegrep_options.specs.declared.uses.Use.{Use}
use Rattle.linegrep_cli.specs.OperandTexts.{operand_texts}
use Rattle.linegrep_cli.specs.OptionValues.{AreLists}
use Rattle.linegrep_cli.specs.ProgramRuns.{of_options, without_memory}
use Rattle.linegrep_cli.proofs.program.run_parsed.Goals as goal

pub returns-in_default : goal.returns-in_default
returns-in_default g c = without_memory c.without_memory.ensures

pub returns-in_default-texts_of : goal.returns-in_default-texts_of
returns-in_default-texts_of g c = without_memory c.without_memory-in_default-texts_of.ensures

pub returns-in_default-read : goal.returns-in_default-read
returns-in_default-read g c = without_memory c.without_memory-in_default-read.ensures

pub returns : goal.returns
returns g c =
    let operands = c.in-Ok-texts_of.operands.items in
    of_options c.new-options.result c.deref-4.result operands c.in-Ok-read.lists c.deref-4.ensures.value
    (c.in-Ok-texts_of.ensures ∙ ap (map (λ (text : String Global). string_bytes text)) c.deref-2.ensures.value
    ∙ c.in-Ok.ensures ∙ ap operand_texts c.deref.ensures.value)
    (subst (λ (uses : List Use). AreLists uses operands c.in-Ok-read.lists)
    (c.deref-3.ensures.value ∙ sym c.deref-4.ensures.value) c.in-Ok-read.ensures)
    c.new-options.ensures c.run_options.ensures
