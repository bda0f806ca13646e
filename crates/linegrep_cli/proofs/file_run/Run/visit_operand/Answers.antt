use Rattle.std.proofs.Common.{◌∙◌, sym}
use Rattle.linegrep_cli.proofs.OperandLemmas.{named-visited}
use Rattle.linegrep_cli.proofs.file_run.Run.visit_operand.Goals as goal

pub returns-clause-visited : goal.returns-clause-visited
returns-clause-visited g c = named-visited _ _ _ _ _ _ _ _ c.args.path _ _ _
    (sym c.is_input.ensures ∙ c.if-is_input.false) (sym c.is_escaped.ensures ∙ c.if-is_escaped.false)
    c.visit_named.ensures.visited
