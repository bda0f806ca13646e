use Rattle.grep_printer.proofs.WalkLemmas.{calls-print, run-fails, run-prints}
use Rattle.grep_printer.proofs.laws.runs_print.Goals as goal

pub returns-clause-made : goal.returns-clause-made
returns-clause-made g c settings old calls new =
    calls-print g.F.Format.rules g.M.Error.Display.output g.M.Matcher.facts g.M.FindAt.first_at g.W.Output.step settings
    old calls new

pub returns-clause-ok : goal.returns-clause-ok
returns-clause-ok g c settings old plan new =
    run-prints g.F.Format.rules g.M.Error.Display.output g.M.Matcher.facts g.M.FindAt.first_at g.W.Output.step settings
    old plan new

pub returns-clause-error : goal.returns-clause-error
returns-clause-error g c settings old plan e new =
    run-fails g.F.Format.rules g.M.Error.Display.output g.M.Matcher.facts g.M.FindAt.first_at g.W.Output.step settings
    old plan e new
