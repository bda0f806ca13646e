use Rattle.std.proofs.Common.{◌∙◌}
use Rattle.lgrep_cli.proofs.RunLemmas.{path-run}
use Rattle.lgrep_cli.proofs.search.run_options.Goals as goal

pub returns-in-Some : goal.returns-in-Some
returns-in-Some g c =
    path-run (g.F.Open.opens c.args.rt.now) _ _ g.R.Source.remaining g.R.Source.step g.W.Output.step
    g.W.Output.contents c.args.options.now.path c.in-Some.path _ c.args.options.now c.args.input.now c.args.writer.now
    c.run_path.new.writer c.run_path.result c.in-Some.is (c.new.ensures ∙ c.as_str.ensures.value) c.run_path.ensures
