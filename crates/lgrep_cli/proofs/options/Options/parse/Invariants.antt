use Rattle.lgrep_cli.proofs.CommandLemmas.{IsRead}
use Rattle.lgrep_cli.proofs.options.Options.parse.Given as goal

abbrev pub invariant-loop-argument : goal.invariant-loop-argument
invariant-loop-argument l = IsRead l.arguments l.later.rest.now l.options
