use Rattle.linegrep_cli.proofs.config.unread_text.Goals as goal

pub returns : goal.returns
returns g c = (c.without_number-reason.result.now, c.in_ok-text.ensures.ok)
