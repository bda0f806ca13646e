use Rattle.std.proofs.Common.{inl, inr, refl}
use Rattle.grep_report.proofs.sink_error.SearchErrorSinkError.error_message.Goals as goal

pub returns-in-Ok : goal.returns-in-Ok
returns-in-Ok g c = inl (c.in-Ok.text, refl, c.in-Ok.ensures.ok)

pub returns : goal.returns
returns g c = inr c.from.ensures
