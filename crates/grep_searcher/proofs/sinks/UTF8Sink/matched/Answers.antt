use Rattle.std.proofs.Common.{inl, refl, rules}
use Rattle.grep_searcher.proofs.sinks.UTF8Sink.matched.Goals as goal

pub returns-in_err-number_of-in-Ok-clause-step : goal.returns-in_err-number_of-in-Ok-clause-step
returns-in_err-number_of-in-Ok-clause-step g c = search rules

pub returns-in_err-number_of-in-Ok-clause-may_call :
    goal.returns-in_err-number_of-in-Ok-clause-may_call
returns-in_err-number_of-in-Ok-clause-may_call g c = search rules

pub returns-in_ok-number_of-in-Ok-clause-step : goal.returns-in_ok-number_of-in-Ok-clause-step
returns-in_ok-number_of-in-Ok-clause-step g c = search rules

pub returns-in-Err-clause-step : goal.returns-in-Err-clause-step
returns-in-Err-clause-step g c =
    inl (c.error_message.result, (search rules, c.error_message.ensures), refl, search rules)

pub returns-in-Err-clause-may_call : goal.returns-in-Err-clause-may_call
returns-in-Err-clause-may_call g c = search rules
