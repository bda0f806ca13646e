use Rattle.std.proofs.Common.{rules}
use Rattle.grep_searcher.proofs.sinks.BytesSink.matched.Goals as goal

pub returns-in_err-number_of-clause-step : goal.returns-in_err-number_of-clause-step
returns-in_err-number_of-clause-step g c = search rules

pub returns-in_err-number_of-clause-may_call : goal.returns-in_err-number_of-clause-may_call
returns-in_err-number_of-clause-may_call g c = search rules

pub returns-clause-step : goal.returns-clause-step
returns-clause-step g c = search rules
