use Rattle.std.proofs.Common.{rules}
use Rattle.grep_searcher.proofs.sink.boxes.BoxSink.binary_data.Goals as goal

pub returns-clause-step : goal.returns-clause-step
returns-clause-step g c = search rules

pub returns-clause-may_call : goal.returns-clause-may_call
returns-clause-may_call g c = search rules
