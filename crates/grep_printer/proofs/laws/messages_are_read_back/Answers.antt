use Rattle.grep_printer.proofs.ReadBackLemmas.{messages-read-back}
use Rattle.grep_printer.proofs.ReportToldLemmas.{begins-tell, messages-tell}
use Rattle.grep_printer.proofs.laws.messages_are_read_back.Goals as goal

pub returns-clause-read : goal.returns-clause-read
returns-clause-read c = messages-read-back

pub returns-clause-tell : goal.returns-clause-tell
returns-clause-tell c = messages-tell

pub returns-clause-begin : goal.returns-clause-begin
returns-clause-begin c = begins-tell
