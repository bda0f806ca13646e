use Rattle.grep_searcher.proofs.KeptReportLemmas.{runs-keep, runs-keep_until}
use Rattle.grep_searcher.proofs.laws.runs_keep_reports.Goals as goal

pub returns-clause-all : goal.returns-clause-all
returns-clause-all g c = runs-keep _

pub returns-clause-failed : goal.returns-clause-failed
returns-clause-failed g c = runs-keep_until _
