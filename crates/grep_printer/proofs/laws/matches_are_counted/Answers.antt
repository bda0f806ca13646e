use Rattle.grep_printer.proofs.PlanCountLemmas.{json-counts, summaries-count}
use Rattle.grep_printer.proofs.laws.matches_are_counted.Goals as goal

pub returns-clause-json : goal.returns-clause-json
returns-clause-json g c = json-counts g.R.Replacer.text_at

pub returns-clause-summary : goal.returns-clause-summary
returns-clause-summary g c = summaries-count
