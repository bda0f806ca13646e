use Rattle.grep_printer.proofs.CallPartLemmas.{parts-have-words}
use Rattle.grep_printer.proofs.PlanWordLemmas.{plans-have-words}
use Rattle.grep_printer.proofs.SearchMessageLemmas.{searches-read, searches-tell}
use Rattle.grep_printer.proofs.laws.searches_are_read_back.Goals as goal

pub returns-clause-read : goal.returns-clause-read
returns-clause-read g c = searches-read g.R.Replacer.text_at

pub returns-clause-tell : goal.returns-clause-tell
returns-clause-tell g c = searches-tell g.R.Replacer.text_at

pub returns-clause-words : goal.returns-clause-words
returns-clause-words g c = plans-have-words

pub returns-clause-parts : goal.returns-clause-parts
returns-clause-parts g c = parts-have-words
