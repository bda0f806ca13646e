use Rattle.std.proofs.Common.{rules}
use Rattle.grep_searcher.proofs.searcher.Searcher.clone.Goals as goal

pub returns-then-is_none-clause-settings : goal.returns-then-is_none-clause-settings
returns-then-is_none-clause-settings g c = search rules

pub returns-then-is_none-clause-error : goal.returns-then-is_none-clause-error
returns-then-is_none-clause-error g c = search rules

pub returns-then-is_none-clause-free : goal.returns-then-is_none-clause-free
returns-then-is_none-clause-free g c = search rules

pub returns-clause-settings : goal.returns-clause-settings
returns-clause-settings g c = search rules

pub returns-clause-error : goal.returns-clause-error
returns-clause-error g c = search rules

pub returns-clause-free : goal.returns-clause-free
returns-clause-free g c = search rules
