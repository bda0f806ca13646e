use Rattle.grep_definitions.proofs.DecodedLemmas.{marked-passes, unchanged-input, unchanged-passes}
use Rattle.grep_definitions.proofs.DecodedLemmas.{unsniffed-unchanged, unmarked-unchanged}
use Rattle.grep_definitions.proofs.laws.unchanged_is_searched.Goals as goal

pub returns-clause-input : goal.returns-clause-input
returns-clause-input c = unchanged-input

pub returns-clause-unsniffed : goal.returns-clause-unsniffed
returns-clause-unsniffed c = unsniffed-unchanged

pub returns-clause-unmarked : goal.returns-clause-unmarked
returns-clause-unmarked c = unmarked-unchanged

pub returns-clause-passes : goal.returns-clause-passes
returns-clause-passes c = unchanged-passes

pub returns-clause-marked : goal.returns-clause-marked
returns-clause-marked c = marked-passes
