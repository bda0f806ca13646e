use Rattle.regex_syntax.proofs.CapturesLemmas.{◌also◌}
use Rattle.grep_regex.proofs.WrittenLemmas.{alike-alt_all}
use Rattle.grep_regex.proofs.parse.read_choice.Goals as goal

pub returns-clause-ok : goal.returns-clause-ok
returns-clause-ok c = let e = c.choice_of.ensures in let h = c.in_ok-hirs.ensures.ok in e also alike-alt_all _ _ h
