use Rattle.grep_regex.specs.Views.{regex_options, regex_patterns}
use Rattle.replay.proofs.asked.named_answers.Given as goal

abbrev pub ghosts-named_answer : goal.ghosts-named_answer
ghosts-named_answer a = record { options = regex_options a.regex.now; patterns = regex_patterns a.regex.now }
