use Rattle.grep_regex.specs.Views.{regex_options, regex_patterns}
use Rattle.linegrep_cli.proofs.search.search_all.Given as goal

abbrev pub ghosts-search_named : goal.ghosts-search_named
ghosts-search_named g a = record { options = regex_options a.regex.now; patterns = regex_patterns a.regex.now }
