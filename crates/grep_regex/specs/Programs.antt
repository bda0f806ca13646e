-- What is compiled of patterns.
use Rattle.std.specs.Prelude.{◌-◌, ◌*◌, ◌≤◌, vec_len, unwrap_or}
use Rattle.regex_meta.specs.declared.program.Program.{Program}
use Rattle.grep_regex.specs.declared.programs.Programs.{Programs}

-- what finds the groups of matches
abbrev pub capturing_program : Programs → Program
capturing_program programs = unwrap_or programs.capturing programs.finding

-- a searcher of the program has a cell for each end of a group in each state,
-- and no more than so many
abbrev pub HasRoom : Program → Type 0
HasRoom program = vec_len program.dfa.nfa.states * (program.dfa.nfa.slot_count - 2) ≤ 1048576
