-- How large what is compiled may be.
use Rattle.std.specs.Prelude.{◌≡◌, ℕ, ◌+◌, ◌-◌, ◌*◌, ◌^◌, ◌≤◌, min, List}
use Rattle.regex_meta.specs.declared.program.Program.{Program}
use Rattle.regex_nfa.specs.Sizes.{table_bytes}
use Rattle.grep_regex.specs.Patterns.{most_groups}
use Rattle.grep_regex.specs.Programs.{HasRoom, capturing_program}
use Rattle.grep_regex.specs.declared.options.Options.{Options}
use Rattle.grep_regex.specs.declared.programs.Programs.{Programs}

-- the tables take no more bytes than the limit, with 24 for the two states with which they begin;
-- and there are two slots for each group, of which there are as many as one of the patterns has
pub record IsSized (o : Options) (patterns : List (List ℕ)) (program : Program) : Type 0 where
  pub small : table_bytes program.dfa.nfa ≤ o.size_limit + 24
  pub slots : program.dfa.nfa.slot_count ≡ 2 * min (most_groups o patterns) (2 ^ 32 - 1)

-- so are the tables of what finds groups; those of what finds matches are no larger than the limit,
-- and the room for a searcher of it is bounded, however many groups there are
pub record AreSized (o : Options) (patterns : List (List ℕ)) (programs : Programs) : Type 0 where
  pub capturing : IsSized o patterns (capturing_program programs)
  pub small : table_bytes programs.finding.dfa.nfa ≤ o.size_limit + 24
  pub room : HasRoom programs.finding
