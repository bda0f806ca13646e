-- From a position past a haystack there are no groups. This is the proof of a law of `CapturesAt`,
-- which may cite `specs` alone.
use Rattle.std.proofs.Common.{◌≡◌, ℕ, ◌<◌, List, [], length, Option}
use Rattle.std.proofs.Common.{Some, None, option_map, refl, sym, arith}
use Rattle.std.proofs.lemmas.Option.{none-some}
use Rattle.std.specs.Option.{option_map_or}
use Rattle.regex_hir.specs.Find.{Match}
use Rattle.regex_vm.specs.Found.{span}
use Rattle.grep_regex.specs.Clear.{find_clear}
use Rattle.grep_regex.specs.Groups.{group_count, groups_at, groups_of_match}
use Rattle.grep_regex.specs.PatternFirstMatches.{none-past, seen-fits}
use Rattle.grep_regex.specs.Patterns.{excluded_bytes, written_re}
use Rattle.grep_regex.specs.Seen.{seen_bytes}
use Rattle.grep_regex.specs.declared.options.Options.{Options}

groups-of-none : (size count : ℕ) (o : Option Match) → option_map span o ≡ None
    → option_map_or (groups_of_match size count) o [] ≡ []
groups-of-none size count None none = refl
groups-of-none size count (Some m) none = absurd (none-some (span m) (sym none))

-- nor in what is seen of the haystack
pub groups-past-seen : (o : Options) (patterns : List (List ℕ)) (haystack : List ℕ) (start : ℕ)
    → length (seen_bytes o.line_terminator haystack) < start
    → groups_at o patterns haystack start ≡ []
groups-past-seen o patterns haystack start past =
    let seen = seen_bytes o.line_terminator haystack in
    groups-of-none (length seen) (group_count o patterns)
    (find_clear (excluded_bytes o.line_terminator) (written_re o patterns) seen start)
    (none-past o patterns seen start past)

pub groups-past : (o : Options) (patterns : List (List ℕ)) (haystack : List ℕ) (start : ℕ)
    → length haystack < start → groups_at o patterns haystack start ≡ []
groups-past o patterns haystack start past =
    groups-past-seen o patterns haystack start
    (omega (arith, past, seen-fits o.line_terminator haystack))
