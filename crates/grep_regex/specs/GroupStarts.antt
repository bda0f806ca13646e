-- The groups from a position on are those from the start of the first match on. This is the proof
-- of a law of `CapturesAt`, which may cite `specs` alone.
use Rattle.std.proofs.Common.{◌≡◌, ℕ, List, [], length, Option, None, Some, option_map, arith}
use Rattle.std.proofs.Common.{refl, sym, ap, ◌∙◌}
use Rattle.std.proofs.lemmas.Option.{same_Some}
use Rattle.regex_hir.specs.Find.{Match}
use Rattle.regex_hir.specs.Re.{Re, Rest, accept, attempt}
use Rattle.regex_hir.proofs.FindLemmas.{IsFirst-of_first_between, first_between_of_IsFirst}
use Rattle.regex_vm.specs.Found.{span}
use Rattle.grep_regex.specs.Clear.{find_clear, if_clear}
use Rattle.grep_regex.specs.Groups.{group_count, groups_of_match}
use Rattle.grep_regex.specs.Laws.{GroupsAreOfFirstMatch}
use Rattle.grep_regex.specs.Patterns.{excluded_bytes, written_re}
use Rattle.grep_regex.specs.Seen.{seen_bytes}
use Rattle.std.specs.Option.{option_map_or}

module _ (bytes : List ℕ) (re : Re) (hay : List ℕ) where
  abbrev tried : Rest
  tried i = attempt hay re (if_clear bytes hay i accept) i

  -- the first match from a position on is also the first one from its own start on
  found-again : (from : ℕ) (m : Match) → find_clear bytes re hay from ≡ Some m
      → find_clear bytes re hay m.start ≡ Some m
  unfolding find_clear
  found-again from m found =
      let first = IsFirst-of_first_between tried from (length hay) m found in
      first_between_of_IsFirst tried m.start (length hay) m (record {
        from = omega arith;
        to = first.to;
        here = first.here;
        before = λ i low high. absurd (omega arith);
      })

  -- so what is made of it is the same
  made-again : {X : Type 0} (made : Match → X) (none : X) (from start end : ℕ)
      → option_map span (find_clear bytes re hay from) ≡ Some (start, end)
      → option_map_or made (find_clear bytes re hay start) none
      ≡ option_map_or made (find_clear bytes re hay from) none
  made-again {X} made none from start end found = go (find_clear bytes re hay from) refl found
    where
      go : (o : Option Match) → find_clear bytes re hay from ≡ o
          → option_map span o ≡ Some (start, end)
          → option_map_or made (find_clear bytes re hay start) none
          ≡ option_map_or made (find_clear bytes re hay from) none
      go None is spans = absurd (let never = spans in cc)
      go (Some m) is spans =
          let same : m.start ≡ start =
          ap (λ (found : ℕ × ℕ). found.0) (same_Some _ _ spans) in
          ap (λ o. option_map_or made o none)
          (ap (find_clear bytes re hay) (sym same) ∙ found-again from m is ∙ sym is)

-- so are the groups
pub groups-are_of_first_match : GroupsAreOfFirstMatch
groups-are_of_first_match o patterns haystack from start end found =
    let seen = seen_bytes o.line_terminator haystack in
    made-again (excluded_bytes o.line_terminator) (written_re o patterns) seen
    (groups_of_match (length seen) (group_count o patterns)) [] from start end found
