-- What patterns match from positions on are first matches. This is the proof of a law of `FindAt`,
-- which may cite `specs` alone.
use Rattle.std.proofs.Common.{◌≡◌, ℕ, ◌≤◌, List, length, Option, Some, refl, option_map, sym, ap}
use Rattle.std.proofs.Common.{◌∙◌, subst}
use Rattle.std.proofs.Common.{⊎_elim, arith, Bool, true, false, cond, None, take, ◌-◌, ◌+◌, ◌<◌}
use Rattle.std.proofs.Common.{length-take}
use Rattle.std.proofs.lemmas.Option.{same_Some}
use Rattle.std.specs.Prelude.{IfSome}
use Rattle.regex_hir.specs.Find.{Match, first_from}
use Rattle.regex_hir.specs.Re.{Re, Trace, Rest, accept, attempt}
use Rattle.regex_hir.proofs.AttemptLemmas.{attempt_sound, cond_some}
use Rattle.regex_hir.proofs.FindLemmas.{IsFirst, IsFirst-of_first_between, first_between_of_IsFirst}
use Rattle.regex_hir.proofs.FindLemmas.{first_between_none, none_of_first_between}
use Rattle.regex_hir.proofs.MatchesLemmas.{Matches-IsSpan}
use Rattle.regex_hir.proofs.OptionLemmas.{option_cases}
use Rattle.regex_vm.specs.Found.{span}
use Rattle.grep_matcher.specs.FindResults.{IsFrom}
use Rattle.grep_matcher.specs.FirstMatches.{AreFirstMatches}
use Rattle.grep_regex.specs.Clear.{if_clear, is_clear, find_clear}
use Rattle.grep_matcher.specs.declared.line_terminator.LineTerminator.{LineTerminator}
use Rattle.grep_matcher.specs.declared.line_terminator.LineTerminator.TheVariants.{Byte, Crlf}
use Rattle.grep_regex.specs.Patterns.{first_match, first_match_at}
use Rattle.grep_regex.specs.Patterns.{text_match_at, written_re, excluded_bytes}
use Rattle.grep_regex.specs.Seen.{seen_bytes}
use Rattle.grep_regex.specs.declared.options.Options.{Options}

module _ (bytes : List ℕ) (re : Re) (hay : List ℕ) where
  abbrev first_at : ℕ → Option (ℕ × ℕ)
  first_at start = option_map span (find_clear bytes re hay start)

  -- the way that the pattern works at a position
  abbrev tried : Rest
  tried i = attempt hay re (if_clear bytes hay i accept) i

  found-first : (start : ℕ) (m : Match) → find_clear bytes re hay start ≡ Some m
      → IsFirst tried start (length hay) m
  unfolding find_clear
  found-first start m found = IsFirst-of_first_between tried start (length hay) m found

  first-within : (start : ℕ) → IsFrom start hay (first_at start)
  first-within start = ⊎_elim
      (λ none. subst (λ o. IsFrom start hay (option_map span o)) (sym none) (tt, tt))
      (λ some.
      let first = found-first start some.0 some.1 in
      let goes = attempt_sound hay re (if_clear bytes hay some.0.start accept) some.0.start
      some.0.trace first.here in
      let spans = Matches-IsSpan hay re some.0.start goes.at goes.leads in
      let end : goes.at ≡ goes.rest.end = ap (λ (t : Trace). t.end) (same_Some _ _
      (cond_some (is_clear bytes hay some.0.start goes.at) (accept goes.at) goes.rest
      goes.gave).1) in
      subst (λ o. IsFrom start hay (option_map span o)) (sym some.1) (
        first.from,
        (
          omega (arith, spans, end, goes.same_end),
          omega (arith, spans, end, goes.same_end, first.to),
        ),
      ))
      (option_cases (find_clear bytes re hay start))

  first-same : (start later : ℕ) → start ≤ later
      → IfSome (first_at start) (λ found. later ≤ found.0)
      → first_at later ≡ first_at start
  unfolding find_clear
  first-same start later ordered starts = ⊎_elim
      (λ none. ap (option_map span) (first_between_none tried later (length hay)
      (λ i from to. none_of_first_between tried start (length hay) none i (omega arith) to)
      ∙ sym none))
      (λ some.
      let first = IsFirst-of_first_between tried start (length hay) some.0 some.1 in
      let low : later ≤ some.0.start =
      subst (λ o. IfSome (option_map span o) (λ found. later ≤ found.0)) some.1 starts in
      ap (option_map span) (first_between_of_IsFirst tried later (length hay) some.0 (record {
        from = low;
        to = first.to;
        here = first.here;
        before = λ i from to. first.before i (omega arith) to;
      }) ∙ sym some.1))
      (option_cases (find_clear bytes re hay start))

-- no more is seen than there is
cut-fits : (hay : List ℕ) (is_pair is_feed : Bool) →
    length (cond is_pair (take (length hay - 2) hay) (cond is_feed (take (length hay - 1) hay) hay))
    ≤ length hay
cut-fits hay true is_feed = omega (arith, length-take (length hay - 2) hay)
cut-fits hay false true = omega (arith, length-take (length hay - 1) hay)
cut-fits hay false false = omega arith

pub seen-fits : (terminator : Option LineTerminator) (hay : List ℕ)
    → length (seen_bytes terminator hay) ≤ length hay
seen-fits None hay = omega arith
seen-fits (Some (Byte b)) hay = omega arith
seen-fits (Some Crlf) hay = cut-fits hay _ _

-- a match in what is seen lies within the haystack
pub from-seen : (terminator : Option LineTerminator) (hay : List ℕ) (start : ℕ)
    (found : Option (ℕ × ℕ))
    → IsFrom start (seen_bytes terminator hay) found → IsFrom start hay found
from-seen terminator hay start None within = (tt, tt)
from-seen terminator hay start (Some m) within =
    (within.0, (within.1.0, omega (arith, within.1.1, seen-fits terminator hay)))

-- what patterns match from positions on are first matches
pub first-matches : (o : Options) (patterns : List (List ℕ)) (hay : List ℕ)
    → AreFirstMatches hay (first_match o patterns hay) (first_match_at o patterns hay)
first-matches o patterns hay =
    let bytes = excluded_bytes o.line_terminator in
    let re = written_re o patterns in
    let seen = seen_bytes o.line_terminator hay in
    record {
      whole = refl;
      within = λ start fits. from-seen o.line_terminator hay start
          (first_match_at o patterns hay start) (first-within bytes re seen start);
      same = λ start later ordered fits. first-same bytes re seen start later ordered;
    }

-- what patterns match in a text lies in it
pub text-within : (o : Options) (patterns : List (List ℕ)) (text : List ℕ) (start : ℕ)
    → IsFrom start text (text_match_at o patterns text start)
text-within o patterns text start =
    first-within (excluded_bytes o.line_terminator) (written_re o patterns) text start

-- and nothing is found from a position past it
pub none-past : (o : Options) (patterns : List (List ℕ)) (text : List ℕ) (start : ℕ)
    → length text < start → text_match_at o patterns text start ≡ None
unfolding find_clear first_from
none-past o patterns text start past =
    let none : length text + 1 - start ≡ 0 = omega arith in
    rw none refl
