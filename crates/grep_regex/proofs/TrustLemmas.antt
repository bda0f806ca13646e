-- What a matcher finds in many lines can be trusted.
use Rattle.std.proofs.Common.{◌≡◌, ℕ, ◌<◌, ◌≤◌, true, List, length, slice_index, Some, None, is_some, option_map}
use Rattle.std.proofs.Common.{sym, ap, ◌∙◌, subst, inl, inr, ⊎_elim, arith, get_or, true≢false, Option, nat_lt}
use Rattle.std.proofs.Common.{lit<, refl, Bool, false, cond, [], ◌∷◌, ◌⊎◌}
use Rattle.std.proofs.Math.Logic.{∥∥₁_elim}
use Rattle.std.proofs.lemmas.Bool.{and_from, and_parts, false_from_ne_true, not-true}
use Rattle.std.proofs.lemmas.Bool.Decides.{nat_tests}
use Rattle.std.proofs.lemmas.List.{get_or_default}
use Rattle.std.proofs.lemmas.Option.{none-some, same_Some}
use Rattle.std.specs.Arc.{arc_value}
use Rattle.std.specs.Coded.{coded_bool}
use base.Stored.{Coded-set}
use Rattle.regex_hir.specs.Find.{Match, find}
use Rattle.regex_hir.specs.Re.{Re}
use Rattle.regex_hir.specs.Reads.{always_reads}
use Rattle.regex_hir.proofs.OptionLemmas.{option_cases}
use Rattle.regex_vm.specs.Found.{span}
use Rattle.grep_matcher.specs.Lawful.{IsLawfulResult, IsTrusted}
use Rattle.grep_matcher.specs.Meanings.{Meaning}
use Rattle.grep_matcher.specs.FindResults.{Avoids, IsFrom}
use Rattle.grep_matcher.specs.Lines.{byte_of, bytes_of}
use Rattle.grep_matcher.specs.declared.line_match_kind.LineMatchKind.TheVariants.{Confirmed, Candidate}
use Rattle.grep_matcher.specs.declared.line_terminator.LineTerminator.{LineTerminator}
use Rattle.grep_matcher.specs.declared.line_match_kind.LineMatchKind.{LineMatchKind}
use Rattle.grep_matcher.specs.declared.line_terminator.LineTerminator.TheVariants.{Byte, Crlf}
use Rattle.grep_matcher.proofs.StrippedLineLemmas.{line-is}
use Rattle.grep_regex.specs.Clear.{is_among}
use Rattle.grep_regex.specs.Locality.{is_local, is_by_line, is_crlf, is_separator}
use Rattle.grep_regex.specs.AbsentBytes.{is_absent, is_nul}
use Rattle.grep_regex.specs.Patterns.{leftmost_match_at, excluded_bytes, named_terminator, written_re}
use Rattle.grep_regex.specs.PatternFirstMatches.{text-within}
use Rattle.grep_regex.specs.Seen.{seen_bytes}
use Rattle.grep_regex.specs.Views.{regex_first, regex_first_at, regex_text_at, regex_meaning, regex_options}
use Rattle.grep_regex.specs.Views.{regex_patterns, program_re}
use Rattle.grep_regex.specs.declared.regex.Regex.{Regex}
use Rattle.grep_regex.proofs.AbsentLemmas.{absent-cases}
use Rattle.grep_regex.proofs.ClearLemmas.{clear-at}
use Rattle.grep_regex.proofs.EdgeLemmas.{IsSeparated}
use Rattle.grep_regex.proofs.EngineLemmas.{finds-of}
use Rattle.grep_regex.proofs.FindLemmas.{clear-match}
use Rattle.grep_regex.proofs.LocalityLemmas.{local-anywhere}
use Rattle.grep_regex.proofs.MatchedLineLemmas.{kept, IsListed, kept-small, missed-all, missed, matched}
use Rattle.grep_regex.proofs.MatchedLineLemmas.{FindsClear}
use Rattle.grep_regex.proofs.SeenLemmas.{seen-at, seen-small}
use Rattle.grep_regex.proofs.SeenMatchLemmas.{FindsAlike, finds-alike, finds-both, finds-same}

none-of : (re : Re) (bytes : List ℕ) → leftmost_match_at re bytes 0 ≡ None → find re bytes 0 ≡ None
none-of re bytes e =
    ⊎_elim (λ none. none) (λ some. absurd (none-some _ (sym e ∙ ap (option_map span) some.1)))
    (option_cases (find re bytes 0))

some-of : (re : Re) (bytes : List ℕ) (a b : ℕ) → leftmost_match_at re bytes 0 ≡ Some (a, b) →
    (m : Match) × (find re bytes 0 ≡ Some m) × (m.start ≡ a)
some-of re bytes a b e = ⊎_elim
    (λ none. absurd (none-some _ (sym (ap (option_map span) none) ∙ e)))
    (λ some.
    let same = same_Some _ _ (sym (ap (option_map span) some.1) ∙ e) in
    (some.0, some.1, ap (λ (x : ℕ × ℕ). x.0) same))
    (option_cases (find re bytes 0))

-- what a pattern that is found by line has
record IsConfirmed (terminator : LineTerminator) (re : Re) : Type 0 where
  sep : IsSeparated terminator
  local : is_local terminator re ≡ true
  reads : is_crlf terminator ≡ true → always_reads re ≡ true

confirmed : (terminator : LineTerminator) (re : Re) → is_by_line (Some terminator) re ≡ true → IsConfirmed terminator re
confirmed (Byte b) re by_line =
    let both = and_parts (is_separator b) _ by_line in
    let parts = and_parts (nat_lt b 128) _ both.0 in
    record {
      sep = record { low = grind (arith, nat_tests, parts.0); apart = not-true _ parts.1 };
      local = both.1;
      reads = λ no. absurd (true≢false (sym no));
    }
confirmed Crlf re by_line =
    let both = and_parts (always_reads re) _ by_line in
    record {
      sep = record { low = lit< tt; apart = refl };
      local = both.1;
      reads = λ crlf. both.0;
    }

-- the match of an expression holds no absent byte: in a haystack of which all is seen
text-avoids : (r : Regex) (hay : List ℕ) (start : ℕ) → ((k : ℕ) → get_or hay k 0 < 256) → start ≤ length hay
    → Avoids (is_absent (regex_options r) (regex_patterns r)) hay (regex_text_at r hay start)
text-avoids r hay start small from = held (regex_text_at r hay start) refl
  where
    held : (found : Option (ℕ × ℕ)) → regex_text_at r hay start ≡ found
        → Avoids (is_absent (regex_options r) (regex_patterns r)) hay found
    held None is = tt
    held (Some m) is = λ i low high. ∥∥₁_elim (arc_value r.shared).avoids (Coded-set coded_bool _ _)
        (λ f. subst (Avoids (is_absent (regex_options r) (regex_patterns r)) hay) is
        (f.at hay start (λ k d inside. rw (get_or_default hay k d 0 inside) (small k)) from) i low high)

-- and in each
pub avoids-of : (r : Regex) (hay : List ℕ) (start : ℕ) → ((k : ℕ) → get_or hay k 0 < 256)
    → Avoids (is_absent (regex_options r) (regex_patterns r)) hay (regex_first_at r hay start)
avoids-of r hay start small = held (regex_first_at r hay start) refl
  where
    held : (found : Option (ℕ × ℕ)) → regex_first_at r hay start ≡ found
        → Avoids (is_absent (regex_options r) (regex_patterns r)) hay found
    held None is = tt
    held (Some m) is = λ i low high.
        let seen = seen_bytes (regex_options r).line_terminator hay in
        let within = subst (IsFrom start seen) is (text-within (regex_options r) (regex_patterns r) seen start) in
        ap (is_absent (regex_options r) (regex_patterns r))
        (sym (seen-at (regex_options r).line_terminator hay i (omega (arith, within.1.1))))
        ∙ subst (Avoids (is_absent (regex_options r) (regex_patterns r)) seen) is
        (text-avoids r seen start (seen-small (regex_options r).line_terminator hay small)
        (omega (arith, within.0, within.1.0, within.1.1))) i low high

among-byte : (b x : ℕ) → is_among (b ∷ []) x ≡ true → x ≡ b
among-byte b x is = grind (arith, nat_tests, is)

among-crlf : (x : ℕ) → is_among (13 ∷ 10 ∷ []) x ≡ true → (x ≡ 13) ⊎ (x ≡ 10)
among-crlf x is = grind (arith, nat_tests, is)

-- a named terminator is the declared one
named-is : (t : Option LineTerminator) (terminator : LineTerminator) → named_terminator t ≡ Some terminator
    → t ≡ Some terminator
named-is t terminator = by-cases (is_nul t)
  where
    by-cases : (b : Bool) → cond b None t ≡ Some terminator → t ≡ Some terminator
    by-cases true named = absurd (none-some terminator named)
    by-cases false named = named

module _ (r : Regex) (is_lawful : LineTerminator → Type 0) (bytes : List ℕ)
    (small : (k : ℕ) → get_or bytes k 0 < 256) where
  -- what is found in a haystack holds no byte of the terminator
  abbrev AreClear : LineTerminator → Type 0
  AreClear terminator = (hay : List ℕ) → ((k : ℕ) → get_or hay k 0 < 256)
      → FindsClear terminator (program_re r) hay

  abbrev absent : ℕ → Bool
  absent = is_absent (regex_options r) (regex_patterns r)

  -- it is so if each of them is absent
  absent-clear : (terminator : LineTerminator)
      → ((x : ℕ) → is_among (bytes_of terminator) x ≡ true → absent x ≡ true) → AreClear terminator
  absent-clear terminator each hay low m found k from to =
      let first : regex_text_at r hay 0 ≡ Some (m.start, m.trace.end) =
      sym (finds-of r hay low) ∙ ap (option_map span) found in
      false_from_ne_true _ (λ has. true≢false (sym (each (slice_index hay k) has)
      ∙ subst (Avoids absent hay) first (text-avoids r hay 0 low (omega arith)) k from to))

  -- and of the declared one
  declared-clear : (terminator : LineTerminator) → (regex_options r).line_terminator ≡ Some terminator
      → AreClear terminator
  declared-clear terminator is hay low m found k from to =
      let first : regex_text_at r hay 0 ≡ Some (m.start, m.trace.end) =
      sym (finds-of r hay low) ∙ ap (option_map span) found in
      let within = subst (IsFrom 0 hay) first (text-within (regex_options r) (regex_patterns r) hay 0) in
      let inside : k < length hay = omega (arith, to, within.1.1) in
      let clear = clear-match (excluded_bytes (regex_options r).line_terminator)
      (written_re (regex_options r) (regex_patterns r)) hay 0 m.start m.trace.end first in
      ap (λ bytes. is_among bytes (slice_index hay k)) (sym (ap excluded_bytes is))
      ∙ clear-at (excluded_bytes (regex_options r).line_terminator) hay m.start m.trace.end clear k from to inside

  abbrev seen : List ℕ → List ℕ
  seen hay = seen_bytes (regex_options r).line_terminator hay

  -- what was compiled finds alike in what is seen of a haystack and in all of it
  abbrev FindsInSeen : Type 0
  FindsInSeen = (hay : List ℕ) → ((k : ℕ) → get_or hay k 0 < 256) → FindsAlike (program_re r) (seen hay) hay

  module _ (alike : FindsInSeen) (terminator : LineTerminator) (clear : AreClear terminator)
      (has : IsConfirmed terminator (program_re r)) where
    -- a line alone, by what was compiled
    alone : (i : ℕ) → IsListed terminator bytes i → is_some (regex_first r (kept terminator bytes i))
        ≡ is_some (leftmost_match_at (program_re r) (kept terminator bytes i) 0)
    alone i listed =
        let line = kept terminator bytes i in
        let low = kept-small terminator bytes small i listed in
        ap is_some (sym (finds-of r (seen line) (seen-small (regex_options r).line_terminator line low)))
        ∙ finds-both (program_re r) (seen line) line (alike line low)

    -- all of the lines, by what was compiled
    together : leftmost_match_at (program_re r) (seen bytes) 0 ≡ regex_first r bytes
    together = finds-of r (seen bytes) (seen-small (regex_options r).line_terminator bytes small)

    clear-alone : (i : ℕ) → IsListed terminator bytes i → FindsClear terminator (program_re r) (kept terminator bytes i)
    clear-alone i listed = clear (kept terminator bytes i)
        (kept-small terminator bytes small i listed)

    none-lawful : regex_first r bytes ≡ None → IsLawfulResult terminator (regex_meaning r) bytes None
    none-lawful none i listed = alone i listed ∙ missed-all terminator has.sep bytes (program_re r) has.local has.reads
        ((alike bytes small).none (none-of _ (seen bytes) (together ∙ none))) i listed (clear-alone i listed)

    some-lawful : (a b : ℕ) → regex_first r bytes ≡ Some (a, b)
        → IsLawfulResult terminator (regex_meaning r) bytes (Some (Confirmed a))
    some-lawful a b found =
        let first = some-of (program_re r) (seen bytes) a b (together ∙ found) in
        let m = (alike bytes small).some first.0 first.1 in
        let at : m.0.start ≡ a = m.2 ∙ first.2 in (
          λ i listed ends. alone i listed ∙ missed terminator has.sep bytes (program_re r) has.local has.reads m.0 m.1
              (regex_meaning r) i listed (clear-alone i listed) (rw at ends),
          λ i listed holds confirmed. alone i listed
              ∙ matched terminator has.sep bytes (program_re r) has.local has.reads m.0 m.1 (regex_meaning r) i listed
              (rw at holds) (clear bytes small m.0 m.1),
        )

  module _ (by_line : is_by_line (regex_options r).line_terminator (program_re r) ≡ true)
      (strips : (regex_options r).line_terminator ≡ None → absent 13 ≡ true) where
    -- if none is declared, the pattern is found by line under each whose bytes are absent
    undeclared : (regex_options r).line_terminator ≡ None → is_by_line None (program_re r) ≡ true
    undeclared none = subst (λ o. is_by_line o (program_re r) ≡ true) none by_line

    -- under the declared one
    by-declared : (terminator : LineTerminator) → (regex_options r).line_terminator ≡ Some terminator
        → AreClear terminator × IsConfirmed terminator (program_re r)
    by-declared terminator is = (
      declared-clear terminator is,
      confirmed terminator (program_re r) (subst (λ o. is_by_line o (program_re r) ≡ true) is by_line),
    )

    by-absent : (terminator : LineTerminator) → absent (byte_of terminator) ≡ true
        → AreClear terminator × IsConfirmed terminator (program_re r)
    by-absent (Byte b) has = ⊎_elim
        (λ nul. by-declared (Byte b) (nul.0 ∙ ap (λ x. Some (Byte x)) (sym nul.1)))
        (λ apart.
        let both = and_parts (always_reads (program_re r)) _ (undeclared apart.0) in (
          absent-clear (Byte b) (λ x is. ap absent (among-byte b x is) ∙ has),
          confirmed (Byte b) (program_re r)
              (and_from _ _ apart.1 (local-anywhere (Byte b) (program_re r) both.1)),
        ))
        (absent-cases (regex_options r) (regex_patterns r) b has)
    by-absent Crlf has =
        let none : (regex_options r).line_terminator ≡ None = ⊎_elim (λ nul. absurd (omega (arith, nul.1)))
        (λ apart. apart.0) (absent-cases (regex_options r) (regex_patterns r) 10 has) in
        let both = and_parts (always_reads (program_re r)) _ (undeclared none) in (
          absent-clear Crlf (λ x is. ⊎_elim
              (λ (return : x ≡ 13). ap absent return ∙ strips none)
              (λ (feed : x ≡ 10). ap absent feed ∙ has)
              (among-crlf x is)),
          confirmed Crlf (program_re r) (and_from _ _ both.0 (local-anywhere Crlf (program_re r) both.1)),
        )

    in-seen : FindsInSeen
    in-seen hay low = by-terminator (regex_options r).line_terminator refl
      where
        by-terminator : (t : Option LineTerminator) → (regex_options r).line_terminator ≡ t
            → FindsAlike (program_re r) (seen_bytes t hay) hay
        by-terminator None is = finds-same (program_re r) hay
        by-terminator (Some (Byte b)) is = finds-same (program_re r) hay
        by-terminator (Some Crlf) is =
            let both = by-declared Crlf is in
            finds-alike hay (program_re r) both.1.local (both.1.reads refl) (both.0 hay low)

    -- what is lawful for each excluded terminator can be trusted
    trusted : (found : Option LineMatchKind)
        → ((terminator : LineTerminator) → AreClear terminator
        → IsConfirmed terminator (program_re r) → IsLawfulResult terminator (regex_meaning r) bytes found)
        → IsTrusted (regex_meaning r) is_lawful bytes found
    trusted found each other lawful (inl named) =
        let both = by-declared other (named-is (regex_options r).line_terminator other named) in
        each other both.0 both.1
    trusted found each other lawful (inr has) =
        let both = by-absent other has in each other both.0 both.1

    pub trusted-none : regex_first r bytes ≡ None → IsTrusted (regex_meaning r) is_lawful bytes None
    trusted-none none = trusted None (λ terminator clear has. none-lawful in-seen terminator clear has none)

    pub trusted-some : (a b : ℕ) → regex_first r bytes ≡ Some (a, b)
        → IsTrusted (regex_meaning r) is_lawful bytes (Some (Confirmed a))
    trusted-some a b found = trusted (Some (Confirmed a))
        (λ terminator clear has. some-lawful in-seen terminator clear has a b found)

-- the first line as a candidate says nothing
pub trusted-first : (meaning : Meaning) (is_lawful : LineTerminator → Type 0) (bytes : List ℕ) →
    IsTrusted meaning is_lawful bytes (Some (Candidate 0))
trusted-first meaning is_lawful bytes terminator lawful excludes = (
  λ i listed ends. let is = line-is (byte_of terminator) bytes i listed in
      absurd (omega (arith, is.ends, is.filled, ends.0)),
  λ i listed held confirmed. absurd (cc),
)
