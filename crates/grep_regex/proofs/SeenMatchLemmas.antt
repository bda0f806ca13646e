-- What a pattern finds in what is seen of a haystack, and in all of it: the same, under CRLF if it is local and reads.
use Rattle.std.proofs.Common.{◌≡◌, ℕ, ◌+◌, ◌-◌, ◌<◌, ◌≤◌, true, List, [], ◌∷◌, ◌++◌, length, slice_index}
use Rattle.std.proofs.Common.{Some, None, option_map, is_some, refl, sym, ap, ◌∙◌, inl, inr, ⊎_elim, arith, slice_get}
use Rattle.std.proofs.Common.{length-append, subst, suc, lit<, false}
use Rattle.regex_hir.specs.Looks.{is_cr, side_before}
use Rattle.std.proofs.lemmas.Bool.{cases_lt, cases_eq}
use Rattle.std.proofs.lemmas.List.{append-nil, get_or-append-add}
use Rattle.std.proofs.lemmas.Option.{none-some, slice_get-get_or}
use Rattle.regex_hir.specs.Find.{Match, find}
use Rattle.regex_hir.specs.Matches.{Matches}
use Rattle.regex_hir.specs.Re.{Re}
use Rattle.regex_hir.specs.Reads.{always_reads}
use Rattle.regex_hir.proofs.FindLemmas.{find_sound, find_complete}
use Rattle.regex_hir.proofs.MatchesLemmas.{Matches-IsSpan}
use Rattle.regex_hir.proofs.OptionLemmas.{option_cases, value_of_IsSome}
use Rattle.regex_vm.specs.Found.{span}
use Rattle.grep_matcher.specs.declared.line_terminator.LineTerminator.TheVariants.{Crlf}
use Rattle.grep_regex.specs.Clear.{is_among}
use Rattle.grep_regex.specs.Locality.{is_local}
use Rattle.grep_regex.specs.PatternFirstMatches.{seen-fits}
use Rattle.grep_regex.specs.Seen.{without_line_end}
use Rattle.grep_regex.proofs.EdgeLemmas.{IsSeparated, IsPart, matches-in, matches-out}
use Rattle.grep_regex.proofs.MatchedLineLemmas.{FindsClear, among-crlf, found-to, short}
use Rattle.grep_regex.proofs.ReadsLemmas.{reads-some}
use Rattle.grep_regex.proofs.SeenLemmas.{line-end-cases, lacks-before, longer}

-- the pattern finds something in both or in neither, and from the same position on
pub record FindsAlike (re : Re) (seen hay : List ℕ) : Type 0 where
  pub none : find re seen 0 ≡ None → find re hay 0 ≡ None
  pub some : (m : Match) → find re seen 0 ≡ Some m → (other : Match) × (find re hay 0 ≡ Some other)
      × (other.start ≡ m.start)

pub finds-same : (re : Re) (hay : List ℕ) → FindsAlike re hay hay
finds-same re hay = record { none = λ none. none; some = λ m found. (m, found, refl) }

pub finds-both : (re : Re) (seen hay : List ℕ) → FindsAlike re seen hay
    → is_some (option_map span (find re seen 0)) ≡ is_some (option_map span (find re hay 0))
finds-both re seen hay alike = ⊎_elim
    (λ none. ap (λ o. is_some (option_map span o)) none
    ∙ sym (ap (λ o. is_some (option_map span o)) (alike.none none)))
    (λ some. ap (λ o. is_some (option_map span o)) some.1
    ∙ sym (ap (λ o. is_some (option_map span o)) (alike.some some.0 some.1).1))
    (option_cases (find re seen 0))

module _ (hay : List ℕ) where
  abbrev seen : List ℕ
  seen = without_line_end hay

  -- what is seen is a part of the haystack, and no match goes on after it
  record IsSeen : Type 0 where
    post : List ℕ
    part : IsPart Crlf hay seen post 0 (length seen)
    past : (k : ℕ) → length seen ≤ k → k < length hay → is_among (13 ∷ 10 ∷ []) (slice_index hay k) ≡ true

  -- the byte at a position after it
  byte-past : (post : List ℕ) → hay ≡ seen ++ post → (k : ℕ)
      → slice_index hay (length seen + k) ≡ slice_index post k
  byte-past post front k = ap (λ l. slice_index l (length seen + k)) front ∙ get_or-append-add seen post k 0

  get-past : (b : ℕ) (rest : List ℕ) → hay ≡ seen ++ b ∷ rest → slice_get hay (0 + length seen) ≡ Some b
  get-past b rest front =
      let at : length seen + 0 ≡ 0 + length seen = omega arith in
      ap (slice_get hay) (sym at)
      ∙ (slice_get-get_or hay (length seen + 0) 0
      (omega (arith, ap length front, length-append seen (b ∷ rest), zero-less (length rest)))
      ∙ ap Some (byte-past (b ∷ rest) front 0))
    where
      zero-less : (n : ℕ) → 0 < suc n
      zero-less n = omega arith

  seen-pair : hay ≡ seen ++ 13 ∷ 10 ∷ [] → IsSeen
  seen-pair front = record {
    post = 13 ∷ 10 ∷ [];
    part = record {
      front = front;
      within = omega arith;
      fits = omega arith;
      before = inl refl;
      after = inr (inl (refl, get-past 13 (10 ∷ []) front));
    };
    past = λ k low high. ⊎_elim
        (λ (first : k ≡ length seen + 0). among-crlf (slice_index hay k)
        (inl (ap (slice_index hay) first ∙ byte-past (13 ∷ 10 ∷ []) front 0)))
        (λ other.
        let second : k ≡ length seen + 1 =
        omega (arith, ap length front, length-append seen (13 ∷ 10 ∷ []), other) in
        among-crlf (slice_index hay k)
        (inr (ap (slice_index hay) second ∙ byte-past (13 ∷ 10 ∷ []) front 1)))
        (cases_eq k (length seen + 0));
  }

  seen-fed : hay ≡ seen ++ 10 ∷ [] → is_cr (side_before seen (length seen)) ≡ false → IsSeen
  seen-fed front bare = record {
    post = 10 ∷ [];
    part = record {
      front = front;
      within = omega arith;
      fits = omega arith;
      before = inl refl;
      after = inr (inr (inr (refl, get-past 10 [] front, bare)));
    };
    past = λ k low high.
        let last : k ≡ length seen + 0 = omega (arith, ap length front, length-append seen (10 ∷ [])) in
        among-crlf (slice_index hay k) (inr (ap (slice_index hay) last ∙ byte-past (10 ∷ []) front 0));
  }

  seen-all : seen ≡ hay → IsSeen
  seen-all same = record {
    post = [];
    part = record {
      front = sym (append-nil seen ∙ same);
      within = omega arith;
      fits = omega arith;
      before = inl refl;
      after = inl (omega (arith, ap length same));
    };
    past = λ k low high. absurd (omega (arith, ap length same));
  }

  is-seen : IsSeen
  is-seen = elim (line-end-cases hay) [
    | inl both ↦ seen-pair both
    | inr (inl fed) ↦ seen-fed fed.0 (lacks-before seen (λ front ends. fed.1 front (longer hay seen front fed.0 ends)))
    | inr (inr none) ↦ seen-all none.0
  ]

  module _ (re : Re) (ok : is_local Crlf re ≡ true) (reads : always_reads re ≡ true)
      (clear : FindsClear Crlf re hay) where
    separated : IsSeparated Crlf
    separated = record { low = lit< tt; apart = refl }

    -- what is found in the haystack is found where it is seen
    inside : (m : Match) → find re hay 0 ≡ Some m → (m.start ≤ length seen) × Matches seen re m.start m.trace.end
    inside m found =
        let sound = find_sound re hay 0 m found in
        let spans = Matches-IsSpan hay re _ _ sound.1 in
        let moves = reads-some hay re _ _ reads sound.1 in
        let fits : m.trace.end ≤ length hay = omega (arith, spans, found-to re hay 0 m found) in
        let near : m.trace.end ≤ length seen = short (13 ∷ 10 ∷ []) hay m.start m.trace.end (length seen) (length hay)
        is-seen.past (clear m found) (λ far under. omega (arith, fits, far))
        (λ beyond. (moves, omega (arith, moves, fits))) in
        let start : m.start - 0 ≡ m.start = omega arith in
        let end : m.trace.end - 0 ≡ m.trace.end = omega arith in (
          omega (arith, spans, near),
          subst (λ i. Matches seen re i m.trace.end) start (subst (Matches seen re (m.start - 0)) end
              (matches-out Crlf separated hay seen is-seen.post 0 (length seen) is-seen.part re ok m.start m.trace.end
              (omega arith) (omega (arith, near)) sound.1)),
        )

    pub finds-alike : FindsAlike re seen hay
    finds-alike = record {
      none = λ none. ⊎_elim
          (λ missed. missed)
          (λ some.
          let there = inside some.0 some.1 in
          let found = value_of_IsSome _ (find_complete re seen 0 _ _ (omega arith) there.0 there.1) in
          absurd (none-some found.0 (sym none ∙ found.1)))
          (option_cases (find re hay 0));
      some = λ m found.
          let sound = find_sound re seen 0 m found in
          let to = found-to re seen 0 m found in
          let there = matches-in Crlf separated hay seen is-seen.post 0 (length seen) is-seen.part re ok m.start
          m.trace.end (omega (arith, Matches-IsSpan seen re _ _ sound.1, to)) sound.1 in
          let other = value_of_IsSome _ (find_complete re hay 0 _ _ (omega arith)
          (omega (arith, to, seen-fits (Some Crlf) hay)) there) in
          let first = find_sound re hay 0 other.0 other.1 in (
            other.0,
            other.1,
            ⊎_elim
                (λ (sooner : other.0.start < m.start).
                absurd (sound.2 _ _ (omega arith) sooner (inside other.0 other.1).1))
                (λ (later : m.start ≤ other.0.start). ⊎_elim
                (λ (past : m.start < other.0.start). absurd (first.2 _ _ (omega arith) (omega (arith, past)) there))
                (λ (near : other.0.start ≤ m.start). omega arith)
                (cases_lt m.start other.0.start))
                (cases_lt other.0.start m.start),
          );
    }
