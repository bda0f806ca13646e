-- What the compiled pattern finds, and the first match that holds none of the bytes.
use Rattle.std.proofs.Common.{◌≡◌, ℕ, zero, suc, ◌+◌, ◌-◌, ◌<◌, ◌≤◌, true, List, length, All}
use Rattle.std.proofs.Common.{Option, Some, None}
use Rattle.std.proofs.Common.{option_map, refl, sym, ap, ap₂, ◌∙◌, ⊎_elim, arith, map}
use Rattle.std.specs.List.{range_with_len}
use Rattle.std.proofs.lemmas.Bool.{cases_Bool, cond-true, cond-false}
use Rattle.std.proofs.lemmas.Option.{none-some, same_Some}
use Rattle.std.specs.Option.{option_or}
use Rattle.regex_hir.specs.Find.{Match, first_from, find, last_write}
use Rattle.regex_hir.specs.Re.{Re, Trace, Rest, accept, attempt}
use Rattle.regex_hir.proofs.AttemptLemmas.{attempt_sound, attempt_cong}
use Rattle.regex_hir.proofs.FindLemmas.{IsFirst-of_first_between, first_between_cong}
use Rattle.regex_hir.proofs.OptionLemmas.{option_cases}
use Rattle.regex_syntax.specs.Captures.{outcome, SameCaptures}
use Rattle.regex_vm.specs.Found.{cell, group_cells, span}
use Rattle.grep_regex.specs.Clear.{is_clear, if_clear, find_clear}
use Rattle.grep_regex.specs.Patterns.{captured}
use Rattle.grep_regex.specs.Stripped.{IsStripped}
use Rattle.grep_regex.proofs.ClearLemmas.{clear-empty, clear-at, clear-from}

-- What is seen of a match, by where it starts, where it ends, and what its slots were given last.
module _ {A : Type 0} (see : Match → A) (view : ℕ → ℕ × (ℕ → Option ℕ) → A)
    (sees : (i : ℕ) (t : Trace) → see (record { start = i; trace = t }) ≡ view i (t.end, last_write t.writes)) where
  seen-at : (i : ℕ) (o : Option Trace) (later : Option Match) →
      option_map see (option_or (option_map (λ t. record { start = i; trace = t }) o) later)
      ≡ option_or (option_map (view i) (outcome o)) (option_map see later)
  unfolding outcome
  seen-at i None later = refl
  seen-at i (Some t) later = ap Some (sees i t)

  first_from-seen : (f g : Rest) (last : ℕ) → ((i : ℕ) → i ≤ last → outcome (f i) ≡ outcome (g i)) → (n i : ℕ)
      → i + n ≤ last + 1 →
      option_map see (first_from f n i) ≡ option_map see (first_from g n i)
  unfolding first_from
  first_from-seen f g last h zero i room = refl
  first_from-seen f g last h (suc n) i room =
      seen-at i (f i) _
      ∙ (ap₂ option_or (ap (option_map (view i)) (h i (omega arith)))
      (first_from-seen f g last h n (i + 1) (omega arith))
      ∙ sym (seen-at i (g i) _))

  -- patterns that match alike find the same
  seen-alike : (a b : Re) → SameCaptures a b → (hay : List ℕ) (start : ℕ) → All (λ x. x < 256) hay
      → start ≤ length hay → option_map see (find a hay start) ≡ option_map see (find b hay start)
  unfolding find
  seen-alike a b same hay start small from =
      first_from-seen _ _ (length hay) (λ i inside. same.at hay small accept i) (length hay + 1 - start) start
      (omega arith)

  -- the stripped pattern finds what the pattern finds that a text is read as, among the matches that hold none of the
  -- bytes
  seen-stripped : (bytes : List ℕ) (whole stripped written : Re) → IsStripped bytes whole stripped
      → SameCaptures whole written →
      (hay : List ℕ) (start : ℕ) → All (λ x. x < 256) hay → start ≤ length hay
      → option_map see (find stripped hay start) ≡ option_map see (find_clear bytes written hay start)
  unfolding find find_clear
  seen-stripped bytes whole stripped written p q hay start small from =
      first_from-seen _ _ (length hay) (λ i inside.
      ap outcome (p.at hay small accept i i (omega arith) inside (clear-empty bytes hay i))
      ∙ q.at hay small (if_clear bytes hay i accept) i) (length hay + 1 - start) start (omega arith)

-- the span of a match is seen, and so are the cells of its groups
abbrev span-view : ℕ → ℕ × (ℕ → Option ℕ) → ℕ × ℕ
span-view i o = (i, o.0)

abbrev cells-view : ℕ → ℕ → ℕ × (ℕ → Option ℕ) → (ℕ × ℕ) × List ℕ
cells-view count i o = ((i, o.0), map (λ k. cell (o.1 (k + 2))) (range_with_len 0 count))

cells-seen : (count i : ℕ) (t : Trace)
    → captured count (record { start = i; trace = t }) ≡ cells-view count i (t.end, last_write t.writes)
unfolding group_cells
cells-seen count i t = refl

-- so patterns that match alike have the same spans and groups
pub find-alike : (a b : Re) → SameCaptures a b → (hay : List ℕ) (start : ℕ) → All (λ x. x < 256) hay
    → start ≤ length hay → option_map span (find a hay start) ≡ option_map span (find b hay start)
find-alike = seen-alike span span-view (λ i t. refl)

-- and so does the stripped pattern
pub find-stripped : (bytes : List ℕ) (whole stripped written : Re) → IsStripped bytes whole stripped
    → SameCaptures whole written →
    (hay : List ℕ) (start : ℕ) → All (λ x. x < 256) hay → start ≤ length hay → option_map span (find stripped hay start)
    ≡ option_map span (find_clear bytes written hay start)
find-stripped = seen-stripped span span-view (λ i t. refl)

pub captures-stripped : (count : ℕ) (bytes : List ℕ) (whole stripped written : Re) → IsStripped bytes whole stripped
    → SameCaptures whole written →
    (hay : List ℕ) (start : ℕ) → All (λ x. x < 256) hay → start ≤ length hay
    → option_map (captured count) (find stripped hay start)
    ≡ option_map (captured count) (find_clear bytes written hay start)
captures-stripped count = seen-stripped (captured count) (cells-view count) (cells-seen count)

-- the first match that holds none of the bytes holds none of them
pub clear-match : (bytes : List ℕ) (re : Re) (hay : List ℕ) (from a b : ℕ)
    → option_map span (find_clear bytes re hay from) ≡ Some (a, b) →
    is_clear bytes hay a b ≡ true
unfolding find_clear
clear-match bytes re hay from a b e = ⊎_elim
    (λ none. absurd (none-some _ (sym (ap (option_map span) none) ∙ e)))
    (λ some.
    let same = same_Some _ _ (sym (ap (option_map span) some.1) ∙ e) in
    let first = IsFirst-of_first_between (λ i. attempt hay re (if_clear bytes hay i accept) i) from (length hay) some.0
    some.1 in
    let goes = attempt_sound hay re (if_clear bytes hay some.0.start accept) some.0.start some.0.trace first.here in
    let both = ends some.0.start goes.at goes.rest goes.gave in
    ap₂ (is_clear bytes hay) (sym (ap (λ (x : ℕ × ℕ). x.0) same))
    (sym (ap (λ (x : ℕ × ℕ). x.1) same) ∙ (goes.same_end ∙ both.1)) ∙ both.0)
    (option_cases (find_clear bytes re hay from))
  where
    ends : (s l : ℕ) (t : Trace) → if_clear bytes hay s accept l ≡ Some t → (is_clear bytes hay s l ≡ true)
        × (t.end ≡ l)
    ends s l t gave = ⊎_elim
        (λ clear. (
          clear,
          ap (λ (t : Trace). t.end) (sym
              (same_Some _ _ (sym (cond-true _ (accept l) None clear) ∙ gave))),
        ))
        (λ unclear. absurd (none-some t (sym (cond-false _ (accept l) None unclear) ∙ gave)))
        (cases_Bool (is_clear bytes hay s l))

-- where none of the bytes follows a position, it is the first match of all
pub find-unterminated : (bytes : List ℕ) (re : Re) (hay : List ℕ) (start : ℕ)
    → is_clear bytes hay start (length hay) ≡ true → find_clear bytes re hay start ≡ find re hay start
unfolding find find_clear
find-unterminated bytes re hay start clear =
    first_between_cong _ _ start (length hay) (λ i from to. attempt_cong hay re (if_clear bytes hay i accept) accept i
    (λ j m.
    cond-true _ (accept j) None (clear-from bytes hay i j
    (λ k low high inside. clear-at bytes hay start (length hay) clear k (omega (arith, from, low)) inside inside))))
