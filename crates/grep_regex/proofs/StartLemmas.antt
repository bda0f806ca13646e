-- Where the first match starts, by what sets of bytes decide.
use Rattle.std.proofs.Common.{◌≡◌, ℕ, ◌+◌, ◌<◌, ◌≤◌, Bool, true, false, List, length, get_or, Option, Some, None, refl}
use Rattle.std.proofs.Common.{sym, ap, ◌∙◌, option_map, arith}
use Rattle.std.proofs.Math.Logic.{∥∥₁_elim}
use Rattle.std.proofs.lemmas.Option.{same_Some}
use Rattle.std.specs.Coded.{coded_ℕ, coded_option, coded×}
use base.Stored.{Coded-set}
use Rattle.regex_hir.specs.Find.{Match, find}
use Rattle.regex_hir.specs.Re.{Re, Trace, accept, attempt}
use Rattle.regex_hir.proofs.AttemptLemmas.{attempt_sound, attempt_complete}
use Rattle.regex_hir.proofs.FindLemmas.{first_between_here, first_between_none, first_between_skip}
use Rattle.regex_hir.proofs.OptionLemmas.{none_of_no_value, value_of_IsSome}
use Rattle.regex_vm.specs.Found.{span}
use Rattle.grep_regex.specs.Classes.{any_decision, first_size, DecideAny, HasSizes, IsPrefix}
use Rattle.grep_regex.specs.Patterns.{leftmost_match_at}
use Rattle.grep_regex.specs.Decisions.{IsPassed}
use Rattle.grep_regex.specs.Views.{program_re, regex_text_at}
use Rattle.grep_regex.specs.declared.regex.Regex.{Regex}
use Rattle.grep_regex.proofs.EngineLemmas.{finds-at}

module _ (re : Re) (choices : List (List (List Bool))) (decides : DecideAny re choices) (hay : List ℕ) where
  no-attempt : (i : ℕ) → any_decision choices hay i ≡ Some false → attempt hay re accept i ≡ None
  no-attempt i lacks = none_of_no_value _ (λ t e.
      let c = attempt_sound hay re accept i t e in decides.no hay i c.at lacks c.leads)

  skipped : (start at : ℕ) → start ≤ at → IsPassed (any_decision choices hay) start at
      → leftmost_match_at re hay at ≡ leftmost_match_at re hay start
  unfolding find
  skipped start at ordered passed = sym (ap (option_map span)
      (first_between_skip (attempt hay re accept) start at (length hay) ordered
      (λ i from to. no-attempt i (passed i from to))))

  nowhere : (start : ℕ) → IsPassed (any_decision choices hay) start (length hay + 1)
      → leftmost_match_at re hay start ≡ None
  unfolding find
  nowhere start passed = ap (option_map span)
      (first_between_none (attempt hay re accept) start (length hay)
      (λ i from to. no-attempt i (passed i from (omega arith))))

  here : (at : ℕ) → at ≤ length hay → any_decision choices hay at ≡ Some true
      → option_map (λ m. m.0) (leftmost_match_at re hay at) ≡ Some at
  unfolding find
  here at fits has =
      let matches = decides.yes hay at has in
      let found = value_of_IsSome (attempt hay re accept at)
      (attempt_complete hay re accept at matches.0 matches.1 refl) in
      ap (λ (o : Option Match). option_map (λ (m : ℕ × ℕ). m.0) (option_map span o))
      (first_between_here (attempt hay re accept) at (length hay) found.0 fits found.1)

  -- a match has the size of the first sequence that follows
  whole : HasSizes re choices → (at size : ℕ) → at ≤ length hay → any_decision choices hay at ≡ Some true
      → first_size choices hay at ≡ Some size → leftmost_match_at re hay at ≡ Some (at, at + size)
  unfolding find
  whole sizes at size fits has first =
      let matches = decides.yes hay at has in
      let found = value_of_IsSome (attempt hay re accept at)
      (attempt_complete hay re accept at matches.0 matches.1 refl) in
      let end : found.0.end ≡ at + size =
      same_Some _ _ (ap (option_map (λ (t : Trace). t.end)) (sym found.1) ∙ sizes.end hay at size first) in
      ap (option_map span) (first_between_here (attempt hay re accept) at (length hay) found.0 fits found.1)
      ∙ ap (λ e. Some (at, e)) end

module _ (r : Regex) (choices : List (List (List Bool))) (has_sizes : Bool)
    (prefix : ∥ IsPrefix (program_re r) choices has_sizes ∥₁)
    (hay : List ℕ) (bytes : (k : ℕ) → get_or hay k 0 < 256) where
  pub skipped-same : (start at : ℕ) → start ≤ at → at ≤ length hay → IsPassed (any_decision choices hay) start at
      → regex_text_at r hay at ≡ regex_text_at r hay start
  skipped-same start at ordered fits passed =
      ∥∥₁_elim prefix (Coded-set (coded_option (coded× coded_ℕ coded_ℕ)) _ _) (λ p.
      sym (finds-at r hay at bytes fits) ∙ (skipped (program_re r) choices p.decides hay start at ordered passed
      ∙ finds-at r hay start bytes (omega (arith, ordered, fits))))

  pub nowhere-decided : (start : ℕ) → start ≤ length hay → IsPassed (any_decision choices hay) start (length hay + 1)
      → regex_text_at r hay start ≡ None
  nowhere-decided start fits passed =
      ∥∥₁_elim prefix (Coded-set (coded_option (coded× coded_ℕ coded_ℕ)) _ _) (λ p.
      sym (finds-at r hay start bytes fits) ∙ nowhere (program_re r) choices p.decides hay start passed)

  pub start-decided : (start at : ℕ) → start ≤ at → at ≤ length hay → IsPassed (any_decision choices hay) start at
      → any_decision choices hay at ≡ Some true → option_map (λ m. m.0) (regex_text_at r hay start) ≡ Some at
  start-decided start at ordered fits passed has =
      ∥∥₁_elim prefix (Coded-set (coded_option coded_ℕ) _ _) (λ p.
      ap (option_map (λ (m : ℕ × ℕ). m.0)) (sym (skipped-same start at ordered fits passed)
      ∙ sym (finds-at r hay at bytes fits))
      ∙ here (program_re r) choices p.decides hay at fits has)

  pub size-decided : has_sizes ≡ true → (start at size : ℕ) → start ≤ at → at ≤ length hay
      → IsPassed (any_decision choices hay) start at → any_decision choices hay at ≡ Some true
      → first_size choices hay at ≡ Some size → regex_text_at r hay start ≡ Some (at, at + size)
  size-decided is start at size ordered fits passed has first =
      ∥∥₁_elim prefix (Coded-set (coded_option (coded× coded_ℕ coded_ℕ)) _ _) (λ p.
      sym (skipped-same start at ordered fits passed) ∙ (sym (finds-at r hay at bytes fits)
      ∙ whole (program_re r) choices p.decides hay (p.sizes is) at size fits has first))
