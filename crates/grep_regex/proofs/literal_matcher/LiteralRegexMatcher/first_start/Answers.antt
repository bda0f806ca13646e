use Rattle.std.proofs.Common.{◌≡◌, ◌+◌, ◌≤◌, ◌∙◌, List, ℕ, Option, Some, None, ap, ap₂, arith, length}
use Rattle.std.proofs.Common.{refl, sym}
use Rattle.std.specs.Option.{option_map}
use Rattle.std.specs.Prelude.{IfSome, MatchOption}
use Rattle.grep_matcher.specs.FindResults.{match_from}
use Rattle.grep_regex.specs.Views.{regex_text_at}
use Rattle.grep_regex.proofs.SpelledLemmas.{literal-first}
use Rattle.grep_regex.proofs.literal_matcher.LiteralRegexMatcher.first_start.Goals as goal

-- a match that starts somewhere, by where it starts
from-start : (first : Option (ℕ × ℕ)) (size : ℕ) (found : Option ℕ)
    → match_from 0 (option_map (λ start. (start, start + size)) found) ≡ first
    → MatchOption found (first ≡ None) (λ start. (end : ℕ) × (first ≡ Some (start, end)))
from-start first size None is = sym is
from-start first size (Some start) is =
    let pair : ℕ → ℕ → Option (ℕ × ℕ) = λ a b. Some (a, b) in
    let begins : start ≡ 0 + start = omega arith in
    let ends : start + size ≡ 0 + (start + size) = omega arith in
    (start + size, sym (ap₂ pair begins ends ∙ is))

starts-within : (hay : List ℕ) (size : ℕ) (found : Option ℕ)
    → IfSome found (λ start. start + size ≤ length hay) → IfSome found (λ start. start ≤ length hay)
starts-within hay size None within = tt
starts-within hay size (Some start) within = omega (arith, within)

pub returns-clause-first : goal.returns-clause-first
returns-clause-first c =
    let m = c.args.self.now in
    let r = m.regex.now in
    let hay = c.args.haystack.now in
    from-start _ (length m.literal) c.find_start.result (ap (match_from 0) c.find_start.ensures.value
    ∙ (literal-first r (Some m.literal) m.literal hay 0 m.spelled refl
    (λ k. (c.type_inv.haystack k).fits) (omega arith)
    ∙ ap (λ text. regex_text_at r text 0) (sym (m.sees_all hay))))

pub returns-clause-within : goal.returns-clause-within
returns-clause-within c = starts-within c.args.haystack.now (length c.args.self.now.literal)
    c.find_start.result c.find_start.ensures.within
