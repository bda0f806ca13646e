-- What a sink that counts the matches makes of a run.
use Rattle.std.proofs.Common.{◌≡◌, ℕ, ◌+◌, ◌<◌, ◌-◌, ◌^◌, min, true, List, [], ◌∷◌, length, refl}
use Rattle.std.proofs.Common.{◌∙◌, ap, arith, subst}
use Rattle.std.specs.List.{fold}
use Rattle.grep_definitions.specs.MatchedLines.{calls_of_match}
use Rattle.grep_definitions.specs.Plans.{search_plan, AreMade, Call, Settings, all_true}
use Rattle.grep_definitions.specs.SearchLaws.{match_calls}
use Rattle.grep_searcher.specs.SinkFolds.{fold_while}
use Rattle.grep_lines.proofs.LineRangeLemmas.{some-lines}
use Rattle.grep_matcher.specs.Lines.{lines}
use Rattle.grep_report.specs.SinkReports.{MatchReport, match_bytes}
use Rattle.grep_searcher.specs.CountSinks.{count_after, IsCountStep, RunsCount, RunsCountAll}
use Rattle.grep_searcher.proofs.TakenLineLemmas.{lines-are_taken}
use Rattle.grep_searcher.proofs.UnitCallLemmas.{matches-are_within_count}
use Rattle.grep_searcher.proofs.MatchHandlerLemmas.{runs-fit, runs-handle}

-- each of some matches is counted, up to the largest number
fold_while-count_after : (old : ℕ) (calls : List Call) → old < 2 ^ 64
    → fold_while (λ _ _. true) count_after old calls ≡ min (old + length calls) (2 ^ 64 - 1)
fold_while-count_after old [] fits = omega arith
fold_while-count_after old (call ∷ later) fits =
    omega (arith, fold_while-count_after (count_after old call) later (omega arith))

-- lines that are counted at once are counted one after another
fold-counted : (lines : List (List ℕ)) (old : ℕ) → 0 < length lines
    → fold (λ count (line : List ℕ). min (count + 1) (2 ^ 64 - 1)) old lines
    ≡ min (old + length lines) (2 ^ 64 - 1)
fold-counted [] old some = absurd (omega arith)
fold-counted (line ∷ []) old some = refl
fold-counted (line ∷ next ∷ later) old some =
    omega (arith, fold-counted (next ∷ later) (min (old + 1) (2 ^ 64 - 1)) (omega arith))

pub match-counted : (E : Type 0) (settings : Settings) (m : MatchReport) (old : ℕ)
    → 0 < length (match_bytes m)
    → AreMade {E = E} IsCountStep settings old (calls_of_match m) all_true
    (min (old + length (lines m.terminator (match_bytes m))) (2 ^ 64 - 1))
match-counted E settings m old some =
    let found = some-lines m.terminator (match_bytes m) some in
    let many : 0 < length (lines m.terminator (match_bytes m)) =
    omega (arith, ap length found.2) in
    subst (AreMade {E = E} IsCountStep settings old (calls_of_match m) all_true)
    (fold-counted (lines m.terminator (match_bytes m)) old many)
    (lines-are_taken {E = E} IsCountStep (λ count line. min (count + 1) (2 ^ 64 - 1))
    (λ from at number offset line. ((refl, refl), tt)) settings old m)

pub runs-count : (E : Type 0) → RunsCount E
runs-count E settings old plan new fits run =
    runs-handle {E = E} (λ _ _. true) count_after (λ _ _ _ _. ⊥) settings old plan new run
    ∙ fold_while-count_after old (match_calls plan.calls) fits

pub runs-count_all : (E : Type 0) → RunsCountAll E
runs-count_all E settings meaning bytes old new is_new run =
    let plan = search_plan settings meaning bytes in
    omega (
      arith,
      is_new,
      (matches-are_within_count settings meaning bytes).0,
      runs-fit {E = E} (λ _ _. true) count_after (λ _ _ _ _. ⊥) (λ _ _. refl) settings old plan new
          run,
      runs-count E settings old plan new (omega (arith, is_new)) run,
    )
