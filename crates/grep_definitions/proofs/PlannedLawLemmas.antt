-- Laws of plans, put together.
use Rattle.std.proofs.Common.{◌≡◌, ◌+◌, Bool, List, [], ◌∷◌, ◌++◌, arith, map, refl, sym, ap, subst}
use Rattle.std.proofs.Common.{◌∙◌}
use Rattle.std.specs.Prelude.{cond, count_by}
use Rattle.std.specs.List.{flat_map, fold}
use Rattle.std.specs.List.Sorted.{IsStrictlyIncreasing}
use Rattle.grep_definitions.specs.AcrossLaws
use Rattle.grep_definitions.specs.BinaryLaws.{SeenLinesBegin}
use Rattle.grep_definitions.specs.SearchLaws
use Rattle.grep_definitions.specs.SearchLaws.{is_match}
use Rattle.grep_definitions.specs.Plans.{line_plan, reports_end, Planned, across_plan}
use Rattle.grep_definitions.proofs.AcrossLemmas as across
use Rattle.grep_definitions.proofs.AsByLineLemmas.{calls-same}
use Rattle.grep_definitions.proofs.BelowLemmas.{room-none}
use Rattle.grep_definitions.proofs.FirstCallLemmas.{front_calls-begin}
use Rattle.grep_definitions.proofs.SearchLawLemmas as by_line
use Rattle.grep_definitions.proofs.UnitLemmas.{bytes-calls, edges-calls}

fold-map : {X Y A : Type 0} (g : A → Y → A) (f : X → Y) (a : A) (xs : List X)
    → fold g a (map f xs) ≡ fold (λ a x. g a (f x)) a xs
fold-map g f a [] = refl
fold-map g f a (x ∷ xs) = fold-map g f (g a (f x)) xs

count_by-map : {X Y : Type 0} (p : Y → Bool) (f : X → Y) (xs : List X)
    → count_by p (map f xs) ≡ count_by (λ x. p (f x)) xs
count_by-map p f xs = fold-map (λ a y. a + cond (p y) 1 0) f 0 xs

flat_map-map : {X Y Z : Type 0} (g : Y → List Z) (f : X → Y) (xs : List X)
    → flat_map g (map f xs) ≡ flat_map (λ x. g (f x)) xs
flat_map-map g f [] = refl
flat_map-map g f (x ∷ xs) = ap (λ later. g (f x) ++ later) (flat_map-map g f xs)

-- ---- by line
pub reports-ascend : SearchLaws.ReportsAscend
reports-ascend k meaning bytes = by_line.in_order-by_line k meaning bytes

pub after-wins : SearchLaws.AfterWins
after-wins k meaning bytes i j has misses hit less close =
    by_line.calls_at-follows k meaning bytes i j has misses hit less close

pub first_lines-begin : SearchLaws.FirstLinesBegin
first_lines-begin k meaning front back closed built =
    front_calls-begin k meaning front back closed built

pub at_most-limit : SearchLaws.AtMostLimit
at_most-limit k meaning bytes limit is =
    omega (
      arith,
      count_by-map is_match (λ (call : Planned). call.call) (line_plan k meaning bytes).calls,
      by_line.matches-few k meaning bytes limit (reports_end k meaning bytes)
          (room-none k limit is),
    )

-- ---- across lines
pub reports-ascend_across : AcrossLaws.ReportsAscend
reports-ascend_across k meaning bytes = across.in_order-across k meaning bytes

pub after-wins_across : AcrossLaws.AfterWins
after-wins_across k meaning bytes i j has misses hit less close =
    across.calls_at-follows k meaning bytes i j misses hit less close

pub at_most-limit_across : AcrossLaws.AtMostLimit
at_most-limit_across k meaning bytes limit is =
    omega (
      arith,
      count_by-map is_match (λ (call : Planned). call.call) (across_plan k meaning bytes).calls,
      across.matches-across k meaning bytes limit (room-none k limit is),
    )

pub selected-reported : AcrossLaws.SelectedAreReported
selected-reported k meaning bytes =
    flat_map-map AcrossLaws.report_bytes (λ call. call.call) (across_plan k meaning bytes).calls
    ∙ bytes-calls k meaning bytes

pub reports-apart : AcrossLaws.ReportsAreApart
reports-apart k meaning bytes plain =
    subst IsStrictlyIncreasing (sym (flat_map-map AcrossLaws.report_edges (λ call. call.call)
    (across_plan k meaning bytes).calls)) (edges-calls k meaning bytes plain)

pub as-by_line : AcrossLaws.ReportsAreAsByLine
as-by_line k meaning other bytes inverted same each none = calls-same k meaning other bytes inverted
    same each none

-- ---- binary bytes
pub seen_lines-begin_all : SeenLinesBegin
seen_lines-begin_all k meaning bytes seen offset built cut =
    let goes = cut.front in
    let begun = first_lines-begin k meaning seen goes.front.after goes.closed built in
    (begun.0, ap (λ xs. (line_plan k meaning xs).calls) goes.front.whole ∙ begun.1)
