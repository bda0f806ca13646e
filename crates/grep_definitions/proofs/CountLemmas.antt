-- The counts of calls, against where lines start.
use Rattle.grep_definitions.specs.Plans.{calls_at, selected_lines, through, planned, Call, Planned}
use Rattle.grep_definitions.specs.Plans.{matches, context, breaks, Settings, first_below}
use Rattle.grep_definitions.specs.Plans.{joined_from, Kind, matched, in_context, Selection}
use Rattle.grep_definitions.specs.Plans.{count_at, follows_selected, is_selected, line_count}
use Rattle.grep_definitions.specs.Plans.{next_report_end, number, precedes_selected}
use Rattle.grep_definitions.specs.Plans
use Rattle.std.proofs.Common.{◌≡◌, ℕ, ◌+◌, ◌-◌, ◌<◌, ◌≤◌, Bool, true, false, ◌&&◌, List, [], ◌∷◌}
use Rattle.std.proofs.Common.{◌++◌, refl, sym, append-nil, ◌∙◌, arith, ⊎_elim, Option, Some}
use Rattle.std.proofs.Common.{None, if◌then◌else◌}
use Rattle.std.proofs.Math.Bool.{and-false}
use Rattle.std.proofs.lemmas.Bool.{ltb-true, le-ltb, le-leb, lt-leb, cases_lt, cases_Bool}
use Rattle.std.proofs.lemmas.Bool.{and_parts}
use Rattle.std.proofs.lemmas.List.Elements.{All-nil, All-cons, All-weaker, filter-append}
use Rattle.std.specs.Prelude.{nat_le, nat_lt, All}
use Rattle.grep_matcher.specs.Lines.{byte_of}
use Rattle.grep_matcher.specs.Meanings.{Meaning}
use Rattle.grep_report.specs.declared.sink_context.SinkContextKind.TheVariants.{Before, After}
use Rattle.grep_report.specs.declared.sink_context.SinkContextKind.TheVariants.{Other}
use Rattle.grep_definitions.specs.LineCalls.{one_call, broken_calls, pending_calls, selected_calls}
use Rattle.grep_definitions.specs.LineCalls.{listed_calls, breaks_near}
use Rattle.grep_definitions.specs.SearchLaws.{number_of}
use Rattle.grep_definitions.proofs.BelowLemmas.{some_below-some, some_below-find, first_below-of}
use Rattle.grep_definitions.proofs.BelowLemmas.{first_below-none}
use Rattle.grep_matcher.proofs.LineStartLemmas.{line_start-le}
use Rattle.grep_definitions.specs.LineWalks.{IsNear}
use Rattle.grep_definitions.proofs.BoolLemmas.{clash}
use Rattle.grep_definitions.proofs.ListLemmas.{All-joined_from, filter-all, filter-none}
use Rattle.grep_report.specs.SinkReports.{Surroundings}

-- of calls whose counts are at most an offset, and later ones whose counts are above it, just the
-- first are kept
pub ended-by : (at : ℕ) (first : List Planned) (T : ℕ → List Planned) (v m : ℕ)
    → All (λ call. call.if_false.count ≤ at) first
    → ((j : ℕ) → v ≤ j → j < v + m → All (λ call. at < call.if_false.count) (T j))
    → through at (first ++ joined_from T v m) ≡ first
ended-by at first T v m ended late =
    search (
      arith,
      filter-append,
      filter-all,
      All-weaker,
      le-leb,
      filter-none,
      All-joined_from,
      lt-leb,
      append-nil,
    )

-- a call and the break before it end alike
pub ends-one : (call : Call) (end : ℕ) → All (λ call. call.if_false.count ≡ end) (one_call call end)
ends-one call end =
    All-cons (λ x. x.if_false.count ≡ end) (planned call end) [] refl
    (All-nil (λ x. x.if_false.count ≡ end))

ends-broken : (gap : Bool) (call : Call) (end : ℕ) → All (λ call. call.if_false.count ≡ end)
    (broken_calls gap call end)
ends-broken true call end = grind (arith, All-cons, ends-one)
ends-broken false call end = ends-one call end

module _ (k : Settings) (bytes : List ℕ) (v i end : ℕ) where
  abbrev EndThere : List Planned → Type 0
  EndThere = All (λ call. call.if_false.count ≡ end)

  -- the calls of a chosen line and of those before it end with that line
  ends-listed : (q : ℕ) → EndThere (listed_calls k bytes v i end q)
  ends-listed q = grind arith

  pub ends-pending : (j n : ℕ) → EndThere (pending_calls k bytes v i end j n)
  ends-pending j n = All-joined_from (λ x. x.if_false.count ≡ end) (listed_calls k bytes v i end) j
      n (λ q low high. ends-listed q)

  pub ends-match : (offset : ℕ) (line : List ℕ) (around : Surroundings)
      → EndThere (selected_calls k v i offset end line around)
  ends-match offset line around = ends-broken (nat_lt 0 k.after_context && breaks_near k v i i)
      (matches (number_of k i) offset line around) end

module _ (k : Settings) (meaning : Meaning) (bytes : List ℕ) where
  abbrev selection : Selection
  selection = selected_lines k meaning bytes

  abbrev start : ℕ → ℕ
  start = Plans.start k bytes

  -- a line's count is no earlier than its end
  pub count_at-late : (q : ℕ) (kind : Option Kind) → start (q + 1)
      ≤ count_at k bytes selection q kind
  count_at-late q None = omega arith
  count_at-late q (Some matched) = omega arith
  count_at-late q (Some (in_context After)) = omega arith
  count_at-late q (Some (in_context Other)) = omega arith
  count_at-late q (Some (in_context Before)) = go (first_below later (line_count k bytes)) refl
    where
      later : ℕ → Bool
      later j = nat_lt q j && is_selected k meaning bytes j

      go : (found : Option ℕ) → first_below later (line_count k bytes) ≡ found
          → start (q + 1) ≤ start (next_report_end k bytes selection q)
      go None is = rw is (omega arith)
      go (Some j) is =
          let found = first_below-of later (line_count k bytes) j is in
          let above = ltb-true q j (and_parts (nat_lt q j) (is_selected k meaning bytes j)
          found.1).0 in
          rw is (line_start-le (byte_of k.line_terminator) bytes (q + 1) (j + 1) (omega arith))

  -- if the count of a line is no earlier than some offset, so is that of each of its calls
  pub ends-calls_at : (bound j : ℕ) → ((kind : Kind) → Plans.kind k bytes selection j ≡ Some kind
      → bound ≤ count_at k bytes selection j (Some kind))
      → All (λ call. bound ≤ call.if_false.count) (calls_at k bytes selection j)
  ends-calls_at bound j late = go (Plans.kind k bytes selection j) refl
    where
      P : Planned → Type 0
      P call = bound ≤ call.if_false.count

      end : Kind → ℕ
      end kind = count_at k bytes selection j (Some kind)

      report : (kind : Kind) → bound ≤ end kind
          → All P (Plans.report k bytes selection j (Some kind))
      report matched low = All-cons P _ [] low (All-nil P)
      report (in_context c) low = All-cons P _ [] low (All-nil P)

      choose : (b : Bool) (call : Planned) (rest : List Planned) → P call → All P rest
          → All P (if b then call ∷ rest else rest)
      choose true call rest low all = All-cons P call rest low all
      choose false call rest low all = all

      go : (kind : Option Kind) → Plans.kind k bytes selection j ≡ kind
          → All P (calls_at k bytes selection j)
      go None is = rw (is, and-false (nat_lt 0 (k.after_context + k.before_context))) (All-nil P)
      go (Some kind) is =
          let low = late kind is in
          rw is (choose _ (planned breaks (end kind)) (Plans.report k bytes selection j (Some kind))
          low (report kind low))

  -- the calls of a line end no earlier than the line
  pub ends-late : (i q : ℕ) → i ≤ q → All (λ call. start (i + 1) ≤ call.if_false.count)
      (calls_at k bytes selection q)
  ends-late i q low = ends-calls_at (start (i + 1)) q
      (λ kind is. omega (
        arith,
        count_at-late q (Some kind),
        line_start-le (byte_of k.line_terminator) bytes (i + 1) (q + 1) (omega arith),
      ))

  -- those of a line that was passed unreported can only belong to a later match
  pub ends-passed : {v i left : ℕ} → IsNear k bytes selection v i left → (j : ℕ) → v ≤ j → j < i
      → All (λ call. start (i + 1) ≤ call.if_false.count) (calls_at k bytes selection j)
  ends-passed {v} {i} {left} near j low high = ends-calls_at (start (i + 1)) j late
    where
      n : ℕ
      n = line_count k bytes

      later : ℕ → Bool
      later q = nat_lt j q && is_selected k meaning bytes q

      nearer : ℕ → Bool
      nearer q = nat_lt j q && nat_le (q - j) k.before_context && is_selected k meaning bytes q

      missed : (q : ℕ) → q < i → later q ≡ false
      missed q less = ⊎_elim
          (λ above. let unselected = (near.passed q (omega arith) less).0 in rw unselected
          (and-false (nat_lt j q))) (λ below. let no = le-ltb j q below in rw no refl)
          (cases_lt j q)

      nearer-later : (q : ℕ) → nearer q ≡ true → later q ≡ true
      nearer-later q is =
          let both = and_parts (nat_lt j q && nat_le (q - j) k.before_context)
          (is_selected k meaning bytes q) is in
          let above = (and_parts (nat_lt j q) (nat_le (q - j) k.before_context) both.0).0 in
          let chosen = both.1 in
          rw (above, chosen) refl

      next : (first : Option ℕ) → first_below later n ≡ first
          → precedes_selected k bytes selection j ≡ true
          → start (i + 1) ≤ start (next_report_end k bytes selection j)
      next None is precedes =
          let found = some_below-find nearer n precedes in
          absurd (clash (some_below-some later n found.0 found.1 (nearer-later found.0 found.2))
          (first_below-none later n is))
      next (Some q) is precedes =
          let passes = (first_below-of later n q is).1 in
          let far : i ≤ q = ⊎_elim (λ less. absurd (clash passes (missed q less))) (λ le. le)
          (cases_lt q i) in
          rw is (line_start-le (byte_of k.line_terminator) bytes (i + 1) (q + 1) (omega arith))

      out : (is_selected k meaning bytes j ≡ false) × (follows_selected k bytes selection j ≡ false)
      out = near.passed j low high

      plain : k.passthru ≡ false
      plain = ⊎_elim (λ yes. absurd (omega (arith, near.bare yes))) (λ no. no)
          (cases_Bool k.passthru)

      late : (kind : Kind) → Plans.kind k bytes selection j ≡ Some kind
          → start (i + 1) ≤ count_at k bytes selection j (Some kind)
      late kind is = go (precedes_selected k bytes selection j) refl
        where
          go : (b : Bool) → precedes_selected k bytes selection j ≡ b
              → start (i + 1) ≤ count_at k bytes selection j (Some kind)
          go false alone = absurd (let none : Plans.kind k bytes selection j
              ≡ None = rw (out.0, out.1, alone, plain) refl in let e = sym none ∙ is in cc)
          go true precedes =
              let before : Plans.kind k bytes selection j
              ≡ Some (in_context Before) = rw (out.0, out.1, precedes) refl in
              let same : kind ≡ in_context Before = cc in
              rw same (next (first_below later n) refl precedes)
