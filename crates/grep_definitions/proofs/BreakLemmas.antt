-- The calls of a search are reports, and breaks, each directly before a report that ends alike.
use Rattle.grep_definitions.specs.Plans.{can_break, is_touched_selected, reports_end}
use Rattle.grep_definitions.specs.Plans.{selected_lines, touched_lines, planned, Finish, Planned}
use Rattle.grep_definitions.specs.Plans.{breaks, joined_from, some_below, Kind, matched, in_context}
use Rattle.grep_definitions.specs.Plans.{Settings, selects_free, Selection, breaks_before, calls_at}
use Rattle.grep_definitions.specs.Plans.{continues, count_at, follows_selected, is_reported}
use Rattle.grep_definitions.specs.Plans.{line_count, precedes_selected, report}
use Rattle.grep_definitions.specs.Plans
use Rattle.grep_definitions.specs.SearchLaws.{is_report}
use Rattle.std.proofs.Common.{◌≡◌, ℕ, zero, suc, ◌+◌, Bool, true, false, ◌&&◌, List, []}
use Rattle.std.proofs.Common.{◌∷◌, ◌++◌, Option, Some, None, refl, ◌<◌, ◌≤◌, ap, arith, ⊎_elim}
use Rattle.std.proofs.Common.{if◌then◌else◌}
use Rattle.std.proofs.lemmas.Bool.{cases_Bool}
use Rattle.std.specs.Prelude.{nat_le, filter}
use Rattle.grep_matcher.specs.Meanings.{Meaning}
use Rattle.grep_definitions.proofs.BoolLemmas.{clash}

-- the calls of a search between `begin` and `finish`: reports, and breaks, each directly before a
-- report that ends alike; after one that returns false `finish` has no offset
pub data AreReports : List Planned → Type 0 where
  no_reports : AreReports []
  plain_report : {call : Planned} {later : List Planned} → is_report call.call ≡ true
      → call.if_false.binary ≡ None → AreReports later → AreReports (call ∷ later)
  broken_report : {gap call : Planned} {later : List Planned} → gap.call ≡ breaks
      → is_report call.call ≡ true
      → call.if_false.binary ≡ None → gap.if_false ≡ call.if_false → AreReports later
      → AreReports (gap ∷ call ∷ later)

calls-append : (front back : List Planned) → AreReports front → AreReports back
    → AreReports (front ++ back)
calls-append [] back no_reports are = are
calls-append (call ∷ front) back (plain_report is plain later) are =
    plain_report is plain (calls-append front back later are)
calls-append (gap ∷ call ∷ front) back (broken_report off is plain same later) are =
    broken_report off is plain same (calls-append front back later are)

calls-joined : (f : ℕ → List Planned) (i n : ℕ) → ((j : ℕ) → i ≤ j → j < i + n → AreReports (f j))
    → AreReports (joined_from f i n)
calls-joined f i zero each = no_reports
calls-joined f i (suc n) each =
    calls-append (f i) (joined_from f (i + 1) n) (each i (omega arith) (omega arith))
    (calls-joined f (i + 1) n (λ j low high. each j (omega arith) (omega arith)))

-- those that end at or before an offset
pub calls-through : (offset : ℕ) (calls : List Planned) → AreReports calls
    → AreReports (filter (λ call. nat_le call.if_false.count offset) calls)
calls-through offset [] no_reports = no_reports
calls-through offset (call ∷ later) (plain_report is plain rest) =
    go (nat_le call.if_false.count offset) (calls-through offset later rest)
  where
    go : (b : Bool) {kept : List Planned} → AreReports kept
        → AreReports (if b then call ∷ kept else kept)
    go true are = plain_report is plain are
    go false are = are
calls-through offset (gap ∷ call ∷ later) (broken_report off is plain same rest) =
    let alike : nat_le gap.if_false.count offset ≡ nat_le call.if_false.count offset =
    ap (λ (f : Finish). nat_le f.count offset) same in
    rw alike (go (nat_le call.if_false.count offset) (calls-through offset later rest))
  where
    go : (b : Bool) {kept : List Planned} → AreReports kept
        → AreReports (if b then gap ∷ (if b then call ∷ kept else kept)
        else (if b then call ∷ kept else kept))
    go true are = broken_report off is plain same are
    go false are = are

-- what a break needs of its line
breaks-need : (a b c d : Bool) → (a && b && c && d) ≡ true → (b ≡ true) × (c ≡ true)
breaks-need true true true d is = (refl, refl)
breaks-need true true false d is = cc
breaks-need true false c d is = cc
breaks-need false b c d is = cc

module _ (k : Settings) (meaning : Meaning) (bytes : List ℕ) where
  abbrev selection : Selection
  selection = touched_lines k meaning bytes

  abbrev by_line : Selection
  by_line = selected_lines k meaning bytes

  -- the report of a line, with its break or without
  report-by_line : (i : ℕ) (o : Option Kind) (b : Bool) → (b ≡ true → can_break o ≡ true)
      → AreReports (if b then (planned breaks (count_at k bytes by_line i o))
      ∷ report k bytes by_line i o else report k bytes by_line i o)
  report-by_line i None true can = absurd (clash (can refl) refl)
  report-by_line i None false can = no_reports
  report-by_line i (Some matched) true can = broken_report refl refl refl refl no_reports
  report-by_line i (Some matched) false can = plain_report refl refl no_reports
  report-by_line i (Some (in_context c)) true can = broken_report refl refl refl refl no_reports
  report-by_line i (Some (in_context c)) false can = plain_report refl refl no_reports

  pub calls-by_line : AreReports (joined_from (calls_at k bytes by_line) 0
      (reports_end k meaning bytes))
  calls-by_line = calls-joined (calls_at k bytes by_line) 0 (reports_end k meaning bytes)
      (λ j low high. report-by_line j (Plans.kind k bytes by_line j)
      (breaks_before k bytes by_line j) (λ is. (breaks-need _ _ _ _ is).0))

  -- so a break isn't made within a unit
  unit-unbroken : (i : ℕ) → i < line_count k bytes → breaks_before k bytes selection i ≡ true
      → continues k bytes selection i ≡ false
  unit-unbroken i inside is = grind arith

  report-across : (i : ℕ) (o : Option Kind) (b : Bool) → (b ≡ true → can_break o ≡ true)
      → (b ≡ true → continues k bytes selection i ≡ false)
      → AreReports (if b then (planned breaks (count_at k bytes selection i o))
      ∷ report k bytes selection i o else report k bytes selection i o)
  report-across i None true can whole = absurd (clash (can refl) refl)
  report-across i None false can whole = no_reports
  report-across i (Some matched) true can whole =
      rw (whole refl) (broken_report refl refl refl refl no_reports)
  report-across i (Some matched) false can whole = ⊎_elim (λ goes. rw goes no_reports)
      (λ ends. rw ends (plain_report refl refl no_reports))
      (cases_Bool (continues k bytes selection i))
  report-across i (Some (in_context c)) true can whole =
      broken_report refl refl refl refl no_reports
  report-across i (Some (in_context c)) false can whole = plain_report refl refl no_reports

  pub calls-across : AreReports (joined_from (calls_at k bytes selection) 0 (line_count k bytes))
  calls-across = calls-joined (calls_at k bytes selection) 0 (line_count k bytes)
      (λ j low high. report-across j (Plans.kind k bytes selection j)
      (breaks_before k bytes selection j)
      (λ is. (breaks-need _ _ _ _ is).0) (unit-unbroken j (omega arith)))
