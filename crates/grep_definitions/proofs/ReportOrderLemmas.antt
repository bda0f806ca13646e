-- The reports of lines ascend: each ends by the offset of each later one.
use Rattle.grep_definitions.specs.Plans.{planned, Call, Planned, breaks, reported_bytes}
use Rattle.grep_definitions.specs.Plans.{reported_from, joined_from}
use Rattle.std.proofs.Common.{◌≡◌, ℕ, zero, suc, ◌+◌, ◌<◌, ◌≤◌, Bool, true, false, List, [], ◌∷◌}
use Rattle.std.proofs.Common.{◌++◌, length, refl, sym, ap, subst, ◌∙◌, arith, ◌⊎◌, ⊎_elim}
use Rattle.std.proofs.Common.{if◌then◌else◌}
use Rattle.std.proofs.lemmas.Bool.{cases_lt}
use Rattle.std.proofs.lemmas.List.{map-append}
use Rattle.std.proofs.lemmas.List.Elements.{All-nil, All-cons, All-weaker, filter-append}
use Rattle.std.proofs.lemmas.List.Kept.{AllPairs-cons}
use Rattle.std.specs.Prelude.{All, map, filter}
use Rattle.grep_definitions.specs.SearchLaws.{reported_to, AreReportsInOrder, is_report}
use Rattle.grep_definitions.specs.SearchLaws.{report_calls}

-- the reports of some calls, and then those of the later calls
report_calls-append : (front back : List Planned) → report_calls (front ++ back)
    ≡ report_calls front ++ report_calls back
report_calls-append front back =
    ap (filter is_report) (map-append (λ (call : Planned). call.call) front back)
    ∙ filter-append is_report (map (λ (call : Planned). call.call) front)
    (map (λ (call : Planned). call.call) back)

-- some reports, of which the first isn't before a bound
pub record InOrderFrom (low : ℕ) (reports : List Call) : Type 0 where
  pub in_order : AreReportsInOrder reports
  pub after : All (λ report. low ≤ reported_from report) reports

in_order-none : (low : ℕ) → InOrderFrom low []
in_order-none low = record {
  in_order = (
    All-nil (λ report. 0 < length (reported_bytes report)),
    λ i j d less inside. absurd (omega arith),
  );
  after = All-nil (λ report. low ≤ reported_from report);
}

in_order-lower : (low high : ℕ) (reports : List Call) → low ≤ high → InOrderFrom high reports
    → InOrderFrom low reports
in_order-lower low high reports le follow = record {
  in_order = follow.in_order;
  after = All-weaker (λ report. high ≤ reported_from report) (λ report. low ≤ reported_from report)
      (λ report above. omega (arith, above)) reports follow.after;
}

-- a report in front of those after it
in_order-cons : (low : ℕ) (report : Call) (later : List Call) → low ≤ reported_from report
    → reported_from report < reported_to report → InOrderFrom (reported_to report) later
    → InOrderFrom low (report ∷ later)
in_order-cons low report later above some follow = record {
  in_order = (
    All-cons (λ r. 0 < length (reported_bytes r)) report later (omega arith) follow.in_order.0,
    AllPairs-cons (λ one other. reported_to one ≤ reported_from other) report later follow.after
        follow.in_order.1,
  );
  after = All-cons (λ r. low ≤ reported_from r) report later above
      (in_order-lower low (reported_to report) later (omega (arith, above)) follow).after;
}

-- a break is no report
pub report_calls-broken : (broken : Bool) (end : ℕ) (calls : List Planned)
    → report_calls (if broken then planned breaks end ∷ calls else calls) ≡ report_calls calls
report_calls-broken true end calls = refl
report_calls-broken false end calls = refl

module _ (f : ℕ → List Planned) (start : ℕ → ℕ) where
  -- line i has a report, of itself and of the lines up to line `next`, which have none
  pub record IsReported (i : ℕ) : Type 0 where
    pub call : Call
    pub next : ℕ
    pub reports : report_calls (f i) ≡ call ∷ []
    pub later : i < next
    pub above : start i < start next
    pub from : reported_from call ≡ start i
    pub to : reported_to call ≡ start next
    pub alone : (j : ℕ) → i < j → j < next → report_calls (f j) ≡ []

  module _ (n : ℕ) (rises : (i : ℕ) → i < n → start i < start (i + 1))
      (each : (i : ℕ) → i < n → (report_calls (f i) ≡ []) ⊎ IsReported i) where
    -- from line i on, if the lines up to line q have no report
    in_order-from : (m i q : ℕ) → i + m ≡ n → i ≤ q → ((j : ℕ) → i ≤ j → j < q → report_calls (f j)
        ≡ []) → InOrderFrom (start q) (report_calls (joined_from f i m))
    in_order-from zero i q all low none = in_order-none (start q)
    in_order-from (suc m) i q all low none =
        let rest = report_calls (joined_from f (i + 1) m) in
        subst (InOrderFrom (start q)) (sym (report_calls-append (f i) (joined_from f (i + 1) m)))
        (⊎_elim (λ (less : i < q).
        let here = none i (omega arith) less in
        rw here (in_order-from m (i + 1) q (omega arith) (omega arith)
        (λ j above below. none j (omega arith) below))) (λ (over : q ≤ i).
        let same : q ≡ i = omega arith in
        subst (λ x. InOrderFrom (start x) (report_calls (f i) ++ rest)) (sym same) (⊎_elim
        (λ silent. subst (λ calls. InOrderFrom (start i) (calls ++ rest)) (sym silent)
        (in_order-lower (start i) (start (i + 1)) rest
        (let up = rises i (omega arith) in omega arith)
        (in_order-from m (i + 1) (i + 1) (omega arith) (omega arith)
        (λ j above below. absurd (omega (arith, above))))))
        (λ (reported : IsReported i). subst (λ calls. InOrderFrom (start i) (calls ++ rest))
        (sym reported.reports) (in_order-cons (start i) reported.call rest (omega arith)
        (omega arith) (subst (λ x. InOrderFrom x rest) (sym reported.to)
        (in_order-from m (i + 1) reported.next (omega arith) (omega arith)
        (λ j above below. reported.alone j (omega (arith, above)) below)))))
        (each i (omega arith)))) (cases_lt i q))

    pub in_order-joined : AreReportsInOrder (report_calls (joined_from f 0 n))
    in_order-joined = (in_order-from n 0 0 (omega arith) (omega arith)
        (λ j low below. absurd (omega arith))).in_order
