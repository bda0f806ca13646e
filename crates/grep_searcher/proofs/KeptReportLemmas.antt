-- What a sink that keeps each report makes of a run.
use Rattle.std.proofs.Common.{◌≡◌, true, List, [], ◌∷◌, ◌++◌, refl, sym, ap, subst, ◌∙◌}
use Rattle.std.proofs.Common.{append_assoc, inl, inr, Err}
use Rattle.std.proofs.lemmas.Bool.{false≢true}
use Rattle.std.proofs.lemmas.Grind.{flat_map-append}
use Rattle.std.proofs.lemmas.List.{append-nil}
use Rattle.grep_report.specs.SearchErrors.{IsOutOfMemory}
use Rattle.grep_report.specs.declared.sink_error.SearchError.{SearchError}
use Rattle.grep_definitions.specs.Plans.{AreMade, Call, Finish, finishes, IsFinished, Outcome}
use Rattle.grep_definitions.specs.Plans.{Planned, Settings}
use Rattle.grep_definitions.specs.SearchLaws.{calls_of, is_report}
use Rattle.grep_searcher.specs.KeptReports.{IsReportsStep, kept_lines, kept_reports, RunsKeep}
use Rattle.grep_searcher.specs.KeptReports.{RunsKeepUntil}
use Rattle.grep_searcher.specs.MatchHandlers.{KeptReport}
use Rattle.grep_searcher.specs.declared.sinks.kept_lines.ReportKind.{ReportKind}
use Rattle.grep_searcher.proofs.AppendedPartLemmas.{runs-append}

pub runs-keep : (A : Type 0) → RunsKeep A
runs-keep A settings old plan new run =
    let last = finishes plan.finish.count plan.finish.binary ∷ [] in
    runs-append {E = SearchError A} IsReportsStep _ (λ kept. kept) kept_lines (λ _ _ _ _ _ h. h)
    settings old plan new run
    ∙ ap (λ parts. old ++ parts) (flat_map-append kept_lines (calls_of plan.calls) last
    ∙ append-nil (kept_reports (calls_of plan.calls)))

-- the reports before one of these calls, at which there was no memory, were kept
record KeptUntil (A : Type 0) (old : List (ReportKind × KeptReport)) (calls : List Call)
    (e : SearchError A)
    (new : List (ReportKind × KeptReport)) : Type 0 where
  memory : IsOutOfMemory e
  before : List Call
  call : Call
  later : List Call
  all : calls ≡ before ++ call ∷ later
  report : is_report call ≡ true
  kept : new ≡ old ++ kept_reports before

module _ (A : Type 0) (settings : Settings) (finish : Finish) (e : SearchError A)
    (new : List (ReportKind × KeptReport)) where
  made-until : (calls : List Planned) (old : List (ReportKind × KeptReport))
      (outcome : Outcome (SearchError A))
      (mid : List (ReportKind × KeptReport)) → AreMade IsReportsStep settings old calls outcome mid
      → IsFinished IsReportsStep settings outcome mid finish (Err e) new
      → KeptUntil A old (calls_of calls) e new
  made-until [] old outcome mid (is, same) finished =
      absurd (false≢true (subst (λ o. IsFinished IsReportsStep settings o mid finish (Err e) new) is
      finished).0)
  made-until (planned ∷ later) old outcome mid (inl (between, made, rest)) finished =
      let more = made-until later between outcome mid rest finished in
      record {
        memory = more.memory;
        before = planned.call ∷ more.before;
        call = more.call;
        later = more.later;
        all = ap (λ calls. planned.call ∷ calls) more.all;
        report = more.report;
        kept = more.kept ∙ ap (λ kept. kept ++ kept_reports more.before) made.1
            ∙ append_assoc old (kept_lines planned.call) (kept_reports more.before);
      }
  made-until (planned ∷ later) old outcome mid (inr (inl (is, made))) finished =
      absurd (false≢true made.0)
  made-until (planned ∷ later) old outcome mid (inr (inr (e', is, made))) finished =
      let last = subst (λ o. IsFinished IsReportsStep settings o mid finish (Err e) new) is
      finished in
      let same : e' ≡ e = let err = last.0 in cc in
      record {
        memory = subst (λ x. IsOutOfMemory x) same made.1.0;
        before = [];
        call = planned.call;
        later = calls_of later;
        all = refl;
        report = made.0;
        kept = last.1 ∙ made.1.1 ∙ sym (append-nil old);
      }

pub runs-keep_until : (A : Type 0) → RunsKeepUntil A
runs-keep_until A settings old plan e new run =
    let at = made-until A settings plan.finish e new plan.calls old run.outcome run.mid run.made
    run.finished in
    (at.memory, at.before, at.call, at.later, at.all, at.report, at.kept)
