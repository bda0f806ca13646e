-- What a sink that keeps each report makes of a call, and of a run.
use Rattle.std.specs.Prelude.{◌≡◌, true, List, [], ◌∷◌, ◌++◌, Ok, Err}
use Rattle.std.specs.List.{flat_map}
use Rattle.grep_report.specs.SearchErrors.{IsOutOfMemory}
use Rattle.grep_report.specs.declared.sink_error.SearchError.{SearchError}
use Rattle.grep_definitions.specs.Plans.{Call, matches, context, Plan, Steps, IsRun, Settings}
use Rattle.grep_definitions.specs.SearchLaws.{calls_of, is_report}
use Rattle.grep_searcher.specs.MatchHandlers.{KeptReport, kept_of, LacksMemory}
use Rattle.grep_searcher.specs.declared.sinks.kept_lines.ReportKind.{ReportKind}
use Rattle.grep_searcher.specs.declared.sinks.kept_lines.ReportKind.TheVariants.{Match, Context}

-- what is kept of a report, after its kind; nothing is kept of any other call
abbrev pub kept_lines : Call → List (ReportKind × KeptReport)
kept_lines (matches number offset bytes around) =
    (Match, kept_of (matches number offset bytes around)) ∷ []
kept_lines (context kind number offset bytes) =
    (Context kind, kept_of (context kind number offset bytes)) ∷ []
kept_lines _ = []

-- what is kept of some calls
abbrev pub kept_reports : List Call → List (ReportKind × KeptReport)
kept_reports calls = flat_map kept_lines calls

-- each report is kept, and each call goes on; the only error is that there was no memory for a
-- report, and what was kept stays
abbrev pub IsReportsStep : {A : Type 0} → Steps (List (ReportKind × KeptReport)) (SearchError A)
IsReportsStep old settings call (Ok b) new = (b ≡ true) × (new ≡ old ++ kept_lines call)
IsReportsStep old settings call (Err e) new = (is_report call ≡ true) × LacksMemory old call e new

-- a run that ended in `Ok` keeps the reports of the plan
abbrev pub RunsKeep : Type 0 → Type 0
RunsKeep A =
    (settings : Settings) (old : List (ReportKind × KeptReport)) (plan : Plan)
    (new : List (ReportKind × KeptReport))
    → IsRun {E = SearchError A} IsReportsStep settings old plan (Ok tt) new
    → new ≡ old ++ kept_reports (calls_of plan.calls)

-- one that ended in an error keeps those before the report for which there was no memory
abbrev pub RunsKeepUntil : Type 0 → Type 0
RunsKeepUntil A =
    (settings : Settings) (old : List (ReportKind × KeptReport)) (plan : Plan) (e : SearchError A)
    (new : List (ReportKind × KeptReport))
    → IsRun IsReportsStep settings old plan (Err e) new
    → IsOutOfMemory e × (before : List Call) × (call : Call) × (later : List Call)
    × (calls_of plan.calls ≡ before ++ call ∷ later) × (is_report call ≡ true)
    × (new ≡ old ++ kept_reports before)
