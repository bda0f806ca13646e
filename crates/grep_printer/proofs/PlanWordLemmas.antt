-- What the calls of a plan report are numbers of 64 bits and bytes, if the searched bytes are so few.
use Rattle.std.proofs.Common.{◌∙◌, ℕ, zero, suc, ◌+◌, ◌-◌, ◌<◌, ◌≤◌, ◌^◌, ◌==◌, List, [], ◌∷◌}
use Rattle.std.proofs.Common.{Bool, true, false, Option, None, Some, arith, count_by}
use Rattle.std.proofs.Common.{drop, inl, inr, length, length-drop, subst, sym, take}
use Rattle.std.proofs.lemmas.Bool.{cases_lt}
use Rattle.std.proofs.lemmas.List.{get_or-drop, get_or-take, get_or_past, length-take}
use Rattle.std.proofs.lemmas.List.Elements.{All-append, All-cons, All-drop, All-map, All-nil, All-take}
use Rattle.std.proofs.lemmas.List.Sums.{count_by-le-length}
use Rattle.std.specs.Option.{IfSome}
use Rattle.std.specs.Prelude.{All, ◌&&◌, ◌++◌, if◌then◌else◌, map, nat_lt, slice_range}
use Rattle.base64.specs.GeneralPurpose.{IsBytes}
use Rattle.grep_lines.proofs.LineStepLemmas.{IsStep-line}
use Rattle.grep_matcher.proofs.LineStartLemmas.{line_start-within}
use Rattle.grep_matcher.specs.Lines.{byte_of, lines}
use Rattle.grep_searcher.specs.Plans.{Kind, Plan, Planned, Selection, Settings, begins, breaks, breaks_before}
use Rattle.grep_searcher.specs.Plans.{calls_at, count_at, counted, in_context, is_across, joined_from, kind, line}
use Rattle.grep_searcher.specs.Plans.{matched, matches, number, planned, report, report_end, reports_plan}
use Rattle.grep_searcher.specs.Plans.{search_plan, selection_in, start}
use Rattle.grep_searcher.specs.Searches.{BinaryPoint, calls_with, plan_with, planned_binary, quits, with_offset}
use Rattle.grep_searcher.specs.declared.BinaryDetection.{BinaryDetection}
use Rattle.grep_printer.specs.SearchMessages.{HasWords, PlansHaveWords}
use Rattle.grep_searcher.specs.Plans.{report_surroundings}

-- a part of some bytes
slice-bytes : (bytes : List ℕ) (from to : ℕ) → IsBytes bytes → IsBytes (slice_range bytes from to)
slice-bytes bytes from to are i = elim (cases_lt i (to - from)) [
  | inl below ↦
      subst (λ b. b < 256) (sym (get_or-take (to - from) (drop from bytes) i 0 below ∙ get_or-drop from bytes i 0))
      (are (from + i))
  | inr past ↦
      let size = length-take (to - from) (drop from bytes) in
      let none = get_or_past (take (to - from) (drop from bytes)) i 0 (omega (arith, size, past)) in
      subst (λ b. b < 256) (sym none) (omega arith)
]

slice-short : (bytes : List ℕ) (from to : ℕ) → length (slice_range bytes from to) ≤ length bytes
slice-short bytes from to = omega (arith, length-take (to - from) (drop from bytes), length-drop from bytes)

-- what holds of all that is joined
All-joined : {X : Type 0} (P : X → Type 0) (f : ℕ → List X) → ((i : ℕ) → All P (f i)) → (n i : ℕ)
    → All P (joined_from f i n)
All-joined P f each zero i = All-nil P
All-joined P f each (suc n) i = All-append P (f i) (joined_from f (i + 1) n) (each i) (All-joined P f each n (i + 1))

module _ (settings : Settings) (bytes : List ℕ) (are : IsBytes bytes) (short : length bytes < 2 ^ 64 - 1) where
  abbrev Has : Planned → Type 0
  Has call = HasWords call.call

  -- a call without a report
  empty-words : (count : ℕ) → Has (planned breaks count)
  empty-words count =
      record { number = tt; offset = omega arith; size = omega arith; bytes = λ i. omega arith }

  number-word : (i : ℕ) → IfSome (number settings bytes i) (λ n. n < 2 ^ 64)
  number-word i = go settings.line_number
    where
      go : (numbered : Bool) → IfSome (if numbered
          then Some (count_by (λ b. b == byte_of settings.line_terminator) (take (start settings bytes i) bytes) + 1)
          else None) (λ n. n < 2 ^ 64)
      go true =
          let front = take (start settings bytes i) bytes in
          let few = count_by-le-length (λ b. b == byte_of settings.line_terminator) front in
          omega (arith, few, length-take (start settings bytes i) bytes, short)
      go false = tt

  start-word : (i : ℕ) → start settings bytes i < 2 ^ 64
  start-word i = omega (arith, line_start-within (byte_of settings.line_terminator) bytes i, short)

  line-words : (i : ℕ) → (length (line settings bytes i) < 2 ^ 64) × IsBytes (line settings bytes i)
  line-words i =
      let t = byte_of settings.line_terminator in
      let all : List (List ℕ) = lines t bytes in
      elim (cases_lt i (length all)) [
        | inl inside ↦
            let from = start settings bytes i in
            let to = start settings bytes (i + 1) in
            subst (λ bs. (length bs < 2 ^ 64) × IsBytes bs) (sym (IsStep-line t bytes i inside).line)
            (omega (arith, slice-short bytes from to, short), slice-bytes bytes from to are)
        | inr past ↦
            subst (λ bs. (length bs < 2 ^ 64) × IsBytes bs) (sym (get_or_past all i [] past))
            (omega arith, λ k. omega arith)
      ]

  module _ (selection : Selection) where
    match-words : (i count : ℕ) → Has (planned (matches (number settings bytes i) (start settings bytes i)
        (slice_range bytes (start settings bytes i)
        (start settings bytes (report_end settings bytes selection i)))
        (report_surroundings settings bytes selection i)) count)
    match-words i count =
        let from = start settings bytes i in
        let to = start settings bytes (report_end settings bytes selection i) in record {
          number = number-word i;
          offset = start-word i;
          size = omega (arith, slice-short bytes from to, short);
          bytes = slice-bytes bytes from to are;
        }

    report-words : (i : ℕ) (how : Option Kind) → All Has (report settings bytes selection i how)
    report-words i None = All-nil Has
    report-words i (Some matched) = go (selection.joined && nat_lt 0 i && selection.selected (i - 1))
      where
        go : (later : Bool) → All Has (if later then [] else planned
            (matches (number settings bytes i) (start settings bytes i) (slice_range bytes (start settings bytes i)
            (start settings bytes (report_end settings bytes selection i)))
            (report_surroundings settings bytes selection i))
            (count_at settings bytes selection i (Some matched)) ∷ [])
        go true = All-nil Has
        go false = All-cons Has _ [] (match-words i (count_at settings bytes selection i (Some matched))) (All-nil Has)
    report-words i (Some (in_context c)) =
        let part = line-words i in
        All-cons Has _ [] (record {
          number = number-word i;
          offset = start-word i;
          size = part.0;
          bytes = part.1;
        }) (All-nil Has)

    calls-words : (i : ℕ) → All Has (calls_at settings bytes selection i)
    calls-words i = go (breaks_before settings bytes selection i)
      where
        go : (broken : Bool) → All Has (if broken
            then planned breaks (count_at settings bytes selection i (kind settings bytes selection i))
            ∷ report settings bytes selection i (kind settings bytes selection i)
            else report settings bytes selection i (kind settings bytes selection i))
        go true =
            All-cons Has (planned breaks (count_at settings bytes selection i (kind settings bytes selection i)))
            (report settings bytes selection i (kind settings bytes selection i))
            (empty-words (count_at settings bytes selection i (kind settings bytes selection i)))
            (report-words i (kind settings bytes selection i))
        go false = report-words i (kind settings bytes selection i)

    plan-words : All Has (reports_plan settings bytes selection).calls
    plan-words = All-cons Has (planned begins 0) _
        (record { number = tt; offset = omega arith; size = omega arith; bytes = λ i. omega arith })
        (All-joined Has (calls_at settings bytes selection) calls-words selection.end 0)

-- a call has such numbers and bytes whatever `finish` has after it
abbrev Has-words : Planned → Type 0
Has-words call = HasWords call.call

-- so do the calls of a plan with `binary_data`
with-words : (detection : BinaryDetection) (point : Option BinaryPoint) (plan : Plan) → All Has-words plan.calls
    → All Has-words (plan_with detection point plan).calls
with-words detection None plan words = words
with-words detection (Some point) plan words = go (quits detection)
  where
    first : All Has-words (take point.position plan.calls)
    first = All-take Has-words point.position plan.calls words

    here : Has-words (planned_binary point)
    here = record { number = tt; offset = omega arith; size = omega arith; bytes = λ i. omega arith }

    later : (planned : Planned) → Planned
    later call = record call { if_false = with_offset point.offset call.if_false }

    ended : Plan
    ended = record {
      calls = take point.position plan.calls ++ planned_binary point ∷ [];
      finish = with_offset point.offset (counted point.count);
    }

    longer : Plan
    longer = record {
      calls = calls_with (Some point) plan.calls;
      finish = with_offset point.offset plan.finish;
    }

    chosen : Bool → Plan
    chosen ends = if ends then ended else longer

    go : (ends : Bool) → All Has-words (chosen ends).calls
    go true = All-append Has-words (take point.position plan.calls) (planned_binary point ∷ []) first
        (All-cons Has-words (planned_binary point) [] here (All-nil Has-words))
    go false = All-append Has-words (take point.position plan.calls)
        (planned_binary point ∷ map later (drop point.position plan.calls)) first
        (All-cons Has-words (planned_binary point) (map later (drop point.position plan.calls)) here
        (All-map Has-words later (drop point.position plan.calls)
        (All-drop Has-words point.position plan.calls words)))

pub plans-have-words : PlansHaveWords
plans-have-words settings meaning bytes detection point are short =
    All-map HasWords (λ call. call.call) (plan_with detection point (search_plan settings meaning bytes)).calls
    (with-words detection point (search_plan settings meaning bytes)
    (plan-words settings bytes are short (selection_in settings meaning bytes (is_across settings meaning))))
