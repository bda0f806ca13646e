-- What the calls by line report, and where.
use Rattle.grep_definitions.specs.Plans.{selected_lines, planned, Planned, breaks, reported_bytes}
use Rattle.grep_definitions.specs.Plans.{Kind, matched, in_context, Settings, Selection}
use Rattle.grep_definitions.specs.Plans.{breaks_before, calls_at, count_at, kind, line}
use Rattle.grep_definitions.specs.Plans
use Rattle.std.proofs.Common.{◌≡◌, ℕ, Bool, true, false, List, [], ◌∷◌, All, Option, Some, None}
use Rattle.std.proofs.Common.{refl, ◌⊎◌, inl, inr, if◌then◌else◌}
use Rattle.std.proofs.lemmas.List.Elements.{All-nil, All-cons}
use Rattle.grep_matcher.specs.Meanings.{Meaning}
use Rattle.grep_definitions.proofs.LineSliceLemmas.{slice-line}

module _ (k : Settings) (meaning : Meaning) (bytes : List ℕ) where
  abbrev selection : Selection
  selection = selected_lines k meaning bytes

  -- what holds of a break, and of a report, whatever line it is of, holds of all calls of a line
  calls-of_line : (P : Planned → Type 0) (i : ℕ) → ((end : ℕ) → P (planned breaks end))
      → ((o : Option Kind) → All P (Plans.report k bytes selection i o))
      → All P (calls_at k bytes selection i)
  calls-of_line P i of_break of_report = go (breaks_before k bytes selection i)
    where
      report : List Planned
      report = Plans.report k bytes selection i (kind k bytes selection i)

      end : ℕ
      end = count_at k bytes selection i (kind k bytes selection i)

      go : (c : Bool) → All P (if c then planned breaks end ∷ report else report)
      go true = All-cons P (planned breaks end) report (of_break end)
          (of_report (kind k bytes selection i))
      go false = of_report (kind k bytes selection i)

  -- the calls of a line report its bytes, or none
  abbrev Reports : ℕ → Planned → Type 0
  Reports i call = (reported_bytes call.call ≡ []) ⊎ (reported_bytes call.call ≡ line k bytes i)

  pub reports-line : (i : ℕ) → All (Reports i) (calls_at k bytes selection i)
  reports-line i = calls-of_line (Reports i) i (λ end. inl refl) of_report
    where
      of_report : (o : Option Kind) → All (Reports i) (Plans.report k bytes selection i o)
      of_report None = All-nil (Reports i)
      of_report (Some matched) = All-cons (Reports i) _ [] (inr (slice-line k bytes i))
          (All-nil (Reports i))
      of_report (Some (in_context c)) = All-cons (Reports i) _ [] (inr refl) (All-nil (Reports i))
