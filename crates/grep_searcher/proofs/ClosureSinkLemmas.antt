-- Sinks that call a closure.
use Rattle.std.proofs.Common.{◌≡◌, ℕ, ◌+◌, Bool, true, false, List, [], ◌∷◌, ◌++◌, Some, None, sym}
use Rattle.std.proofs.Common.{ap, subst, ◌∙◌, inl, inr, append_assoc}
use Rattle.std.proofs.lemmas.List.{append-nil}
use Rattle.std.specs.Prelude.{Result, Ok, Err, map, if◌then◌else◌}
use Rattle.std.specs.Borrow.{Bor}
use Rattle.std.specs.IoError.{error_kind}
use Rattle.std.specs.declared.io.Error.{Error}
use Rattle.std.specs.declared.io.ErrorKind.TheVariants.{Other}
use Rattle.grep_definitions.specs.Plans.{line, start, Settings, Call, begins, matches, context}
use Rattle.grep_definitions.specs.Plans.{breaks, binary_data, finishes}
use Rattle.grep_definitions.specs.SearchLaws.{match_of, matched_lines}
use Rattle.grep_definitions.proofs.MatchCallLemmas.{matches-are_matched_lines}
use Rattle.grep_searcher.specs.SinkFolds.{AreTaken, IsTakenOk}
use Rattle.grep_searcher.proofs.SinkFoldLemmas.{runs-take_matches}
use Rattle.grep_matcher.specs.Meanings.{Meaning}
use Rattle.grep_searcher.specs.ClosureSinks.{IsClosureStep, IsCalledAt, ClosureSteps}
use Rattle.grep_searcher.specs.ClosureSinks.{ClosuresAreCalled, ClosuresFail, KeepsCalls}
use Rattle.grep_searcher.specs.ClosureSinks.{ClosuresKeep}
use Rattle.grep_report.specs.SinkReports.{no_surroundings}

module _ {F : Type 0} (call : F → ℕ → Bor (List ℕ) → Result Bool Error → F → Type 0)
    (is_text : List ℕ → Result (List ℕ) Error → Type 0) where
  -- a call that succeeds calls the closure at a match, and at no other call
  closure-takes : (old : F) (made : Call) (b : Bool) (new : F) → IsClosureStep call is_text old made
      (Ok b) new → IsTakenOk (IsCalledAt call is_text) old made b new
  closure-takes old begins b new (is, same) = (cc, same)
  closure-takes old (matches number offset bytes around) b new (inl (e, refused, is, same)) = absurd (cc)
  closure-takes old (matches None offset bytes around) b new (inr (text, texts, (e, other, is, same))) =
      absurd (cc)
  closure-takes old (matches (Some number) offset bytes around) b new (inr called) = called
  closure-takes old (context kind number offset bytes) b new (is, same) = (cc, same)
  closure-takes old breaks b new (is, same) = (cc, same)
  closure-takes old (binary_data offset) b new (is, same) = (cc, same)
  closure-takes old (finishes count binary) b new (is, same) = (cc, same)

  pub closures-are_called : {S : Type 0} (closure : S → F) → ClosuresAreCalled call is_text closure
  closures-are_called closure settings old plan new run = record {
    taken =
        runs-take_matches (ClosureSteps call is_text closure)
        settings plan.finish new closure (IsCalledAt call is_text)
        (λ from made b after h. closure-takes (closure from) made b (closure after) h) old
        plan.calls run;
  }

  pub closures-fail : {S : Type 0} (closure : S → F) → ClosuresFail call is_text closure
  closures-fail closure settings old begins e new (is, same) = absurd (cc)
  closures-fail closure settings old (matches number offset bytes around) e new
      (inl (refused, none, is, same)) =
      let made : refused ≡ e = cc in inl (subst (λ x. is_text bytes (Err x)) made none)
  closures-fail closure settings old (matches None offset bytes around) e new
      (inr (text, texts, (refused, other, is, same))) =
      let made : refused ≡ e = cc in inr (inl (subst (λ x. error_kind x ≡ Other) made other))
  closures-fail closure settings old (matches (Some number) offset bytes around) e new
      (inr (text, texts, (passed, same, called))) =
      inr (inr (number, passed, called))
  closures-fail closure settings old (context kind number offset bytes) e new (is, same) = absurd (cc)
  closures-fail closure settings old breaks e new (is, same) = absurd (cc)
  closures-fail closure settings old (binary_data offset) e new (is, same) = absurd (cc)
  closures-fail closure settings old (finishes count binary) e new (is, same) = absurd (cc)

-- What is kept of the calls, if each call that returns adds its number and its text.
module _ {F : Type 0} (call : F → ℕ → Bor (List ℕ) → Result Bool Error → F → Type 0)
    (is_text : List ℕ → Result (List ℕ) Error → Type 0) (text_of : List ℕ → List ℕ)
    (texts : (bytes text : List ℕ) → is_text bytes (Ok text) → text ≡ text_of bytes) where
  module _ (name : F → ℕ) (kept : F → List (ℕ × List ℕ)) (by : KeepsCalls call is_text name kept)
      (settings : Settings) (meaning : Meaning) (bytes : List ℕ) where
    kept-one : (i : ℕ) (old new : F) (b : Bool)
        → IsCalledAt call is_text old (match_of settings bytes i) b new
        → (b ≡ true) × (name new ≡ name old)
        × (kept new ≡ kept old ++ (i + 1, text_of (line settings bytes i)) ∷ [])
    kept-one i old new b = go settings.line_number
      where
        go : (has_numbers : Bool) → IsCalledAt call is_text old
            (matches (if has_numbers then Some (i + 1) else None) (start settings bytes i)
            (line settings bytes i) no_surroundings) b new
            → (b ≡ true) × (name new ≡ name old) × (kept new ≡ kept old
            ++ (i + 1, text_of (line settings bytes i)) ∷ [])
        go true (text, is, (passed, same, called)) =
            let here = by old (i + 1) passed b new called in
            let whole = same ∙ texts (line settings bytes i) text is in
            (here.0, here.1, here.2 ∙ ap (λ t. kept old ++ (i + 1, t) ∷ []) whole)
        go false never = absurd never

    kept-matches : (listed : List ℕ) (old new : F)
        → AreTaken (IsCalledAt call is_text) old (map (match_of settings bytes) listed) new
        → (name new ≡ name old)
        × (kept new ≡ kept old ++ map (λ i. (i + 1, text_of (line settings bytes i))) listed)
    kept-matches [] old new same = (ap name same, ap kept same ∙ sym (append-nil (kept old)))
    kept-matches (i ∷ later) old new (inl (mid, here, rest)) =
        let first = kept-one i old mid true here in
        let others = kept-matches later mid new rest in
        let more = map (λ i. (i + 1, text_of (line settings bytes i))) later in (
          others.0 ∙ first.1,
          others.1 ∙ ap (λ k. k ++ more) first.2
              ∙ append_assoc (kept old) ((i + 1, text_of (line settings bytes i)) ∷ []) more,
        )
    kept-matches (i ∷ later) old new (inr here) =
        absurd (let never = (kept-one i old new false here).0 in cc)

  pub closures-keep : {S : Type 0} (closure : S → F) → ClosuresKeep call is_text closure text_of
  closures-keep closure name kept by settings meaning bytes by_line plan same old new run =
      kept-matches name kept by settings meaning bytes (matched_lines settings meaning bytes)
      (closure old) (closure new)
      (subst (λ calls. AreTaken (IsCalledAt call is_text) (closure old) calls (closure new))
      (same ∙ matches-are_matched_lines settings meaning bytes by_line)
      (closures-are_called call is_text closure settings old plan new run).taken)
