-- What is printed of a plan that is `begin` and some matches, by rules under which a search goes on
-- after each match, or ends at the first.
use Rattle.std.proofs.Common.{◌≡◌, ◌∙◌, ℕ, suc, ◌+◌, Bool, true, false, List, [], ◌∷◌, ◌++◌}
use Rattle.std.proofs.Common.{Option, None, ap, append_assoc, arith, if◌then◌else◌, inl, inr, length, refl, subst}
use Rattle.std.proofs.Common.{sym, true≢false}
use Rattle.std.proofs.lemmas.List.{append-nil}
use Rattle.std.proofs.lemmas.List.Elements.{All-head, All-tail}
use Rattle.std.specs.List.{flat_map, fold}
use Rattle.std.specs.Prelude.{All, take}
use Rattle.grep_printer.specs.Formats.{AreAlong, IsEnd, Printed, PrintedCall, Rules, Scene, printed_by}
use Rattle.grep_printer.specs.Formats.{printed_with}
use Rattle.grep_searcher.specs.Plans.{Call, Finish, Plan, Planned, begins, finishes, planned}
use Rattle.grep_searcher.specs.SearchLaws.{calls_of, is_match}
use Rattle.linegrep_cli.proofs.MatchPlanLemmas.{IsMatch, IsMatchPlan}

module _ (calls : List Call) where
  -- the matches that are printed: all of them, if the search goes on after each, or the first
  abbrev pub printed_of : Bool → List Call
  printed_of on = if on then calls else take 1 calls

none-printed : (on : Bool) → printed_of [] on ≡ []
none-printed true = refl
none-printed false = refl

more-printed : (on : Bool) (call : Call) (later : List Call) → on ≡ true
    → printed_of (call ∷ later) on ≡ call ∷ printed_of later on
more-printed true call later is = refl
more-printed false call later is = absurd (true≢false (sym is))

one-printed : (on : Bool) (call : Call) (later : List Call) → on ≡ false
    → printed_of (call ∷ later) on ≡ call ∷ []
one-printed true call later is = absurd (true≢false is)
one-printed false call later is = refl

module _ {F : Type 0} (rules : Rules F) (scene : Scene) (HasParts : F → PrintedCall → Type 0)
    (Good : ℕ → F → Type 0) (text-of : Call → List ℕ) where
  -- a call has a text, and the search goes on after it, or doesn't
  pub record IsStep (on : Bool) (count : ℕ) (format : F) (printed : PrintedCall) (text : List ℕ)
      : Type 0 where
    pub goes : rules.goes_on format scene printed ≡ on
    pub good : Good count (rules.next format scene printed)
    pub text_is : rules.text format scene printed ≡ text

  -- after so many matches each match has the text of its call
  pub record AreSteps (on : Bool) : Type 0 where
    pub begin : (format : F) (printed : PrintedCall) → Good 0 format → printed.call ≡ begins
        → IsStep true 0 format printed []
    pub match : (count : ℕ) (format : F) (printed : PrintedCall) → Good count format
        → HasParts format printed → is_match printed.call ≡ true
        → IsStep on (suc count) format printed (text-of printed.call)

  -- what is made of some matches: their texts, and that of `finish`, after so many matches
  pub record IsMade (old : Printed F) (count : ℕ) (calls : List Call) (made : Printed F) : Type 0
    where
      pub before : F
      pub good : Good (count + length calls) before
      pub last : PrintedCall
      pub bytes : ℕ
      pub last_is : last.call ≡ finishes bytes None
      pub text_is : made.text
          ≡ (old.text ++ flat_map text-of calls) ++ rules.text before scene last
      pub format_is : made.format ≡ rules.next before scene last

  made-more : (old mid made : Printed F) (count : ℕ) (call : Call) (calls : List Call)
      → mid.text ≡ old.text ++ text-of call → IsMade mid (suc count) calls made
      → IsMade old count (call ∷ calls) made
  made-more old mid made count call calls first rest =
      let sum : suc count + length calls ≡ count + suc (length calls) = omega arith in record {
        before = rest.before;
        good = subst (λ n. Good n rest.before) sum rest.good;
        last = rest.last;
        bytes = rest.bytes;
        last_is = rest.last_is;
        text_is = rest.text_is
            ∙ ap (λ (t : List ℕ). t ++ rules.text rest.before scene rest.last)
            (ap (λ (t : List ℕ). t ++ flat_map text-of calls) first
            ∙ append_assoc old.text (text-of call) (flat_map text-of calls));
        format_is = rest.format_is;
      }

  -- the search ends after so many matches
  made-end : (old : Printed F) (count : ℕ) (finish : Finish) (calls : List PrintedCall)
      → Good count old.format → finish.binary ≡ None
      → IsEnd rules scene HasParts old.format finish calls
      → IsMade old count [] (fold (printed_with rules scene) old calls)
  made-end old count finish calls good none (last, alone, is, parts) =
      let sum : count ≡ count + 0 = omega arith in
      subst (λ ps. IsMade old count [] (fold (printed_with rules scene) old ps)) (sym alone) (record {
        before = old.format;
        good = subst (λ n. Good n old.format) sum good;
        last = last;
        bytes = finish.count;
        last_is = is ∙ ap (λ (b : Option ℕ). finishes finish.count b) none;
        text_is = ap (λ (t : List ℕ). t ++ rules.text old.format scene last)
            (sym (append-nil old.text));
        format_is = refl;
      })

  module _ (on : Bool) (steps : AreSteps on) (finish : Finish) (none : finish.binary ≡ None) where
    walk : (later : List Planned) (old : Printed F) (count : ℕ) (calls : List PrintedCall)
        → All IsMatch later → Good count old.format
        → AreAlong rules scene HasParts old.format later finish calls
        → IsMade old count (printed_of (calls_of later) on) (fold (printed_with rules scene) old calls)
    walk [] old count calls all good ends =
        subst (λ cs. IsMade old count cs (fold (printed_with rules scene) old calls))
        (sym (none-printed on)) (made-end old count finish calls good none ends)
    walk (one ∷ later) old count calls all good (first, rest, split, is, parts, goes) =
        let mid = printed_with rules scene old first in
        let (matches, unseen) = All-head IsMatch one later all in
        let step = steps.match count old.format first good parts (ap is_match is ∙ matches) in
        let text = ap (λ (t : List ℕ). old.text ++ t) (step.text_is ∙ ap text-of is) in
        subst (λ ps. IsMade old count (printed_of (one.call ∷ calls_of later) on)
        (fold (printed_with rules scene) old ps)) (sym split) (elim goes [
          | inl (goes_on, others) ↦
              subst (λ cs. IsMade old count cs (fold (printed_with rules scene) mid rest))
              (sym (more-printed on one.call (calls_of later) (sym step.goes ∙ goes_on)))
              (made-more old mid (fold (printed_with rules scene) mid rest) count one.call
              (printed_of (calls_of later) on) text
              (walk later mid (suc count) rest (All-tail IsMatch one later all) step.good others))
          | inr (ends, end) ↦
              subst (λ cs. IsMade old count cs (fold (printed_with rules scene) mid rest))
              (sym (one-printed on one.call (calls_of later) (sym step.goes ∙ ends)))
              (made-more old mid (fold (printed_with rules scene) mid rest) count one.call [] text
              (made-end mid (suc count) one.if_false rest step.good unseen end))
        ])

    walk-begun : (later : List Planned) (format : F) (calls : List PrintedCall)
        → All IsMatch later → Good 0 format
        → AreAlong rules scene HasParts format (planned begins 0 ∷ later) finish calls
        → IsMade (record { format = format; text = [] }) 0 (printed_of (calls_of later) on)
        (printed_by rules scene format calls)
    walk-begun later format calls all good (first, rest, split, is, parts, inl (goes, others)) =
        let start : Printed F = record { format = format; text = [] } in
        let mid = printed_with rules scene start first in
        let step = steps.begin format first good is in
        let made = walk later mid 0 rest all step.good others in
        subst (λ ps. IsMade start 0 (printed_of (calls_of later) on)
        (fold (printed_with rules scene) start ps)) (sym split) (record {
          before = made.before;
          good = made.good;
          last = made.last;
          bytes = made.bytes;
          last_is = made.last_is;
          text_is = made.text_is
              ∙ ap (λ (t : List ℕ). (t ++ flat_map text-of (printed_of (calls_of later) on))
              ++ rules.text made.before scene made.last) step.text_is;
          format_is = made.format_is;
        })
    walk-begun later format calls all good (first, rest, split, is, parts, inr (off, others)) =
        absurd (true≢false (sym (steps.begin format first good is).goes ∙ off))

  -- so it is for such a plan
  pub match-walk : (on : Bool) → AreSteps on → (plan : Plan) (found : List Call) (format : F)
      (calls : List PrintedCall) → IsMatchPlan plan found → Good 0 format
      → AreAlong rules scene HasParts format plan.calls plan.finish calls
      → IsMade (record { format = format; text = [] }) 0 (printed_of found on)
      (printed_by rules scene format calls)
  match-walk on steps plan found format calls is good along =
      subst (λ cs. IsMade (record { format = format; text = [] }) 0 (printed_of cs on)
      (printed_by rules scene format calls)) is.found_is
      (walk-begun on steps plan.finish is.binary is.later format calls is.matched good
      (subst (λ ps. AreAlong rules scene HasParts format ps plan.finish calls) is.calls along))
