use Rattle.std.proofs.Common.{◌≡◌, ◌∙◌, ◌≤◌, ◌^◌, ℕ, Bool, List, ◌++◌}
use Rattle.std.proofs.Common.{ap, append_assoc, arith, false, refl, subst, sym, true}
use Rattle.grep_printer.proofs.ColorLemmas.{IsPainting, matched-beyond, matched-none, painting-done, painting-more}
use Rattle.grep_printer.proofs.PushLemmas.{pushed-last, pushed-two}
use Rattle.grep_printer.specs.ColorRuns.{after_run, run_text}
use Rattle.grep_printer.specs.ColoredTexts.{is_matched, painted_from, switch_text}
use Rattle.grep_replace.specs.MatchedParts.{AreInOrder}
use Rattle.grep_printer.proofs.colors.push_painted.Goals as goal
use Rattle.grep_printer.proofs.colors.push_painted.Goals.{in-Some+then-start-end, in_default}

pub loop-part-init : goal.loop-part-init
loop-part-init c =
    rw c.start-position.ensures.value (record {
      bytes = c.args.text.now.text;
      is = record {
        pushed = refl;
        starts = c.start-position.ensures.ordered;
        within = c.requires.within;
        ordered = c.requires.ordered;
      };
      before = refl;
      made = λ made. (made, refl);
    })

pub loop-part-preserved : goal.loop-part-preserved
loop-part-preserved c =
    let color : List ℕ = c.args.color.now in
    let back : List ℕ = c.args.back.now in
    let end : ℕ = c.args.range.now.1 in
    let gap : List ℕ = c.split_at.result.0.now in
    let found : List ℕ = c.split_at-in-Some.result.0.now in
    let before : Bool = c.loop-part.is_colored in
    let between = c.push_run-is_colored.ensures.after in
    let old = c.args.text.now in
    let whole : List ℕ = old.text
    ++ painted_from color back (is_matched c.args.parts.now end) false c.args.range.now.0 c.args.line.now in
    let first : List ℕ = run_text color back before false gap in
    let second : List ℕ = run_text color back (after_run before false gap) true found in
    let pushed = c.loop-part.invariant in
    rw (c.push_run-is_colored-in-Some.ensures.after ∙ ap (λ b. after_run b true found) between)
    (pushed-two old c.loop-part.text c.push_run-is_colored.new.text c.push_run-is_colored-in-Some.new.text
    (λ text. IsPainting color back end whole text c.loop-part.rest.now before c.loop-part.position c.loop-part.left.now)
    (λ text. IsPainting color back end whole text c.in-Some.later.now (after_run (after_run before false gap) true found)
    c.max-position.result c.split_at-in-Some.result.1.now)
    first second pushed c.push_run-is_colored.ensures.text
    (rw (sym between) c.push_run-is_colored-in-Some.ensures.text)
    (painting-more color back end whole pushed.bytes c.loop-part.rest.now before c.loop-part.position c.loop-part.left.now
    c.in-Some.part.now c.in-Some.later.now c.max-start.result c.max-position.result gap found
    c.split_at-in-Some.result.1.now ((pushed.bytes ++ first) ++ second)
    pushed.is c.in-Some.ensures.cases.0 (omega arith) (omega arith) (omega arith)
    (c.split_at.ensures.by_index.0 ∙ ap (λ (t : List ℕ). gap ++ t) c.split_at-in-Some.ensures.by_index.0)
    (omega arith) (omega arith) refl))

pub returns : goal.returns
returns c =
    let color : List ℕ = c.args.color.now in
    let back : List ℕ = c.args.back.now in
    let end : ℕ = c.args.range.now.1 in
    let pushed = c.loop-part.invariant in
    let old = c.args.text.now in
    let all : List ℕ = painted_from color back (is_matched c.args.parts.now end) false c.args.range.now.0 c.args.line.now in
    let before : Bool = c.loop-part.is_colored in
    let left : List ℕ = c.loop-part.left.now in
    let last : List ℕ = switch_text color back before false ++ left in
    let none : (k : ℕ) → c.loop-part.position ≤ k → is_matched c.loop-part.rest.now end k ≡ false =
    λ k from. elim c.match-split_first.branch [
      | in-Some+then-start-end w ↦
          let is = w.in-Some.ensures.cases.0 in
          let past : c.args.range.now.1 ≤ w.in-Some.part.now.0 = omega arith in
          subst (λ ps. is_matched ps end k ≡ false) (sym is)
          (matched-beyond w.in-Some.part.now w.in-Some.later.now (2 ^ 64) end k
          (subst (AreInOrder 0 (2 ^ 64)) is pushed.is.ordered) past)
      | in_default w ↦ matched-none c.loop-part.rest.now end k w.in_default.ensures.cases
    ] in
    pushed-last old c.loop-part.text c.push_rest.new.text
    (λ text. IsPainting color back end (old.text ++ all) text c.loop-part.rest.now before c.loop-part.position left)
    last all pushed c.push_rest.ensures
    (painting-done color back end (old.text ++ all) pushed.bytes c.loop-part.rest.now before c.loop-part.position
    left (pushed.bytes ++ last) pushed.is none (sym (append_assoc pushed.bytes (switch_text color back before false) left)))
