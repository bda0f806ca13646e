use Rattle.std.proofs.Common.{◌≡◌, ◌∙◌, ℕ, ◌+◌, ◌<◌, List, [], ◌∷◌, Some, add-one, ap, arith}
use Rattle.std.proofs.Common.{get_or, length, sym, take, Option}
use Rattle.std.proofs.Math.Seq.{take-length, take-suc}
use Rattle.std.proofs.lemmas.List.Sums.{fold-append}
use Rattle.std.specs.Borrow.{Bor}
use Rattle.std.specs.List.{fold}
use Rattle.linegrep_cli.specs.ColorLooks.{first_looks}
use Rattle.linegrep_cli.specs.ColorOptions.{looks_then}
use Rattle.linegrep_cli.specs.declared.looks.Looks.{Looks}
use Rattle.linegrep_cli.proofs.color_options.looks.Goals as goal

-- one step more
fold-next : {A B : Type 0} (f : B → A → B) (b : B) (xs : List A) (i : ℕ) (d : A) → i < length xs
    → fold f b (take (i + 1) xs) ≡ f (fold f b (take i xs)) (get_or xs i d)
fold-next f b xs i d within = ap (λ n. fold f b (take n xs)) (add-one i)
    ∙ (ap (fold f b) (take-suc xs i d within) ∙ fold-append f b (take i xs) (get_or xs i d ∷ []))

-- one more change
looks-next : (texts : List (Bor (List ℕ))) (looks next : Option Looks) (i : ℕ) (d : Bor (List ℕ))
    → i < length texts
    → looks ≡ fold looks_then (Some first_looks) (take i texts) → next ≡ looks_then looks
    (get_or texts i d)
    → next ≡ fold looks_then (Some first_looks) (take (i + 1) texts)
looks-next texts looks next i d within before is =
    is ∙ (ap (λ looks. looks_then looks (get_or texts i d)) before
    ∙ sym (fold-next looks_then (Some first_looks) texts i d within))

pub loop-text-preserved : goal.loop-text-preserved
loop-text-preserved c = looks-next c.args.texts.now c.loop-text.looks c.in_ok-looks.looks c.loop-text.text-index _
    c.loop-text-test.true c.loop-text.invariant c.in_ok-looks.ensures

pub returns : goal.returns
returns c =
    let texts = c.args.texts.now in
    let within = c.loop-text.auto.text-index-end in
    let past = c.loop-text-test.false in
    let all : c.loop-text.text-index ≡ length texts = omega (arith, within, past) in
    c.loop-text.invariant ∙ (ap (λ n. fold looks_then (Some first_looks) (take n texts)) all
    ∙ ap (fold looks_then (Some first_looks)) (take-length texts))
