-- Texts that stand one after another.
use Rattle.std.proofs.Common.{◌≡◌, ℕ, ◌+◌, ◌<◌, ◌≤◌, List, [], ◌∷◌, ◌++◌, length, map, take, drop, get_or, Bor}
use Rattle.std.proofs.Common.{refl, suc, sym, ap, ap₂, ◌∙◌, arith, length-append}
use Rattle.std.proofs.lemmas.List.{take-append-le, drop-append-le, length-drop, take_more, map-append}
use Rattle.std.proofs.lemmas.List.Sums.{sum_by-cons, sum_by_push}
use Rattle.std.proofs.Math.Seq.{take-length}
use Rattle.std.specs.List.{sum}
use Rattle.grep_regex.specs.Texts.{texts_of}

-- one more text at the end
pub texts-more : (lens bytes text : List ℕ) → sum lens ≡ length bytes →
    texts_of (bytes ++ text) (lens ++ length text ∷ []) ≡ texts_of bytes lens ++ text ∷ []
texts-more [] [] text is = ap (λ t. t ∷ []) (take-length text)
texts-more [] (b ∷ bytes) text is = absurd (omega (arith, is))
texts-more (n ∷ lens) bytes text is =
    let inside : n ≤ length bytes = omega (arith, is, sum_by-cons (λ x. x) n lens) in
    let others : sum lens ≡ length (drop n bytes) =
    rw (length-drop n bytes) (omega (arith, is, sum_by-cons (λ x. x) n lens)) in
    ap₂ (λ first rest. first ∷ rest) (take-append-le n bytes text inside)
    (ap (λ rest. texts_of rest (lens ++ length text ∷ [])) (drop-append-le n bytes text inside)
    ∙ texts-more lens (drop n bytes) text others)

-- the lengths still add up, and there is one more text
module _ (texts : List (Bor (List ℕ))) (i : ℕ) (d : Bor (List ℕ)) (lens more bytes after : List ℕ) where
  abbrev text : List ℕ
  text = (get_or texts i d).now

  pub sums-kept : sum lens ≡ length bytes → after ≡ bytes ++ text → more ≡ lens ++ length text ∷ [] →
      sum more ≡ length after
  sums-kept whole joined longer = ap sum longer ∙ (sum_by_push (λ x. x) lens (length text)
      ∙ (ap (λ n. n + length text) whole ∙ (sym (length-append bytes text) ∙ sym (ap length joined))))

  pub texts-kept : i < length texts → sum lens ≡ length bytes → after ≡ bytes ++ text →
      more ≡ lens ++ length text ∷ [] →
      texts_of bytes lens ≡ map (λ t. t.now) (take i texts) →
      texts_of after more ≡ map (λ t. t.now) (take (i + 1) texts)
  texts-kept inside whole joined longer same =
      ap₂ texts_of joined longer ∙ (texts-more lens bytes text whole
      ∙ (ap (λ front. front ++ text ∷ []) same
      ∙ sym (ap (map (λ (t : Bor (List ℕ)). t.now)) (take_more texts i d inside)
      ∙ map-append (λ (t : Bor (List ℕ)). t.now) (take i texts) (get_or texts i d ∷ []))))

-- there is a text for each length
pub texts-count : (lens bytes : List ℕ) → length (texts_of bytes lens) ≡ length lens
texts-count [] bytes = refl
texts-count (n ∷ lens) bytes = ap suc (texts-count lens (drop n bytes))

-- one alone is all that is kept
pub texts-only : (lens bytes : List ℕ) → sum lens ≡ length bytes → length lens ≡ 1
    → texts_of bytes lens ≡ bytes ∷ []
texts-only [] bytes whole one = absurd (omega (arith, one))
texts-only (n ∷ []) bytes whole one =
    let all : n ≡ length bytes = omega (arith, whole, sum_by-cons (λ x. x) n []) in
    ap (λ t. t ∷ []) (ap (λ k. take k bytes) all ∙ take-length bytes)
texts-only (n ∷ (m ∷ lens)) bytes whole one = absurd (omega (arith, one))
