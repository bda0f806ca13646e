-- Texts that are made of others, one after another.
use Rattle.std.proofs.Common.{◌≡◌, ◌+◌, ◌++◌, ℕ, List, ap, append_assoc, arith, flat_map, map, sym, ◌∙◌}
use Rattle.std.specs.List.{range_with_len}
use Rattle.std.proofs.lemmas.List.{flat_map_more}
use Rattle.std.proofs.lemmas.List.FromFn.{map-range_with_len_more}

-- two texts after another
pub two-texts : (old mid new x y : List ℕ) → mid ≡ old ++ x → new ≡ mid ++ y → new ≡ old ++ (x ++ y)
two-texts old mid new x y first second = rw (second, first, append_assoc)

-- six texts, of which the first begins
pub six-texts : (t₁ t₂ t₃ t₄ t₅ t₆ a b c d e f : List ℕ) → t₁ ≡ a → t₂ ≡ t₁ ++ b → t₃ ≡ t₂ ++ c
    → t₄ ≡ t₃ ++ d → t₅ ≡ t₄ ++ e → t₆ ≡ t₅ ++ f → t₆ ≡ a ++ (b ++ (c ++ (d ++ (e ++ f))))
six-texts t₁ t₂ t₃ t₄ t₅ t₆ a b c d e f first second third fourth fifth sixth =
    let last = two-texts t₄ t₅ t₆ e f fifth sixth in
    let later = two-texts t₃ t₄ t₆ d (e ++ f) fourth last in
    let mid = two-texts t₂ t₃ t₆ c (d ++ (e ++ f)) third later in
    rw first at (two-texts t₁ t₂ t₆ b (c ++ (d ++ (e ++ f))) second mid)

-- what is made of one more element of a list of numbers
pub one-more : {X : Type 0} (f : X → List ℕ) (g : ℕ → X) (n : ℕ) (old mid new : List ℕ)
    → mid ≡ old ++ flat_map f (map g (range_with_len 0 n)) → new ≡ mid ++ f (g n)
    → new ≡ old ++ flat_map f (map g (range_with_len 0 (n + 1)))
one-more f g n old mid new first second =
    rw (second, first) (flat_map_more f old (map g (range_with_len 0 n)) (g n)
    ∙ ap (λ all. old ++ flat_map f all) (sym (map-range_with_len_more g 0 n n (omega arith))))
