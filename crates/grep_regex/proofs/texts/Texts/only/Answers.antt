use Rattle.std.proofs.Common.{◌≡◌, ◌∙◌, List, ℕ, [], ◌∷◌, ap, arith, length, string_bytes, sym}
use Rattle.grep_regex.proofs.TextsLemmas.{texts-count, texts-only}
use Rattle.grep_regex.proofs.texts.Texts.only.Goals as goal

pub returns-then-len-eq1 : goal.returns-then-len-eq1
returns-then-len-eq1 c =
    let lens = c.self.inside.lens in
    let bytes = string_bytes c.self.inside.joined in
    let one : length lens.items ≡ 1 = omega (arith, lens.ok.0, c.len.ensures, c.if-len-eq1.true) in
    sym c.self.view_is ∙ (texts-only lens.items bytes c.self.invariant one
    ∙ ap (λ (text : List ℕ). text ∷ []) (sym c.as_str.ensures.value))

pub returns-else-len-eq1 : goal.returns-else-len-eq1
returns-else-len-eq1 c one =
    let lens = c.self.inside.lens in
    let count = ap length c.self.view_is in
    c.if-len-eq1.false (omega (
      arith,
      lens.ok.0,
      c.len.ensures,
      one,
      count,
      texts-count lens.items (string_bytes c.self.inside.joined),
    ))
