use Rattle.std.proofs.Common.{◌∙◌, ◌∷◌, ◌++◌, [], ap, append_assoc, decimal, ℕ, List}
use Rattle.grep_printer.proofs.fields.push_counted.Goals as goal

pub returns : goal.returns
returns c = (
  c.push-2.ensures.0 ∙ (c.push_number.ensures.0 ∙ c.push.ensures.0),
  λ made.
      let third = c.push-2.ensures.1 made in
      let second = c.push_number.ensures.1 third.0 in
      let first = c.push.ensures.1 second.0 in
      let old : List ℕ = c.args.text.now.text in
      let start : List ℕ = c.args.before.now in
      let digits : List ℕ = decimal c.args.count in
      let last : List ℕ = c.args.after.now in (
        first.0,
        third.1 ∙ (ap (λ (t : List ℕ). t ++ last) (second.1 ∙ ap (λ (t : List ℕ). t ++ (digits ++ 32 ∷ [])) first.1)
            ∙ (append_assoc (old ++ start) (digits ++ 32 ∷ []) last
            ∙ (append_assoc old start ((digits ++ 32 ∷ []) ++ last)
            ∙ ap (λ (t : List ℕ). old ++ (start ++ t)) (append_assoc digits (32 ∷ []) last)))),
      ),
)
