-- The arguments of some lines of a file of options, with one line more.
use Rattle.std.proofs.Common.{◌≡◌, ◌∙◌, ℕ, List, [], ◌∷◌, ◌++◌, ap, filter, map}
use Rattle.std.specs.Borrow.{Bor}
use Rattle.std.proofs.lemmas.List.{map-append}
use Rattle.std.proofs.lemmas.List.Elements.{filter-append}
use Rattle.linegrep_cli.specs.ConfigWords.{is_argument, trimmed}

pub lines-more : (lines : List (Bor (List ℕ))) (line : Bor (List ℕ))
    → filter is_argument (map trimmed (map (λ x. x.now) (lines ++ line ∷ [])))
    ≡ filter is_argument (map trimmed (map (λ x. x.now) lines))
    ++ filter is_argument (trimmed line.now ∷ [])
lines-more lines line =
    ap (λ l. filter is_argument (map trimmed l)) (map-append (λ x. x.now) lines (line ∷ []))
    ∙ ap (filter is_argument) (map-append trimmed (map (λ x. x.now) lines) (line.now ∷ []))
    ∙ filter-append is_argument (map trimmed (map (λ x. x.now) lines)) (trimmed line.now ∷ [])
