use Rattle.std.proofs.Common.{◌≡◌, ◌↔◌, ◌++◌, ◌∙◌, ℕ, Bool, IfOk, IsTrue, List, Ok, Err, Result, ap, subst, sym}
use Rattle.std.proofs.lemmas.Bool.{false≢true}
use Rattle.std.proofs.lemmas.Bool.Decides.{Decides-eqb}
use Rattle.std.proofs.lemmas.Slice.Eq.{strip_suffix_is}
use Rattle.grep_ignore.specs.Matches.{Matches}
use Rattle.grep_ignore.specs.Tails.{byte_pieces}
use Rattle.grep_ignore.specs.declared.wildcards.Piece.{Piece}
use Rattle.grep_ignore.proofs.ByteLemmas.{front-matches, split-matches}
use Rattle.grep_ignore.proofs.wildcards.Wildcards.is_match.Goals as goal

-- what is said of a path by its front
by-front : {E : Type 0} (all pieces : List Piece) (tail path front : List ℕ) (result : Result Bool E)
    → pieces ++ byte_pieces tail ≡ all → path ≡ front ++ tail
    → IfOk result (λ matches. IsTrue matches ↔ Matches pieces front)
    → IfOk result (λ matches. IsTrue matches ↔ Matches all path)
by-front all pieces tail path front (Ok matches) is cut said =
    let same = front-matches pieces tail path front cut in
    subst (λ p. IsTrue matches ↔ Matches p path) is
    ((λ yes. same.1 (said.0 yes)), (λ there. said.1 (same.0 there)))
by-front all pieces tail path front (Err error) is cut said = tt

pub returns-in-Some : goal.returns-in-Some
returns-in-Some c =
    let cut = rw c.in-Some.is at (strip_suffix_is Decides-eqb c.args.path.now c.as_slice.result.now
    c.strip_suffix.result c.strip_suffix.ensures.cases) in
    by-front c.args.self.now c.self.inside.pieces.items c.self.inside.tail.items c.args.path.now
    c.in-Some.front.now _ c.self.view_is
    (cut ∙ ap (λ l. c.in-Some.front.now ++ l) c.as_slice.ensures.value)
    (rw c.as_slice-in-Some.ensures.value at c.match_front.ensures)

pub returns-in-None : goal.returns-in-None
returns-in-None c =
    let none = rw c.in-None.is at (strip_suffix_is Decides-eqb c.args.path.now c.as_slice.result.now
    c.strip_suffix.result c.strip_suffix.ensures.cases) in (
      (λ no. absurd (false≢true no)),
      (λ matches.
          let found = split-matches c.self.inside.pieces.items c.self.inside.tail.items c.args.path.now
          (subst (λ p. Matches p c.args.path.now) (sym c.self.view_is) matches) in
          absurd (none found.0 (found.1 ∙ ap (λ l. found.0 ++ l) (sym c.as_slice.ensures.value)))),
    )
