use Rattle.std.proofs.Common.{◌≡◌, ◌∙◌, ◌-◌, ℕ, List, Some, None, length, drop, sym, subst, arith}
use Rattle.std.proofs.Common.{take, take_all, length-drop, rules}
use Rattle.std.proofs.lemmas.Result.{err_from_is_err_and}
use Rattle.grep_matcher.specs.FindResults.{IsWithin}
use Rattle.grep_definitions.proofs.SuccessiveMatchLemmas.{matches_left-end, matches_left-full}
use Rattle.grep_walk.proofs.FoundMatchLemmas.{no-more, no-more-missed, found-next, asked-next}
use Rattle.grep_walk.proofs.config.Config.next_match.Goals as goal

-- the bytes from a position on, as a slice of them is
rest-is : (bytes : List ℕ) (position : ℕ) → take (length bytes - position) (drop position bytes)
    ≡ drop position bytes
rest-is bytes position =
    take_all (length bytes - position) (drop position bytes)
    (omega (arith, length-drop position bytes))

pub returns-then-blocks-bytes-clause-none : goal.returns-then-blocks-bytes-clause-none
returns-then-blocks-bytes-clause-none g c =
    let b = c.args.blocks.now in
    let meaning = (g.M.Matcher.facts c.args.matcher.now).meaning in
    no-more c.args.self.now meaning c.args.bytes.now b
    (elim c.then-blocks-bytes.branch [
      | goal.then-blocks-bytes-via-then-blocks-bytes w ↦
          matches_left-end meaning c.args.bytes.now b.position b.left (omega arith)
      | goal.then-blocks-bytes-via-else-blocks-bytes+then-eq w ↦
          matches_left-full meaning c.args.bytes.now b.position b.left (search rules)
    ])

pub returns-in_default-clause-none : goal.returns-in_default-clause-none
returns-in_default-clause-none g c =
    let b = c.args.blocks.now in
    let bytes = c.args.bytes.now in
    let meaning = (g.M.Matcher.facts c.args.matcher.now).meaning in
    let none : meaning.first (take (length bytes - b.position) (drop b.position bytes)) ≡ None =
    sym c.in_ok-found.ensures.value ∙ c.in_default.is in
    no-more-missed c.args.self.now meaning bytes b
    (subst (λ rest. meaning.first rest ≡ None) (rest-is bytes b.position) none)

pub returns-clause-some : goal.returns-clause-some
returns-clause-some g c =
    let b = c.args.blocks.now in
    let bytes = c.args.bytes.now in
    let meaning = (g.M.Matcher.facts c.args.matcher.now).meaning in
    let whole = rest-is bytes b.position in
    let some : meaning.first (take (length bytes - b.position) (drop b.position bytes))
    ≡ Some c.in-Some.found =
    sym c.in_ok-found.ensures.value ∙ c.in-Some.is in
    let inside = subst (IsWithin (take (length bytes - b.position) (drop b.position bytes)))
    c.in-Some.is c.in_ok-found.ensures.within in
    found-next c.args.self.now meaning bytes b c.in-Some.found
    c.offset-found.result c.position_after-blocks.result c.one_less-blocks.result
    (omega arith) (search rules)
    (subst (λ rest. meaning.first rest ≡ Some c.in-Some.found) whole some)
    (subst (λ rest. IsWithin rest (Some c.in-Some.found)) whole inside)
    c.offset-found.ensures c.position_after-blocks.ensures c.one_less-blocks.ensures

pub returns-in_err-found-clause-fault : goal.returns-in_err-found-clause-fault
returns-in_err-found-clause-fault g c =
    let p = err_from_is_err_and c.from_residual.result c.from_residual.ensures.1 in
    let b = c.args.blocks.now in
    let bytes = c.args.bytes.now in
    let meaning = (g.M.Matcher.facts c.args.matcher.now).meaning in
    rw (p.1, p.2) (λ asked so_far. (
      drop b.position bytes,
      asked-next c.args.self.now meaning bytes b.position b.left asked so_far (omega arith)
          (search rules),
      subst (λ rest. (g.M.Matcher.facts c.args.matcher.now).fails rest c.in_err-found.field-0.0)
          (rest-is bytes b.position) c.in_err-found.ensures.error,
    ))
