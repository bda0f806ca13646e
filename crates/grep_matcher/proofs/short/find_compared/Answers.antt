use Rattle.std.proofs.Common.{◌≡◌, arith, subst, sym, ◌∙◌, true}
use Rattle.std.specs.List.{starts_with}
use Rattle.std.specs.Prelude.{nat_eq}
use Rattle.grep_matcher.proofs.FromLemmas.{begins-here, rest-is}
use Rattle.grep_matcher.proofs.short.find_compared.Goals as goal

pub returns-then-starts_with : goal.returns-then-starts_with
returns-then-starts_with c =
    let hay = c.args.haystack.now in (
      record { low = omega arith; high = omega arith; before = λ k low below occurs. absurd (omega (arith, low, below)) },
      begins-here hay c.args.finder.now c.args.at c.requires
          (subst (λ bytes. starts_with nat_eq bytes c.args.finder.now ≡ true) (rest-is hay c.args.at)
          (rw c.needle.ensures at (sym c.starts_with.ensures.value ∙ c.if-starts_with.true))),
    )
