use Rattle.std.proofs.Common.{IfSome, subst}
use Rattle.grep_regex.specs.Choices.{items_of}
use Rattle.grep_regex.specs.Classes.{IsPrefix}
use Rattle.grep_regex.specs.Views.{program_re}
use Rattle.grep_regex.proofs.shortcut.Shortcut.look_by_sets.Goals as goal

pub known_by-requires-clause-is_prefix : goal.known_by-requires-clause-is_prefix
known_by-requires-clause-is_prefix c =
    subst (λ o. ∥ IfSome o
    (λ p. IsPrefix (program_re c.args.self.now.regex.now) (items_of p.choices.items) p.has_sizes) ∥₁)
    c.in-Some.is c.args.self.now.is_prefix
