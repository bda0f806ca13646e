use Rattle.std.proofs.Common.{inl, refl, ◌∙◌}
use Rattle.grep_report.proofs.encoding.unknown.Goals as goal

pub returns-in-Ok : goal.returns-in-Ok
returns-in-Ok c =
    inl (
      c.in-Ok.label,
      refl,
      c.in-Ok.ensures.items_if_clones_equal (λ x y same. same) ∙ c.as_bytes.ensures.value,
    )
