use Rattle.grep_regex.proofs.shortcut.Shortcut.new.Goals as goal

pub invariant_of-result : goal.invariant_of-result
invariant_of-result c = record { spelled = ∣ c.matcher_of.ensures ∣₁; is_prefix = ∣ c.in-Ok.ensures ∣₁ }
