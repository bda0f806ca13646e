use Rattle.grep_regex.proofs.engine.Engine.new.Goals as goal

pub invariant_of-result : goal.invariant_of-result
invariant_of-result c = record { same = ∣ c.in_ok-searcher.ensures ∣₁; captures = ∣ c.in_ok-groups.ensures ∣₁ }
