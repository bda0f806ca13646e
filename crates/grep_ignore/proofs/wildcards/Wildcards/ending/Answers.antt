use Rattle.grep_ignore.proofs.ByteLemmas.{ends-in}
use Rattle.grep_ignore.proofs.wildcards.Wildcards.ending.Goals as goal

pub returns : goal.returns
returns c = rw (c.as_slice.ensures.value, ← c.self.view_is)
    (λ path matches. ends-in c.self.inside.pieces.items c.self.inside.tail.items path matches)
