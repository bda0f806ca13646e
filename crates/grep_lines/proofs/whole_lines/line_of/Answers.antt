use Rattle.std.proofs.Common.{refl, ◌∙◌, ℕ, ap₂, arith}
use Rattle.grep_lines.proofs.LinePositionLemmas.{block_end-open, block_start-is}
use Rattle.grep_lines.proofs.whole_lines.line_of.Goals as goal

-- a line by its start and its end
pair : ℕ → ℕ → ℕ × ℕ
pair a b = (a, b)

pub returns-clause-value : goal.returns-clause-value
unfolding pair
returns-clause-value c =
    let t = c.args.terminator in
    let bytes = c.args.bytes.now in
    let empty : ℕ × ℕ = (c.args.position, c.args.position) in
    let start = block_start-is t bytes empty c.args.position c.last_start-start.result c.requires
    refl c.last_start-start.ensures in
    c.new.ensures ∙ ap₂ pair start (block_end-open t bytes empty c.line_end.result
    (λ less. absurd (omega arith)) c.line_end.ensures.end)
