use Rattle.std.proofs.Common.{◌≡◌, ◌≢◌, ◌+◌, ◌-◌, ◌<◌, ◌≤◌, ℕ, Bool, false, length, slice_index, ap}
use Rattle.std.proofs.Common.{ap₂, sym, ◌∙◌, arith, ⊎_elim}
use Rattle.std.proofs.lemmas.Bool.{cases_lt}
use Rattle.std.specs.Prelude.{IsTrue}
use Rattle.grep_matcher.specs.Lines.{line_start}
use Rattle.grep_lines.specs.Blocks.{lines_before}
use Rattle.grep_lines.proofs.LinePositionLemmas.{block_start-is, block_end-closed, block_end-open}
use Rattle.grep_lines.proofs.whole_lines.locate.Goals as goal
use Rattle.grep_lines.proofs.whole_lines.locate.Goals.{else-not-is_empty-via-then-not-is_empty+else-bytes-end}
use Rattle.grep_lines.proofs.whole_lines.locate.Goals.{else-not-is_empty-via-else-not-is_empty}

-- a match by its start and its end
pair : ℕ → ℕ → ℕ × ℕ
pair a b = (a, b)

-- a match that isn't empty has bytes
some-bytes : (a b : ℕ) (test : Bool) → a ≤ b → (a ≡ b → IsTrue test) → test ≡ false → a < b
some-bytes a b test ordered is not_empty =
    ⊎_elim (λ less. less) (λ over. absurd (let yes = is (omega arith) in cc)) (cases_lt a b)

pub returns-then-bytes-end-clause-value : goal.returns-then-bytes-end-clause-value
unfolding pair
returns-then-bytes-end-clause-value c =
    let t = c.args.terminator in
    let bytes = c.args.bytes.now in
    let within : c.args.found.0 ≤ length bytes = omega arith in
    let start = block_start-is t bytes c.args.found c.start.result c.last_start-start.result within
    c.start.ensures.value c.last_start-start.ensures in
    let some = some-bytes c.args.found.0 c.args.found.1 c.is_empty.result c.start.ensures.ordered
    c.is_empty.ensures.1 c.if-not-is_empty.true in
    let last : slice_index bytes (c.args.found.1 - 1)
    ≡ t = ap (λ n. slice_index bytes (n - 1)) (sym c.end-end.ensures.value)
    ∙ c.if-bytes-end.true in
    c.new.ensures ∙ ap₂ pair start (c.end-end.ensures.value
    ∙ block_end-closed t bytes c.args.found some c.requires last)

pub returns-clause-value : goal.returns-clause-value
unfolding pair
returns-clause-value c =
    let t = c.args.terminator in
    let bytes = c.args.bytes.now in
    let within : c.args.found.0 ≤ length bytes = omega arith in
    let start = block_start-is t bytes c.args.found c.start.result c.last_start-start.result within
    c.start.ensures.value c.last_start-start.ensures in
    let other : c.args.found.0 < c.args.found.1 → slice_index bytes (c.args.found.1 - 1) ≢ t =
    elim c.else-not-is_empty.branch [
      | else-not-is_empty-via-then-not-is_empty+else-bytes-end w ↦ λ _ same.
          w.if-bytes-end.false (ap (λ n. slice_index bytes (n - 1)) c.end-end.ensures.value ∙ same)
      | else-not-is_empty-via-else-not-is_empty w ↦ λ less same.
          absurd (omega (arith, c.is_empty.ensures.0 w.if-not-is_empty.false))
    ] in
    let end = c.line_end.ensures.end ∙ ap (λ p. line_start t bytes (lines_before t bytes p + 1))
    c.end-end.ensures.value in
    c.new-2.ensures ∙ ap₂ pair start (block_end-open t bytes c.args.found c.line_end.result other
    end)
