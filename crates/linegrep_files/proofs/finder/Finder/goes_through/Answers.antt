use Rattle.std.proofs.Common.{rules}
use native.Mathlib.Numerals.{unary_clauses}
use Rattle.linegrep_files.specs.Folders.{of_below, of_none, of_top}
use Rattle.linegrep_files.proofs.finder.Finder.goes_through.Goals as goal

pub returns-then-has_id : goal.returns-then-has_id
returns-then-has_id g c = of_top (rw (c.if-has_id.true, c.as_str.ensures.value) at c.has_id.ensures)

pub returns-then-has_id-2 : goal.returns-then-has_id-2
returns-then-has_id-2 g c = of_below c.loop-at.at (search rules) (search rules) (search rules)
    (simp unary_clauses at
    (rw (c.if-has_id-2.true, c.range.ensures.value) at c.has_id-then-bytes-at-eq47.ensures))

pub returns : goal.returns
returns g c = of_none (rw (c.if-has_id.false, c.as_str.ensures.value) at c.has_id.ensures)
    (λ at below within slash. c.loop-at.invariant at (search rules) below slash)
