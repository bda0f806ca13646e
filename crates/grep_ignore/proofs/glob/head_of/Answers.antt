use Rattle.std.proofs.Common.{drop, inl, inr, refl, sym}
use Rattle.std.proofs.lemmas.List.{take-append-drop}
use Rattle.grep_ignore.proofs.glob.head_of.Goals as goal

pub returns-then-ignores_case : goal.returns-then-ignores_case
returns-then-ignores_case c = ((c.args.glob.now, rw c.new.ensures.items refl), inl c.new.ensures.items)

pub returns-then-not-is_empty : goal.returns-then-not-is_empty
returns-then-not-is_empty c = ((c.args.glob.now, rw c.new-then-not-is_empty.ensures.items refl), inl c.new-then-not-is_empty.ensures.items)

pub returns : goal.returns
returns c = rw c.in_ok-head.ensures.items (
  (drop c.head_len.result c.args.glob.now, sym (take-append-drop c.head_len.result c.args.glob.now)),
  inr (c.if-ignores_case.false, c.head_len.ensures.plain),
)
