use Rattle.std.proofs.Common.{[], ◌++◌, ◌==◌, sym, ap, arith}
use Rattle.std.specs.List.{slice_split}
use Rattle.std.proofs.lemmas.List.{append-nil}
use Rattle.grep_ignore.specs.Lines.{lines_of}
use Rattle.grep_ignore.proofs.LinesLemmas.{ends-on, goes-on, joins, starts-on}
use Rattle.grep_ignore.proofs.rules.Rules.add_lines.Goals as goal

pub loop-rest-init : goal.loop-rest-init
loop-rest-init c = (
  [],
  [],
  sym (append-nil c.args.self.now),
  sym (append-nil c.args.misread.now.items),
  omega (arith, c.without_mark-text.ensures.shorter),
  starts-on c.args.ignores_case (lines_of c.args.contents.now) _
      (ap (slice_split (λ byte. byte == 10)) c.without_mark-text.ensures.text),
)

pub returns-in-None : goal.returns-in-None
returns-in-None c = (
  c.loop-rest.invariant.0 ++ c.in_ok-add_line.ensures.0,
  c.loop-rest.invariant.1 ++ c.in_ok-add_line.ensures.1,
  joins _ _ _ _ _ c.loop-rest.invariant.2 c.in_ok-add_line.ensures.2,
  joins _ _ _ _ _ c.loop-rest.invariant.3 c.in_ok-add_line.ensures.3,
  ends-on _ _ _ _ _ _ _ _ _ (rw c.in-None.is at c.split_line.ensures.split) c.in_ok-add_line.ensures.4
      c.loop-rest.invariant.5,
)

pub loop-rest-preserved : goal.loop-rest-preserved
loop-rest-preserved c = (
  c.loop-rest.invariant.0 ++ c.in_ok-add_line.ensures.0,
  c.loop-rest.invariant.1 ++ c.in_ok-add_line.ensures.1,
  joins _ _ _ _ _ c.loop-rest.invariant.2 c.in_ok-add_line.ensures.2,
  joins _ _ _ _ _ c.loop-rest.invariant.3 c.in_ok-add_line.ensures.3,
  omega (arith, rw c.in-Some.is at c.split_line.ensures.shorter, c.loop-rest.invariant.4),
  goes-on _ _ _ _ _ _ _ _ _ _ (rw c.in-Some.is at c.split_line.ensures.split) c.in_ok-add_line.ensures.4
      c.loop-rest.invariant.5,
)
