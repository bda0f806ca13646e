use Rattle.std.proofs.Common.{◌-◌, ◌∙◌, ◌≡◌, length, sym, subst, arith}
use Rattle.grep_matcher.specs.Lines.{byte_of, lines}
use Rattle.grep_lines.specs.Positions.{IsLineStart}
use Rattle.grep_walk.specs.Windows.{IsLineIn}
use Rattle.grep_walk.proofs.BeforeContextLemmas as before
use Rattle.grep_walk.proofs.UncountedLemmas.{counts-before}
use Rattle.grep_searcher.proofs.search.Search.sink_before_context.Goals as goal

pub returns-then-near-eq0-clause-reported : goal.returns-then-near-eq0-clause-reported
returns-then-near-eq0-clause-reported g c =
    let w = c.args.walk.now in
    λ gone input inside end. before.reported-none c.args.self.now.config input w.next_unreported
    w.line end g.S.Sink.step c.args.sink.now
    c.requires.low ((sym c.lines_before-near.ensures ∙ c.if-near-eq0.true))

pub returns-clause-reported : goal.returns-clause-reported
returns-clause-reported g c =
    let k = c.args.self.now.config in
    let w = c.args.walk.now in
    let near = c.lines_before-near.result in
    let near_is = c.lines_before-near.ensures in
    let back = c.step_back-first.ensures.start in
    λ gone input shown end.
    let inside = shown (counts-before k (omega (arith, near_is, c.if-near-eq0.false))) in
    let gone_lines = length (lines (byte_of k.line_terminator) gone) in
    let first : IsLineIn k gone c.args.window.now c.step_back-first.result (w.line - near) =
    record {
      low = omega (arith, near_is, inside.kept);
      begins =
          let same : (w.line - gone_lines) - near ≡ (w.line - near) - gone_lines = omega arith in
          subst (IsLineStart (byte_of k.line_terminator) c.args.window.now c.step_back-first.result)
          same (back (w.line - gone_lines) inside.line.begins);
    } in
    rw (before.pending-near k input _ _ end (w.line - near) c.requires.low (omega (arith, near_is)))
    (c.sink_before_lines.ensures.reported gone input inside first end)
