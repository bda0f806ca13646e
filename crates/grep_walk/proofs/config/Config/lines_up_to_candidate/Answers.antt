use Rattle.std.proofs.Common.{◌-◌, ◌∙◌, ap, arith, drop, length, length-take, refl}
use Rattle.std.specs.Prelude.{slice_range}
use Rattle.grep_definitions.specs.Plans.{Settings}
use Rattle.grep_lines.proofs.LineStepLemmas.{lines-at-most}
use Rattle.grep_matcher.specs.Lines.{byte_of, lines}
use Rattle.grep_walk.proofs.LineRunLemmas.{unmatched-alike}
use Rattle.grep_walk.proofs.config.Config.lines_up_to_candidate.Goals as goal

pub returns-clause-counted : goal.returns-clause-counted
returns-clause-counted c =
    let passed = slice_range c.args.window.now c.args.start c.last_start_in_room-end.result in
    omega (
      arith,
      c.line_count_in.ensures,
      lines-at-most c.as_byte.result passed,
      length-take (c.last_start_in_room-end.result - c.args.start) (drop c.args.start c.args.window.now),
    )

pub returns-clause-alike : goal.returns-clause-alike
returns-clause-alike c = λ meaning i here known.
    let last = c.last_start_in_room-end.ensures in
    let there = last.line i known.index here known.at in
    let terminator = c.as_byte.ensures
    ∙ ap (λ (s : Settings). byte_of s.line_terminator) c.self.view_is in
    unmatched-alike c.args.self.now meaning c.args.window.now c.args.start i there.0 c.args.ahead.now _
    known refl (omega (arith, last.low, c.if-end-start.false)) last.high
    (omega (arith, last.high, c.requires.bounded.ordered, c.requires.bounded.within)) here there.1
    (c.line_count_in.ensures ∙ ap (λ t. length (lines t (slice_range c.args.window.now c.args.start
    c.last_start_in_room-end.result))) terminator)
