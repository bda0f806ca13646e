use Rattle.std.proofs.Common.{◌+◌, ◌-◌, drop, refl, sym, ◌∙◌, ap, subst, arith, take_all, length}
use Rattle.std.proofs.Common.{length-drop}
use Rattle.grep_definitions.specs.Plans.{Settings}
use Rattle.grep_lines.specs.Blocks.{lines_before}
use Rattle.grep_lines.specs.Positions.{IsLineStart}
use Rattle.grep_matcher.specs.Lines.{byte_of}
use Rattle.grep_walk.proofs.LookAheadLemmas.{IsLocated, IsLocated-empty, later-located}
use Rattle.grep_walk.proofs.config.Config.last_start_in_room.Goals as goal

pub returns-clause-line : goal.returns-clause-line
returns-clause-line c = λ i j here there.
    let settings = c.args.self.now in
    let rest = drop c.args.start c.args.window.now in
    let located : IsLocated (byte_of settings.line_terminator) rest 16384 c.line_of.result =
    IsLocated-empty _ _ _ rest _ _ _
    (c.as_byte-terminator.ensures
    ∙ ap (λ (s : Settings). byte_of s.line_terminator) c.self.view_is)
    (take_all (length c.args.window.now - c.args.start) rest
    (omega (arith, length-drop c.args.start c.args.window.now)))
    refl c.line_of.ensures.value c.line_of.ensures.starts c.line_of.ensures.ends in
    let line = i + lines_before (byte_of settings.line_terminator) rest 16384 in (
      line,
      subst (λ p. IsLineStart (byte_of settings.line_terminator) c.args.window.now
          (c.args.start + p) line) (sym c.start.ensures.value)
          (later-located (byte_of settings.line_terminator) c.args.window.now c.args.start i
          here 16384 c.line_of.result located),
    )
