-- The line that was located is the line of the position, and what lies before it is known not to
-- match.
use Rattle.std.proofs.Common.{◌+◌, ◌-◌, drop, refl, sym, ◌∙◌, ap, subst, arith, take_all}
use Rattle.std.proofs.Common.{length-drop, length}
use Rattle.grep_matcher.specs.Lawful.{IsLawfulResult, position_of}
use Rattle.grep_matcher.specs.Lines.{byte_of}
use Rattle.grep_walk.proofs.LookAheadLemmas.{known-none, known-candidate, known-confirmed}
use Rattle.grep_walk.proofs.LookAheadLemmas.{IsLocated, IsLocated-empty}
use Rattle.grep_definitions.specs.Plans.{Settings}
use Rattle.grep_walk.proofs.config.Config.ahead_of.Goals as goal

pub returns-in_default-clause-known : goal.returns-in_default-clause-known
returns-in_default-clause-known c = λ meaning i here lawful.
    known-none c.args.self.now meaning c.args.window.now c.args.start i here
    (subst (IsLawfulResult c.args.self.now.line_terminator meaning _) c.in_default.is lawful)

pub returns-then-is_confirmed-clause-known : goal.returns-then-is_confirmed-clause-known
returns-then-is_confirmed-clause-known c = λ meaning i here lawful.
    let settings = c.args.self.now in
    let rest = drop c.args.start c.args.window.now in
    let located : IsLocated (byte_of settings.line_terminator) rest (position_of c.in-Some.found)
    c.line_of-line.result =
    IsLocated-empty _ _ _ rest _ _ _
    (c.as_byte-terminator.ensures ∙ ap (λ (s : Settings). byte_of s.line_terminator) c.self.view_is)
    (take_all (length c.args.window.now - c.args.start) rest
    (omega (arith, length-drop c.args.start c.args.window.now)))
    refl (rw c.position.ensures at c.line_of-line.ensures.value)
    (rw c.position.ensures at c.line_of-line.ensures.starts)
    (rw c.position.ensures at c.line_of-line.ensures.ends) in
    known-confirmed settings meaning c.args.window.now c.args.start i here c.in-Some.found
    (subst (IsLawfulResult settings.line_terminator meaning rest) c.in-Some.is lawful)
    c.line_of-line.result located
    (c.args.start + c.start.result) (ap (λ n. c.args.start + n) c.start.ensures.value)
    (sym c.is_confirmed.ensures ∙ c.if-is_confirmed.true)
    (c.args.start + c.end.result) (ap (λ n. c.args.start + n) c.end.ensures.value)

pub returns-else-is_confirmed-clause-known : goal.returns-else-is_confirmed-clause-known
returns-else-is_confirmed-clause-known c = λ meaning i here lawful.
    let settings = c.args.self.now in
    let rest = drop c.args.start c.args.window.now in
    let located : IsLocated (byte_of settings.line_terminator) rest (position_of c.in-Some.found)
    c.line_of-line.result =
    IsLocated-empty _ _ _ rest _ _ _
    (c.as_byte-terminator.ensures ∙ ap (λ (s : Settings). byte_of s.line_terminator) c.self.view_is)
    (take_all (length c.args.window.now - c.args.start) rest
    (omega (arith, length-drop c.args.start c.args.window.now)))
    refl (rw c.position.ensures at c.line_of-line.ensures.value)
    (rw c.position.ensures at c.line_of-line.ensures.starts)
    (rw c.position.ensures at c.line_of-line.ensures.ends) in
    known-candidate settings meaning c.args.window.now c.args.start i here c.in-Some.found
    (subst (IsLawfulResult settings.line_terminator meaning rest) c.in-Some.is lawful)
    c.line_of-line.result located
    (c.args.start + c.start.result) (ap (λ n. c.args.start + n) c.start.ensures.value)
    (c.args.start + c.end.result)
