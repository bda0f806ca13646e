use Rattle.std.proofs.Common.{None, ap, sym, ◌∙◌}
use Rattle.linegrep_options.specs.CommandLines.{attached_reading, letters_reading}
use Rattle.linegrep_options.specs.ParsedWords.{after, later_of, texts}
use Rattle.linegrep_options.proofs.ReadingLemmas.{added-use, letters-flag, letters-valued, step-after, step-same}
use Rattle.linegrep_options.proofs.command_line.Parsed.add_letters.Goals as goal

pub returns-then-is_there-clause-step : goal.returns-then-is_there-clause-step
returns-then-is_there-clause-step c =
    let later = later_of (texts c.args.rest.now) in
    let loop = c.loop-letter in
    let others = c.in-Some.others.now in
    let row = c.in-Some-row_lettered.row in
    step-after c.args.self.now loop.self c.add_attached.new.self (letters_reading c.args.letters.now later)
    (letters_reading loop.later.now later) c.add_attached.result loop.invariant
    (step-same loop.self c.add_attached.new.self (letters_reading loop.later.now later)
    (attached_reading row others later) c.add_attached.result
    (letters-valued loop.later.now others c.in-Some.letter.now row later c.in-Some.ensures.cases.0
    (sym c.row_lettered.ensures ∙ c.in-Some-row_lettered.is) (sym c.is_there.ensures ∙ c.if-is_there.true))
    c.add_attached.ensures.step)

pub loop-letter-preserved : goal.loop-letter-preserved
loop-letter-preserved c =
    let later = later_of (texts c.args.rest.now) in
    let loop = c.loop-letter in
    let others = c.in-Some.others.now in
    let row = c.in-Some-row_lettered.row in
    let (grown, same) = c.in_ok-push.ensures in
    added-use loop.self c.push.new.self row.id None (letters_reading others later) grown same
    ∙ (ap (after loop.self)
    (letters-flag loop.later.now others c.in-Some.letter.now row later c.in-Some.ensures.cases.0
    (sym c.row_lettered.ensures ∙ c.in-Some-row_lettered.is) (sym c.is_there.ensures ∙ c.if-is_there.false)
    (sym c.begins_with_equals.ensures ∙ c.if-begins_with_equals.false))
    ∙ loop.invariant)
