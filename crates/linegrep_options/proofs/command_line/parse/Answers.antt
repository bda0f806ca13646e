use Rattle.std.proofs.Common.{ap, ◌∙◌}
use Rattle.linegrep_options.specs.CommandLines.{reading_of, word_reading}
use Rattle.linegrep_options.specs.ParsedWords.{after, later_of, texts}
use Rattle.linegrep_options.proofs.ReadingLemmas.{error-after, reading-first}
use Rattle.linegrep_options.proofs.command_line.parse.Goals as goal

pub returns-in-Err-clause-refused : goal.returns-in-Err-clause-refused
returns-in-Err-clause-refused c =
    let loop = c.loop-word in
    let rest = c.in-Some.rest.now in
    error-after loop.parsed (reading_of (texts c.args.words.now))
    (word_reading c.deref.result.now (later_of (texts rest))) c.in-Err.error
    (ap (after loop.parsed)
    (reading-first loop.later.now rest c.in-Some.word.now c.deref.result.now c.in-Some.ensures.cases.0
    c.deref.ensures.value) ∙ loop.invariant)
    c.in-Err.ensures.step

pub loop-word-preserved : goal.loop-word-preserved
loop-word-preserved c =
    let loop = c.loop-word in
    c.in-Ok.ensures.step ∙ (ap (after loop.parsed)
    (reading-first loop.later.now c.in-Some.rest.now c.in-Some.word.now c.deref.result.now
    c.in-Some.ensures.cases.0 c.deref.ensures.value) ∙ loop.invariant)
