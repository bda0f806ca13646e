use Rattle.std.proofs.Common.{refl, rules}
use Rattle.std.proofs.lemmas.List.{take_rest}
use Rattle.grep_output.proofs.OutputLemmas.{writing-more, writing-fails}
use Rattle.grep_output.proofs.output.write_all.Goals as goal

pub loop-rest-preserved : goal.loop-rest-preserved
loop-rest-preserved g c =
    rw (take_rest c.loop-rest.rest.now c.in-Ok.count)
    (writing-more g.W.Output.step c.args.writer.now c.loop-rest.writer c.write_some.new.writer c.args.buffer.now
    c.loop-rest.rest.now c.in-Ok.count c.loop-rest.invariant c.in-Ok.count-test.1 c.in-Ok.ensures.bound
    c.in-Ok.ensures.calls)

pub returns-in-Ok-eq0 : goal.returns-in-Ok-eq0
returns-in-Ok-eq0 g c =
    writing-fails g.W.Output.step c.args.writer.now c.loop-rest.writer c.write_some.new.writer c.args.buffer.now
    c.loop-rest.rest.now c.from.result _ c.loop-rest.invariant c.in-Ok-eq0.ensures.calls
    (search rules, c.in-Ok-eq0.field-0-test, c.from.ensures)

pub returns-in-Err : goal.returns-in-Err
returns-in-Err g c =
    writing-fails g.W.Output.step c.args.writer.now c.loop-rest.writer c.write_some.new.writer c.args.buffer.now
    c.loop-rest.rest.now c.in-Err.error _ c.loop-rest.invariant c.in-Err.ensures.calls refl
