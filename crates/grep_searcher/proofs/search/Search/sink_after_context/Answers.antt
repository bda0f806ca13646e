use Rattle.std.proofs.Common.{refl}
use Rattle.std.specs.Prelude.{slice_range}
use Rattle.grep_definitions.proofs.CallOrderLemmas.{called-match, called-one}
use Rattle.grep_searcher.proofs.search.Search.sink_after_context.Goals as goal

pub returns-in-Ok-clause-called : goal.returns-in-Ok-clause-called
returns-in-Ok-clause-called g c = λ stop.
    let w = c.args.walk.now in
    called-match _ _ w.next_unreported w.line w.offset stop
    (slice_range c.args.window.now c.args.start c.args.end) _ _ _ _ (c.in-Ok.ensures.reported stop)

pub returns-in-Err-clause-called : goal.returns-in-Err-clause-called
returns-in-Err-clause-called g c = λ stop.
    let w = c.args.walk.now in
    called-match _ _ w.next_unreported w.line w.offset stop
    (slice_range c.args.window.now c.args.start c.args.end) _ _ _ _ (c.in-Err.ensures.reported stop)

pub returns-in-Ok-sink_context-clause-called : goal.returns-in-Ok-sink_context-clause-called
returns-in-Ok-sink_context-clause-called g c = λ stop. called-one _ _ _ stop _ _ _
    c.in-Ok-sink_context.ensures.step refl refl

pub returns-in-Err-sink_context-clause-called : goal.returns-in-Err-sink_context-clause-called
returns-in-Err-sink_context-clause-called g c = λ stop. called-one _ _ _ stop _ _ _
    c.in-Err-sink_context.ensures.step refl refl
