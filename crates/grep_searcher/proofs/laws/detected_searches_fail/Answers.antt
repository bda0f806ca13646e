use Rattle.grep_searcher.proofs.DetectedRunLemmas.{decoded_slices-fail_with, slices-fail_with}
use Rattle.grep_searcher.proofs.laws.detected_searches_fail.Goals as goal

pub returns-clause-unchanged : goal.returns-clause-unchanged
returns-clause-unchanged g c = λ matcher. slices-fail_with g.S.Sink.step _ _

pub returns-clause-decoded : goal.returns-clause-decoded
returns-clause-decoded g c = λ matcher. decoded_slices-fail_with g.S.Sink.step _ _
