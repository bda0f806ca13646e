use Rattle.grep_searcher.proofs.DetectedRunLemmas.{decoded_slices-run_with, slices-run_with}
use Rattle.grep_searcher.proofs.laws.detected_searches_run.Goals as goal

pub returns-clause-unchanged : goal.returns-clause-unchanged
returns-clause-unchanged g c = λ matcher. slices-run_with g.S.Sink.step _ _

pub returns-clause-decoded : goal.returns-clause-decoded
returns-clause-decoded g c = λ matcher. decoded_slices-run_with g.S.Sink.step _ _
