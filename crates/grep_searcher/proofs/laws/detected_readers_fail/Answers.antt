use Rattle.grep_searcher.proofs.DetectedRunLemmas.{known_readers-fail_with, readers-fail_with}
use Rattle.grep_searcher.proofs.laws.detected_readers_fail.Goals as goal

pub returns-clause-taken : goal.returns-clause-taken
returns-clause-taken g c = λ matcher. readers-fail_with g.S.Sink.step _ _ _ _

pub returns-clause-known : goal.returns-clause-known
returns-clause-known g c = λ matcher. known_readers-fail_with g.S.Sink.step _ _ _ _
