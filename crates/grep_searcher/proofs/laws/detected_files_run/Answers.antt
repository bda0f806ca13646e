use Rattle.grep_searcher.proofs.DetectedRunLemmas.{known_readers-run_with}
use Rattle.grep_searcher.proofs.laws.detected_files_run.Goals as goal

pub returns : goal.returns
returns g c = λ matcher. known_readers-run_with g.S.Sink.step _ _ _ _
