use Rattle.linegrep_cli.proofs.SearchTextLemmas.{not-both}
use Rattle.linegrep_cli.proofs.late.Collector.keep.Goals as goal

pub returns-in-Ok : goal.returns-in-Ok
returns-in-Ok c =
    let (waiting, is_at, more) = c.in-Ok.ensures.kept in record {
      texts = c.try_keep.ensures.texts;
      quits = c.try_keep.ensures.quits;
      unmatched = c.nothing_found.ensures.unmatched;
      kept = λ ok. (waiting, is_at, more, c.try_keep.ensures.is_full);
      full = λ error failed.
          absurd (not-both c.nothing_found.result.result tt error c.nothing_found.ensures.ok failed);
    }
