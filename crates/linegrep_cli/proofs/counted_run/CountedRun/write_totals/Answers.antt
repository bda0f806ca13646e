use Rattle.std.proofs.Common.{◌≡◌, ℕ, Ok, refl, subst}
use Rattle.std.specs.Prelude.{MatchBool}
use Rattle.grep_printer.specs.StatsSums.{nanos_of}
use Rattle.linegrep_cli.specs.CountedRuns.{AreCountsPut}
use Rattle.linegrep_cli.proofs.counted_run.CountedRun.write_totals.Goals as goal

pub returns-then-is_counting : goal.returns-then-is_counting
returns-then-is_counting g c =
    let old = c.args.self.now in
    let new = record old { printer = c.write_stats.new.self } in
    let result = c.write_stats.result in
    let writer = c.args.writer.now in
    let writer' = c.write_stats.new.writer in
    subst (λ counts. MatchBool counts
    ((elapsed : ℕ) × AreCountsPut g.W.Output.step writer old.printer old.stats elapsed result writer' new.printer
    × (new ≡ record old { printer = new.printer }))
    ((result ≡ Ok tt) × (writer' ≡ writer) × (new ≡ old))) c.if-is_counting.ensures
    (nanos_of c.elapsed.result, c.write_stats.ensures, refl)
