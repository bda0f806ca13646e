use Rattle.std.proofs.Common.{◌∙◌, ap, refl, sym}
use Rattle.std.proofs.lemmas.Result.{err_from_is_err_and}
use Rattle.std.specs.Prelude.{Ok, Err}
use Rattle.grep_matcher.specs.Literals.{literal_meaning}
use Rattle.lgrep_cli.proofs.SearchLemmas.{out_of_memory, printer-searched}
use Rattle.lgrep_cli.proofs.search.print.Goals as goal

pub returns-in-Ok-write_pending-clause-printed : goal.returns-in-Ok-write_pending-clause-printed
returns-in-Ok-write_pending-clause-printed g c =
    let searched = printer-searched c.args.options.now c.requires c.in_ok-searcher.ensures.settings
    (ap literal_meaning c.in_ok-matcher.ensures.literal) (λ _ _ h. h) (λ _. tt) refl
    (c.build-printer.ensures.config ∙ c.new.ensures) c.build-printer.ensures.pending
    c.build-printer.ensures.has_failed c.search-has_match.ensures.printed in
    (rw c.in-Ok.is at searched.printed) (Ok tt) c.write_pending.new.writer c.in-Ok-write_pending.ensures.written

pub returns-in-Ok-clause-failed : goal.returns-in-Ok-clause-failed
returns-in-Ok-clause-failed g c =
    let searched = printer-searched c.args.options.now c.requires c.in_ok-searcher.ensures.settings
    (ap literal_meaning c.in_ok-matcher.ensures.literal) (λ _ _ h. h) (λ _. tt) refl
    (c.build-printer.ensures.config ∙ c.new.ensures) c.build-printer.ensures.pending
    c.build-printer.ensures.has_failed c.search-has_match.ensures.printed in
    (rw c.in-Ok.is at searched.printed) (Err c.in-Err-write_pending.error) c.write_pending.new.writer
    c.in-Err-write_pending.ensures.written

pub returns-then-has_failed-clause-failed : goal.returns-then-has_failed-clause-failed
returns-then-has_failed-clause-failed g c =
    let searched = printer-searched c.args.options.now c.requires c.in_ok-searcher.ensures.settings
    (ap literal_meaning c.in_ok-matcher.ensures.literal) (λ _ _ h. h) (λ _. tt) refl
    (c.build-printer.ensures.config ∙ c.new.ensures) c.build-printer.ensures.pending
    c.build-printer.ensures.has_failed c.search-has_match.ensures.printed in
    (rw c.in-Err.is at searched.of_writer) (sym c.has_failed.ensures ∙ c.if-has_failed.true)

pub returns-in-Ok-write_pending-2-clause-failed : goal.returns-in-Ok-write_pending-2-clause-failed
returns-in-Ok-write_pending-2-clause-failed g c =
    let searched = printer-searched c.args.options.now c.requires c.in_ok-searcher.ensures.settings
    (ap literal_meaning c.in_ok-matcher.ensures.literal) (λ _ _ h. h) (λ _. tt) refl
    (c.build-printer.ensures.config ∙ c.new.ensures) c.build-printer.ensures.pending
    c.build-printer.ensures.has_failed c.search-has_match.ensures.printed in
    (rw c.in-Err.is at searched.of_reading) (sym c.has_failed.ensures ∙ c.if-has_failed.false) (Ok tt) c.write_pending-in-Err.new.writer
    c.in-Ok-write_pending-2.ensures.written c.flush.result c.flush.new.self c.flush.ensures

pub returns-clause-failed : goal.returns-clause-failed
returns-clause-failed g c =
    let searched = printer-searched c.args.options.now c.requires c.in_ok-searcher.ensures.settings
    (ap literal_meaning c.in_ok-matcher.ensures.literal) (λ _ _ h. h) (λ _. tt) refl
    (c.build-printer.ensures.config ∙ c.new.ensures) c.build-printer.ensures.pending
    c.build-printer.ensures.has_failed c.search-has_match.ensures.printed in
    (rw c.in-Err.is at searched.of_reading) (sym c.has_failed.ensures ∙ c.if-has_failed.false) (Err c.in-Err-write_pending-2.error)
    c.write_pending-in-Err.new.writer c.in-Err-write_pending-2.ensures.written

pub returns-in_err-searcher-clause-failed : goal.returns-in_err-searcher-clause-failed
returns-in_err-searcher-clause-failed g c =
    let error = err_from_is_err_and c.from_residual.result c.from_residual.ensures.1 in
    rw (error.1, error.2) (out_of_memory g.R.Source.remaining g.R.Source.step g.W.Output.step c.args.options.now
    c.args.reader.now c.args.writer.now c.in_err-searcher.field-0.0 c.in_err-searcher.ensures.memory)

pub returns-in_err-matcher-clause-failed : goal.returns-in_err-matcher-clause-failed
returns-in_err-matcher-clause-failed g c =
    let error = err_from_is_err_and c.from_residual-in_err-matcher.result c.from_residual-in_err-matcher.ensures.1 in
    rw (error.1, error.2) (out_of_memory g.R.Source.remaining g.R.Source.step g.W.Output.step c.args.options.now
    c.args.reader.now c.args.writer.now c.in_err-matcher.field-0.0 c.in_err-matcher.ensures.memory)
