use Rattle.std.proofs.Common.{◌≡◌, ◌∙◌, ◌∷◌, [], ◌++◌, List, ℕ, ap, rules, subst, sym}
use Rattle.std.specs.Prelude.{Ok}
use Rattle.std.proofs.lemmas.List.{append-nil}
use Rattle.std.proofs.lemmas.Result.{err_from_is_err_and}
use Rattle.grep_output.proofs.OutputLemmas.{Writes-cut, Writes-more}
use Rattle.grep_output.specs.Outputs.{Writes}
use Rattle.grep_printer.specs.LineTexts.{missing_end}
use Rattle.grep_printer.proofs.bare.write_ended.Goals as goal

pub returns-then-ends_with : goal.returns-then-ends_with
returns-then-ends_with g c =
    let none : missing_end c.args.terminator c.args.line.now ≡ [] = search rules in
    subst (λ text. Writes g.W.Output.step c.args.writer.now text (Ok tt) c.write_all.new.writer)
    (sym (ap (λ (end : List ℕ). c.args.line.now ++ end) none ∙ append-nil c.args.line.now)) c.in_ok-write_all.ensures

pub returns-in_err-write_all : goal.returns-in_err-write_all
returns-in_err-write_all g c =
    let error = err_from_is_err_and c.from_residual.result c.from_residual.ensures.1 in
    rw (error.1, error.2) (Writes-cut g.W.Output.step c.args.writer.now c.write_all.new.writer c.args.line.now
    (missing_end c.args.terminator c.args.line.now) c.in_err-write_all.field-0.0 c.in_err-write_all.ensures)

pub returns : goal.returns
returns g c =
    let is : missing_end c.args.terminator c.args.line.now ≡ c.args.terminator ∷ [] = search rules in
    subst (λ end. Writes g.W.Output.step c.args.writer.now (c.args.line.now ++ end) c.write_all-2.result
    c.write_all-2.new.writer) (sym is)
    (Writes-more g.W.Output.step c.args.writer.now c.write_all.new.writer c.write_all-2.new.writer c.args.line.now
    (c.args.terminator ∷ []) c.write_all-2.result c.in_ok-write_all.ensures c.write_all-2.ensures)
