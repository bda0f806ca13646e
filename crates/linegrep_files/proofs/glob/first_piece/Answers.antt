use Rattle.std.proofs.Common.{◌∙◌, sym}
use Rattle.linegrep_files.proofs.PieceLemmas.{ignore-fault, ignore-step}
use Rattle.linegrep_files.proofs.glob.first_piece.Goals as goal

pub returns-else-has_stars-clause-ok : goal.returns-else-has_stars-clause-ok
returns-else-has_stars-clause-ok c = ignore-step c.read_piece.result c.args.ignores_case c.args.begins_name
    c.args.text.now (sym c.begins_with.ensures ∙ c.if-begins_with.false) (sym c.has_stars.ensures ∙ c.if-has_stars.false)
    c.read_piece.ensures

pub returns-else-has_stars-clause-err : goal.returns-else-has_stars-clause-err
returns-else-has_stars-clause-err c = ignore-fault c.read_piece.result _ c.args.text.now
    (sym c.begins_with.ensures ∙ c.if-begins_with.false) c.read_piece.ensures
