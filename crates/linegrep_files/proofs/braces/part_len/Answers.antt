use Rattle.std.proofs.Common.{◌∙◌, sym}
use Rattle.linegrep_files.proofs.BraceLemmas.{byte-part}
use Rattle.linegrep_files.proofs.braces.part_len.Goals as goal

pub returns-clause-ok : goal.returns-clause-ok
returns-clause-ok c = λ is_choice begins. byte-part is_choice c.args.glob.now c.requires
    (sym c.begins_with.ensures ∙ c.if-begins_with.false)
    (sym c.begins_with-2.ensures ∙ c.if-begins_with-2.false) begins
