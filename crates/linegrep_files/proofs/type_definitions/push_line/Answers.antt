use Rattle.std.proofs.Common.{◌∙◌, ap, codes, map}
use Rattle.linegrep_files.proofs.TypeListLemmas.{joined-globs, line-pushed}
use Rattle.linegrep_files.proofs.type_definitions.push_line.Goals as goal

pub returns : goal.returns
returns c = line-pushed c.push_str-4.result _ _ _ _ _ _ _ _ c.in_ok-push_str.ensures.bytes c.in_ok-push_str-2.ensures.bytes
    c.in_ok-push_str-3.ensures.bytes
    (c.as_str.ensures.value ∙ c.in_ok-globs.ensures.ok
    ∙ joined-globs (codes ", ") c.deref.result.now _ (ap (map (λ glob. glob.now)) c.deref.ensures.value ∙ c.in_ok-globs_of.ensures))
    c.push_str-4.ensures.bytes
