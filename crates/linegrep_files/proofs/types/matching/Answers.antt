use Rattle.linegrep_files.proofs.MalformedLemmas.{malformed-at}
use Rattle.linegrep_files.proofs.types.matching.Goals as goal

pub returns-in-Err-Malformed-clause-malformed : goal.returns-in-Err-Malformed-clause-malformed
returns-in-Err-Malformed-clause-malformed c = malformed-at _ _ c.in-Err-Malformed.field-0-is
    (rw c.as_bytes.ensures.value at c.in-Err-Malformed.ensures.err)
