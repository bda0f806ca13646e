-- What holds of the value of a result, or of its error.
use Rattle.std.proofs.Common.{Result, Ok, Err}
use Rattle.std.specs.Prelude.{IfOk, IfErr}

-- what follows of each value holds of the value of a result, if it has one, and of an error
pub if_ok-each : {T E : Type 0} (P Q : T → Type 0) (result : Result T E) → ((x : T) → P x → Q x)
    → IfOk result P → IfOk result Q
if_ok-each P Q (Ok x) each holds = each x holds
if_ok-each P Q (Err e) each holds = tt

pub if_err-each : {T E : Type 0} (P Q : E → Type 0) (result : Result T E) → ((e : E) → P e → Q e)
    → IfErr result P → IfErr result Q
if_err-each P Q (Ok x) each holds = tt
if_err-each P Q (Err e) each holds = each e holds
