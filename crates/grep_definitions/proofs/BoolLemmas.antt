-- Booleans.
use Rattle.std.proofs.Common.{◌≡◌, Bool, true, false}

-- no test both passes and doesn't
pub clash : {b : Bool} → b ≡ true → b ≡ false → ⊥
clash {b} is_yes is_no = cc
