-- What a path has that is made, if it is.
use Rattle.std.proofs.Common.{◌≡◌, ℕ, List, subst, sym}
use Rattle.std.specs.Global.{Global}
use Rattle.std.specs.Prelude.{Err, IfOk, Ok, Result, String, string_bytes}

pub ok-at : {E : Type 0} (result : Result (String Global) E) (P : List ℕ → Type 0) (bytes : List ℕ)
    → IfOk result (λ path. string_bytes path ≡ bytes) → P bytes → IfOk result (λ path. P (string_bytes path))
ok-at (Ok path) P bytes is has = subst P (sym is) has
ok-at (Err e) P bytes is has = tt
