-- Why the parts of some bytes aren't found.
use Rattle.std.specs.Prelude.{List, ℕ}
use Rattle.grep_replace.specs.declared.parts.PartsError.{PartsError}
use Rattle.grep_replace.specs.declared.parts.PartsError.TheVariants.{Matcher, Memory}

-- memory is out, or the matcher failed with an error that it may return for these bytes
abbrev pub IsPartsError : {E : Type 0} → (List ℕ → E → Type 0) → List ℕ → PartsError E → Type 0
IsPartsError fails bytes Memory = Unit {0}
IsPartsError fails bytes (Matcher error) = fails bytes error
