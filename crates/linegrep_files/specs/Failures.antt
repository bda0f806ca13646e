-- What goes wrong.
use Rattle.std.specs.Prelude.{ℕ, Bool, List, None, Option, Some, String, codes, is_some}
use Rattle.std.specs.Prelude.{string_bytes}
use Rattle.std.specs.Global.{Global}
use Rattle.linegrep_files.specs.declared.failures.Failure.{Failure}

-- a failure has a text of its own. A failure without one says that there is no memory
abbrev pub has_cause : Failure → Bool
has_cause failure = is_some failure.text

-- what is said of it
abbrev pub text_of : Failure → List ℕ
text_of failure = said failure.text
  where
    said : Option (String Global) → List ℕ
    said None = codes "linegrep: out of memory\n"
    said (Some text) = string_bytes text
