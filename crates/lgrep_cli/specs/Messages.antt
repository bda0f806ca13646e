-- What is written to standard error.
use Rattle.std.specs.Prelude.{◌≡◌, ℕ, codes, List, [], ◌∷◌, ◌++◌, Result, Ok, Err}
use Rattle.std.specs.declared.io.Error.{Error}
use Rattle.grep_output.specs.Outputs.{OutputCall, Writes}

-- the line after a usage error
abbrev pub usage_line : List ℕ
usage_line =
    codes "usage: lgrep [-v] [-A N] [-B N] [-m N] [-U] [--passthru] [-c] LITERAL [PATH]" ++ 10 ∷ []

-- the line after any other error
abbrev pub failed_line : List ℕ
failed_line = codes "lgrep: search failed" ++ 10 ∷ []

module _ {E : Type 0} (step : E → OutputCall → E → Type 0) where
  -- this line is written, or the output failed before
  abbrev pub WritesMessage : List ℕ → E → E → Type 0
  WritesMessage line messages messages' =
      (written : Result (Unit {0}) Error) × Writes step messages line written messages'

  -- what is written after a run: that it failed, or nothing
  abbrev pub WritesFailure : {A B : Type 0} → Result A B → E → E → Type 0
  WritesFailure (Ok found) messages messages' = messages' ≡ messages
  WritesFailure (Err error) messages messages' = WritesMessage failed_line messages messages'
