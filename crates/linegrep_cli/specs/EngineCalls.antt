-- What an engine is asked to do.
use Rattle.std.specs.Prelude.{ℕ, Bool, List, Option, Result}
use Rattle.std.specs.Borrow.{Bor}
use Rattle.std.specs.declared.io.Error.{Error}
use Rattle.grep_printer.specs.declared.printed_search.Searched.{Searched}

-- a call of an engine, with what it was given and what it returned: the search of a file, or of
-- standard input, with a path if there is one; listing a file that isn't searched; a text on
-- standard error; whether the search of a binary file ends once it is found to be binary; and the
-- end of the run
pub data EngineCall (F : Type 0) : Type 0 where
  searches_file : Option (Bor (List ℕ)) → F → Searched → EngineCall F
  searches_input : Option (Bor (List ℕ)) → Searched → EngineCall F
  lists : Bor (List ℕ) → Searched → EngineCall F
  says : Result (Unit {0}) Error → EngineCall F
  sets_quits : Bool → EngineCall F
  finishes : Result (Unit {0}) Error → EngineCall F
