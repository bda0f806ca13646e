-- Runs over a path or an input.
use Rattle.std.proofs.Common.{◌≡◌, ℕ, List, refl}
use Rattle.std.specs.Prelude.{Option, Some, String, string_bytes, Result}
use Rattle.std.specs.Global.{Global}
use Rattle.std.specs.declared.io.Error.{Error}
use Rattle.grep_decode.specs.Reading.{Reader}
use Rattle.grep_decode.specs.Source.{ReadResult}
use Rattle.grep_output.specs.Outputs.{OutputCall}
use Rattle.lgrep_cli.specs.declared.options.Options.{Options}
use Rattle.lgrep_cli.specs.ProgramRuns.{IsPathRun, IsRunAt, RunResult}

module _ {F R W : Type 0} (opens : List ℕ → Result F Error → Type 0) (file_remaining : Reader F → Option (List ℕ))
    (file_step : Reader F → ReadResult → Reader F → Type 0) (remaining : R → Option (List ℕ))
    (read_step : R → ReadResult → R → Type 0) (write_step : W → OutputCall → W → Type 0)
    (contents : W → Option (List ℕ)) where
  -- a run over a path is one at the options' path
  pub path-run : (own : Option (String Global)) (path : String Global) (bytes : List ℕ) (options : Options) (input : R)
      (writer writer' : W) (result : RunResult) → own ≡ Some path → bytes ≡ string_bytes path
      → IsPathRun opens file_remaining file_step write_step contents bytes options writer result writer'
      → IsRunAt opens file_remaining file_step remaining read_step write_step contents own options input writer result
      input writer'
  path-run own path bytes options input writer writer' result is same run = rw is (rw same at run, refl)
