-- What `--generate` writes.
use Rattle.std.specs.Prelude.{ℕ, if◌then◌else◌, List, codes}
use Rattle.std.specs.Str.{bytes_eq}
use Rattle.linegrep_help.specs.BashTexts.{bash}
use Rattle.linegrep_help.specs.FishTexts.{fish}
use Rattle.linegrep_help.specs.ManualTexts.{manual}
use Rattle.linegrep_help.specs.PowerShellTexts.{power_shell}
use Rattle.linegrep_help.specs.ZshTexts.{zsh}

-- the text of a kind, which is `man`, `complete-bash`, `complete-zsh`, `complete-fish` or else
-- `complete-powershell`
abbrev pub generated : List ℕ → List ℕ
generated kind = if bytes_eq kind (codes "man") then manual
    else if bytes_eq kind (codes "complete-bash") then bash
    else if bytes_eq kind (codes "complete-zsh") then zsh
    else if bytes_eq kind (codes "complete-fish") then fish
    else power_shell
