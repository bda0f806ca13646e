-- What is made of each option.
use Rattle.std.specs.Prelude.{ℕ, List}
use Rattle.linegrep_help.specs.BashTexts.{bash_case, bash_names}
use Rattle.linegrep_help.specs.Entries.{Said}
use Rattle.linegrep_help.specs.FishTexts.{fish_entry}
use Rattle.linegrep_help.specs.HelpTexts.{help_entry}
use Rattle.linegrep_help.specs.ManualTexts.{manual_entry}
use Rattle.linegrep_help.specs.PowerShellTexts.{power_shell_entry}
use Rattle.linegrep_help.specs.ZshTexts.{zsh_entry}
use Rattle.linegrep_help.specs.declared.parts.Part.{Part}
use Rattle.linegrep_help.specs.declared.parts.Part.TheVariants.{BashCases, BashNames, Fish, Help}
use Rattle.linegrep_help.specs.declared.parts.Part.TheVariants.{Manual, PowerShell, Zsh}

-- what a part says of an option
abbrev pub part_text : Part → Said → List ℕ
part_text Help = help_entry
part_text Manual = manual_entry
part_text BashCases = bash_case
part_text BashNames = bash_names
part_text Zsh = zsh_entry
part_text Fish = fish_entry
part_text PowerShell = power_shell_entry
