-- The completion of PowerShell.
use Rattle.std.specs.Prelude.{ℕ, ◌==◌, if◌then◌else◌, List, [], ◌++◌, codes, flat_map, length}
use Rattle.linegrep_help.specs.Entries.{Said, all_columns, said_of}
use Rattle.linegrep_help.specs.declared.power_shell.TheConstants.{POWER_SHELL_END}
use Rattle.linegrep_help.specs.declared.power_shell.TheConstants.{POWER_SHELL_START}
use Rattle.linegrep_help.specs.declared.power_shell.TheConstants.{WORD_END, WORD_START}

-- a word, and what a list shows of it
abbrev pub power_shell_word : List ℕ → List ℕ → List ℕ
power_shell_word hyphens spelling =
    (WORD_START.now ++ (hyphens ++ spelling)) ++ (codes "\", \"" ++ (spelling ++ WORD_END.now))

-- what is said of a word. It mustn't be empty, so that it begins with the word
abbrev pub power_shell_tip : List ℕ → List ℕ → Said → List ℕ
power_shell_tip hyphens spelling one =
    codes "\"" ++ (hyphens ++ (spelling ++ (codes " " ++ (one.summary ++ codes "\")\n"))))

-- a spelling of an option
abbrev pub power_shell_spelling : List ℕ → List ℕ → Said → List ℕ
power_shell_spelling hyphens spelling one = if length spelling == 0 then []
    else power_shell_word hyphens spelling ++ power_shell_tip hyphens spelling one

-- both spellings of an option
abbrev pub power_shell_entry : Said → List ℕ
power_shell_entry one = power_shell_spelling (codes "-") one.letter one
    ++ power_shell_spelling (codes "--") one.name one

-- what PowerShell reads
unfoldable pub power_shell : List ℕ
power_shell = POWER_SHELL_START.now
    ++ (flat_map power_shell_entry (said_of all_columns) ++ POWER_SHELL_END.now)
