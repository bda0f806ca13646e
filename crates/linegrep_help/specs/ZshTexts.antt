-- The completion of zsh.
use Rattle.std.specs.Prelude.{ℕ, ◌==◌, if◌then◌else◌, List, [], ◌++◌, codes, flat_map, length}
use Rattle.linegrep_options.specs.Rows.{takes_value, value_name}
use Rattle.linegrep_options.specs.declared.table.Value.{Value}
use Rattle.linegrep_options.specs.declared.table.Value.TheVariants.{File, «Type»}
use Rattle.linegrep_help.specs.Entries.{Said, all_columns, framed, said_of, word_list}
use Rattle.linegrep_help.specs.declared.zsh.TheConstants.{ZSH_END, ZSH_START}

-- what is offered as a value: files, types of files, or the words that it may be
abbrev pub zsh_action : Value → List ℕ
zsh_action File = codes "_files"
zsh_action «Type» = codes "_linegrep_types"
zsh_action value = framed (codes "(") (word_list value) (codes ")")

-- what comes after a spelling: what help calls the value, and what is offered
abbrev pub zsh_value : Value → List ℕ
zsh_value value = framed (codes ":") (value_name value) (codes ":" ++ zsh_action value)

-- what an option does, and what comes after it
abbrev pub zsh_said : Said → List ℕ
zsh_said one =
    framed (codes "[") one.summary (codes "]") ++ (zsh_value one.value ++ codes "\" \\\n")

-- a spelling of an option, which may be given several times. A text after it says that a value may
-- be in the same word
abbrev pub zsh_spelling : List ℕ → List ℕ → List ℕ → Said → List ℕ
zsh_spelling hyphens spelling joint one = if length spelling == 0 then []
    else codes "    \"*" ++ (hyphens ++ (spelling
    ++ ((if takes_value one.value then joint else []) ++ zsh_said one)))

-- both spellings of an option
abbrev pub zsh_entry : Said → List ℕ
zsh_entry one = zsh_spelling (codes "-") one.letter (codes "+") one
    ++ zsh_spelling (codes "--") one.name (codes "=") one

-- what zsh reads
unfoldable pub zsh : List ℕ
zsh = ZSH_START.now ++ (flat_map zsh_entry (said_of all_columns) ++ ZSH_END.now)
