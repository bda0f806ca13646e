-- The completion of bash.
use Rattle.std.specs.Prelude.{ℕ, if◌then◌else◌, List, [], ◌++◌, codes, flat_map}
use Rattle.linegrep_options.specs.Rows.{takes_value}
use Rattle.linegrep_options.specs.declared.table.Value.{Value}
use Rattle.linegrep_options.specs.declared.table.Value.TheVariants.{«Type»}
use Rattle.linegrep_help.specs.Entries.{Said, all_columns, said_of, spellings, word_list}
use Rattle.linegrep_help.specs.declared.bash.TheConstants.{BASH_END, BASH_MIDDLE, BASH_START, TYPES}

-- the spellings of an option, among those of all options
abbrev pub bash_names : Said → List ℕ
bash_names one = spellings (codes " ") one ++ codes " "

-- what is offered as a value: the words that it may be, and the types of files
abbrev pub bash_words : Value → List ℕ
bash_words «Type» = TYPES.now
bash_words value = word_list value

-- what is offered after an option, if it takes a value
abbrev pub bash_case : Said → List ℕ
bash_case one = if takes_value one.value
    then codes "    " ++ (spellings (codes "|") one
    ++ (codes ") words=\"" ++ (bash_words one.value ++ codes "\" ;;\n")))
    else []

-- what bash reads: what is offered after each option, and the spellings of all options
unfoldable pub bash : List ℕ
bash = BASH_START.now ++ (flat_map bash_case (said_of all_columns) ++ (BASH_MIDDLE.now
    ++ (flat_map bash_names (said_of all_columns) ++ BASH_END.now)))
