-- The completion of fish.
use Rattle.std.specs.Prelude.{ℕ, List, [], ◌++◌, codes, flat_map}
use Rattle.linegrep_options.specs.declared.table.Value.{Value}
use Rattle.linegrep_options.specs.declared.table.Value.TheVariants.{File, Nothing, «Type»}
use Rattle.linegrep_help.specs.Entries.{Said, all_columns, framed, said_of, word_list}

-- what is offered as a value: files, types of files, or the words that it may be
abbrev pub fish_value : Value → List ℕ
fish_value Nothing = []
fish_value File = codes " -r -F"
fish_value «Type» = codes " -x -a \"(linegrep --type-list | string replace : \\t)\""
fish_value value = codes " -x" ++ framed (codes " -a \"") (word_list value) (codes "\"")

-- the command for an option
abbrev pub fish_entry : Said → List ℕ
fish_entry one = codes "complete -c linegrep" ++ (framed (codes " -s ") one.letter []
    ++ (framed (codes " -l ") one.name [] ++ (fish_value one.value
    ++ (framed (codes " -d \"") one.summary (codes "\"") ++ codes "\n"))))

-- what fish reads
unfoldable pub fish : List ℕ
fish = flat_map fish_entry (said_of all_columns)
