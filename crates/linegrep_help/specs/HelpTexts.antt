-- The texts of help, and of the version.
use Rattle.std.specs.Prelude.{ℕ, ◌-◌, ◌==◌, if◌then◌else◌, List, [], ◌++◌, codes, flat_map, length}
use Rattle.std.specs.Prelude.{nat_lt, replicate}
use Rattle.linegrep_options.specs.Rows.{value_name}
use Rattle.linegrep_help.specs.Entries.{Said, all_columns, framed, said_of, spellings}
use Rattle.linegrep_help.specs.declared.help.TheConstants.{ABOUT, EXAMPLES, NOTES, PATHS}
use Rattle.linegrep_help.specs.declared.help.TheConstants.{SHORT_HELP, USAGE, VERSION}

-- an option with its letter, its name and what help calls its value
abbrev pub help_names : Said → List ℕ
help_names one = (if length one.letter == 0 then codes "      " else codes "  ")
    ++ (spellings (codes ", ") one ++ framed (codes " ") (value_name one.value) [])

-- a text, and then blanks up to where the second column begins; or if it is too long for the first
-- column, a new line, and in this the blanks
abbrev pub in_column : List ℕ → List ℕ
in_column text = text ++ (if nat_lt (length text) 29 then replicate (29 - length text) 32
    else codes "\n" ++ replicate 29 32)

-- the line of an option. Help leaves those out of which nothing is said
abbrev pub help_line : Said → List ℕ
help_line one = if length one.summary == 0 then []
    else in_column (help_names one) ++ (one.summary ++ codes "\n")

-- an option, with its heading if it has one
abbrev pub help_entry : Said → List ℕ
help_entry one = framed (codes "\n") one.heading (codes ":\n") ++ help_line one

-- what `--help` writes: what comes before the options, the options, and what comes after them
unfoldable pub help : List ℕ
help = ABOUT.now ++ ((codes "\nUsage:\n" ++ (USAGE.now ++ codes "\n"))
    ++ ((PATHS.now ++ (codes "\nExamples:\n" ++ EXAMPLES.now))
    ++ (flat_map help_entry (said_of all_columns) ++ (codes "\n" ++ NOTES.now))))

-- what `-h` writes
unfoldable pub short_help : List ℕ
short_help = SHORT_HELP.now

-- what `--version` writes
unfoldable pub version : List ℕ
version = VERSION.now
