-- The manual page, in roff.
use Rattle.std.specs.Prelude.{ℕ, Bool, not, ◌&&◌, ◌||◌, ◌==◌, if◌then◌else◌, List, [], ◌++◌}
use Rattle.std.specs.Prelude.{codes, flat_map, length, slice_index}
use Rattle.std.specs.List.{list_all, slice_split}
use Rattle.linegrep_options.specs.Rows.{value_name}
use Rattle.linegrep_help.specs.Entries.{Said, all_columns, framed, said_of, spellings}
use Rattle.linegrep_help.specs.declared.help.TheConstants.{ABOUT, EXAMPLES, NOTES, PATHS, USAGE}
use Rattle.linegrep_help.specs.declared.manual.TheConstants.{MANUAL_START}

-- the lines of a text are text in roff: none begins with a dot or an apostrophe, which are 46 and
-- 39, and there is no backslash, which is 92
abbrev pub is_line : List ℕ → Bool
is_line line = not (slice_index line 0 == 46 || slice_index line 0 == 39)
    && list_all (λ byte. not (byte == 92)) line

abbrev pub has_lines : List ℕ → Bool
has_lines text = list_all is_line (slice_split (λ byte. byte == 10) text)

-- the paragraph of an option: its spellings in bold, what its value is called in italics, and what
-- it does
abbrev pub manual_line : Said → List ℕ
manual_line one = if length one.summary == 0 then []
    else codes ".TP\n\\fB" ++ (spellings (codes "\\fR, \\fB") one ++ (codes "\\fR"
    ++ (framed (codes " \\fI") (value_name one.value) (codes "\\fR")
    ++ (codes "\n\\&" ++ (one.summary ++ codes "\n")))))

-- an option, with its heading if it has one
abbrev pub manual_entry : Said → List ℕ
manual_entry one = framed (codes ".SS ") one.heading (codes "\n") ++ manual_line one

-- the page. It has the texts of help. Each hyphen is written as such, and in examples a backslash
unfoldable pub manual : List ℕ
manual = MANUAL_START.now ++ ((ABOUT.now ++ (codes ".SH SYNOPSIS\n.nf\n" ++ USAGE.now))
    ++ ((codes ".fi\n.SH DESCRIPTION\n" ++ (PATHS.now ++ codes ".SH OPTIONS\n"))
    ++ (flat_map manual_entry (said_of all_columns)
    ++ ((codes ".SH NOTES\n" ++ (NOTES.now ++ codes ".SH EXAMPLES\n.nf\n.eo\n"))
    ++ (EXAMPLES.now ++ codes ".ec\n.fi\n")))))
