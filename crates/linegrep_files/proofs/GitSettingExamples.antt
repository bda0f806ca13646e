-- Worked examples of git's settings, for which git says the same.
use Rattle.std.proofs.Common.{◌≡◌, None, Some, codes, refl}
use Rattle.linegrep_files.specs.GitSettings.{excludes_file}

-- blanks around a value and a comment don't count
pub comment : excludes_file (codes "[core]\n\texcludesFile = a b # c\n") ≡ Some (codes "a b")
comment = refl

-- quotes keep both
pub quotes : excludes_file (codes "[core]\nexcludesfile = \" a;b\"c ; d") ≡ Some (codes " a;bc")
quotes = refl

-- letters may be large, and a setting may be in the line of the heading
pub letters : excludes_file (codes "[CORE] ExcludesFile=a\r\n") ≡ Some (codes "a")
letters = refl

-- a backslash
pub escapes : excludes_file (codes "[core]\nexcludesfile = a\\\\\\\"\\tb") ≡ Some (codes "a\\\"\tb")
escapes = refl

-- a line that goes on in the next
pub goes-on : excludes_file (codes "[core]\nexcludesfile = a\\\nb # \\\nother = c") ≡ Some (codes "ab")
goes-on = refl

-- the last value counts
pub last : excludes_file (codes "[core]\nexcludesfile = a\nexcludesfile = b\n[other]\nexcludesfile = c")
    ≡ Some (codes "b")
last = refl

-- a subsection is another section
pub subsection : excludes_file (codes "[core \"]\"]\nexcludesfile = a\n# [core]\nexcludesfile = b") ≡ None
subsection = refl
