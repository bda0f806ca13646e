-- The rules of the lines of an ignore file.
use Rattle.std.specs.Prelude.{◌≡◌, ℕ, Bool, true, false, if◌then◌else◌, ◌⊎◌, ◌&&◌, ◌||◌, ◌==◌}
use Rattle.std.specs.Prelude.{List, [], ◌∷◌, ◌++◌, drop, take, length}
use Rattle.std.specs.Prelude.{nat_lt, nat_eq, slice_index, ◌-◌, ◌+◌}
use Rattle.std.specs.List.{list_any, slice_split, starts_with}
use Rattle.grep_ignore.specs.Classes.{begins_with, is_empty}
use Rattle.grep_ignore.specs.Globs.{IsGlob, IsMalformed}
use Rattle.grep_ignore.specs.declared.rules.Misread.{Misread}
use Rattle.grep_ignore.specs.declared.rules.Rule.{Rule}
use Rattle.grep_ignore.specs.declared.wildcards.Piece.{Piece}
use Rattle.grep_ignore.specs.declared.wildcards.Piece.TheVariants.{Folders}

-- a text ends in a byte
abbrev pub ends_with : ℕ → List ℕ → Bool
ends_with last text = nat_lt 0 (length text) && (slice_index text (length text - 1) == last)

-- all of a text but its last byte
abbrev pub without_last : List ℕ → List ℕ
without_last text = take (length text - 1) text

-- a byte before a text, unless it is a space and the text is empty
abbrev pub before_text : ℕ → List ℕ → List ℕ
before_text byte text = if (byte == 32) && is_empty text then [] else byte ∷ text

-- a text without the spaces at its end, of which a backslash keeps the one after it
abbrev pub without_spaces : List ℕ → List ℕ
without_spaces [] = []
without_spaces (byte ∷ []) = before_text byte []
without_spaces (byte ∷ next ∷ rest) =
    if byte == 92 then byte ∷ next ∷ without_spaces rest
    else before_text byte (without_spaces (next ∷ rest))

-- what a line says: without a carriage return at its end, and then without spaces there
abbrev pub said : List ℕ → List ℕ
said line = without_spaces (if ends_with 13 line then without_last line else line)

-- what a line says is no rule: it is blank, or begins with a number sign
abbrev pub has_no_rule : List ℕ → Bool
has_no_rule text = is_empty text || begins_with 35 text

-- an exclamation mark at the start makes a rule one that keeps, a slash at the end one about
-- folders alone; what is left is the glob
abbrev pub keeps_of : List ℕ → Bool
keeps_of text = begins_with 33 text

abbrev pub marked_of : List ℕ → List ℕ
marked_of text = if keeps_of text then drop 1 text else text

abbrev pub names_folders_of : List ℕ → Bool
names_folders_of text = ends_with 47 (marked_of text)

abbrev pub glob_of : List ℕ → List ℕ
glob_of text = if names_folders_of text then without_last (marked_of text) else marked_of text

-- a glob without a slash is about names in any folder; a slash at the start is no part of a path
abbrev pub is_anchored : List ℕ → Bool
is_anchored glob = list_any (λ byte. byte == 47) glob

abbrev pub path_glob : List ℕ → List ℕ
path_glob glob = if begins_with 47 glob then drop 1 glob else glob

-- the rule that a text says: whether it keeps, whether it names folders, and its pieces
abbrev pub IsRule : Bool → List ℕ → Rule → Type 0
IsRule ignores_case text rule = (rule.keeps ≡ keeps_of text)
    × (rule.names_folders ≡ names_folders_of text)
    × ((pieces : List Piece) × IsGlob ignores_case (path_glob (glob_of text)) pieces
    × (rule.wildcards ≡ (if is_anchored (glob_of text) then pieces else Folders ∷ pieces)))

-- the rules of the line with a number, if it is read: one, or none if it says none
abbrev pub IsRead : Bool → ℕ → List ℕ → List Rule → Type 0
IsRead ignores_case number line rules =
    ((has_no_rule (said line) ≡ true) × (rules ≡ []))
    ⊎ ((has_no_rule (said line) ≡ false) × ((rule : Rule) × (rules ≡ rule ∷ [])
    × IsRule ignores_case (said line) rule × (rule.number ≡ number)))

-- a line whose glob isn't well formed
abbrev pub IsMisread : Bool → List ℕ → Type 0
IsMisread ignores_case line = (has_no_rule (said line) ≡ false)
    × IsMalformed ignores_case (path_glob (glob_of (said line)))

-- the rules of the line with a number, and that it is misread if its glob isn't well formed
abbrev pub AreOfLine : Bool → ℕ → List ℕ → List Rule → List Misread → Type 0
AreOfLine ignores_case number line rules misread =
    (IsRead ignores_case number line rules × (misread ≡ []))
    ⊎ (IsMisread ignores_case line × (rules ≡ [])
    × ((fault : Misread) × (misread ≡ fault ∷ []) × (fault.number ≡ number)))

-- those of some lines, one line after another, by the number of the first
abbrev pub AreOfLines : Bool → ℕ → List (List ℕ) → List Rule → List Misread → Type 0
AreOfLines ignores_case number [] rules misread = (rules ≡ []) × (misread ≡ [])
AreOfLines ignores_case number (line ∷ later) rules misread =
    (first : List Rule) × (others : List Rule) × (rules ≡ first ++ others)
    × ((fault : List Misread) × (more : List Misread) × (misread ≡ fault ++ more)
    × AreOfLine ignores_case number line first fault
    × AreOfLines ignores_case (number + 1) later others more)

-- the lines of a file, without a mark of UTF-8 at its start
abbrev pub without_mark : List ℕ → List ℕ
without_mark contents =
    if starts_with nat_eq contents (239 ∷ 187 ∷ 191 ∷ []) then drop 3 contents else contents

abbrev pub lines_of : List ℕ → List (List ℕ)
lines_of contents = slice_split (λ byte. byte == 10) (without_mark contents)
