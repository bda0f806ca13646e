-- What isn't visited in folders, and why, if that is asked for.
use Rattle.std.specs.Prelude.{◌≡◌, ◌⊎◌, ℕ, List, ◌++◌, None, Option, Some, MatchOption}
use Rattle.std.specs.Prelude.{slice_get, string_bytes}
use Rattle.std.specs.Option.{option_map}
use Rattle.std.specs.Str.{IsUtf8}
use Rattle.linegrep_files.specs.Choices.{notes_of}
use Rattle.linegrep_files.specs.Words.{escaped}
use Rattle.linegrep_files.specs.declared.choices.Choices.{Choices}
use Rattle.linegrep_files.specs.declared.notes.Note.{Note}
use Rattle.linegrep_files.specs.declared.notes.Reason.{Reason}
use Rattle.linegrep_files.specs.declared.notes.Reason.TheVariants.{Rule}

-- the path of the ignore file that has the rule, if a rule is the reason
abbrev pub file_of : Choices → Reason → Option (List ℕ)
file_of choices (Rule layer line) =
    option_map (λ one. string_bytes one.file) (slice_get choices.ignores.layers layer)
file_of choices reason = None

-- what is at a path isn't visited, and a note says why
pub record IsNote (choices : Choices) (path : List ℕ) (reason : Reason) (note : Note) : Type 0 where
  pub path_is : string_bytes note.path ≡ path
  pub reason_is : note.reason ≡ reason
  pub file_is : option_map string_bytes note.file ≡ file_of choices reason

-- notes of some kind were added to those that were there, if notes are asked for
abbrev pub AreNoted : (List Note → Type 0) → Choices → Choices → Type 0
AreNoted Are old new = MatchOption (notes_of old) (notes_of new ≡ None)
    (λ before. (notes : List Note) × Are notes × (notes_of new ≡ Some (before ++ notes)))

-- the word for a name: the name, or if it isn't UTF-8 the word that stands for its bytes
abbrev pub IsWord : List ℕ → List ℕ → Type 0
IsWord name word = (IsUtf8 name × (word ≡ name)) ⊎ ((IsUtf8 name → ⊥) × (word ≡ escaped name))
