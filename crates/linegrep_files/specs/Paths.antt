-- Paths, and the parts of texts.
use Rattle.std.specs.Prelude.{◌≡◌, ◌≢◌, ℕ, ◌+◌, ◌<◌, ◌≤◌, Bool, not, ◌&&◌, ◌==◌, if◌then◌else◌}
use Rattle.std.specs.Prelude.{List, ◌∷◌, ◌++◌, filter, length, slice_index}
use Rattle.std.specs.List.{slice_split}
use Rattle.grep_ignore.specs.Classes.{is_empty}
use Rattle.grep_ignore.specs.Lines.{ends_with}

-- the parts of a text between one byte and the next, without empty ones
abbrev pub parts_of : ℕ → List ℕ → List (List ℕ)
parts_of end text = filter (λ part. not (is_empty part)) (slice_split (λ byte. byte == end) text)

-- a slash is between the path of a folder and a name
abbrev pub needs_slash : List ℕ → Bool
needs_slash folder = not (is_empty folder) && not (ends_with 47 folder)

-- how many bytes a path has without the slashes at its end
pub record IsRoot (path : List ℕ) (root : ℕ) : Type 0 where
  pub within : root ≤ length path
  pub slashes : (k : ℕ) → root ≤ k → k < length path → slice_index path k ≡ 47
  pub other : (k : ℕ) → root ≡ k + 1 → slice_index path k ≢ 47

-- the path of something with a name in a folder
abbrev pub joined : List ℕ → List ℕ → List ℕ
joined folder name = if needs_slash folder then folder ++ 47 ∷ name else folder ++ name
