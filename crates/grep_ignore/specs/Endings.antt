-- Values that are about paths, each of which has a text that those paths end in, or that a name of
-- them begins with. The texts are compared by numbers, the same for the same text.
use Rattle.std.specs.Prelude.{◌≡◌, ◌≢◌, ◌⊎◌, ℕ, ◌+◌, ◌-◌, ◌*◌, ◌%◌, ◌^◌, ◌<◌, ◌≤◌, ◌==◌, ◌||◌, ◌++◌}
use Rattle.std.specs.Prelude.{Bool, true, false, List, [], ◌∷◌, drop, length, slice_index}
use Rattle.std.specs.Prelude.{slice_index_or, take, None, Option, Some}

-- a path ends in a text
abbrev pub EndsIn : List ℕ → List ℕ → Type 0
EndsIn path text = (start : ℕ) × (start ≤ length path) × (drop start path ≡ text)

-- a text is where a name of a path begins
abbrev pub HasStart : List ℕ → List ℕ → Type 0
HasStart path text = (before : List ℕ) × (after : List ℕ) × (path ≡ before ++ text ++ after)
    × ((before ≡ []) ⊎ ((front : List ℕ) × (before ≡ front ++ 47 ∷ [])))

-- the number of a text with a byte before it, by that of the text
unfoldable pub mixed : ℕ → ℕ → ℕ
mixed byte number = (number % 2 ^ 32) * 1000003 + byte

-- the number of a text
abbrev pub number_of : List ℕ → ℕ
number_of [] = 0
number_of (byte ∷ rest) = mixed byte (number_of rest)

-- the number of a text by its first bytes, after some that have a number
abbrev pub number_after : ℕ → List ℕ → ℕ
number_after number [] = number
number_after number (byte ∷ rest) = number_after (mixed byte number) rest

-- a name begins at a position of a path
abbrev pub begins_at : List ℕ → ℕ → Bool
begins_at path start = (start == 0) || (slice_index path (start - 1) == 47)

-- a number is that of an end of a path, or if such are looked for that of a text that a name of it
-- begins with, which has no more than so many bytes
abbrev pub IsNumberIn : Bool → ℕ → List ℕ → ℕ → Type 0
IsNumberIn has_starts longest path number =
    ((start : ℕ) × (start ≤ length path) × (length path - start ≤ longest)
    × (number ≡ number_of (drop start path)))
    ⊎ ((has_starts ≡ true) × ((start : ℕ) × (stop : ℕ) × (start < stop) × (stop ≤ length path)
    × (stop - start ≤ longest) × (begins_at path start ≡ true)
    × (number ≡ number_after 1 (take (stop - start) (drop start path)))))

-- the number for an ending, or if that is empty for a start that isn't
abbrev pub IsNumberFor : List ℕ → List ℕ → ℕ → Bool → Type 0
IsNumberFor ending start number is_start =
    ((is_start ≡ false) × (number ≡ number_of ending))
    ⊎ ((is_start ≡ true) × (start ≢ []) × (number ≡ number_after 1 start))

-- By what values are about: paths, of folders or of files.
module _ {T : Type 0} (about : T → List ℕ → Bool → Type 0) (items : List T) where
  -- no value from a position on is about what is at a path
  abbrev pub NoneFrom : ℕ → List ℕ → Bool → Type 0
  NoneFrom start path is_folder = (k : ℕ) (item : T) → start ≤ k → k < length items
      → about (slice_index_or items k item) path is_folder → ⊥

  -- the last of so many values is about it
  abbrev pub IsAboutAt : ℕ → List ℕ → Bool → T → Type 0
  IsAboutAt count path is_folder item = (slice_index_or items (count - 1) item ≡ item)
      × about item path is_folder

  -- the last that is about what is at a path, or that there is none
  abbrev pub IsLastAbout : List ℕ → Bool → Option T → Type 0
  IsLastAbout path is_folder None = NoneFrom 0 path is_folder
  IsLastAbout path is_folder (Some item) = (last : ℕ) × (last < length items)
      × (slice_index_or items last item ≡ item) × about item path is_folder
      × NoneFrom (last + 1) path is_folder

  -- By the numbers of texts that what they are about ends in.
  module _ (numbers : List ℕ) where
    -- each has a number, that of an end or a start in any path that it is about
    pub record AreNumbered (has_starts : Bool) (longest : ℕ) : Type 0 where
      pub same : length numbers ≡ length items
      pub ends : (k : ℕ) (item : T) (path : List ℕ) (is_folder : Bool) → k < length items
          → about (slice_index_or items k item) path is_folder
          → IsNumberIn has_starts longest path (slice_index numbers k)

    -- none from a position on with a number is about what is at a path
    abbrev pub NoneWith : ℕ → ℕ → List ℕ → Bool → Type 0
    NoneWith start number path is_folder = (k : ℕ) (item : T) → start ≤ k → k < length items
        → slice_index numbers k ≡ number → about (slice_index_or items k item) path is_folder → ⊥

    -- how many there are up to the last with a number that is about it, if there are more than some
    pub record IsCountWith (number least : ℕ) (path : List ℕ) (is_folder : Bool) (count : ℕ) :
        Type 0 where
      pub least_is : least ≤ count
      pub within : count ≤ length items
      pub none : NoneWith count number path is_folder
      pub last : least < count → (item : T) × IsAboutAt count path is_folder item

    -- how many there are up to the last that is about it, by the numbers of its ends
    pub record IsCountByEnds (longest : ℕ) (path : List ℕ) (is_folder : Bool) (count : ℕ) : Type 0
      where
        pub within : count ≤ length items
        pub none : (start : ℕ) → start ≤ length path → length path - start ≤ longest
            → NoneWith count (number_of (drop start path)) path is_folder
        pub last : 0 < count → (item : T) × IsAboutAt count path is_folder item

    -- by the numbers of texts where a name begins
    pub record IsCountFrom (longest : ℕ) (path : List ℕ) (is_folder : Bool)
        (start least count : ℕ) : Type 0 where
      pub least_is : least ≤ count
      pub within : count ≤ length items
      pub none : (stop : ℕ) → start < stop → stop ≤ length path → stop - start ≤ longest
          → NoneWith count (number_after 1 (take (stop - start) (drop start path))) path is_folder
      pub last : least < count → (item : T) × IsAboutAt count path is_folder item

    -- wherever one does
    pub record IsCountByStarts (longest : ℕ) (path : List ℕ) (is_folder : Bool) (least count : ℕ) :
        Type 0 where
      pub least_is : least ≤ count
      pub within : count ≤ length items
      pub none : (start stop : ℕ) → start < stop → stop ≤ length path → stop - start ≤ longest
          → begins_at path start ≡ true
          → NoneWith count (number_after 1 (take (stop - start) (drop start path))) path is_folder
      pub last : least < count → (item : T) × IsAboutAt count path is_folder item
