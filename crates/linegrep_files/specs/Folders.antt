-- What is found in a folder, by what listing it returned, and for each name by what looking at its
-- path returned.
use Rattle.std.specs.Prelude.{◌≡◌, ◌≢◌, ℕ, Bool, true, false, not, ◌||◌, ◌==◌, if◌then◌else◌}
use Rattle.std.specs.Prelude.{List, [], ◌∷◌, None, Some, Result, Ok, Err, String, codes}
use Rattle.std.specs.Prelude.{string_bytes}
use Rattle.std.specs.Prelude.{◌<◌, drop, filter, get_or, length, take}
use Rattle.std.specs.Global.{Global}
use Rattle.std.specs.IoError.{error_kind}
use Rattle.std.specs.Str.{IsUtf8, bytes_eq}
use Rattle.std.specs.declared.io.Error.{Error}
use Rattle.std.specs.declared.io.ErrorKind.TheVariants.{FilesystemLoop, InvalidFilename}
use Rattle.grep_ignore.specs.Classes.{is_empty}
use Rattle.linegrep_files.specs.Choices.{IsReason, IsUnmatchedReason}
use Rattle.linegrep_files.specs.FileIds.{is_beside, is_same_file}
use Rattle.linegrep_files.specs.Limits.{allows_size}
use Rattle.linegrep_files.specs.Notes.{IsNote, IsWord}
use Rattle.linegrep_files.specs.Paths.{joined, parts_of}
use Rattle.linegrep_files.specs.Words.{escaped}
use Rattle.linegrep_files.specs.declared.choices.Choices.{Choices}
use Rattle.linegrep_files.specs.declared.entry.Entry.{Entry}
use Rattle.linegrep_files.specs.declared.entry.Entry.TheVariants.{File, Folder, Unread}
use Rattle.linegrep_files.specs.declared.file_id.FileId.{FileId}
use Rattle.linegrep_files.specs.declared.folders.Found.{Found}
use Rattle.linegrep_files.specs.declared.folders.Kind.TheVariants.{File as IsFile}
use Rattle.linegrep_files.specs.declared.folders.Kind.TheVariants.{Folder as IsFolder}
use Rattle.linegrep_files.specs.declared.folders.Kind.TheVariants.{Link as IsLink}
use Rattle.linegrep_files.specs.declared.folders.Kind.TheVariants.{Other as IsOther}
use Rattle.linegrep_files.specs.declared.limits.Limits.{Limits}
use Rattle.linegrep_files.specs.declared.notes.Note.{Note}
use Rattle.linegrep_files.specs.declared.notes.Reason.{Reason}
use Rattle.linegrep_files.specs.declared.notes.Reason.TheVariants.{Elsewhere, Large, Link, Special}

-- a name isn't the one of the folder itself, nor of the folder that it is in
abbrev pub is_name : List ℕ → Bool
is_name name = not (bytes_eq name (codes ".") || bytes_eq name (codes ".."))

-- the names of what is in a folder, by a listing in which each ends in a NUL
abbrev pub names_of : List ℕ → List (List ℕ)
names_of listing = filter is_name (parts_of 0 listing)

-- the path of a folder from the walk's own folder on, by how many bytes the path of that has
abbrev pub without_slashes : List ℕ → List ℕ
without_slashes [] = []
without_slashes (byte ∷ rest) = if byte == 47 then without_slashes rest else byte ∷ rest

abbrev pub below_of : ℕ → List ℕ → List ℕ
below_of root folder = without_slashes (drop root folder)

-- how many levels a folder is below the walk's own, by how many bytes the path of that has
abbrev pub depth_of : ℕ → List ℕ → ℕ
depth_of root folder = length (parts_of 47 (drop root folder))

-- the name of a folder for the system: the path, or a dot for an empty path
abbrev pub name_of : List ℕ → List ℕ
name_of folder = if is_empty folder then codes "." else folder

-- the path at which a folder is listed
abbrev pub listed_path : List ℕ → List ℕ
listed_path folder = joined (name_of folder) []

-- the path of what is found, and whether it is a folder
abbrev pub path_of : Entry → List ℕ
path_of (File path) = string_bytes path
path_of (Folder path) = string_bytes path
path_of (Unread path error) = string_bytes path

abbrev pub is_folder : Entry → Bool
is_folder (File path) = false
is_folder (Folder path) = true
is_folder (Unread path error) = false

-- By what looking at paths may return, if links are followed or aren't.
module _ (looks : Bool → List ℕ → Result Found Error → Type 0) where
  -- whether what is at a path has an id
  pub data HasId (id : FileId) (path : List ℕ) : Bool → Type 0 where
    of_found : (there : Found) → looks true path (Ok there)
        → HasId id path (is_same_file there.id id)
    of_unseen : (error : Error) → looks true path (Err error) → HasId id path false

  -- whether one of the folders that a path goes through has an id. These are the walk's own folder,
  -- which has a name for the system and a path of `root` bytes, and each folder below it, which is
  -- before a slash of the path
  pub data GoesThrough (top : List ℕ) (root : ℕ) (id : FileId) (path : List ℕ) : Bool → Type 0
    where
      of_top : HasId id top true → GoesThrough top root id path true
      of_below : (at : ℕ) → root < at → at < length path → get_or path at 0 ≡ 47
          → HasId id (take at path) true → GoesThrough top root id path true
      of_none : HasId id top false
          → ((at : ℕ) → root < at → at < length path → get_or path at 0 ≡ 47
          → HasId id (take at path) false)
          → GoesThrough top root id path false

  -- whether there is a link at a path that was followed to a folder with an id, and the link is in
  -- that folder
  pub data LeadsBack (follows : Bool) (top : List ℕ) (root : ℕ) (id : FileId) (path : List ℕ)
      : Bool → Type 0 where
    of_unfollowed : follows ≡ false → LeadsBack follows top root id path false
    of_unlooked : (error : Error) → looks false path (Err error)
        → LeadsBack follows top root id path false
    of_unlinked : (there : Found) → looks false path (Ok there) → there.kind ≢ IsLink
        → LeadsBack follows top root id path false
    of_link : {leads_back : Bool} (link : Found) → follows ≡ true → looks false path (Ok link)
        → link.kind ≡ IsLink → GoesThrough top root id path leads_back
        → LeadsBack follows top root id path leads_back

-- By what looking at paths may return, if links are followed or aren't. `top` is the name of the
-- walk's own folder for the system, and `root` is how many bytes the path of that has, without the
-- slashes at its end.
module _ (looks : Bool → List ℕ → Result Found Error → Type 0) (follows : Bool) (top : List ℕ)
    (root : ℕ) (limits : Limits) where
  -- whether a folder may be entered, by the file system that it is on. It has to be the one of the
  -- walk's own folder, unless the options don't ask for that, or it can't be told
  pub data MayEnter (id : FileId) : Bool → Type 0 where
    of_any : limits.is_one_system ≡ false → MayEnter id true
    of_system : (found : Found) → limits.is_one_system ≡ true → looks true top (Ok found)
        → MayEnter id (is_beside id found.id)
    of_untold : (error : Error) → limits.is_one_system ≡ true → looks true top (Err error)
        → MayEnter id true

  -- the folder with an id at a path; or that it can't be read, since it is a link that leads back
  abbrev pub IsFolderAt : List ℕ → FileId → Entry → Type 0
  IsFolderAt path id (File text) = ⊥
  IsFolderAt path id (Folder text) = LeadsBack looks follows top root id path false
      × (string_bytes text ≡ path)
  IsFolderAt path id (Unread text error) = LeadsBack looks follows top root id path true
      × (string_bytes text ≡ path) × (error_kind error ≡ FilesystemLoop)

  -- what is found at a path, by what looking at it returned: a regular file that isn't too large,
  -- a folder that may be entered, or that it can't be read. Otherwise nothing is, for a reason. A
  -- link that is followed to a folder that it is in can't be read
  pub data IsAt (path : List ℕ) : Result Entry Reason → Type 0 where
    of_file : (found : Found) (text : String Global) → looks follows path (Ok found)
        → found.kind ≡ IsFile → allows_size limits found.size ≡ true → string_bytes text ≡ path
        → IsAt path (Ok (File text))
    of_folder : (found : Found) (entry : Entry) → looks follows path (Ok found)
        → found.kind ≡ IsFolder → MayEnter found.id true → IsFolderAt path found.id entry
        → IsAt path (Ok entry)
    of_unread : (text : String Global) (error : Error) → looks follows path (Err error)
        → string_bytes text ≡ path → IsAt path (Ok (Unread text error))
    of_large : (found : Found) → looks follows path (Ok found) → found.kind ≡ IsFile
        → allows_size limits found.size ≡ false → IsAt path (Err Large)
    of_elsewhere : (found : Found) → looks follows path (Ok found) → found.kind ≡ IsFolder
        → MayEnter found.id false → IsAt path (Err Elsewhere)
    of_link : (found : Found) → looks follows path (Ok found) → found.kind ≡ IsLink
        → IsAt path (Err Link)
    of_other : (found : Found) → looks follows path (Ok found) → found.kind ≡ IsOther
        → IsAt path (Err Special)

  -- what is found for a name in a folder: what is at its path, if that is chosen; or why nothing
  -- is. If the name isn't UTF-8 and is chosen, it is found that something can't be read, which has
  -- the name's word as its name
  pub data IsFound (choices : Choices) (folder name : List ℕ) : Result Entry Reason → Type 0 where
    of_nothing : (reason : Reason) → IsUtf8 name → IsAt (joined folder name) (Err reason)
        → IsFound choices folder name (Err reason)
    of_chosen : (entry : Entry) → IsUtf8 name → IsAt (joined folder name) (Ok entry)
        → IsReason choices (joined folder name) name (is_folder entry) None
        → IsFound choices folder name (Ok entry)
    of_left_out : (entry : Entry) (reason : Reason) → IsUtf8 name
        → IsAt (joined folder name) (Ok entry)
        → IsReason choices (joined folder name) name (is_folder entry) (Some reason)
        → IsFound choices folder name (Err reason)
    of_escaped : (text : String Global) (error : Error) → (IsUtf8 name → ⊥)
        → IsUnmatchedReason choices name false true None → error_kind error ≡ InvalidFilename
        → string_bytes text ≡ joined folder (escaped name)
        → IsFound choices folder name (Ok (Unread text error))
    of_unescaped : (reason : Reason) → (IsUtf8 name → ⊥)
        → IsUnmatchedReason choices name false true (Some reason)
        → IsFound choices folder name (Err reason)

  -- what is found for some names, in their order, for each once
  pub data AreFound (choices : Choices) (folder : List ℕ) : List (List ℕ) → List Entry
      → Type 0 where
    no_name : AreFound choices folder [] []
    found_name : (name : List ℕ) (names : List (List ℕ)) (entry : Entry) (entries : List Entry)
        → IsFound choices folder name (Ok entry) → AreFound choices folder names entries
        → AreFound choices folder (name ∷ names) (entry ∷ entries)
    other_name : (name : List ℕ) (names : List (List ℕ)) (reason : Reason) (entries : List Entry)
        → IsFound choices folder name (Err reason) → AreFound choices folder names entries
        → AreFound choices folder (name ∷ names) entries

  -- the notes of some names, in their order: one for each for which nothing is found
  pub data AreNotes (choices : Choices) (folder : List ℕ) : List (List ℕ) → List Note → Type 0 where
    no_note : AreNotes choices folder [] []
    without_note : (name : List ℕ) (names : List (List ℕ)) (entry : Entry) (notes : List Note)
        → IsFound choices folder name (Ok entry) → AreNotes choices folder names notes
        → AreNotes choices folder (name ∷ names) notes
    with_note : (name word : List ℕ) (names : List (List ℕ)) (reason : Reason) (note : Note)
        (notes : List Note) → IsFound choices folder name (Err reason) → IsWord name word
        → IsNote choices (joined folder word) reason note → AreNotes choices folder names notes
        → AreNotes choices folder (name ∷ names) (note ∷ notes)
