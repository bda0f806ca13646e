-- What a walk through folders finds, in which order.
use Rattle.std.specs.Prelude.{◌≡◌, ℕ, Bool, true, false, ◌++◌, ◌∷◌, [], List}
use Rattle.std.specs.Prelude.{None, Option, Some, Ok, Err, String, Vec, string_bytes}
use Rattle.std.specs.Borrow.{Bor}
use Rattle.std.specs.Cmp.Lexicographic.{slice_cmp}
use Rattle.std.specs.Global.{Global}
use Rattle.std.specs.List.Sorted.{IsPermutation, IsSortedBy}
use Rattle.std.specs.Ordering.{is_lt, nat_cmp}
use Rattle.std.specs.declared.io.Error.{Error}
use Rattle.linegrep_files.specs.Choices.{IsWithin, SaysTheSame, notes_of}
use Rattle.linegrep_files.specs.FolderFacts.{FolderFacts}
use Rattle.linegrep_files.specs.Folders.{AreFound, AreNotes, below_of, depth_of, listed_path}
use Rattle.linegrep_files.specs.Folders.{name_of, names_of}
use Rattle.linegrep_files.specs.Folders.{path_of}
use Rattle.linegrep_files.specs.Limits.{allows_depth}
use Rattle.linegrep_files.specs.Notes.{AreNoted, IsNote}
use Rattle.linegrep_files.specs.Paths.{IsRoot}
use Rattle.linegrep_files.specs.declared.choices.Choices.{Choices}
use Rattle.linegrep_files.specs.declared.entry.Entry.{Entry}
use Rattle.linegrep_files.specs.declared.entry.Entry.TheVariants.{Folder, Unread}
use Rattle.linegrep_files.specs.declared.notes.Note.{Note}
use Rattle.linegrep_files.specs.declared.notes.Reason.TheVariants.{Deep}
use Rattle.linegrep_files.specs.declared.walk.Route.{Route}
use Rattle.linegrep_files.specs.declared.walk.Walk.{Walk}

-- whether one entry of a folder is visited before another
abbrev pub comes_before : Entry → Entry → Bool
comes_before one other = is_lt (slice_cmp nat_cmp (path_of one) (path_of other))

-- a walk asks a system, by a route, from a folder on that has a name for the system. Nothing is to
-- be visited yet
pub record IsWith {S : Type 0} (system : Bor S) (route : Route) (top : String Global) (root : ℕ)
    (walk : Walk S) : Type 0 where
  pub system_is : walk.finder.system ≡ system
  pub links : walk.finder.follows_links ≡ route.follows_links
  pub top_is : walk.finder.top ≡ top
  pub root_is : walk.finder.root ≡ root
  pub pending : walk.pending.items ≡ []

-- a walk begins: its folder is to be visited
pub record IsBegun {S : Type 0} (system : Bor S) (route : Route) (folder : List ℕ)
    (walk : Walk S) : Type 0
  where
    pub path : String Global
    pub is : string_bytes path ≡ folder
    pub system_is : walk.finder.system ≡ system
    pub links : walk.finder.follows_links ≡ route.follows_links
    pub top : string_bytes walk.finder.top ≡ name_of folder
    pub root : IsRoot folder walk.finder.root
    pub pending : walk.pending.items ≡ Folder path ∷ []

-- what was found is added. It is visited next, in the order of paths, and what is visited first
-- comes last
pub record AreAdded {S : Type 0} (old : Walk S) (found : List Entry) (new : Walk S) : Type 0 where
  pub next : List Entry
  pub same : IsPermutation found next
  pub sorted : IsSortedBy (λ one other. comes_before other one) next
  pub pending : new.pending.items ≡ old.pending.items ++ next

-- a walk asks the same system by the same route
pub record GoesOn {S : Type 0} (old new : Walk S) : Type 0 where
  pub finder : new.finder ≡ old.finder

-- the names in a folder that are chosen are added, also by what the folder's ignore files say
pub record AreNamesAdded {S : Type 0} (facts : S → FolderFacts) (old : Walk S) (choices : Choices)
    (folder names : List ℕ) (new : Walk S) (inside : Choices) : Type 0 where
  pub within : Choices
  pub found : List Entry
  pub are_within : IsWithin (facts old.finder.system.now) folder
      (below_of old.finder.root folder) names choices within
  pub are_found : AreFound (facts old.finder.system.now).looks old.finder.follows_links
      (string_bytes old.finder.top) old.finder.root within.limits within folder
      (names_of names) found
  pub are_added : AreAdded old found new
  pub same : SaysTheSame within inside

-- By what a system may say of folders and files.
module _ {S : Type 0} (facts : S → FolderFacts) where
  -- what is in a folder is added to what is to be visited, unless the folder is too deep. If it
  -- can't be read, that is added. `inside` has the choices for what is in it
  pub data IsEntered (old : Walk S) (choices : Choices) (folder : List ℕ) (new : Walk S)
      (inside : Choices) : Type 0 where
    of_deep : allows_depth choices.limits (depth_of old.finder.root folder) ≡ false
        → new.pending ≡ old.pending → SaysTheSame choices inside
        → IsEntered old choices folder new inside
    of_unread : (path : String Global) (error : Error)
        → allows_depth choices.limits (depth_of old.finder.root folder) ≡ true
        → (facts old.finder.system.now).lists (listed_path folder) (Err error)
        → string_bytes path ≡ name_of folder
        → new.pending.items ≡ old.pending.items ++ Unread path error ∷ []
        → SaysTheSame choices inside
        → IsEntered old choices folder new inside
    of_names : (names : Vec ℕ Global)
        → allows_depth choices.limits (depth_of old.finder.root folder) ≡ true
        → (facts old.finder.system.now).lists (listed_path folder) (Ok names)
        → AreNamesAdded facts old choices folder names.items new inside
        → IsEntered old choices folder new inside

-- a note says that a folder is too deep
abbrev pub IsDeepNote : Choices → List ℕ → List Note → Type 0
IsDeepNote choices folder notes =
    (note : Note) × (notes ≡ note ∷ []) × IsNote choices (name_of folder) Deep note

-- for the names in a folder for which nothing is found notes are added, if notes are asked for
pub record AreNamesNoted {S : Type 0} (facts : S → FolderFacts) (walk : Walk S) (choices : Choices)
    (folder names : List ℕ) (inside : Choices) : Type 0 where
  pub within : Choices
  pub are_within : IsWithin (facts walk.finder.system.now) folder
      (below_of walk.finder.root folder) names choices within
  pub noted : AreNoted (AreNotes (facts walk.finder.system.now).looks walk.finder.follows_links
      (string_bytes walk.finder.top) walk.finder.root within.limits within folder
      (names_of names)) choices inside

-- what entering a folder notes: what isn't found in it, or that it is too deep
pub data IsNoted {S : Type 0} (facts : S → FolderFacts) (walk : Walk S) (choices : Choices)
    (folder : List ℕ) (inside : Choices) : Type 0 where
  of_deep_folder : allows_depth choices.limits (depth_of walk.finder.root folder) ≡ false
      → AreNoted (IsDeepNote choices folder) choices inside
      → IsNoted facts walk choices folder inside
  of_unread_folder : (error : Error)
      → (facts walk.finder.system.now).lists (listed_path folder) (Err error)
      → notes_of inside ≡ notes_of choices → IsNoted facts walk choices folder inside
  of_folder : (names : Vec ℕ Global)
      → allows_depth choices.limits (depth_of walk.finder.root folder) ≡ true
      → (facts walk.finder.system.now).lists (listed_path folder) (Ok names)
      → AreNamesNoted facts walk choices folder names.items inside
      → IsNoted facts walk choices folder inside

-- what is visited next is the last entry of those that were added
pub data IsPopped {S : Type 0} (old : Walk S) : Option Entry → Walk S → Type 0 where
  of_pending : {new : Walk S} (entry : Entry) → old.is_out_of_memory ≡ false
      → old.pending.items ≡ new.pending.items ++ entry ∷ [] → GoesOn old new
      → new.is_out_of_memory ≡ false → IsPopped old (Some entry) new
  of_end : {new : Walk S} → old.is_out_of_memory ≡ false → old.pending.items ≡ []
      → new.is_out_of_memory ≡ false → IsPopped old None new
  of_memory : {new : Walk S} → new.is_out_of_memory ≡ true → IsPopped old None new
