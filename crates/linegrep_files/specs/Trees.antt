-- What a walk visits: the files of a folder and of the folders in it, in the order of names.
use Rattle.std.specs.Prelude.{◌≡◌, ℕ, true, false, ◌++◌, ◌∷◌, [], List, None, Some, reverse}
use Rattle.std.specs.Prelude.{Ok, Err, String, Vec, string_bytes}
use Rattle.std.specs.Borrow.{Bor}
use Rattle.std.specs.Global.{Global}
use Rattle.std.specs.List.Sorted.{IsPermutation, IsSortedBy}
use Rattle.std.specs.declared.io.Error.{Error}
use Rattle.linegrep_files.specs.Choices.{AreTakenUp, IsWithin, SaysTheSame}
use Rattle.linegrep_files.specs.FolderFacts.{FolderFacts}
use Rattle.linegrep_files.specs.Folders.{AreFound, below_of, depth_of, is_folder, listed_path}
use Rattle.linegrep_files.specs.Folders.{name_of, names_of}
use Rattle.linegrep_files.specs.Limits.{allows_depth}
use Rattle.linegrep_files.specs.Paths.{IsRoot}
use Rattle.linegrep_files.specs.Walks.{GoesOn, IsBegun, IsEntered, IsPopped, comes_before}
use Rattle.linegrep_files.specs.declared.choices.Choices.{Choices}
use Rattle.linegrep_files.specs.declared.entry.Entry.{Entry}
use Rattle.linegrep_files.specs.declared.entry.Entry.TheVariants.{Folder, Unread}
use Rattle.linegrep_files.specs.declared.walk.Route.{Route}
use Rattle.linegrep_files.specs.declared.walk.Walk.{Walk}

-- By what a system may say of folders and files, and by the route of a walk. The system knows the
-- walk's own folder by the name `top`, and the path of that has `root` bytes, without the slashes
-- at its end.
module _ (folders : FolderFacts) (route : Route) (top : List ℕ) (root : ℕ) where
  -- what is in a folder: what is found for its names, in order, by what is chosen there. If the
  -- folder is too deep, that is nothing, and if it can't be read, that is found
  pub data IsFolderOf (choices : Choices) (folder : List ℕ) : List Entry → Choices → Type 0 where
    is_deep : {inside : Choices} → allows_depth choices.limits (depth_of root folder) ≡ false
        → SaysTheSame choices inside → IsFolderOf choices folder [] inside
    is_unread : {inside : Choices} (path : String Global) (error : Error)
        → allows_depth choices.limits (depth_of root folder) ≡ true
        → folders.lists (listed_path folder) (Err error) → string_bytes path ≡ name_of folder
        → SaysTheSame choices inside → IsFolderOf choices folder (Unread path error ∷ []) inside
    is_names : {inside : Choices} (names : Vec ℕ Global) (within : Choices)
        (found next : List Entry)
        → allows_depth choices.limits (depth_of root folder) ≡ true
        → folders.lists (listed_path folder) (Ok names)
        → IsWithin folders folder (below_of root folder) names.items choices within
        → AreFound folders.looks route.follows_links top root within.limits within folder
        (names_of names.items) found
        → IsPermutation found next → IsSortedBy (λ one other. comes_before other one) next
        → SaysTheSame within inside → IsFolderOf choices folder (reverse next) inside

  -- what is visited of some entries, in their order: each entry, and right after a folder what is
  -- visited in it
  pub data AreVisited : Choices → List Entry → List Entry → Choices → Type 0 where
    no_entry : (choices : Choices) → AreVisited choices [] [] choices
    next_entry : {choices after : Choices} {later visited : List Entry} (entry : Entry)
        → is_folder entry ≡ false → AreVisited choices later visited after
        → AreVisited choices (entry ∷ later) (entry ∷ visited) after
    next_folder : {choices inside mid after : Choices} {later inner below visited : List Entry}
        (path : String Global) → IsFolderOf choices (string_bytes path) inner inside
        → AreVisited inside inner below mid → AreVisited mid later visited after
        → AreVisited choices (Folder path ∷ later) (Folder path ∷ (below ++ visited)) after

  -- the beginning of what is visited of some entries: up to one of them, or to something in one of
  -- them
  pub data AreFirst : Choices → List Entry → List Entry → Type 0 where
    no_first : (choices : Choices) (later : List Entry) → AreFirst choices later []
    first_entry : {choices : Choices} {later visited : List Entry} (entry : Entry)
        → is_folder entry ≡ false → AreFirst choices later visited
        → AreFirst choices (entry ∷ later) (entry ∷ visited)
    first_folder : (choices : Choices) (later : List Entry) (path : String Global)
        → AreFirst choices (Folder path ∷ later) (Folder path ∷ [])
    in_folder : {choices inside : Choices} {later inner below : List Entry} (path : String Global)
        → IsFolderOf choices (string_bytes path) inner inside → AreFirst inside inner below
        → AreFirst choices (Folder path ∷ later) (Folder path ∷ below)
    after_folder : {choices inside mid : Choices} {later inner below visited : List Entry}
        (path : String Global) → IsFolderOf choices (string_bytes path) inner inside
        → AreVisited inside inner below mid → AreFirst mid later visited
        → AreFirst choices (Folder path ∷ later) (Folder path ∷ (below ++ visited))

-- By what a system may say of folders and files.
module _ (folders : FolderFacts) (route : Route) (choices : Choices) (folder : List ℕ) where
  -- all that is visited of a folder, by choices for it: the folder itself, and what is in it, in
  -- order
  pub record AreAllOf (visited : List Entry) : Type 0 where
    pub begun : Choices
    pub are_begun : AreTakenUp folders (name_of folder) choices begun
    pub path : String Global
    pub is_path : string_bytes path ≡ folder
    pub root : ℕ
    pub is_root : IsRoot folder root
    pub after : Choices
    pub are_visited : AreVisited folders route (name_of folder) root begun (Folder path ∷ [])
        visited after

  -- the beginning of what is visited of a folder
  pub data AreFirstOf : List Entry → Type 0 where
    are_none : AreFirstOf []
    are_first : {visited : List Entry} (begun : Choices) (path : String Global) (root : ℕ)
        → AreTakenUp folders (name_of folder) choices begun → string_bytes path ≡ folder
        → IsRoot folder root
        → AreFirst folders route (name_of folder) root begun (Folder path ∷ []) visited
        → AreFirstOf visited

-- By what a system may say of folders and files.
module _ {S : Type 0} (facts : S → FolderFacts) where
  -- a walk goes on after an entry was popped: it enters a folder, unless memory is out
  abbrev pub IsPassed : Walk S → Choices → Entry → Walk S → Choices → Type 0
  IsPassed old choices (Folder path) new inside =
      (new.is_out_of_memory ≡ false → IsEntered facts old choices (string_bytes path) new inside)
      × GoesOn old new
  IsPassed old choices entry new inside = (new ≡ old) × (inside ≡ choices)

  -- what a walk has visited so far, by its calls: what was popped. Each folder among it was entered
  pub data IsWalked (begun : Walk S) (choices : Choices) :
      List Entry → Walk S → Choices → Type 0 where
    no_visit : IsWalked begun choices [] begun choices
    of_file : {visited : List Entry} {walk new : Walk S} {inside : Choices} (entry : Entry)
        → IsWalked begun choices visited walk inside → IsPopped walk (Some entry) new
        → is_folder entry ≡ false → IsWalked begun choices (visited ++ entry ∷ []) new inside
    of_folder : {visited : List Entry} {walk popped new : Walk S} {inside within : Choices}
        (path : String Global) → IsWalked begun choices visited walk inside
        → IsPopped walk (Some (Folder path)) popped
        → IsEntered facts popped inside (string_bytes path) new within → GoesOn popped new
        → IsWalked begun choices (visited ++ Folder path ∷ []) new within

  -- if a walk ended with memory left, it has visited all that is visited of its folder
  abbrev pub WalksEnd : Type 0
  WalksEnd = (system : Bor S) (route : Route) (folder : List ℕ) (begun walk end : Walk S)
      (first choices inside : Choices) (visited : List Entry)
      → AreTakenUp (facts system.now) (name_of folder) first choices
      → IsBegun system route folder begun
      → IsWalked begun choices visited walk inside → IsPopped walk None end
      → end.is_out_of_memory ≡ false → AreAllOf (facts system.now) route first folder visited

  -- when an entry is popped, what the walk has visited so far, and this entry, are the beginning of
  -- what is visited of its folder
  abbrev pub WalksBegin : Type 0
  WalksBegin = (system : Bor S) (route : Route) (folder : List ℕ) (begun walk new : Walk S)
      (first choices inside : Choices) (visited : List Entry) (entry : Entry)
      → AreTakenUp (facts system.now) (name_of folder) first choices
      → IsBegun system route folder begun → IsWalked begun choices visited walk inside
      → IsPopped walk (Some entry) new
      → AreFirstOf (facts system.now) route first folder (visited ++ entry ∷ [])
