-- Which ignore files count when a folder is taken up, by what a system says of them: those that are
-- named, the user's own, and those of the folders that the folder is in.
use Rattle.std.specs.Prelude.{◌≡◌, ℕ, ◌+◌, Bool, true, ◌&&◌, ◌||◌, ◌++◌, ◌∷◌, ◌==◌, []}
use Rattle.std.specs.Prelude.{List, codes, drop, filter, if◌then◌else◌, length, map, nat_lt, take}
use Rattle.std.specs.Prelude.{slice_index, MatchBool, None, Some, Ok, Err, String, string_bytes}
use Rattle.std.specs.List.{range_with_len}
use Rattle.std.specs.Str.{bytes_eq}
use Rattle.std.specs.Borrow.{Bor}
use Rattle.std.specs.Global.{Global}
use Rattle.std.specs.declared.io.Error.{Error}
use Rattle.grep_ignore.specs.Classes.{begins_with, is_empty}
use Rattle.grep_ignore.specs.declared.layers.Layer.{Layer}
use Rattle.grep_ignore.specs.declared.layers.Origin.TheVariants.{GitGlobal, Named}
use Rattle.linegrep_files.specs.FolderFacts.{FolderFacts}
use Rattle.linegrep_files.specs.IgnoreFiles.{AreFilesRead, IsFileRead, IsTopAt, ReadsTheSame}
use Rattle.linegrep_files.specs.IgnoreFiles.{depth_in, is_idle}
use Rattle.linegrep_files.specs.Paths.{IsRoot}
use Rattle.linegrep_files.specs.UserFiles.{IsUserFile}
use Rattle.linegrep_files.specs.declared.ignores.Ignores.{Ignores}
use Rattle.linegrep_files.specs.declared.ignores.Marks.{Marks}
use Rattle.linegrep_files.specs.declared.ignores.Sources.{Sources}

-- the files that count in any folder, since they belong to no folder
abbrev pub base_of : List Layer → List Layer
base_of layers = filter (λ layer. nat_lt layer.depth 1) layers

-- which ignore files a folder may have, if its names aren't known
abbrev pub any_marks : Marks
any_marks = record {
  has_rgignore = true;
  has_ignore = true;
  has_gitignore = true;
  has_git = true;
  has_jj = true;
}

-- any of git's files is read
abbrev pub has_git : Sources → Bool
has_git sources = sources.git || sources.exclude || sources.global

-- the paths of the folders that a folder is in: what comes before each slash among the first bytes
-- of its path
abbrev pub parents_to : List ℕ → ℕ → List (List ℕ)
parents_to path count = map (λ at. take at path)
    (filter (λ at. slice_index path at == 47) (range_with_len 0 count))

abbrev pub parents_of : List ℕ → List (List ℕ)
parents_of path = parents_to path (length path)

-- the path of a folder for the system, by what comes before a slash
abbrev pub rooted : List ℕ → List ℕ
rooted above = if is_empty above then 47 ∷ [] else above

-- a folder is another, or in it
abbrev pub is_within : List ℕ → List ℕ → Bool
is_within other folder = bytes_eq (take (length other) folder) other
    && (is_empty (drop (length other) folder) || begins_with 47 (drop (length other) folder))

-- where a path begins relative to another folder: after that folder's path and a slash, if it is in
-- there, and otherwise after its own first slash
abbrev pub start_in : List ℕ → List ℕ → ℕ
start_in other folder = if is_within other folder then length other + 1 else 1

-- By what a system may say of folders and files.
module _ (folders : FolderFacts) where
  -- the path of a folder from the root of the system on, without slashes at its end, or an empty
  -- one if the system says none
  pub data IsPlace (folder : List ℕ) : List ℕ → Type 0 where
    of_path : (text : String Global) (root : ℕ) → folders.resolves folder (Ok text)
        → IsRoot (string_bytes text) root → IsPlace folder (take root (string_bytes text))
    of_none : (error : Error) → folders.resolves folder (Err error) → IsPlace folder []

  -- where the part relative to the current folder begins in the path of a folder
  abbrev pub IsStart : List ℕ → ℕ → Type 0
  IsStart path start = (here : List ℕ) × IsPlace (codes ".") here × (start ≡ start_in here path)

  -- the repository of a folder was added, by its depth, if git's files are read and the folder is
  -- the top of one
  abbrev pub IsTopAdded : Sources → List ℕ → ℕ → List ℕ → List ℕ → Type 0
  IsTopAdded sources folder depth repositories repositories' = MatchBool (has_git sources)
      ((is_top : Bool) × IsTopAt folders folder any_marks is_top
      × (repositories' ≡ (if is_top then repositories ++ depth ∷ [] else repositories)))
      (repositories' ≡ repositories)

  -- the ignore files were read of one of the folders above, whose path comes before a slash. This
  -- folder may also be the top of a repository
  pub record IsParentRead (sources : Sources) (above : List ℕ) (layers : List Layer)
      (repositories : List ℕ) (layers' : List Layer) (repositories' : List ℕ) : Type 0 where
    pub top : IsTopAdded sources (rooted above) (depth_in (above ++ 47 ∷ [])) repositories
        repositories'
    pub files : MatchBool sources.parents (AreFilesRead folders.reads sources any_marks
        (depth_in (above ++ 47 ∷ [])) (length above + 1) (rooted above) layers layers')
        (layers' ≡ layers)

  -- the ignore files of each of some folders above were read, in order
  pub data AreParentsRead (sources : Sources) (layers : List Layer) :
      List (List ℕ) → List Layer → List ℕ → Type 0 where
    no_parent : AreParentsRead sources layers [] layers []
    next_parent : {parents : List (List ℕ)} {mid new : List Layer} {between repositories : List ℕ}
        (above : List ℕ) → AreParentsRead sources layers parents mid between
        → IsParentRead sources above mid between new repositories
        → AreParentsRead sources layers (parents ++ above ∷ []) new repositories

  -- a folder is taken up, by its name for the system: the ignore files count that belong to no
  -- folder, and those of the folders that it is in
  pub record IsTakenUp (name : List ℕ) (old new : Ignores) : Type 0 where
    pub place : List ℕ
    pub is_place : IsPlace name place
    pub root : new.root ≡ length place
    pub start : IsStart place new.start
    pub path : new.path.items ≡ place ++ 47 ∷ []
    pub parents : AreParentsRead old.sources (base_of old.layers) (parents_of place) new.layers
        new.repositories.items

  -- a folder is taken up, unless no ignore file is read
  pub record AreBegun (name : List ℕ) (old new : Ignores) : Type 0 where
    pub same : ReadsTheSame old new
    pub read : MatchBool (is_idle old) (new.layers ≡ base_of old.layers) (IsTakenUp name old new)

  -- the files at some paths were read, which count everywhere
  pub data AreNamedRead (ignores_case : Bool) : List (Bor (List ℕ)) → List Layer → Type 0 where
    none_named : AreNamedRead ignores_case [] []
    next_named : {paths : List (Bor (List ℕ))} {mid new : List Layer} (path : Bor (List ℕ))
        → AreNamedRead ignores_case paths mid
        → IsFileRead folders.reads ignores_case Named 0 0 path.now mid new
        → AreNamedRead ignores_case (paths ++ path ∷ []) new

  -- the user's own ignore file for all repositories was read, if there is one
  pub data IsGlobalRead (ignores_case : Bool) (old : List Layer) : List Layer → Type 0 where
    no_global : IsUserFile folders None → IsGlobalRead ignores_case old old
    of_global : {new : List Layer} (path : List ℕ) → IsUserFile folders (Some path)
        → IsFileRead folders.reads ignores_case GitGlobal 0 0 path old new
        → IsGlobalRead ignores_case old new

  -- ignore files are those of some sources, and those at some paths
  pub record AreIgnores (sources : Sources) (paths : List (Bor (List ℕ))) (ignores : Ignores) :
      Type 0 where
    pub sources_are : ignores.sources ≡ sources
    pub named_are : ignores.has_named ≡ nat_lt 0 (length paths)
    pub named : List Layer
    pub are_named : AreNamedRead sources.ignores_case paths named
    pub global : MatchBool sources.global (IsGlobalRead sources.ignores_case named ignores.layers)
        (ignores.layers ≡ named)
