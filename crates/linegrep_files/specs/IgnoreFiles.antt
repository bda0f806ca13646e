-- Which ignore files count in a folder, and in which order, by what reading each returned: those of
-- the folder, and of the folders that it is in.
use Rattle.std.specs.Prelude.{◌≡◌, ◌≢◌, ℕ, ◌+◌, Bool, ◌&&◌, ◌||◌, ◌++◌, ◌∷◌, ◌==◌, [], List, length}
use Rattle.std.specs.Prelude.{String, take, codes, true, false, is_ok, string_bytes}
use Rattle.std.specs.Prelude.{not, if◌then◌else◌, MatchBool, Result, Ok, Err, Vec, filter, nat_lt}
use Rattle.std.specs.Global.{Global}
use Rattle.std.specs.IoError.{error_kind}
use Rattle.std.specs.List.{list_any}
use Rattle.std.specs.Str.{bytes_eq}
use Rattle.std.specs.declared.io.Error.{Error}
use Rattle.std.specs.declared.io.ErrorKind.{ErrorKind}
use Rattle.std.specs.declared.io.ErrorKind.TheVariants.{IsADirectory, NotADirectory, NotFound}
use Rattle.grep_ignore.specs.Classes.{is_empty}
use Rattle.grep_ignore.specs.Layers.{IsInserted}
use Rattle.grep_ignore.specs.Lines.{AreOfLines, lines_of}
use Rattle.grep_ignore.specs.declared.layers.Layer.{Layer}
use Rattle.grep_ignore.specs.declared.layers.Origin.{Origin}
use Rattle.grep_ignore.specs.declared.layers.Origin.TheVariants.{GitExclude, GitIgnore, Ignore}
use Rattle.grep_ignore.specs.declared.layers.Origin.TheVariants.{RgIgnore}
use Rattle.grep_ignore.specs.declared.rules.Misread.{Misread}
use Rattle.grep_ignore.specs.declared.rules.Rule.{Rule}
use Rattle.linegrep_files.specs.FolderFacts.{FolderFacts}
use Rattle.linegrep_files.specs.GitFiles.{IsExcludePath}
use Rattle.linegrep_files.specs.Paths.{joined, parts_of}
use Rattle.linegrep_files.specs.declared.folders.Found.{Found}
use Rattle.linegrep_files.specs.declared.ignores.Ignores.{Ignores}
use Rattle.linegrep_files.specs.declared.ignores.Marks.{Marks}
use Rattle.linegrep_files.specs.declared.ignores.Sources.{Sources}

-- a listing has a name
abbrev pub has_name : List ℕ → List ℕ → Bool
has_name name listing = list_any (λ part. bytes_eq part name) (parts_of 0 listing)

-- which names of interest a listing has
abbrev pub marks_of : List ℕ → Marks
marks_of listing = record {
  has_rgignore = has_name (codes ".rgignore") listing;
  has_ignore = has_name (codes ".ignore") listing;
  has_gitignore = has_name (codes ".gitignore") listing;
  has_git = has_name (codes ".git") listing;
  has_jj = has_name (codes ".jj") listing;
}

-- a name is marked too, if it is one of those
abbrev pub with_mark : Marks → List ℕ → Marks
with_mark marks name = record {
  has_rgignore = marks.has_rgignore || bytes_eq name (codes ".rgignore");
  has_ignore = marks.has_ignore || bytes_eq name (codes ".ignore");
  has_gitignore = marks.has_gitignore || bytes_eq name (codes ".gitignore");
  has_git = marks.has_git || bytes_eq name (codes ".git");
  has_jj = marks.has_jj || bytes_eq name (codes ".jj");
}

-- the depth of a folder: how many folders it is in, and one more. Its path has a slash at its end
abbrev pub depth_in : List ℕ → ℕ
depth_in path = length (filter (λ byte. byte == 47) path)

-- the path of a folder at a path below the one that is searched, with a slash at its end
abbrev pub path_below : Ignores → List ℕ → List ℕ
path_below ignores below = if is_empty below then take (ignores.root + 1) ignores.path.items
    else take (ignores.root + 1) ignores.path.items ++ below ++ 47 ∷ []

-- no ignore file is read
abbrev pub is_idle : Ignores → Bool
is_idle ignores = not (ignores.has_named || ignores.sources.dot || ignores.sources.git
    || ignores.sources.exclude || ignores.sources.global)

-- which files are read stays
pub record ReadsTheSame (old new : Ignores) : Type 0 where
  pub sources : new.sources ≡ old.sources
  pub named : new.has_named ≡ old.has_named

-- which files are read stays, and so does where the folder is
pub record HasSource (old new : Ignores) : Type 0 where
  pub sources : new.sources ≡ old.sources
  pub named : new.has_named ≡ old.has_named
  pub start : new.start ≡ old.start
  pub root : new.root ≡ old.root

pub record HasPlace (old new : Ignores) : Type 0 where
  pub source : HasSource old new
  pub path : new.path ≡ old.path
  pub repositories : new.repositories ≡ old.repositories

-- the rules of a file's lines count, if it has any, and it is known at which path the file is. They
-- belong to a folder, by its depth and by how many bytes its path has
pub record AreRulesAdded (ignores_case : Bool) (origin : Origin) (depth start : ℕ)
    (path contents : List ℕ) (old new : List Layer) : Type 0 where
  pub rules : List Rule
  pub faults : List Misread
  pub are : AreOfLines ignores_case 1 (lines_of contents) rules faults
  pub none : rules ≡ [] → new ≡ old
  pub some : rules ≢ [] → (file : String Global) × (string_bytes file ≡ path)
      × IsInserted old (record {
        file = file;
        origin = origin;
        depth = depth;
        start = start;
        rules = rules;
      }) new

-- how many lines of a file aren't well formed
pub record HaveFaults (ignores_case : Bool) (contents : List ℕ) (count : ℕ) : Type 0 where
  pub rules : List Rule
  pub faults : List Misread
  pub are : AreOfLines ignores_case 1 (lines_of contents) rules faults
  pub count_is : count ≡ length faults

-- an error is that there is no file at a path
abbrev pub is_absent : Error → Bool
is_absent error = is_absence (error_kind error)
  where
    is_absence : ErrorKind → Bool
    is_absence NotFound = true
    is_absence NotADirectory = true
    is_absence IsADirectory = true
    is_absence _ = false

-- By what reading a file may return.
module _ (reads : List ℕ → Result (Vec ℕ Global) Error → Type 0) where
  -- the file at a path was read, and the rules of its lines count
  pub data IsFileRead (ignores_case : Bool) (origin : Origin) (depth start : ℕ) (path : List ℕ)
      (old : List Layer) : List Layer → Type 0 where
    of_unread : (error : Error) → reads path (Err error)
        → IsFileRead ignores_case origin depth start path old old
    of_lines : {new : List Layer} (contents : Vec ℕ Global) → reads path (Ok contents)
        → AreRulesAdded ignores_case origin depth start path contents.items old new
        → IsFileRead ignores_case origin depth start path old new

  -- how much is wrong with the file at a path: each of its lines that isn't well formed; or that it
  -- can't be read, which is one fault unless the file isn't needed and isn't there
  pub data AreFaultsOf (ignores_case is_needed : Bool) (path : List ℕ) (count : ℕ) : Type 0 where
    of_failed : (error : Error) → reads path (Err error)
        → count ≡ (if is_needed || not (is_absent error) then 1 else 0)
        → AreFaultsOf ignores_case is_needed path count
    of_contents : (contents : Vec ℕ Global) → reads path (Ok contents)
        → HaveFaults ignores_case contents.items count
        → AreFaultsOf ignores_case is_needed path count

  -- of a folder the ignore files were read that it has and that options ask for
  pub record AreFilesRead (sources : Sources) (marks : Marks) (depth start : ℕ) (folder : List ℕ)
      (old new : List Layer) : Type 0 where
    pub with_exclude : List Layer
    pub with_git : List Layer
    pub with_ignore : List Layer
    pub exclude : MatchBool (marks.has_git && sources.exclude) ((path : List ℕ)
        × IsExcludePath reads folder path
        × IsFileRead sources.ignores_case GitExclude depth start path old with_exclude)
        (with_exclude ≡ old)
    pub git : MatchBool (marks.has_gitignore && sources.git)
        (IsFileRead sources.ignores_case GitIgnore depth start (joined folder (codes ".gitignore"))
        with_exclude with_git) (with_git ≡ with_exclude)
    pub ignore : MatchBool (marks.has_ignore && sources.dot)
        (IsFileRead sources.ignores_case Ignore depth start (joined folder (codes ".ignore"))
        with_git with_ignore) (with_ignore ≡ with_git)
    pub rgignore : MatchBool (marks.has_rgignore && sources.dot)
        (IsFileRead sources.ignores_case RgIgnore depth start (joined folder (codes ".rgignore"))
        with_ignore new) (new ≡ with_ignore)

-- By what a system may say of folders and files.
module _ (folders : FolderFacts) where
  -- there is something with a name in a folder, or there isn't; of a link, where it leads
  abbrev pub IsThere : List ℕ → List ℕ → Bool → Type 0
  IsThere folder name is_there = (found : Result Found Error)
      × folders.looks true (joined folder name) found × (is_there ≡ is_ok found)

  -- there is something with a name in a folder, if the folder may have the name, or there isn't
  abbrev pub IsMarkThere : List ℕ → List ℕ → Bool → Bool → Type 0
  IsMarkThere folder name is_marked is_there =
      MatchBool is_marked (IsThere folder name is_there) (is_there ≡ false)

  -- a folder with some names is the top of a repository, or isn't
  pub data IsTopAt (folder : List ℕ) (marks : Marks) : Bool → Type 0 where
    of_git : IsMarkThere folder (codes ".git") marks.has_git true → IsTopAt folder marks true
    of_jj : {is_top : Bool} → IsMarkThere folder (codes ".git") marks.has_git false
        → IsMarkThere folder (codes ".jj") marks.has_jj is_top → IsTopAt folder marks is_top

  -- the ignore files that count in a folder, by the names in it and its path below the folder that
  -- is searched: those that count in the folders that it is in, and its own. It is in the
  -- repositories that those folders are in, and may be the top of another
  pub record AreOfFolder (folder below names : List ℕ) (old new : Ignores) : Type 0 where
    pub source : HasSource old new
    pub path : new.path.items ≡ path_below old below
    pub is_top : Bool
    pub top : IsTopAt folder (marks_of names) is_top
    pub repositories : new.repositories.items ≡ (if is_top
        then filter (λ top. nat_lt top (depth_in new.path.items)) old.repositories.items
        ++ depth_in new.path.items ∷ []
        else filter (λ top. nat_lt top (depth_in new.path.items)) old.repositories.items)
    pub layers : AreFilesRead folders.reads old.sources (marks_of names) (depth_in new.path.items)
        (length new.path.items) folder
        (filter (λ layer. nat_lt layer.depth (depth_in new.path.items)) old.layers) new.layers

  -- these files count in a folder, unless no ignore file is read
  abbrev pub AreWithin : List ℕ → List ℕ → List ℕ → Ignores → Ignores → Type 0
  AreWithin folder below names old new =
      MatchBool (is_idle old) (new ≡ old) (AreOfFolder folder below names old new)
