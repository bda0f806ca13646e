-- Which paths globs match, and what several globs say of a path: the last one that matches decides.
use Rattle.std.specs.Prelude.{◌≡◌, ℕ, ◌+◌, ◌<◌, ◌≤◌, ◌⊎◌, Bool, true, false, ◌||◌, ◌&&◌}
use Rattle.std.specs.Prelude.{if◌then◌else◌}
use Rattle.std.specs.Prelude.{List, [], ◌∷◌, ◌++◌, length, codes, drop, slice_index_or, not}
use Rattle.std.specs.Prelude.{MatchBool}
use Rattle.std.specs.Borrow.{Bor}
use Rattle.std.specs.List.{list_all}
use Rattle.std.specs.Str.{bytes_eq}
use Rattle.grep_ignore.specs.Classes.{IsSet, begins_with, is_empty, is_name_byte}
use Rattle.grep_ignore.specs.Globs.{IsPieceText as IsIgnoreText}
use Rattle.grep_ignore.specs.Lines.{glob_of, is_anchored, keeps_of, names_folders_of, path_glob}
use Rattle.grep_ignore.specs.Matches.{Matches}
use Rattle.grep_ignore.specs.declared.wildcards.Piece.{Piece}
use Rattle.grep_ignore.specs.declared.wildcards.Piece.TheVariants.{Folders, One, Many}
use Rattle.linegrep_files.specs.Braces.{AreTextsOf}
use Rattle.linegrep_files.specs.ClassTexts.{IsClassOf, is_class}
use Rattle.linegrep_files.specs.declared.glob.Glob.{Glob}
use Rattle.linegrep_files.specs.declared.globs.Choice.{Choice}
use Rattle.linegrep_files.specs.declared.globs.Choice.TheVariants.{Chosen, LeftOut, Unmatched}
use Rattle.linegrep_files.specs.declared.globs.GlobRule.{GlobRule}
use Rattle.linegrep_files.specs.declared.globs.Globs.{Globs}

-- a path matches one of the texts that a glob stands for. Each text is given by its pieces
abbrev pub MatchesOne : List (List Piece) → List ℕ → Type 0
MatchesOne choices path = (at : ℕ) × (choice : List Piece) × (at < length choices)
    × (slice_index_or choices at choice ≡ choice) × Matches choice path

-- a path matches none of the texts from a position on
abbrev pub MatchesNoneFrom : ℕ → List (List Piece) → List ℕ → Type 0
MatchesNoneFrom start choices path = (k : ℕ) (choice : List Piece) → start ≤ k → k < length choices
    → Matches (slice_index_or choices k choice) path → ⊥

-- a glob is about what is at a path, which is a folder if the glob is about folders alone
abbrev pub IsAbout : List ℕ → Bool → GlobRule → Type 0
IsAbout path is_folder rule = (rule.names_folders ≡ true → is_folder ≡ true)
    × MatchesOne rule.glob.choices.items path

-- what a glob says of what it is about
abbrev pub choice_of : GlobRule → Choice
choice_of rule = if rule.is_exclusion then LeftOut else Chosen

-- no glob from a position on is about what is at a path
abbrev pub NoneFrom : ℕ → List GlobRule → List ℕ → Bool → Type 0
NoneFrom start rules path is_folder = (k : ℕ) (rule : GlobRule) → start ≤ k → k < length rules
    → IsAbout path is_folder (slice_index_or rules k rule) → ⊥

-- what globs say of something that none is about: a file is left out if a glob asks for files
abbrev pub unmatched_choice : Globs → Bool → Choice
unmatched_choice globs is_folder =
    if globs.are_exclusions || is_folder then Unmatched else LeftOut

-- the last glob that is about what is at a path decides
abbrev pub IsLastChoice : Globs → List ℕ → Bool → Choice → Type 0
IsLastChoice globs path is_folder choice =
    ((choice ≡ unmatched_choice globs is_folder) × NoneFrom 0 globs.rules path is_folder)
    ⊎ ((last : ℕ) × (rule : GlobRule) × (last < length globs.rules)
    × (slice_index_or globs.rules last rule ≡ rule) × IsAbout path is_folder rule
    × (choice ≡ choice_of rule) × NoneFrom (last + 1) globs.rules path is_folder)

-- a path without a dot and a slash at its start
abbrev pub path_from_here : List ℕ → List ℕ
path_from_here path = if begins_here path then drop 2 path else path
  where
    begins_here : List ℕ → Bool
    begins_here path = begins_with 46 path && begins_with 47 (drop 1 path)

-- what globs say of what is at a path
abbrev pub IsGlobChoice : Globs → List ℕ → Bool → Choice → Type 0
IsGlobChoice globs path is_folder choice = IsLastChoice globs (path_from_here path) is_folder choice

-- a text begins with three stars or more
abbrev pub has_stars : List ℕ → Bool
has_stars text = begins_with 42 text && begins_with 42 (drop 1 text) && begins_with 42 (drop 2 text)

-- A text without braces begins with the text of a piece, and goes on with a rest. A class in
-- brackets is one byte of a set, and a star before two more stars is any bytes of a name; all else
-- is as in a line of an ignore file. `begins` says whether a name begins where the text does, and
-- `next` whether one begins where the rest does.
pub data IsPieceText (ignores_case begins : Bool) (text : List ℕ) : Piece → Bool → List ℕ
    → Type 0 where
  of_class : (set : List Bool) (class rest : List ℕ) → text ≡ 91 ∷ (class ++ 93 ∷ rest)
      → is_class class ≡ true → IsClassOf ignores_case set (class ++ 93 ∷ rest) rest
      → IsPieceText ignores_case begins text (One set) false rest
  of_stars : (set : List Bool) (rest : List ℕ) → has_stars text ≡ true → text ≡ 42 ∷ rest
      → IsSet set is_name_byte → IsPieceText ignores_case begins text (Many set) false rest
  of_other : {piece : Piece} {next : Bool} {rest : List ℕ} → begins_with 91 text ≡ false
      → has_stars text ≡ false → IsIgnoreText ignores_case begins text piece next rest
      → IsPieceText ignores_case begins text piece next rest

-- a text consists of the texts of some pieces, one after another, and a rest
abbrev pub ArePieceTexts : Bool → Bool → List ℕ → List Piece → Bool → List ℕ → Type 0
ArePieceTexts ignores_case begins text [] next rest = (next ≡ begins) × (rest ≡ text)
ArePieceTexts ignores_case begins text (piece ∷ later) next rest =
    (middle : Bool) × (mid : List ℕ) × IsPieceText ignores_case begins text piece middle mid
    × ArePieceTexts ignores_case middle mid later next rest

-- a text without braces consists of the texts of some pieces
abbrev pub IsGlob : Bool → List ℕ → List Piece → Type 0
IsGlob ignores_case text pieces =
    (next : Bool) × ArePieceTexts ignores_case true text pieces next []

-- pieces are those of a text without braces, which is about names in any folder, or about whole
-- paths
abbrev pub ArePieces : Bool → Bool → List ℕ → List Piece → Type 0
ArePieces is_of_names ignores_case text pieces = (spelled : List Piece)
    × IsGlob ignores_case text spelled
    × (pieces ≡ (if is_of_names then Folders ∷ spelled else spelled))

-- each of some choices has the pieces of one of some texts
abbrev pub AreOfTexts : Bool → Bool → List (List ℕ) → List (List Piece) → Type 0
AreOfTexts is_of_names ignores_case [] choices = choices ≡ []
AreOfTexts is_of_names ignores_case (text ∷ later) choices =
    (pieces : List Piece) × (others : List (List Piece)) × (choices ≡ pieces ∷ others)
    × ArePieces is_of_names ignores_case text pieces
    × AreOfTexts is_of_names ignores_case later others

-- the glob of a text: it matches what one of the texts matches that the text stands for
abbrev pub IsGlobOf : Bool → Bool → List ℕ → Glob → Type 0
IsGlobOf is_of_names ignores_case text glob = (texts : List (List ℕ)) × AreTextsOf text texts
    × AreOfTexts is_of_names ignores_case texts glob.choices.items

-- the text of a glob; an exclamation mark alone leaves everything out
abbrev pub said_glob : List ℕ → List ℕ
said_glob text = if bytes_eq text (codes "!") then codes "!*" else text

-- the text of a glob without an exclamation mark at its start, and without a slash at its start and
-- at its end
abbrev pub glob_text : List ℕ → List ℕ
glob_text text = path_glob (glob_of (said_glob text))

-- the glob of a text. With an exclamation mark at its start it leaves paths out, with a slash at
-- its end it means folders alone, and without another slash it is about names in any folder
pub record IsGlobRule (ignores_case : Bool) (text : List ℕ) (rule : GlobRule) : Type 0 where
  pub exclusion : rule.is_exclusion ≡ keeps_of (said_glob text)
  pub folders : rule.names_folders ≡ names_folders_of (said_glob text)
  pub glob : IsGlobOf (not (is_anchored (glob_of (said_glob text)))) ignores_case (glob_text text)
      rule.glob

-- the glob of a text is added, unless the text is empty
abbrev pub IsAdded : Bool → List ℕ → List GlobRule → List GlobRule → Type 0
IsAdded ignores_case text old new = MatchBool (is_empty text) (new ≡ old)
    ((rule : GlobRule) × (new ≡ old ++ rule ∷ []) × IsGlobRule ignores_case text rule)

-- globs are those of some texts, in order, without the empty ones
abbrev pub AreRules : Bool → List (Bor (List ℕ)) → List GlobRule → Type 0
AreRules ignores_case [] rules = rules ≡ []
AreRules ignores_case (text ∷ later) rules = MatchBool (is_empty text.now)
    (AreRules ignores_case later rules)
    ((rule : GlobRule) × (others : List GlobRule) × (rules ≡ rule ∷ others)
    × IsGlobRule ignores_case text.now rule × AreRules ignores_case later others)

-- those of some texts are added
abbrev pub AreAdded : Bool → List (Bor (List ℕ)) → List GlobRule → List GlobRule → Type 0
AreAdded ignores_case texts old new = (rules : List GlobRule) × (new ≡ old ++ rules)
    × AreRules ignores_case texts rules

-- the globs of `-g`, and then those of `--iglob`
pub record AreGlobs (texts iglobs : List (Bor (List ℕ))) (ignores_case : Bool)
    (globs : Globs) : Type 0
  where
    pub first : List GlobRule
    pub later : List GlobRule
    pub rules : globs.rules ≡ first ++ later
    pub are_first : AreRules ignores_case texts first
    pub are_later : AreRules true iglobs later
    pub exclusions : globs.are_exclusions ≡ list_all (λ rule. rule.is_exclusion) globs.rules
