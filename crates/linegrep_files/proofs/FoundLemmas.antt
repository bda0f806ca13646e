-- What is found of the names in a folder.
use Rattle.std.proofs.Common.{◌≡◌, ℕ, Bool, true, false, if◌then◌else◌}
use Rattle.std.proofs.Common.{List, [], ◌∷◌, ◌++◌, filter, refl, sym, ap, subst, ◌∙◌}
use Rattle.std.proofs.Common.{append_assoc}
use Rattle.std.specs.Prelude.{Err, None, Ok, Option, Some, Result}
use Rattle.std.specs.declared.io.Error.{Error}
use Rattle.std.proofs.lemmas.Bool.{false≢true, true≢false}
use Rattle.std.proofs.lemmas.List.{append-nil}
use Rattle.grep_ignore.specs.Classes.{is_empty}
use Rattle.linegrep_files.specs.Choices.{IsReason, IsUnmatchedReason, SaysTheSame, of_exclusion}
use Rattle.linegrep_files.specs.Choices.{of_glob}
use Rattle.linegrep_files.specs.Choices.{is_shown, of_unmatched}
use Rattle.linegrep_files.specs.Folders.{AreFound, IsAt, IsFound, found_name, is_name, names_of}
use Rattle.linegrep_files.specs.Folders.{of_chosen, of_escaped, of_left_out, of_nothing}
use Rattle.linegrep_files.specs.Folders.{of_unescaped}
use Rattle.linegrep_files.specs.Folders.{is_folder, no_name, other_name, path_of}
use Rattle.linegrep_files.specs.Paths.{joined, parts_of}
use Rattle.std.specs.Str.{IsUtf8}
use Rattle.linegrep_files.specs.Globs.{IsGlobChoice}
use Rattle.linegrep_files.specs.declared.globs.Choice.TheVariants.{Chosen, LeftOut, Unmatched}
use Rattle.linegrep_files.specs.declared.choices.Choices.{Choices}
use Rattle.linegrep_files.specs.declared.entry.Entry.{Entry}
use Rattle.linegrep_files.specs.declared.folders.Found.{Found}
use Rattle.linegrep_files.specs.declared.limits.Limits.{Limits}
use Rattle.linegrep_files.specs.declared.notes.Reason.{Reason}

pub same-self : (choices : Choices) → SaysTheSame choices choices
same-self choices = record {
  globs = refl;
  types = refl;
  limits = refl;
  shows_hidden = refl;
  ignores = record {
    layers = refl;
    path = refl;
    repositories = refl;
    source = record { sources = refl; named = refl; start = refl; root = refl };
  };
}

-- choices say the same as those before that say the same as the first
pub same-then : (old mid new : Choices) → SaysTheSame old mid → SaysTheSame mid new → SaysTheSame old new
same-then old mid new first next = record {
  globs = next.globs ∙ first.globs;
  types = next.types ∙ first.types;
  limits = next.limits ∙ first.limits;
  shows_hidden = next.shows_hidden ∙ first.shows_hidden;
  ignores = record {
    layers = next.ignores.layers ∙ first.ignores.layers;
    path = next.ignores.path ∙ first.ignores.path;
    repositories = next.ignores.repositories ∙ first.ignores.repositories;
    source = record {
      sources = next.ignores.source.sources ∙ first.ignores.source.sources;
      named = next.ignores.source.named ∙ first.ignores.source.named;
      start = next.ignores.source.start ∙ first.ignores.source.start;
      root = next.ignores.source.root ∙ first.ignores.source.root;
    };
  };
}

-- choices that say the same leave out the same
pub unmatched-same : (old new : Choices) (name : List ℕ) (is_folder shown : Bool) (reason : Option Reason)
    → SaysTheSame old new → IsUnmatchedReason new name is_folder shown reason
    → IsUnmatchedReason old name is_folder shown reason
unmatched-same old new name is_folder shown reason same said =
    rw (
      same.types,
      same.ignores.layers,
      same.ignores.path,
      same.ignores.source.start,
      same.ignores.repositories,
      same.ignores.source.sources,
    ) at said

pub reason-same : (old new : Choices) (path name : List ℕ) (is_folder : Bool) (reason : Option Reason)
    → SaysTheSame old new → IsReason new path name is_folder reason
    → IsReason old path name is_folder reason
reason-same old new path name is_folder _ same (of_glob said) =
    of_glob (subst (λ g. IsGlobChoice g path is_folder Chosen) same.globs said)
reason-same old new path name is_folder _ same (of_exclusion said) =
    of_exclusion (subst (λ g. IsGlobChoice g path is_folder LeftOut) same.globs said)
reason-same old new path name is_folder _ same (of_unmatched reason said others) =
    of_unmatched reason (subst (λ g. IsGlobChoice g path is_folder Unmatched) same.globs said)
    (subst (λ shows. IsUnmatchedReason old name is_folder (is_shown (record old { shows_hidden = shows }) name) reason)
    same.shows_hidden (unmatched-same old new name is_folder _ reason same others))

-- a text whose first part is a name
pub names-take : (text part rest : List ℕ)
    → parts_of 0 text ≡ (if is_empty part then parts_of 0 rest else part ∷ parts_of 0 rest)
    → is_empty part ≡ false → is_name part ≡ true → names_of text ≡ part ∷ names_of rest
names-take text [] rest split some named = absurd (true≢false some)
names-take text (byte ∷ more) rest split some named =
    ap (filter is_name) split ∙ takes (is_name (byte ∷ more)) named
  where
    takes : (named : Bool) → named ≡ true
        → (if named then (byte ∷ more) ∷ names_of rest else names_of rest)
        ≡ (byte ∷ more) ∷ names_of rest
    takes true is = refl
    takes false is = absurd (false≢true is)

module _ {looks : Bool → List ℕ → Result Found Error → Type 0} {follows : Bool} {top : List ℕ}
    {root : ℕ} where
  -- what is found by choices that say the same is the same
  pub found-same : (old new : Choices) (folder name : List ℕ) (found : Result Entry Reason)
      → SaysTheSame old new → IsFound looks follows top root new.limits new folder name found
      → IsFound looks follows top root old.limits old folder name found
  found-same old new folder name _ same (of_nothing reason valid at) = of_nothing reason valid
      (subst (λ l. IsAt looks follows top root l (joined folder name) (Err reason)) same.limits at)
  found-same old new folder name _ same (of_chosen entry valid at chosen) =
      of_chosen entry valid
      (subst (λ l. IsAt looks follows top root l (joined folder name) (Ok entry)) same.limits at)
      (reason-same old new _ name _ None same chosen)
  found-same old new folder name _ same (of_left_out entry reason valid at left) =
      of_left_out entry reason valid
      (subst (λ l. IsAt looks follows top root l (joined folder name) (Ok entry)) same.limits at)
      (reason-same old new _ name _ (Some reason) same left)
  found-same old new folder name _ same (of_escaped text error invalid chosen kind is) =
      of_escaped text error invalid (unmatched-same old new name false true None same chosen) kind is
  found-same old new folder name _ same (of_unescaped reason invalid left) =
      of_unescaped reason invalid (unmatched-same old new name false true (Some reason) same left)

  -- what is at the path of a name, by the choices' limits: it is chosen, left out, or nothing
  pub found-chosen : (choices : Choices) (folder name path : List ℕ) (limits : Limits) (entry : Entry)
      {asked : List ℕ} {is : Bool} → IsUtf8 name → path_of entry ≡ path → path ≡ joined folder name
      → limits ≡ choices.limits → asked ≡ path_of entry → is ≡ is_folder entry
      → IsAt looks follows top root limits path (Ok entry) → IsReason choices asked name is None
      → IsFound looks follows top root choices.limits choices folder name (Ok entry)
  found-chosen choices folder name path limits entry valid of is_path of_choices is_asked is at chosen =
      of_chosen entry valid (rw (of_choices, is_path) at at)
      (rw (is, is_asked, of, is_path) at chosen)

  pub found-left : (choices : Choices) (folder name path : List ℕ) (limits : Limits) (entry : Entry)
      (reason : Reason) {asked : List ℕ} {is : Bool} → IsUtf8 name → path_of entry ≡ path
      → path ≡ joined folder name → limits ≡ choices.limits → asked ≡ path_of entry → is ≡ is_folder entry
      → IsAt looks follows top root limits path (Ok entry) → IsReason choices asked name is (Some reason)
      → IsFound looks follows top root choices.limits choices folder name (Err reason)
  found-left choices folder name path limits entry reason valid of is_path of_choices is_asked is at left =
      of_left_out entry reason valid (rw (of_choices, is_path) at at) (rw (is, is_asked, of, is_path) at left)

  pub found-nothing : (choices : Choices) (folder name path : List ℕ) (limits : Limits) (reason : Reason)
      → IsUtf8 name → path ≡ joined folder name → limits ≡ choices.limits
      → IsAt looks follows top root limits path (Err reason)
      → IsFound looks follows top root choices.limits choices folder name (Err reason)
  found-nothing choices folder name path limits reason valid is_path of_choices at =
      of_nothing reason valid (rw (of_choices, is_path) at at)

module _ (looks : Bool → List ℕ → Result Found Error → Type 0) (follows : Bool) (top : List ℕ)
    (root : ℕ) where
  -- what is found of names from some on is found of all, after what was found before
  abbrev pub GoesOn : Choices → List ℕ → List ℕ → List ℕ → List Entry → Type 0
  GoesOn choices folder listing rest found = (later : List Entry)
      → AreFound looks follows top root choices.limits choices folder (names_of rest) later
      → AreFound looks follows top root choices.limits choices folder (names_of listing) (found ++ later)

  pub goes-with : (choices : Choices) (folder listing text part rest : List ℕ) (found : List Entry)
      (entry : Entry)
      → parts_of 0 text ≡ (if is_empty part then parts_of 0 rest else part ∷ parts_of 0 rest)
      → is_empty part ≡ false → is_name part ≡ true
      → IsFound looks follows top root choices.limits choices folder part (Ok entry)
      → GoesOn choices folder listing text found
      → GoesOn choices folder listing rest (found ++ entry ∷ [])
  goes-with choices folder listing text part rest found entry split some named is on later are =
      subst (AreFound looks follows top root choices.limits choices folder (names_of listing))
      (sym (append_assoc found (entry ∷ []) later))
      (on (entry ∷ later)
      (subst (λ names. AreFound looks follows top root choices.limits choices folder names (entry ∷ later))
      (sym (names-take text part rest split some named)) (found_name part (names_of rest) entry later is are)))

  pub goes-without : (choices : Choices) (folder listing text part rest : List ℕ) (found : List Entry)
      (reason : Reason) → parts_of 0 text ≡ (if is_empty part then parts_of 0 rest else part ∷ parts_of 0 rest)
      → is_empty part ≡ false → is_name part ≡ true
      → IsFound looks follows top root choices.limits choices folder part (Err reason)
      → GoesOn choices folder listing text found → GoesOn choices folder listing rest found
  goes-without choices folder listing text part rest found reason split some named is on later are = on later
      (subst (λ names. AreFound looks follows top root choices.limits choices folder names later)
      (sym (names-take text part rest split some named)) (other_name part (names_of rest) reason later is are))

  pub goes-end : (choices : Choices) (folder listing rest : List ℕ) (found : List Entry)
      → is_empty rest ≡ true → GoesOn choices folder listing rest found
      → AreFound looks follows top root choices.limits choices folder (names_of listing) found
  goes-end choices folder listing [] found none on =
      subst (AreFound looks follows top root choices.limits choices folder (names_of listing))
      (append-nil found) (on [] no_name)
  goes-end choices folder listing (byte ∷ rest) found none on = absurd (false≢true none)
