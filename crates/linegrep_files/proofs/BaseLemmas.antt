-- Ignore files that belong to no folder: they stay while a walk goes on.
use Rattle.std.proofs.Common.{◌≡◌, ◌≢◌, ℕ, ◌+◌, Bool, true, false, ◌++◌, ◌∷◌, ◌==◌, ◌∙◌, [], List}
use Rattle.std.proofs.Common.{ap, append_assoc, arith, drop, filter, length, nat_lt, refl, subst, sym, take}
use Rattle.std.specs.Prelude.{MatchBool, Result, String, Vec, if◌then◌else◌, string_bytes}
use Rattle.std.specs.Global.{Global}
use Rattle.std.specs.declared.io.Error.{Error}
use Rattle.std.proofs.Math.Seq.{take-append-add}
use Rattle.std.proofs.lemmas.Bool.Decides.{nat_tests}
use Rattle.std.proofs.lemmas.List.{length-append, take-append-drop}
use Rattle.std.proofs.lemmas.List.Elements.{filter-append}
use Rattle.grep_ignore.specs.Classes.{is_empty}
use Rattle.grep_ignore.specs.Layers.{IsInserted}
use Rattle.grep_ignore.specs.declared.layers.Layer.{Layer}
use Rattle.grep_ignore.specs.declared.layers.Origin.{Origin}
use Rattle.grep_ignore.specs.declared.rules.Rule.{Rule}
use Rattle.linegrep_files.specs.FolderFacts.{FolderFacts}
use Rattle.linegrep_files.specs.IgnoreFiles.{AreFilesRead, AreOfFolder, AreRulesAdded, IsFileRead, depth_in}
use Rattle.linegrep_files.specs.IgnoreFiles.{of_lines, of_unread, path_below}
use Rattle.linegrep_files.specs.ParentFiles.{AreParentsRead, IsTakenUp, any_marks, base_of, next_parent, no_parent}
use Rattle.linegrep_files.specs.ParentFiles.{rooted}
use Rattle.linegrep_files.specs.declared.ignores.Ignores.{Ignores}
use Rattle.linegrep_files.specs.declared.ignores.Marks.{Marks}
use Rattle.linegrep_files.specs.declared.ignores.Sources.{Sources}

-- a list of what passes passes whole
passes-again : (test : Layer → Bool) (layer : Layer) (later : List Layer) (is : Bool)
    → test layer ≡ is → filter test (filter test later) ≡ filter test later
    → filter test (if is then layer ∷ filter test later else filter test later)
    ≡ (if is then layer ∷ filter test later else filter test later)
passes-again test layer later true is again = rw is (ap (λ l. layer ∷ l) again)
passes-again test layer later false is again = again

filter-again : (test : Layer → Bool) (layers : List Layer)
    → filter test (filter test layers) ≡ filter test layers
filter-again test [] = refl
filter-again test (layer ∷ later) =
    passes-again test layer later (test layer) refl (filter-again test later)

pub base-again : (layers : List Layer) → base_of (base_of layers) ≡ base_of layers
base-again layers = filter-again (λ layer. nat_lt layer.depth 1) layers

shallow : (one other : ℕ) → nat_lt one other ≡ false → nat_lt one 1 ≡ true → nat_lt other 1 ≡ false → ⊥
shallow one other deeper first second = absurd (grind (arith, nat_tests))

-- of the files of folders that aren't too deep all count that belong to none
below-base : (depth : ℕ) (layers : List Layer) → nat_lt depth 1 ≡ false
    → base_of (filter (λ layer. nat_lt layer.depth depth) layers) ≡ base_of layers
below-base depth [] deep = refl
below-base depth (layer ∷ later) deep =
    kept (nat_lt layer.depth depth) (nat_lt layer.depth 1) refl refl (below-base depth later deep)
  where
    kept : (within base : Bool) → nat_lt layer.depth depth ≡ within → nat_lt layer.depth 1 ≡ base
        → base_of (filter (λ l. nat_lt l.depth depth) later) ≡ base_of later
        → base_of (if within then layer ∷ filter (λ l. nat_lt l.depth depth) later
        else filter (λ l. nat_lt l.depth depth) later)
        ≡ (if base then layer ∷ base_of later else base_of later)
    kept true true is is_base same = rw is_base (ap (λ l. layer ∷ l) same)
    kept true false is is_base same = rw is_base same
    kept false true is is_base same = absurd (shallow layer.depth depth is is_base deep)
    kept false false is is_base same = same

-- a folder's path has a slash
pub has-depth : (first rest : List ℕ) → nat_lt (depth_in (first ++ 47 ∷ rest)) 1 ≡ false
has-depth first rest =
    let e = filter-append (λ byte. byte == 47) first (47 ∷ rest) in
    rw (e, length-append (filter (λ byte. byte == 47) first) (47 ∷ filter (λ byte. byte == 47) rest))
    (grind arith)

-- the rules of a folder's file don't count everywhere
insert-base : (layers new : List Layer) (layer : Layer) → nat_lt layer.depth 1 ≡ false
    → IsInserted layers layer new → base_of new ≡ base_of layers
insert-base layers new layer deep inserted =
    let at = inserted.0 in
    ap base_of inserted.2
    ∙ filter-append (λ l. nat_lt l.depth 1) (take at layers) (layer ∷ drop at layers)
    ∙ ap (λ l. base_of (take at layers) ++ l) (left-out layer (drop at layers) deep)
    ∙ sym (filter-append (λ l. nat_lt l.depth 1) (take at layers) (drop at layers))
    ∙ ap base_of (take-append-drop at layers)
  where
    left-out : (layer : Layer) (later : List Layer) → nat_lt layer.depth 1 ≡ false
        → base_of (layer ∷ later) ≡ base_of later
    left-out layer later deep = rw deep refl

rules-base : (ignores_case : Bool) (origin : Origin) (depth start : ℕ) (path contents : List ℕ)
    (old new : List Layer) → nat_lt depth 1 ≡ false
    → AreRulesAdded ignores_case origin depth start path contents old new → base_of new ≡ base_of old
rules-base ignores_case origin depth start path contents old new deep added =
    by added.rules added.none added.some
  where
    by : (rules : List Rule) → (rules ≡ [] → new ≡ old)
        → (rules ≢ [] → (file : String Global) × (string_bytes file ≡ path)
        × IsInserted old (record { file = file; origin = origin; depth = depth; start = start; rules = rules }) new)
        → base_of new ≡ base_of old
    by [] none some = ap base_of (none refl)
    by (rule ∷ later) none some = let (file, is, inserted) = some (λ is. absurd (cc)) in
        insert-base old new _ deep inserted

-- what is before the first slash of a folder's path stays
pub record IsRooted (ignores : Ignores) : Type 0 where
  pub place : List ℕ
  pub rest : List ℕ
  pub path : ignores.path.items ≡ place ++ 47 ∷ rest
  pub root : ignores.root ≡ length place

module _ (reads : List ℕ → Result (Vec ℕ Global) Error → Type 0) where
  file-base : (ignores_case : Bool) (origin : Origin) (depth start : ℕ) (path : List ℕ) (old new : List Layer)
      → nat_lt depth 1 ≡ false → IsFileRead reads ignores_case origin depth start path old new
      → base_of new ≡ base_of old
  file-base ignores_case origin depth start path old _ deep (of_unread error unread) = refl
  file-base ignores_case origin depth start path old new deep (of_lines contents read added) =
      rules-base ignores_case origin depth start path contents.items old new deep added

  -- a file that may be read
  maybe-base : (is_read : Bool) (old new : List Layer) (Read : Type 0) → (Read → base_of new ≡ base_of old)
      → MatchBool is_read Read (new ≡ old) → base_of new ≡ base_of old
  maybe-base true old new Read base read = base read
  maybe-base false old new Read base same = ap base_of same

  files-base : (sources : Sources) (marks : Marks) (depth start : ℕ) (folder : List ℕ) (old new : List Layer)
      → nat_lt depth 1 ≡ false → AreFilesRead reads sources marks depth start folder old new
      → base_of new ≡ base_of old
  files-base sources marks depth start folder old new deep read =
      maybe-base _ read.with_ignore new _ (file-base _ _ depth start _ _ _ deep) read.rgignore
      ∙ maybe-base _ read.with_git read.with_ignore _ (file-base _ _ depth start _ _ _ deep) read.ignore
      ∙ maybe-base _ read.with_exclude read.with_git _ (file-base _ _ depth start _ _ _ deep) read.git
      ∙ maybe-base _ old read.with_exclude _ (λ (path, found, exclude). file-base _ _ depth start path _ _ deep exclude)
      read.exclude

module _ (folders : FolderFacts) where
  -- so it does in a folder below, where those files count too that belong to none
  pub record IsBelow (old new : Ignores) : Type 0 where
    pub rooted : IsRooted new
    pub base : base_of new.layers ≡ base_of old.layers

  first-taken : (place rest : List ℕ) → take (length place + 1) (place ++ 47 ∷ rest) ≡ place ++ 47 ∷ []
  first-taken place rest = take-append-add place (47 ∷ rest) 1

  below-path : (place rest below : List ℕ) → (later : List ℕ)
      × ((if is_empty below then take (length place + 1) (place ++ 47 ∷ rest)
      else take (length place + 1) (place ++ 47 ∷ rest) ++ below ++ 47 ∷ []) ≡ place ++ 47 ∷ later)
  below-path place rest [] = ([], first-taken place rest)
  below-path place rest (byte ∷ more) = (
    (byte ∷ more) ++ 47 ∷ [],
    ap (λ l. l ++ (byte ∷ more) ++ 47 ∷ []) (first-taken place rest)
        ∙ append_assoc (place ++ 47 ∷ []) (byte ∷ more) (47 ∷ [])
        ∙ append_assoc place (47 ∷ []) ((byte ∷ more) ++ 47 ∷ []),
  )

  pub is-below : (folder below names : List ℕ) (old new : Ignores) → IsRooted old
      → AreOfFolder folders folder below names old new → IsBelow old new
  is-below folder below names old new is are =
      let later = below-path is.place is.rest below in
      let path : new.path.items ≡ is.place ++ 47 ∷ later.0 = are.path
      ∙ subst (λ p. path_below old below ≡ (if is_empty below then take (length is.place + 1) p
      else take (length is.place + 1) p ++ below ++ 47 ∷ [])) is.path
      (ap (λ r. if is_empty below then take (r + 1) old.path.items
      else take (r + 1) old.path.items ++ below ++ 47 ∷ []) is.root) ∙ later.1 in
      let deep : nat_lt (depth_in new.path.items) 1 ≡ false =
      ap (λ p. nat_lt (depth_in p) 1) path ∙ has-depth is.place later.0 in
      record {
        rooted = record {
          place = is.place;
          rest = later.0;
          path = path;
          root = are.source.root ∙ is.root;
        };
        base = files-base folders.reads old.sources _ (depth_in new.path.items) _ folder _ new.layers deep are.layers
            ∙ below-base (depth_in new.path.items) old.layers deep;
      }

  parents-base : (sources : Sources) (layers : List Layer) (parents : List (List ℕ)) (new : List Layer)
      (repositories : List ℕ) → AreParentsRead folders sources layers parents new repositories
      → base_of new ≡ base_of layers
  parents-base sources layers _ _ _ no_parent = refl
  parents-base sources layers _ _ _
      (next_parent {parents = parents} {mid = mid} {new = new} {between = between} above before read) =
      maybe-base folders.reads sources.parents mid new _
      (files-base folders.reads sources any_marks _ _ (rooted above) mid new (has-depth above [])) read.files
      ∙ parents-base sources layers parents mid between before

  pub taken-base : (name : List ℕ) (old new : Ignores) → IsTakenUp folders name old new
      → base_of new.layers ≡ base_of old.layers
  taken-base name old new taken =
      parents-base old.sources (base_of old.layers) _ new.layers new.repositories.items taken.parents
      ∙ base-again old.layers
