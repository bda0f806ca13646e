-- The ignore files that count when a folder is taken up.
use Rattle.std.proofs.Common.{◌≡◌, ℕ, ◌+◌, ◌<◌, Bool, true, false, ◌++◌, ◌∷◌, ◌==◌, ◌∙◌, [], List, ap, append-nil}
use Rattle.std.proofs.Common.{arith, cond, filter, get_or, length, map, refl, subst, sym, take, zero-add}
use Rattle.std.specs.Prelude.{◌≢◌, MatchBool, Ok, String, slice_index, slice_range, string_bytes}
use Rattle.std.specs.Borrow.{Bor}
use Rattle.std.specs.Global.{Global}
use Rattle.std.specs.List.{range_with_len}
use Rattle.std.proofs.lemmas.Bool.{true≢false}
use Rattle.std.proofs.lemmas.Bool.Decides.{nat_tests}
use Rattle.std.proofs.lemmas.List.{map-append, map-id, take_more}
use Rattle.std.proofs.lemmas.List.FromFn.{filter_of_map_range_with_len_more}
use Rattle.grep_ignore.specs.declared.layers.Layer.{Layer}
use Rattle.grep_ignore.specs.declared.layers.Origin.TheVariants.{Named}
use Rattle.linegrep_files.specs.FolderFacts.{FolderFacts}
use Rattle.linegrep_files.specs.IgnoreFiles.{HasSource, IsFileRead, ReadsTheSame, is_idle}
use Rattle.linegrep_files.specs.ParentFiles.{AreBegun, AreNamedRead, AreParentsRead, IsParentRead, IsTakenUp, base_of}
use Rattle.linegrep_files.specs.ParentFiles.{IsPlace, next_named, next_parent, of_path, parents_to}
use Rattle.linegrep_files.specs.Paths.{IsRoot}
use Rattle.linegrep_files.specs.declared.ignores.Ignores.{Ignores}
use Rattle.linegrep_files.specs.declared.ignores.Sources.{Sources}

-- the slashes among some first bytes of a path, and the next
slashes-more : (path : List ℕ) (count : ℕ)
    → filter (λ at. slice_index path at == 47) (range_with_len 0 (count + 1))
    ≡ filter (λ at. slice_index path at == 47) (range_with_len 0 count)
    ++ cond (slice_index path count == 47) (count ∷ []) []
slashes-more path count =
    ap (filter (λ at. slice_index path at == 47)) (sym (map-id (range_with_len 0 (count + 1))))
    ∙ filter_of_map_range_with_len_more (λ at. slice_index path at == 47) (λ at. at) 0 count count (zero-add count)
    ∙ ap (λ l. filter (λ at. slice_index path at == 47) l ++ cond (slice_index path count == 47) (count ∷ []) [])
    (map-id (range_with_len 0 count))

parents-more : (path : List ℕ) (count : ℕ) (is : Bool) → (slice_index path count == 47) ≡ is
    → parents_to path (count + 1) ≡ parents_to path count ++ cond is (take count path ∷ []) []
parents-more path count is same =
    ap (map (λ at. take at path)) (slashes-more path count)
    ∙ map-append (λ at. take at path) (filter (λ at. slice_index path at == 47) (range_with_len 0 count))
    (cond (slice_index path count == 47) (count ∷ []) [])
    ∙ ap (λ l. parents_to path count ++ map (λ at. take at path) (cond l (count ∷ []) [])) same
    ∙ by is
  where
    by : (is : Bool) → parents_to path count ++ map (λ at. take at path) (cond is (count ∷ []) [])
        ≡ parents_to path count ++ cond is (take count path ∷ []) []
    by true = refl
    by false = refl

pub is-slash : (byte : ℕ) → byte ≡ 47 → (byte == 47) ≡ true
is-slash byte is = grind (arith, nat_tests)

pub isnt-slash : (byte : ℕ) → byte ≢ 47 → (byte == 47) ≡ false
isnt-slash byte isnt = grind (arith, nat_tests)

pub first-bytes : (path : List ℕ) (count : ℕ) → slice_range path 0 count ≡ take count path
first-bytes path count = grind arith

module _ (folders : FolderFacts) (sources : Sources) (layers : List Layer) where
  -- what is before a slash is read next
  pub parents-slash : (path : List ℕ) (count : ℕ) (mid new : List Layer) (between repositories : List ℕ)
      → (slice_index path count == 47) ≡ true
      → AreParentsRead folders sources layers (parents_to path count) mid between
      → IsParentRead folders sources (take count path) mid between new repositories
      → AreParentsRead folders sources layers (parents_to path (count + 1)) new repositories
  parents-slash path count mid new between repositories is before read =
      subst (λ parents. AreParentsRead folders sources layers parents new repositories)
      (sym (parents-more path count true is)) (next_parent (take count path) before read)

  pub parents-other : (path : List ℕ) (count : ℕ) (mid : List Layer) (between : List ℕ)
      → (slice_index path count == 47) ≡ false
      → AreParentsRead folders sources layers (parents_to path count) mid between
      → AreParentsRead folders sources layers (parents_to path (count + 1)) mid between
  parents-other path count mid between isnt before =
      subst (λ parents. AreParentsRead folders sources layers parents mid between)
      (sym (parents-more path count false isnt ∙ append-nil (parents_to path count))) before

-- a path that a system gave, without the slashes at its end
pub place-of : (folders : FolderFacts) (folder : List ℕ) (text : String Global) (shown place : List ℕ)
    → folders.resolves folder (Ok text) → shown ≡ string_bytes text
    → (root : ℕ) × IsRoot shown root × (place ≡ take root shown) → IsPlace folders folder place
place-of folders folder text shown place given same cut =
    subst (IsPlace folders folder) (sym (cut.2 ∙ ap (take cut.0) same))
    (of_path text cut.0 given (subst (λ l. IsRoot l cut.0) same cut.1))

pub source-then : (old mid new : Ignores) → HasSource old mid → HasSource mid new → HasSource old new
source-then old mid new first next = record {
  sources = next.sources ∙ first.sources;
  named = next.named ∙ first.named;
  start = next.start ∙ first.start;
  root = next.root ∙ first.root;
}

-- the next file that is named was read
pub named-next : (folders : FolderFacts) (ignores_case : Bool) (paths : List (Bor (List ℕ))) (i : ℕ)
    (unknown : Bor (List ℕ)) (mid new : List Layer) → i < length paths
    → AreNamedRead folders ignores_case (take i paths) mid
    → IsFileRead folders.reads ignores_case Named 0 0 (get_or paths i unknown).now mid new
    → AreNamedRead folders ignores_case (take (i + 1) paths) new
named-next folders ignores_case paths i unknown mid new within before read =
    subst (λ done. AreNamedRead folders ignores_case done new) (sym (take_more paths i unknown within))
    (next_named (get_or paths i unknown) before read)

-- a folder is taken up, unless no ignore file is read
pub taken-up : (folders : FolderFacts) (name : List ℕ) (old new : Ignores) → is_idle old ≡ false
    → ReadsTheSame old new → IsTakenUp folders name old new → AreBegun folders name old new
taken-up folders name old new busy same taken =
    record { same = same; read = by (is_idle old) busy }
  where
    by : (idle : Bool) → idle ≡ false
        → MatchBool idle (new.layers ≡ base_of old.layers) (IsTakenUp folders name old new)
    by false is = taken
    by true is = absurd (true≢false is)
