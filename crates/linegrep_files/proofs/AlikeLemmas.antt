-- What stays of choices while a walk goes on.
use Rattle.std.proofs.Common.{◌≡◌, ℕ, Bool, true, false, ◌∙◌, List, [], ap, refl, subst, sym}
use Rattle.std.specs.Prelude.{MatchBool}
use Rattle.std.proofs.lemmas.Bool.{false≢true, true≢false}
use Rattle.linegrep_files.specs.Choices.{AreAlike, AreTakenUp, IsWithin, SaysTheSame}
use Rattle.linegrep_files.specs.FolderFacts.{FolderFacts}
use Rattle.linegrep_files.specs.IgnoreFiles.{AreOfFolder, ReadsTheSame, is_idle}
use Rattle.linegrep_files.specs.ParentFiles.{AreParentsRead, IsTakenUp, base_of, parents_of}
use Rattle.linegrep_files.specs.Trees.{IsWalked, no_visit, of_file, of_folder}
use Rattle.linegrep_files.specs.Walks.{IsEntered, of_deep, of_names, of_unread}
use Rattle.linegrep_files.specs.declared.choices.Choices.{Choices}
use Rattle.linegrep_files.specs.declared.entry.Entry.{Entry}
use Rattle.linegrep_files.specs.declared.ignores.Ignores.{Ignores}
use Rattle.linegrep_files.specs.declared.walk.Walk.{Walk}
use Rattle.linegrep_files.proofs.BaseLemmas.{IsRooted, base-again, is-below, taken-base}
use Rattle.linegrep_files.proofs.FoundLemmas.{same-then}

pub alike-self : (choices : Choices) → AreAlike choices choices
alike-self choices = record {
  globs = refl;
  types = refl;
  limits = refl;
  shows_hidden = refl;
  ignores = record { sources = refl; named = refl };
  base = refl;
}

pub alike-then : (old mid new : Choices) → AreAlike old mid → AreAlike mid new → AreAlike old new
alike-then old mid new first next = record {
  globs = next.globs ∙ first.globs;
  types = next.types ∙ first.types;
  limits = next.limits ∙ first.limits;
  shows_hidden = next.shows_hidden ∙ first.shows_hidden;
  ignores = record {
    sources = next.ignores.sources ∙ first.ignores.sources;
    named = next.ignores.named ∙ first.ignores.named;
  };
  base = next.base ∙ first.base;
}

pub same-alike : (old new : Choices) → SaysTheSame old new → AreAlike old new
same-alike old new same = record {
  globs = same.globs;
  types = same.types;
  limits = same.limits;
  shows_hidden = same.shows_hidden;
  ignores = record { sources = same.ignores.source.sources; named = same.ignores.source.named };
  base = ap base_of same.ignores.layers;
}

-- unless no ignore file is read, a folder's path is known
abbrev IsKnown : Ignores → Type 0
IsKnown ignores = is_idle ignores ≡ false → IsRooted ignores

-- choices that differ from others in the ignore files alone that belong to folders, one of which was
-- taken up
pub record AreAlong (old new : Choices) : Type 0 where
  pub alike : AreAlike old new
  pub known : IsKnown new.ignores

along-then : (old mid new : Choices) → AreAlike old mid → AreAlong mid new → AreAlong old new
along-then old mid new first next =
    record { alike = alike-then old mid new first next.alike; known = next.known }

along-same : (old new : Choices) → IsKnown old.ignores → SaysTheSame old new → AreAlong old new
along-same old new known same = record {
  alike = same-alike old new same;
  known = λ busy. let is = known (idle-same busy) in record {
    place = is.place;
    rest = is.rest;
    path = same.ignores.path ∙ is.path;
    root = same.ignores.source.root ∙ is.root;
  };
}
  where
    idle-same : is_idle new.ignores ≡ false → is_idle old.ignores ≡ false
    idle-same busy = rw (same.ignores.source.sources, same.ignores.source.named) at busy

module _ (folders : FolderFacts) (folder below names : List ℕ) where
  record IsInside (old new : Ignores) : Type 0 where
    same : ReadsTheSame old new
    base : base_of new.layers ≡ base_of old.layers
    known : IsKnown new

  inside : (old new : Ignores) (idle : Bool) → is_idle old ≡ idle → IsKnown old
      → MatchBool idle (new ≡ old) (AreOfFolder folders folder below names old new) → IsInside old new
  inside old new true is known same = record {
    same = record { sources = ap (λ i. i.sources) same; named = ap (λ i. i.has_named) same };
    base = ap (λ i. base_of i.layers) same;
    known = subst IsKnown (sym same) known;
  }
  inside old new false is known are =
      let below_is = is-below folders folder below names old new (known is) are in
      record {
        same = record { sources = are.source.sources; named = are.source.named };
        base = below_is.base;
        known = λ busy. below_is.rooted;
      }

  within-along : (old new : Choices) → IsKnown old.ignores → IsWithin folders folder below names old new
      → AreAlong old new
  within-along old new known within =
      let is = inside old.ignores new.ignores (is_idle old.ignores) refl known within.ignores in
      record {
        alike = record {
          globs = within.globs;
          types = within.types;
          limits = within.limits;
          shows_hidden = within.shows_hidden;
          ignores = is.same;
          base = is.base;
        };
        known = is.known;
      }

module _ {S : Type 0} (facts : S → FolderFacts) where
  entered-along : (old : Walk S) (choices : Choices) (folder : List ℕ) (new : Walk S) (inside : Choices)
      → IsKnown choices.ignores → IsEntered facts old choices folder new inside → AreAlong choices inside
  entered-along old choices folder new inside known (of_deep deep pending same) =
      along-same choices inside known same
  entered-along old choices folder new inside known
      (of_unread path error flat listed named pending same) = along-same choices inside known same
  entered-along old choices folder new inside known (of_names names flat listed added) =
      let within = within-along _ _ _ _ choices added.within known added.are_within in
      along-then choices added.within inside within.alike
      (along-same added.within inside within.known added.same)

  -- choices that say the same are those in a folder too
  pub entered-same : (old : Walk S) (choices : Choices) (folder : List ℕ) (new : Walk S) (inside now : Choices)
      → IsEntered facts old choices folder new inside → SaysTheSame inside now
      → IsEntered facts old choices folder new now
  entered-same old choices folder new inside now (of_deep deep pending same) later =
      of_deep deep pending (same-then choices inside now same later)
  entered-same old choices folder new inside now
      (of_unread path error flat listed named pending same) later =
      of_unread path error flat listed named pending (same-then choices inside now same later)
  entered-same old choices folder new inside now (of_names names flat listed added) later =
      of_names names flat listed (record {
        within = added.within;
        found = added.found;
        are_within = added.are_within;
        are_found = added.are_found;
        are_added = added.are_added;
        same = same-then added.within inside now added.same later;
      })

  -- a walk changes the ignore files of folders alone
  walked-along : (begun : Walk S) (choices : Choices) (visited : List Entry) (walk : Walk S) (inside : Choices)
      → IsKnown choices.ignores → IsWalked facts begun choices visited walk inside → AreAlong choices inside
  walked-along begun choices _ _ _ known no_visit = record { alike = alike-self choices; known = known }
  walked-along begun choices _ _ inside known (of_file {visited = visited} {walk = walk} entry before popped other) =
      walked-along begun choices visited walk inside known before
  walked-along begun choices _ _ within known
      (of_folder {visited = visited} {walk = walk} {popped = popped} {new = new} {inside = inside} path before
      is_popped entered goes) =
      let along = walked-along begun choices visited walk inside known before in
      along-then choices inside within along.alike (entered-along popped inside _ new within along.known entered)

-- a folder is taken up
module _ (folders : FolderFacts) (name : List ℕ) where
  taken-along : (old new : Choices) → AreTakenUp folders name old new → AreAlong old new
  taken-along old new taken = record {
    alike = record {
      globs = taken.globs;
      types = taken.types;
      limits = taken.limits;
      shows_hidden = taken.shows_hidden;
      ignores = taken.ignores.same;
      base = by_base (is_idle old.ignores) taken.ignores.read;
    };
    known = λ busy. by_known (is_idle old.ignores)
        (sym (rw (taken.ignores.same.sources, taken.ignores.same.named) at busy)) taken.ignores.read;
  }
    where
      by_base : (idle : Bool)
          → MatchBool idle (new.ignores.layers ≡ base_of old.ignores.layers)
          (IsTakenUp folders name old.ignores new.ignores)
          → base_of new.ignores.layers ≡ base_of old.ignores.layers
      by_base true same = ap base_of same ∙ base-again old.ignores.layers
      by_base false taken = taken-base folders name old.ignores new.ignores taken

      by_known : (idle : Bool) → false ≡ idle
          → MatchBool idle (new.ignores.layers ≡ base_of old.ignores.layers)
          (IsTakenUp folders name old.ignores new.ignores) → IsRooted new.ignores
      by_known true is same = absurd (false≢true is)
      by_known false is taken =
          record { place = taken.place; rest = []; path = taken.path; root = taken.root }

  -- it is taken up as by choices that differ in the ignore files alone that belong to folders
  pub taken-by : (first old new : Choices) → AreAlike first old → AreTakenUp folders name old new
      → AreTakenUp folders name first new
  taken-by first old new alike taken = record {
    globs = taken.globs ∙ alike.globs;
    types = taken.types ∙ alike.types;
    limits = taken.limits ∙ alike.limits;
    shows_hidden = taken.shows_hidden ∙ alike.shows_hidden;
    ignores = record {
      same = record {
        sources = taken.ignores.same.sources ∙ alike.ignores.sources;
        named = taken.ignores.same.named ∙ alike.ignores.named;
      };
      read = by (is_idle old.ignores) (is_idle first.ignores)
          (rw (alike.ignores.sources, alike.ignores.named) refl) taken.ignores.read;
    };
  }
    where
      by : (one other : Bool) → one ≡ other
          → MatchBool one (new.ignores.layers ≡ base_of old.ignores.layers)
          (IsTakenUp folders name old.ignores new.ignores)
          → MatchBool other (new.ignores.layers ≡ base_of first.ignores.layers)
          (IsTakenUp folders name first.ignores new.ignores)
      by true true same layers = layers ∙ alike.base
      by true false same layers = absurd (true≢false same)
      by false true same up = absurd (false≢true same)
      by false false same up = record {
        place = up.place;
        is_place = up.is_place;
        root = up.root;
        start = up.start;
        path = up.path;
        parents = subst (λ sources. AreParentsRead folders sources (base_of first.ignores.layers)
            (parents_of up.place) new.ignores.layers new.ignores.repositories.items) alike.ignores.sources
            (subst (λ base. AreParentsRead folders old.ignores.sources base (parents_of up.place)
            new.ignores.layers new.ignores.repositories.items) alike.base up.parents);
      }

-- choices after a walk differ in the ignore files alone that belong to folders
pub walked-alike : {S : Type 0} (facts : S → FolderFacts) (folders : FolderFacts) (name : List ℕ)
    (begun : Walk S) (first choices : Choices) (visited : List Entry) (walk : Walk S) (inside : Choices)
    → AreTakenUp folders name first choices → IsWalked facts begun choices visited walk inside
    → AreAlike first inside
walked-alike facts folders name begun first choices visited walk inside taken walked =
    let up = taken-along folders name first choices taken in
    alike-then first choices inside up.alike
    (walked-along facts begun choices visited walk inside up.known walked).alike
