-- Which names of interest a listing has.
use Rattle.std.proofs.Common.{◌≡◌, ℕ, Bool, true, false, ◌||◌, ◌&&◌, ◌++◌, MatchBool, filter}
use Rattle.std.proofs.Common.{length, nat_lt, List, [], ◌∷◌, refl, sym, ap, subst, ◌∙◌}
use Rattle.std.proofs.Common.{if◌then◌else◌, codes}
use Rattle.std.specs.List.{list_any}
use Rattle.std.specs.Str.{bytes_eq}
use Rattle.std.proofs.lemmas.Bool.{false≢true}
use Rattle.grep_ignore.specs.Classes.{is_empty}
use Rattle.linegrep_files.specs.FolderFacts.{FolderFacts}
use Rattle.linegrep_files.specs.GitFiles.{IsExcludePath}
use Rattle.linegrep_files.specs.IgnoreFiles.{AreFilesRead, AreRulesAdded, AreWithin, HasPlace, HasSource}
use Rattle.linegrep_files.specs.IgnoreFiles.{IsFileRead, IsTopAt}
use Rattle.linegrep_files.specs.IgnoreFiles.{depth_in, has_name, is_idle, marks_of}
use Rattle.linegrep_files.specs.IgnoreFiles.{path_below}
use Rattle.linegrep_files.specs.IgnoreFiles.{with_mark}
use Rattle.linegrep_files.specs.declared.ignores.Ignores.{Ignores}
use Rattle.grep_ignore.specs.declared.layers.Layer.{Layer}
use Rattle.grep_ignore.specs.declared.layers.Origin.{Origin}
use Rattle.grep_ignore.specs.declared.layers.Origin.TheVariants.{GitExclude, GitIgnore, Ignore}
use Rattle.grep_ignore.specs.declared.layers.Origin.TheVariants.{RgIgnore}
use Rattle.std.specs.Prelude.{Result, String, Vec, string_bytes}
use Rattle.grep_ignore.specs.Layers.{IsInserted}
use Rattle.grep_ignore.specs.Lines.{AreOfLines, lines_of}
use Rattle.grep_ignore.specs.declared.rules.Misread.{Misread}
use Rattle.grep_ignore.specs.declared.rules.Rule.{Rule}
use Rattle.std.specs.Global.{Global}
use Rattle.std.specs.declared.io.Error.{Error}
use Rattle.linegrep_files.specs.Paths.{joined, parts_of}
use Rattle.linegrep_files.specs.declared.ignores.Marks.{Marks}

-- what either has
abbrev pub either : Marks → Marks → Marks
either one other = record {
  has_rgignore = one.has_rgignore || other.has_rgignore;
  has_ignore = one.has_ignore || other.has_ignore;
  has_gitignore = one.has_gitignore || other.has_gitignore;
  has_git = one.has_git || other.has_git;
  has_jj = one.has_jj || other.has_jj;
}

-- a name is looked for in a part, and then in what follows it
has-next : (name text part rest : List ℕ) → is_empty name ≡ false
    → parts_of 0 text ≡ (if is_empty part then parts_of 0 rest else part ∷ parts_of 0 rest)
    → has_name name text ≡ bytes_eq part name || has_name name rest
has-next [] text part rest some split = absurd (false≢true (sym some))
has-next (byte ∷ more) text [] rest some split = ap (list_any (λ part. bytes_eq part (byte ∷ more))) split
has-next (byte ∷ more) text (first ∷ others) rest some split =
    ap (list_any (λ part. bytes_eq part (byte ∷ more))) split

either-or : (a b c : Bool) → (a || b) || c ≡ a || (b || c)
either-or true b c = refl
either-or false b c = refl

pub marks-next : (marks : Marks) (text part rest : List ℕ)
    → parts_of 0 text ≡ (if is_empty part then parts_of 0 rest else part ∷ parts_of 0 rest)
    → either (with_mark marks part) (marks_of rest) ≡ either marks (marks_of text)
marks-next marks text part rest split = λ i. record {
  has_rgignore = step marks.has_rgignore (codes ".rgignore") refl i;
  has_ignore = step marks.has_ignore (codes ".ignore") refl i;
  has_gitignore = step marks.has_gitignore (codes ".gitignore") refl i;
  has_git = step marks.has_git (codes ".git") refl i;
  has_jj = step marks.has_jj (codes ".jj") refl i;
}
  where
    step : (mark : Bool) (name : List ℕ) → is_empty name ≡ false
        → (mark || bytes_eq part name) || has_name name rest ≡ mark || has_name name text
    step mark name some = either-or mark (bytes_eq part name) (has_name name rest)
        ∙ ap (λ b. mark || b) (sym (has-next name text part rest some split))

pub place-then : (old mid new : Ignores) → HasPlace old mid → HasPlace mid new → HasPlace old new
place-then old mid new first next = record {
  source = record {
    sources = next.source.sources ∙ first.source.sources;
    named = next.source.named ∙ first.source.named;
    start = next.source.start ∙ first.source.start;
    root = next.source.root ∙ first.source.root;
  };
  path = next.path ∙ first.path;
  repositories = next.repositories ∙ first.repositories;
}

-- the rules of a file are added, if it has some
pub rules-added : (ignores_case : Bool) (origin : Origin) (depth start : ℕ) (path contents : List ℕ)
    (old new : List Layer) (mid : List Layer) (rules all : List Rule) (faults : List Misread) (file : String Global)
    (at : ℕ) → AreOfLines ignores_case 1 (lines_of contents) rules faults → all ≡ rules → mid ≡ old → at ≡ start
    → (all ≡ [] → ⊥) → string_bytes file ≡ path
    → IsInserted mid (record { file = file; origin = origin; depth = depth; start = at; rules = all }) new
    → AreRulesAdded ignores_case origin depth start path contents old new
rules-added ignores_case origin depth start path contents old new mid rules all faults file at are same kept here some is
    inserted = record {
      rules = rules;
      faults = faults;
      are = are;
      none = λ none. absurd (some (same ∙ none));
      some = λ any. (
        file,
        is,
        subst (λ r. IsInserted old (record { file = file; origin = origin; depth = depth; start = start; rules = r }) new)
            same (subst (λ s. IsInserted old (record { file = file; origin = origin; depth = depth; start = s; rules = all })
            new) here (subst (λ layers. IsInserted layers (record {
              file = file;
              origin = origin;
              depth = depth;
              start = at;
              rules = all;
            }) new) kept inserted)),
      );
    }

-- the tops of the repositories that a folder is in, and the layers of the folders that it is in
abbrev TopsAre : Bool → List ℕ → List ℕ → List ℕ → Type 0
TopsAre is_top path old new = new ≡ (if is_top
    then filter (λ top. nat_lt top (depth_in path)) old ++ depth_in path ∷ []
    else filter (λ top. nat_lt top (depth_in path)) old)

abbrev layers_above : List ℕ → List Layer → List Layer
layers_above path layers = filter (λ layer. nat_lt layer.depth (depth_in path)) layers

module _ (reads : List ℕ → Result (Vec ℕ Global) Error → Type 0) where
  -- a file of a folder was read, if it is
  abbrev pub IsRead : Bool → Origin → ℕ → List ℕ → Ignores → Ignores → Type 0
  IsRead is_read origin depth path old new =
      MatchBool is_read (IsFileRead reads old.sources.ignores_case origin depth (length old.path.items)
      path old.layers new.layers) (new.layers ≡ old.layers)

  abbrev pub IsExcludeRead : Bool → List ℕ → ℕ → Ignores → Ignores → Type 0
  IsExcludeRead is_read folder depth old new =
      MatchBool is_read ((path : List ℕ) × IsExcludePath reads folder path × IsFileRead reads old.sources.ignores_case GitExclude depth
      (length old.path.items) path old.layers new.layers) (new.layers ≡ old.layers)

  pub read-on : (is_read : Bool) (origin : Origin) (depth : ℕ) (path : List ℕ) (first old new : Ignores)
      → HasPlace first old → IsRead is_read origin depth path old new
      → MatchBool is_read (IsFileRead reads first.sources.ignores_case origin depth
      (length first.path.items) path old.layers new.layers) (new.layers ≡ old.layers)
  read-on true origin depth path first old new place read =
      rw (place.source.sources, place.path) at read
  read-on false origin depth path first old new place read = read

  pub files-read : (marks : Marks) (depth : ℕ) (folder : List ℕ) (first second third fourth last : Ignores)
      → HasPlace first second → HasPlace second third → HasPlace third fourth
      → IsExcludeRead (marks.has_git && first.sources.exclude) folder depth first second
      → IsRead (marks.has_gitignore && first.sources.git) GitIgnore depth
      (joined folder (codes ".gitignore")) second third
      → IsRead (marks.has_ignore && first.sources.dot) Ignore depth
      (joined folder (codes ".ignore")) third fourth
      → IsRead (marks.has_rgignore && first.sources.dot) RgIgnore depth
      (joined folder (codes ".rgignore")) fourth last
      → AreFilesRead reads first.sources marks depth (length first.path.items) folder first.layers last.layers
  files-read marks depth folder first second third fourth last one two three exclude git ignore rgignore =
      record {
        with_exclude = second.layers;
        with_git = third.layers;
        with_ignore = fourth.layers;
        exclude = exclude;
        git = read-on _ _ _ _ first second third one git;
        ignore = read-on _ _ _ _ first third fourth (place-then _ _ _ one two) ignore;
        rgignore = read-on _ _ _ _ first fourth last
            (place-then _ _ _ (place-then _ _ _ one two) three) rgignore;
      }

module _ (folders : FolderFacts) where
  pub of-folder : (folder below names : List ℕ) (marks : Marks) (top : Bool)
      (first second third last : Ignores) → is_idle first ≡ false
      → second.path.items ≡ path_below first below → HasSource first second
      → second.layers ≡ first.layers → second.repositories ≡ first.repositories
      → marks ≡ marks_of names → IsTopAt folders folder marks top
      → third.layers ≡ filter (λ layer. nat_lt layer.depth (depth_in second.path.items)) second.layers
      → third.repositories.items ≡ (if top
      then filter (λ top. nat_lt top (depth_in second.path.items)) second.repositories.items
      ++ depth_in second.path.items ∷ []
      else filter (λ top. nat_lt top (depth_in second.path.items)) second.repositories.items)
      → HasSource second third → third.path ≡ second.path
      → AreFilesRead folders.reads third.sources marks (depth_in third.path.items) (length third.path.items) folder
      third.layers last.layers → HasPlace third last → AreWithin folders folder below names first last
  of-folder folder below names marks top first second third last busy path1 source1 layers1 tops1 marked is
      layers2 tops2 source2 path2 files place = rw busy (record {
        source = record {
          sources = place.source.sources ∙ source2.sources ∙ source1.sources;
          named = place.source.named ∙ source2.named ∙ source1.named;
          start = place.source.start ∙ source2.start ∙ source1.start;
          root = place.source.root ∙ source2.root ∙ source1.root;
        };
        path = ap (λ l. l.items) (place.path ∙ path2) ∙ path1;
        is_top = top;
        top = subst (λ m. IsTopAt folders folder m top) marked is;
        repositories =
            subst (λ p. TopsAre top p.items first.repositories.items last.repositories.items)
            (sym (place.path ∙ path2)) (ap (λ l. l.items) place.repositories
            ∙ subst (λ r. TopsAre top second.path.items r.items third.repositories.items) tops1 tops2);
        layers = subst (λ m. AreFilesRead folders.reads first.sources m (depth_in last.path.items)
            (length last.path.items) folder (layers_above last.path.items first.layers) last.layers) marked
            (subst (λ p. AreFilesRead folders.reads first.sources marks (depth_in last.path.items)
            (length last.path.items) folder (layers_above p.items first.layers) last.layers)
            (sym (place.path ∙ path2))
            (subst (λ p. AreFilesRead folders.reads first.sources marks (depth_in p.items) (length p.items) folder
            (layers_above second.path.items first.layers) last.layers) (sym place.path)
            (subst (λ l. AreFilesRead folders.reads first.sources marks (depth_in third.path.items)
            (length third.path.items) folder l last.layers)
            (layers2 ∙ ap (layers_above second.path.items) layers1)
            (subst (λ s. AreFilesRead folders.reads s marks (depth_in third.path.items) (length third.path.items) folder
            third.layers last.layers) (source2.sources ∙ source1.sources) files))));
      })
