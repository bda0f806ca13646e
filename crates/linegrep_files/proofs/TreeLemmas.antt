-- What a walk visits is what is visited of its folder.
use Rattle.std.proofs.Common.{◌≡◌, ℕ, false, ◌++◌, ◌∷◌, ◌∙◌, [], List, reverse, refl, sym, ap}
use Rattle.std.proofs.Common.{append_assoc, append-nil, subst}
use Rattle.std.proofs.lemmas.Bool.{true≢false}
use Rattle.std.specs.Borrow.{Bor}
use Rattle.std.specs.Prelude.{None, Some, String, string_bytes}
use Rattle.std.specs.Global.{Global}
use Rattle.std.proofs.lemmas.List.{reverse-append}
use Rattle.linegrep_files.specs.Choices.{AreTakenUp}
use Rattle.linegrep_files.specs.FolderFacts.{FolderFacts}
use Rattle.linegrep_files.specs.Folders.{is_folder, name_of}
use Rattle.linegrep_files.specs.Trees.{AreAllOf, AreFirst, AreFirstOf, AreVisited, IsFolderOf, IsPassed}
use Rattle.linegrep_files.specs.Trees.{IsWalked}
use Rattle.linegrep_files.specs.Trees.{after_folder, are_first, first_entry, first_folder, in_folder}
use Rattle.linegrep_files.specs.Trees.{is_deep, is_names, is_unread, next_entry, next_folder, no_entry}
use Rattle.linegrep_files.specs.Trees.{no_first, no_visit, of_file, of_folder}
use Rattle.linegrep_files.specs.Walks.{IsBegun, IsEntered, IsPopped, of_deep, of_end}
use Rattle.linegrep_files.specs.Walks.{of_memory, of_names, of_pending, of_unread}
use Rattle.linegrep_files.specs.declared.choices.Choices.{Choices}
use Rattle.linegrep_files.specs.declared.entry.Entry.{Entry}
use Rattle.linegrep_files.specs.declared.entry.Entry.TheVariants.{File, Folder, Unread}
use Rattle.linegrep_files.specs.declared.finder.Finder.{Finder}
use Rattle.linegrep_files.specs.declared.walk.Route.{Route}
use Rattle.linegrep_files.specs.declared.walk.Walk.{Walk}

-- a walk asks as it did at its start
abbrev IsKept : {S : Type 0} → Walk S → Walk S → Type 0
IsKept begun walk = walk.finder ≡ begun.finder

-- the last that is pending is visited first
first-popped : (old new : List Entry) (entry : Entry) → old ≡ new ++ entry ∷ []
    → reverse old ≡ entry ∷ reverse new
first-popped old new entry is = ap reverse is ∙ reverse-append new (entry ∷ [])

module _ (folders : FolderFacts) (route : Route) (top : List ℕ) (root : ℕ) where
  -- what is visited of some entries and of others is what is visited of each, one after another
  record AreVisitedTwice (choices : Choices) (first later visited : List Entry) (after : Choices) :
      Type 0 where
    mid : Choices
    of_first : List Entry
    of_later : List Entry
    is : visited ≡ of_first ++ of_later
    are_first : AreVisited folders route top root choices first of_first mid
    are_later : AreVisited folders route top root mid later of_later after

  visited-twice : (choices : Choices) (first later visited : List Entry) (after : Choices)
      → AreVisited folders route top root choices (first ++ later) visited after
      → AreVisitedTwice choices first later visited after
  visited-twice choices [] later visited after are = record {
    mid = choices;
    of_first = [];
    of_later = visited;
    is = refl;
    are_first = no_entry choices;
    are_later = are;
  }
  visited-twice choices (_ ∷ first) later _ after (next_entry entry other are) =
      let twice = visited-twice choices first later _ after are in
      record {
        mid = twice.mid;
        of_first = entry ∷ twice.of_first;
        of_later = twice.of_later;
        is = ap (λ l. entry ∷ l) twice.is;
        are_first = next_entry entry other twice.are_first;
        are_later = twice.are_later;
      }
  visited-twice choices (_ ∷ first) later _ after (next_folder {below = below} path is inner are) =
      let twice = visited-twice _ first later _ after are in
      record {
        mid = twice.mid;
        of_first = Folder path ∷ (below ++ twice.of_first);
        of_later = twice.of_later;
        is = ap (λ l. Folder path ∷ (below ++ l)) twice.is
            ∙ ap (λ l. Folder path ∷ l) (sym (append_assoc below twice.of_first twice.of_later));
        are_first = next_folder path is inner twice.are_first;
        are_later = twice.are_later;
      }

  -- some first of it is some first of the former, or all of that and some first of the latter
  data AreFirstTwice (choices : Choices) (first later visited : List Entry) : Type 0 where
    in_former : AreFirst folders route top root choices first visited
        → AreFirstTwice choices first later visited
    in_latter : (mid : Choices) (of_first of_later : List Entry) → visited ≡ of_first ++ of_later
        → AreVisited folders route top root choices first of_first mid
        → AreFirst folders route top root mid later of_later
        → AreFirstTwice choices first later visited

  entry-twice : (choices : Choices) (entry : Entry) (first later visited : List Entry)
      → is_folder entry ≡ false → AreFirstTwice choices first later visited
      → AreFirstTwice choices (entry ∷ first) later (entry ∷ visited)
  entry-twice choices entry first later visited other (in_former are) =
      in_former (first_entry entry other are)
  entry-twice choices entry first later visited other (in_latter mid of_first of_later is all are) =
      in_latter mid (entry ∷ of_first) of_later (ap (λ l. entry ∷ l) is) (next_entry entry other all) are

  folder-twice : (choices inside mid : Choices) (path : String Global) (inner below first later visited : List Entry)
      → IsFolderOf folders route top root choices (string_bytes path) inner inside
      → AreVisited folders route top root inside inner below mid
      → AreFirstTwice mid first later visited
      → AreFirstTwice choices (Folder path ∷ first) later (Folder path ∷ (below ++ visited))
  folder-twice choices inside mid path inner below first later visited is all (in_former are) =
      in_former (after_folder path is all are)
  folder-twice choices inside mid path inner below first later visited is all
      (in_latter after of_first of_later same former are) =
      in_latter after (Folder path ∷ (below ++ of_first)) of_later
      (ap (λ l. Folder path ∷ (below ++ l)) same
      ∙ ap (λ l. Folder path ∷ l) (sym (append_assoc below of_first of_later)))
      (next_folder path is all former) are

  first-twice : (choices : Choices) (first later visited : List Entry)
      → AreFirst folders route top root choices (first ++ later) visited
      → AreFirstTwice choices first later visited
  first-twice choices [] later visited are = in_latter choices [] visited refl (no_entry choices) are
  first-twice choices (entry ∷ first) later _ (no_first _ _) = in_former (no_first choices (entry ∷ first))
  first-twice choices (_ ∷ first) later _ (first_entry entry other are) =
      entry-twice choices entry first later _ other (first-twice choices first later _ are)
  first-twice choices (_ ∷ first) later _ (first_folder _ _ path) =
      in_former (first_folder choices first path)
  first-twice choices (_ ∷ first) later _ (in_folder path is below) = in_former (in_folder path is below)
  first-twice choices (_ ∷ first) later _ (after_folder path is below are) =
      folder-twice choices _ _ path _ _ first later _ is below (first-twice _ first later _ are)

  -- what is in a folder comes before what is after it
  visited-folder : (choices inside after : Choices) (path : String Global) (inner later rest : List Entry)
      → IsFolderOf folders route top root choices (string_bytes path) inner inside
      → AreVisited folders route top root inside (inner ++ later) rest after
      → AreVisited folders route top root choices (Folder path ∷ later) (Folder path ∷ rest) after
  visited-folder choices inside after path inner later rest is are =
      let twice = visited-twice inside inner later rest after are in
      subst (λ l. AreVisited folders route top root choices (Folder path ∷ later) (Folder path ∷ l) after)
      (sym twice.is) (next_folder path is twice.are_first twice.are_later)

  folder-first : (choices inside : Choices) (path : String Global) (inner later rest : List Entry)
      → IsFolderOf folders route top root choices (string_bytes path) inner inside
      → AreFirstTwice inside inner later rest
      → AreFirst folders route top root choices (Folder path ∷ later) (Folder path ∷ rest)
  folder-first choices inside path inner later rest is (in_former are) = in_folder path is are
  folder-first choices inside path inner later rest is (in_latter mid of_first of_later same all are) =
      subst (λ l. AreFirst folders route top root choices (Folder path ∷ later) (Folder path ∷ l))
      (sym same) (after_folder path is all are)

module _ {S : Type 0} (facts : S → FolderFacts) where
  -- what is in a folder, as a finder asks
  abbrev IsIn : Finder S → Choices → List ℕ → List Entry → Choices → Type 0
  IsIn finder = IsFolderOf (facts finder.system.now) (record { follows_links = finder.follows_links })
      (string_bytes finder.top) finder.root

  -- what is visited of some entries, and some first of it, as a finder asks
  abbrev AreOf : Finder S → Choices → List Entry → List Entry → Choices → Type 0
  AreOf finder = AreVisited (facts finder.system.now) (record { follows_links = finder.follows_links })
      (string_bytes finder.top) finder.root

  abbrev AreBegin : Finder S → Choices → List Entry → List Entry → Type 0
  AreBegin finder = AreFirst (facts finder.system.now) (record { follows_links = finder.follows_links })
      (string_bytes finder.top) finder.root

  -- what entering a folder adds is what is in it
  record IsEnteredAs (popped : Walk S) (choices : Choices) (folder : List ℕ) (new : Walk S)
      (inside : Choices) : Type 0 where
    next : List Entry
    pending : new.pending.items ≡ popped.pending.items ++ next
    is : IsIn popped.finder choices folder (reverse next) inside

  entered-as : (popped : Walk S) (choices : Choices) (folder : List ℕ) (new : Walk S) (inside : Choices)
      → IsEntered facts popped choices folder new inside → IsEnteredAs popped choices folder new inside
  entered-as popped choices folder new inside (of_deep deep pending same) = record {
    next = [];
    pending = ap (λ l. l.items) pending ∙ sym (append-nil popped.pending.items);
    is = is_deep deep same;
  }
  entered-as popped choices folder new inside (of_unread path error flat listed named pending same) =
      record {
        next = Unread path error ∷ [];
        pending = pending;
        is = is_unread path error flat listed named same;
      }
  entered-as popped choices folder new inside (of_names names flat listed added) = record {
    next = added.are_added.next;
    pending = added.are_added.pending;
    is = is_names names added.within added.found added.are_added.next flat listed added.are_within
        added.are_found added.are_added.same added.are_added.sorted added.same;
  }

  kept : (begun : Walk S) (choices : Choices) (walk : Walk S) (inside : Choices) (visited : List Entry)
      → IsWalked facts begun choices visited walk inside → IsKept begun walk
  kept begun choices _ inside _ no_visit = refl
  kept begun choices _ inside _ (of_file {walk = walk} entry before (of_pending _ memory is on still) other) =
      on.finder ∙ kept begun choices walk inside _ before
  kept begun choices _ within _
      (of_folder {walk = walk} {popped = popped} {new = new} {inside = inside} path before
      (of_pending _ memory is on still) entered goes) =
      goes.finder ∙ on.finder ∙ kept begun choices walk inside _ before

  -- what was visited of a walk that went on after the next entry, if memory is left
  pub walked-next : (begun : Walk S) (choices : Choices) (visited : List Entry) (walk : Walk S)
      (inside : Choices) (entry : Entry) (popped new : Walk S) (within : Choices)
      → IsWalked facts begun choices visited walk inside → IsPopped walk (Some entry) popped
      → IsPassed facts popped inside entry new within → new.is_out_of_memory ≡ false
      → IsWalked facts begun choices (visited ++ entry ∷ []) new within
  walked-next begun choices visited walk inside (File path) popped new within before is passed memory =
      rw (passed.0, passed.1) (of_file (File path) before is refl)
  walked-next begun choices visited walk inside (Folder path) popped new within before is passed memory =
      of_folder path before is (passed.0 memory) passed.1
  walked-next begun choices visited walk inside (Unread path error) popped new within before is passed memory =
      rw (passed.0, passed.1) (of_file (Unread path error) before is refl)

  -- what was visited of a walk so far, and what comes of what is still pending, is what comes of what
  -- was pending at its start: if so an entry comes before what is after it, and what is in a folder does
  walks-on : (P : Choices → List Entry → List Entry → Type 0) (begun : Walk S)
      → ((choices : Choices) (entry : Entry) (later rest : List Entry) → is_folder entry ≡ false
      → P choices later rest → P choices (entry ∷ later) (entry ∷ rest))
      → ((choices inside : Choices) (path : String Global) (inner later rest : List Entry)
      → IsIn begun.finder choices (string_bytes path) inner inside
      → P inside (inner ++ later) rest → P choices (Folder path ∷ later) (Folder path ∷ rest))
      → (choices : Choices) (walk : Walk S) (inside : Choices) (visited rest : List Entry)
      → IsWalked facts begun choices visited walk inside → P inside (reverse walk.pending.items) rest
      → P choices (reverse begun.pending.items) (visited ++ rest)
  walks-on P begun of_one of_inner choices _ inside _ rest no_visit later = later
  walks-on P begun of_one of_inner choices _ inside _ rest
      (of_file {visited = visited} {walk = walk} {new = new} entry before
      (of_pending _ memory is on still) other) later =
      subst (P choices (reverse begun.pending.items)) (sym (append_assoc visited (entry ∷ []) rest))
      (walks-on P begun of_one of_inner choices walk inside visited (entry ∷ rest) before
      (subst (λ l. P inside l (entry ∷ rest)) (sym (first-popped _ _ entry is))
      (of_one inside entry _ rest other later)))
  walks-on P begun of_one of_inner choices _ within _ rest
      (of_folder {visited = visited} {walk = walk} {popped = popped} {new = new} {inside = inside} path
      before (of_pending _ memory is on still) entered goes) later =
      let added = entered-as popped inside (string_bytes path) new within entered in
      let folder = subst (λ f. IsIn f inside (string_bytes path) (reverse added.next) within)
      (on.finder ∙ kept begun choices walk inside visited before) added.is in
      subst (P choices (reverse begun.pending.items)) (sym (append_assoc visited (Folder path ∷ []) rest))
      (walks-on P begun of_one of_inner choices walk inside visited (Folder path ∷ rest) before
      (subst (λ l. P inside l (Folder path ∷ rest)) (sym (first-popped _ _ (Folder path) is))
      (of_inner inside within path (reverse added.next) (reverse popped.pending.items) rest folder
      (subst (λ l. P within l rest)
      (ap reverse added.pending ∙ reverse-append popped.pending.items added.next) later))))

  -- a walk asks about its folder, by its route
  as-begun : (Q : FolderFacts → Route → List ℕ → Type 0) (system : Bor S) (route : Route) (folder : List ℕ)
      (begun : Walk S) → IsBegun system route folder begun
      → Q (facts begun.finder.system.now) (record { follows_links = begun.finder.follows_links })
      (string_bytes begun.finder.top) → Q (facts system.now) route (name_of folder)
  as-begun Q system route folder begun is here =
      subst (Q (facts system.now) route) is.top
      (subst (λ links. Q (facts system.now) (record { follows_links = links })
      (string_bytes begun.finder.top)) is.links
      (subst (λ asked. Q (facts asked.now) (record { follows_links = begun.finder.follows_links })
      (string_bytes begun.finder.top)) is.system_is here))

  pub walks-end : (system : Bor S) (route : Route) (folder : List ℕ) (begun walk end : Walk S)
      (first choices inside : Choices) (visited : List Entry)
      → AreTakenUp (facts system.now) (name_of folder) first choices → IsBegun system route folder begun
      → IsWalked facts begun choices visited walk inside → IsPopped walk None end
      → end.is_out_of_memory ≡ false → AreAllOf (facts system.now) route first folder visited
  walks-end system route folder begun walk end first choices inside visited taken is walked
      (of_end left pending still) memory = record {
        begun = choices;
        are_begun = taken;
        path = is.path;
        is_path = is.is;
        root = begun.finder.root;
        is_root = is.root;
        after = inside;
        are_visited = as-begun (λ folders by top. AreVisited folders by top begun.finder.root choices
            (Folder is.path ∷ []) visited inside) system route folder begun is
            (subst (λ l. AreOf begun.finder choices l visited inside) (ap reverse is.pending)
            (subst (λ l. AreOf begun.finder choices (reverse begun.pending.items) l inside)
            (append-nil visited)
            (walks-on (λ by later rest. AreOf begun.finder by later rest inside) begun
            (λ by entry later rest other are. next_entry entry other are)
            (λ by within path inner later rest entered are. visited-folder _ _ _ _ by within inside path inner later
            rest entered are)
            choices walk inside visited [] walked
            (subst (λ l. AreOf begun.finder inside l [] inside) (sym (ap reverse pending))
            (no_entry inside)))));
      }
  walks-end system route folder begun walk end first choices inside visited taken is walked (of_memory out) memory =
      absurd (true≢false (sym out ∙ memory))

  -- an entry comes first, whatever it is
  comes-first : (folders : FolderFacts) (route : Route) (top : List ℕ) (root : ℕ) (choices : Choices)
      (entry : Entry) (later : List Entry) → AreFirst folders route top root choices (entry ∷ later) (entry ∷ [])
  comes-first folders route top root choices (File path) later =
      first_entry (File path) refl (no_first choices later)
  comes-first folders route top root choices (Folder path) later = first_folder choices later path
  comes-first folders route top root choices (Unread path error) later =
      first_entry (Unread path error) refl (no_first choices later)

  pub walks-begin : (system : Bor S) (route : Route) (folder : List ℕ) (begun walk new : Walk S)
      (first choices inside : Choices) (visited : List Entry) (entry : Entry)
      → AreTakenUp (facts system.now) (name_of folder) first choices → IsBegun system route folder begun
      → IsWalked facts begun choices visited walk inside → IsPopped walk (Some entry) new
      → AreFirstOf (facts system.now) route first folder (visited ++ entry ∷ [])
  walks-begin system route folder begun walk new first choices inside visited entry taken is walked
      (of_pending _ memory popped on still) =
      are_first choices is.path begun.finder.root taken is.is is.root
      (as-begun (λ folders by top. AreFirst folders by top begun.finder.root choices (Folder is.path ∷ [])
      (visited ++ entry ∷ [])) system route folder begun is
      (subst (λ l. AreBegin begun.finder choices l (visited ++ entry ∷ [])) (ap reverse is.pending)
      (walks-on (AreBegin begun.finder) begun
      (λ by one later rest other are. first_entry one other are)
      (λ by within path inner later rest entered are. folder-first _ _ _ _ by within path inner later rest entered
      (first-twice _ _ _ _ within inner later rest are))
      choices walk inside visited (entry ∷ []) walked
      (subst (λ l. AreBegin begun.finder inside l (entry ∷ [])) (sym (first-popped _ _ entry popped))
      (comes-first _ _ _ _ inside entry (reverse new.pending.items))))))
