-- What a run visits of a folder while a walk goes on.
use Rattle.std.proofs.Common.{◌≡◌, ◌∙◌, ℕ, false, List, [], ◌∷◌, ◌++◌, sym}
use Rattle.std.specs.Prelude.{None, Some}
use Rattle.std.specs.Borrow.{Bor}
use Rattle.std.proofs.lemmas.Bool.{true≢false}
use Rattle.linegrep_files.specs.Choices.{AreAlike, AreTakenUp}
use Rattle.linegrep_files.specs.Folders.{name_of}
use Rattle.linegrep_files.specs.FolderFacts.{FolderFacts}
use Rattle.linegrep_files.specs.Trees.{AreAllOf, AreFirstOf, IsPassed, IsWalked, are_none, no_visit}
use Rattle.linegrep_files.specs.Walks.{IsBegun, IsPopped, of_end, of_memory, of_pending}
use Rattle.linegrep_files.specs.declared.choices.Choices.{Choices}
use Rattle.linegrep_files.specs.declared.entry.Entry.{Entry}
use Rattle.linegrep_files.specs.declared.walk.Route.{Route}
use Rattle.linegrep_files.specs.declared.walk.Walk.{Walk}
use Rattle.linegrep_files.proofs.AlikeLemmas.{walked-alike}
use Rattle.linegrep_files.proofs.TreeLemmas.{walked-next, walks-begin, walks-end}

module _ {S : Type 0} (facts : S → FolderFacts) (system : Bor S) (route : Route) (folder : List ℕ)
    (begun : Walk S) (choices : Choices) where
  -- what was visited so far is what the walk has popped, if memory is left, and in any case some first
  -- of what is visited of the folder
  pub record IsAlong (visited : List Entry) (walk : Walk S) (inside : Choices) : Type 0 where
    pub starts : walk.is_out_of_memory ≡ false → IsBegun system route folder begun
    pub walked : walk.is_out_of_memory ≡ false → IsWalked facts begun choices visited walk inside
    pub are_first : (first : Choices)
        → AreTakenUp (facts system.now) (name_of folder) first choices → AreFirstOf (facts system.now) route first folder visited

  pub along-none : (begun.is_out_of_memory ≡ false → IsBegun system route folder begun)
      → IsAlong [] begun choices
  along-none starts = record {
    starts = starts;
    walked = λ memory. no_visit;
    are_first = λ first taken. are_none;
  }

  -- memory was left if an entry was popped
  left : (old new : Walk S) (entry : Entry) → IsPopped old (Some entry) new → old.is_out_of_memory ≡ false
  left old new entry (of_pending _ memory is on goes_on) = memory

  pub along-next : (visited : List Entry) (walk popped new : Walk S) (inside within : Choices) (entry : Entry)
      → IsAlong visited walk inside → IsPopped walk (Some entry) popped
      → IsPassed facts popped inside entry new within → IsAlong (visited ++ entry ∷ []) new within
  along-next visited walk popped new inside within entry along is passed =
      let memory = left walk popped entry is in
      record {
        starts = λ still. along.starts memory;
        walked = λ still. walked-next facts begun choices visited walk inside entry popped new within
            (along.walked memory) is passed still;
        are_first = λ first taken. walks-begin facts system route folder begun walk popped first choices
            inside visited entry taken (along.starts memory) (along.walked memory) is;
      }

  -- at its end all is visited, if memory is left
  pub along-end : (visited : List Entry) (walk end : Walk S) (inside first : Choices)
      → IsAlong visited walk inside → IsPopped walk None end → end.is_out_of_memory ≡ false
      → AreTakenUp (facts system.now) (name_of folder) first choices
      → AreAllOf (facts system.now) route first folder visited
  along-end visited walk end inside first along (of_end memory pending still) left taken =
      walks-end facts system route folder begun walk end first choices inside visited taken
      (along.starts memory) (along.walked memory) (of_end memory pending still) left
  along-end visited walk end inside first along (of_memory still) left taken =
      absurd (true≢false (sym still ∙ left))

  pub along-alike : (visited : List Entry) (walk end : Walk S) (inside first : Choices)
      → IsAlong visited walk inside → IsPopped walk None end → end.is_out_of_memory ≡ false
      → AreTakenUp (facts system.now) (name_of folder) first choices → AreAlike first inside
  along-alike visited walk end inside first along (of_end memory pending still) left taken =
      walked-alike facts (facts system.now) (name_of folder) begun first choices visited walk inside taken
      (along.walked memory)
  along-alike visited walk end inside first along (of_memory still) left taken =
      absurd (true≢false (sym still ∙ left))
