-- What an engine has found that is told to list all files, if nothing failed.
use Rattle.std.proofs.Common.{◌≡◌, ◌∙◌, ◌⊎◌, ℕ, Bool, true, false, List, [], ◌∷◌, ◌++◌, ap, append_assoc, inl, inr, refl}
use Rattle.std.proofs.Common.{subst, sym, true≢false}
use Rattle.std.specs.Prelude.{◌&&◌, ◌||◌, MatchBool, None, Option, Some, Result, Ok, codes, is_none, not}
use Rattle.std.specs.Borrow.{Bor}
use Rattle.std.specs.declared.io.Error.{Error}
use Rattle.std.proofs.lemmas.List.{append-nil}
use Rattle.linegrep_cli.proofs.VisitTextLemmas.{IsGood, both-good, either, goes-on, or-assoc, or-none, reported-bad}
use Rattle.linegrep_cli.proofs.VisitTextLemmas.{some-none}
use Rattle.linegrep_cli.specs.EngineCalls.{EngineCall, says, sets_quits}
use Rattle.linegrep_cli.specs.FoundFiles.{AreAllFound, AreFilesFound, AreFoundAt, AreFoundFor, AreFoundIn, file_found}
use Rattle.linegrep_cli.specs.FoundFiles.{folder_found, next_found, no_file_found, none_found, of_found_file}
use Rattle.linegrep_cli.specs.FoundFiles.{of_found_folder, of_found_input}
use Rattle.linegrep_cli.specs.OperandRuns.{AreAllVisited, AreEntriesVisited, AreVisited, AreWritten, IsEntryVisited}
use Rattle.linegrep_cli.specs.OperandRuns.{IsFolderVisited, IsHereVisited, IsInputVisited, IsListed}
use Rattle.linegrep_cli.specs.OperandRuns.{IsNamedVisited, IsOperandVisited, IsReported, IsWalkedTo}
use Rattle.linegrep_cli.specs.OperandRuns.{is_escaped, is_input, is_over, last_text, next_entry, next_operand}
use Rattle.linegrep_cli.specs.OperandRuns.{next_text, no_entry}
use Rattle.linegrep_cli.specs.OperandRuns.{no_operand, no_text, of_entered, of_file_at, of_folder, of_listed}
use Rattle.linegrep_cli.specs.OperandRuns.{of_listing, of_missing, of_path, of_unfound, of_unread}
use Rattle.linegrep_cli.specs.declared.late.Target.{Target}
use Rattle.linegrep_cli.specs.declared.late.Target.TheVariants.{File as FileTarget, StandardInput}
use Rattle.linegrep_cli.specs.declared.scope.Scope.{Scope}
use Rattle.linegrep_cli.specs.declared.visit.Visit.{Visit}
use Rattle.linegrep_files.specs.FolderFacts.{FolderFacts}
use Rattle.linegrep_files.specs.Trees.{AreAllOf}
use Rattle.linegrep_files.specs.declared.choices.Choices.{Choices}
use Rattle.linegrep_files.specs.declared.entry.Entry.{Entry}
use Rattle.linegrep_files.specs.declared.file_id.FileId.{FileId}

module _ {E F T : Type 0} (IsAt : Target → List ℕ → T → Type 0) (step : E → EngineCall F → E → Type 0)
    (has_failed : E → Bool) (scope : Scope) (Has : Bool → List T → Bool → E → Type 0) where
  -- one more was found
  abbrev pub WithOne : Target → List ℕ → Bool → List T → Bool → E → Type 0
  WithOne target path quits found match new = (one : T) × IsAt target path one × Has quits (found ++ one ∷ []) match new

  -- What the calls of an engine come to that lists files. `Has` says of an engine whether searches would end at binary
  -- bytes, what was found, and whether that counts as a match.
  pub record ListsKeep : Type 0 where
    pub file : (path : Bor (List ℕ)) (quits : Bool) (found : List T) (match : Bool) (old : E) (visit : Visit) (new : E)
        → IsListed step has_failed scope path old visit new → IsGood scope visit → Has quits found match old
        → WithOne (FileTarget quits) path.now quits found (match || visit.has_match) new
    pub input : (found : List T) (match : Bool) (old : E) (visit : Visit) (new : E)
        → IsInputVisited step has_failed scope old visit new → IsGood scope visit → Has false found match old
        → WithOne StandardInput (codes "<stdin>") false found (match || visit.has_match) new
    pub text : (quits : Bool) (found : List T) (match : Bool) (old new : E) → step old (says (Ok tt)) new
        → Has quits found match old → Has quits found match new
    pub quits : (quits next : Bool) (found : List T) (match : Bool) (old new : E) → step old (sets_quits next) new
        → Has quits found match old → Has next found match new

  -- texts on standard error leave what was found as it is
  pub said-found : ListsKeep → (quits : Bool) (found : List T) (match : Bool) (old : E) (count : ℕ)
      (failure : Option Error) (new : E) → AreWritten step old count failure new → failure ≡ None
      → Has quits found match old → Has quits found match new
  said-found keep quits found match old _ _ _ no_text none has = has
  said-found keep quits found match old _ _ new (next_text count {mid} before moved) none has =
      keep.text quits found match mid new moved
      (said-found keep quits found match old count None mid before refl has)
  said-found keep quits found match old _ _ new (last_text count total error within before moved) none has =
      absurd (some-none (Some error) error refl none)

module _ {E F T : Type 0} (IsAt : Target → List ℕ → T → Type 0) (folders : FolderFacts)
    (finds : List ℕ → Result Bool Error → Type 0)
    (opens : List ℕ → Result F Error → Type 0) (identifies : F → Option FileId → Type 0)
    (step : E → EngineCall F → E → Type 0) (has_failed : E → Bool) (scope : Scope)
    (Has : Bool → List T → Bool → E → Type 0) (keep : ListsKeep IsAt step has_failed scope Has)
    (lists : scope.lists_files ≡ true) where
  -- each file is listed
  searches-none : {R : Type 0} → scope.lists_files ≡ false → R
  searches-none searches = absurd (true≢false (sym lists ∙ searches))

  unread : (old new : E) (visit : Visit) → IsReported step scope old visit new → IsGood scope visit → ⊥
  unread = reported-bad step scope

  abbrev quitting : Bool
  quitting = not scope.searches_binary

  has-match : (quits : Bool) (found : List T) (match other : Bool) (new : E) → match ≡ other
      → Has quits found match new → Has quits found other new
  has-match quits found match other new is has = subst (λ m. Has quits found m new) is has

  abbrev WithFiles : List Entry → List T → Bool → E → Type 0
  WithFiles entries found match new = (next : List T)
      × AreFilesFound IsAt folders finds scope.route quitting scope.searches_input entries next
      × Has quitting (found ++ next) match new

  entry-found : (entries : List Entry) (found : List T) (match before : Bool) (mid : E) (entry : Entry) (visit : Visit)
      (new : E) → IsEntryVisited opens identifies step has_failed scope mid entry visit new → IsGood scope visit
      → WithFiles entries found (match || before) mid
      → WithFiles (entries ++ entry ∷ []) found (match || (before || visit.has_match)) new
  entry-found entries found match before mid _ visit new (of_path path is searching visited) good with_them =
      searches-none searching
  entry-found entries found match before mid _ visit new (of_listed {text = text} path is listing visited) good
      (next, files, has) =
      let (one, is_at, now) = keep.file path quitting (found ++ next) (match || before) mid visit new visited good has in (
        next ++ one ∷ [],
        file_found text one files (subst (λ p. IsAt (FileTarget quitting) p one) is is_at),
        has-match quitting (found ++ (next ++ one ∷ [])) ((match || before) || visit.has_match)
            (match || (before || visit.has_match)) new (or-assoc match before visit.has_match)
            (subst (λ l. Has quitting l ((match || before) || visit.has_match) new) (append_assoc found next (one ∷ []))
            now),
      )
  entry-found entries found match before mid _ visit new (of_unread is) good with_them =
      absurd (unread mid new visit is good)
  entry-found entries found match before mid _ visit new (of_entered {text = text} inside (failure, said, is)) good
      (next, files, has) =
      let none = sym (ap (λ (v : Visit). v.failure) is) ∙ good.no_failure in (
        next,
        folder_found text files,
        has-match quitting (found ++ next) (match || before) (match || (before || visit.has_match)) new
            (ap (λ b. match || b) (sym (ap (λ m. before || m) (ap (λ (v : Visit). v.has_match) is) ∙ or-none before)))
            (said-found IsAt step has_failed scope Has keep quitting (found ++ next) (match || before) mid _ failure new
            said none has),
      )

  entries-found : (found : List T) (match : Bool) (old : E) (entries : List Entry) (total : Visit) (new : E)
      → AreEntriesVisited opens identifies step has_failed scope old entries total new → IsGood scope total
      → Has quitting found match old → WithFiles entries found (match || total.has_match) new
  entries-found found match old _ _ _ no_entry good has = (
    [],
    no_file_found,
    has-match quitting (found ++ []) match (match || false) old (sym (or-none match))
        (subst (λ l. Has quitting l match old) (sym (append-nil found)) has),
  )
  entries-found found match old _ _ new (next_entry entries total next {mid} entry before on visited) good has =
      let (good_before, good_next) = both-good scope total next on good in
      entry-found entries found match total.has_match mid entry next new visited good_next
      (entries-found found match old entries total mid before good_before has)

  abbrev WithFolder : Choices → List ℕ → List T → Bool → E → Type 0
  WithFolder choices folder found match new = (next : List T)
      × AreFoundIn IsAt folders finds scope.route quitting scope.searches_input choices folder next
      × Has false (found ++ next) match new

  folder-found : (found : List T) (match : Bool) (choices : Choices) (folder : List ℕ) (old : E) (visit : Visit)
      (new : E)
      → IsFolderVisited folders opens identifies step has_failed scope choices folder old visit new
      → IsGood scope visit → Has false found match old → WithFolder choices folder found (match || visit.has_match) new
  folder-found found match choices folder old visit new is good has = elim is.tree.visit_is [
    | inl same ↦
        let (next, files, now) = entries-found found match is.first is.tree.visited is.tree.total is.last
        is.tree.entries (subst (IsGood scope) same good) (keep.quits false quitting found match old is.first is.begins has) in (
          next,
          record { entries = is.tree.visited; all = all is.tree.walked; files = files },
          has-match false (found ++ next) (match || is.tree.total.has_match) (match || visit.has_match) new
              (ap (λ (v : Visit). match || v.has_match) (sym same))
              (keep.quits quitting false (found ++ next) (match || is.tree.total.has_match) is.last new is.ends now),
        )
    | inr (error, memory, failed) ↦ absurd (some-none visit.failure error
        (ap (λ (v : Visit). v.failure) failed) good.no_failure)
  ]
    where
      all : IsWalkedTo folders scope choices folder is.tree.visited visit
          → AreAllOf folders scope.route choices folder is.tree.visited
      all (inl whole) = whole
      all (inr (over, first)) = absurd (true≢false (sym over ∙ goes-on scope visit good))

  here-found : (found : List T) (match : Bool) (choices : Choices) (old : E) (visit : Visit) (new : E)
      → IsHereVisited folders opens identifies step has_failed scope choices old visit new
      → IsGood scope visit → Has false found match old → WithFolder choices [] found (match || visit.has_match) new
  here-found found match choices old visit new is good has =
      either (is_none is.folder.failure && not is.folder.has_searched && not scope.lists_files)
      (λ none (failure, said, missed). absurd (true≢false (sym (ap (λ (v : Visit). v.has_error) missed)
      ∙ good.no_error)))
      (λ none (same, moved).
      let (next, of, now) = folder-found found match choices [] old is.folder is.mid is.visited (subst (IsGood scope) same good)
      has in (
        next,
        of,
        has-match false (found ++ next) (match || is.folder.has_match) (match || visit.has_match) new
            (ap (λ (v : Visit). match || v.has_match) (sym same))
            (subst (Has false (found ++ next) (match || is.folder.has_match)) (sym moved) now),
      ))
      is.said

  abbrev WithOperand : Choices → Bor (List ℕ) → List T → Bool → E → Type 0
  WithOperand choices path found match new = (next : List T)
      × AreFoundAt IsAt folders finds scope.route quitting scope.searches_input choices path next
      × Has false (found ++ next) match new

  named-found : (found : List T) (match : Bool) (choices : Choices) (path : Bor (List ℕ)) (old : E) (visit : Visit)
      (new : E) → is_input path.now ≡ false → is_escaped path.now ≡ false
      → IsNamedVisited folders finds opens identifies step has_failed scope choices path old visit new
      → IsGood scope visit → Has false found match old → WithOperand choices path found (match || visit.has_match) new
  named-found found match choices path old visit new named text (of_folder is_folder visited) good has =
      let (next, of, now) = folder-found found match choices path.now old visit new visited good has in
      (next, of_found_folder named text is_folder of, now)
  named-found found match choices path old visit new named text (of_file_at is_file searching visited) good has =
      searches-none searching
  named-found found match choices path old visit new named text (of_unfound error missing searching visited) good has =
      searches-none searching
  named-found found match choices path old visit new named text (of_listing is_file listing visited) good has =
      let (one, is_at, now) = keep.file path false found match old visit new visited good has in
      (one ∷ [], of_found_file one named text is_file is_at, now)
  named-found found match choices path old visit new named text (of_missing error missing listing is) good has =
      absurd (unread old new visit is good)

  operand-found : (found : List T) (match : Bool) (choices : Choices) (path : Bor (List ℕ)) (old : E) (visit : Visit)
      (new : E)
      → IsOperandVisited folders finds opens identifies step has_failed scope choices path old visit new
      → IsGood scope visit → Has false found match old → WithOperand choices path found (match || visit.has_match) new
  operand-found found match choices path old visit new visited good has =
      either (is_input path.now)
      (λ named standard.
      let (one, is_at, now) = keep.input found match old visit new standard good has in
      (one ∷ [], of_found_input one named is_at, now))
      (λ named other. either (is_escaped path.now) (λ text is. absurd (unread old new visit is good))
      (λ text is. named-found found match choices path old visit new named text is good has) other)
      visited

  operands-found : (choices : Choices) (old : E) (paths : List (Bor (List ℕ))) (total : Visit) (new : E)
      → AreVisited folders finds opens identifies step has_failed scope choices old paths total new → IsGood scope total
      → Has false [] false old
      → (found : List T)
      × AreFoundFor IsAt folders finds scope.route quitting scope.searches_input choices paths found
      × Has false found total.has_match new
  operands-found choices old _ _ _ no_operand good has = ([], none_found, has)
  operands-found choices old _ _ new (next_operand paths total next {mid} path before on visited) good has =
      let (good_before, good_next) = both-good scope total next on good in
      let (found, are, now) = operands-found choices old paths total mid before good_before has in
      let (more, is, after_it) = operand-found found total.has_match choices path mid next new visited good_next now in
      (found ++ more, next_found path are is, after_it)

  -- all that is found, if nothing failed
  pub all-found : (choices : Choices) (paths : List (Bor (List ℕ))) (old : E) (total : Visit) (new : E)
      → AreAllVisited folders finds opens identifies step has_failed scope choices paths old total new
      → IsGood scope total → Has false [] false old
      → (found : List T)
      × AreAllFound IsAt folders finds scope.route quitting scope.searches_input choices paths found
      × Has false found total.has_match new
  all-found choices paths old total new visited good has = by paths visited
    where
      none-left : (rest : List (Bor (List ℕ))) → ((rest ≡ []) ⊎ (is_over scope total ≡ true)) → rest ≡ []
      none-left rest (inl nothing) = nothing
      none-left rest (inr over) = absurd (true≢false (sym over ∙ goes-on scope total good))

      by : (paths : List (Bor (List ℕ)))
          → AreAllVisited folders finds opens identifies step has_failed scope choices paths old total new
          → (found : List T)
          × AreAllFound IsAt folders finds scope.route quitting scope.searches_input choices paths found
          × Has false found total.has_match new
      by [] visited = bare scope.searches_input visited
        where
          bare : (reads : Bool)
              → MatchBool reads (IsInputVisited step has_failed scope old total new)
              (IsHereVisited folders opens identifies step has_failed scope choices old total new)
              → (found : List T)
              × MatchBool reads ((one : T) × IsAt StandardInput (codes "<stdin>") one × (found ≡ one ∷ []))
              (AreFoundIn IsAt folders finds scope.route quitting scope.searches_input choices [] found)
              × Has false found total.has_match new
          bare true standard =
              let (one, is_at, now) = keep.input [] false old total new standard good has in
              (one ∷ [], (one, is_at, refl), now)
          bare false here = here-found [] false choices old total new here good has
      by (path ∷ later) (done, rest, split, visited, ends) =
          let (found, are, now) = operands-found choices old done total new visited good has in (
            found,
            subst (λ paths. AreFoundFor IsAt folders finds scope.route quitting scope.searches_input choices paths found)
                (sym (split ∙ (ap (λ left. done ++ left) (none-left rest ends) ∙ append-nil done))) are,
            now,
          )
