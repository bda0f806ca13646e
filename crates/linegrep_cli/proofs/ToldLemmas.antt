-- Texts on standard error, one after another, and the entry of a folder, of which they are.
use Rattle.std.proofs.Common.{◌≡◌, ℕ, ◌+◌, true, false, ◌∙◌, ap, arith, subst, sym}
use Rattle.std.specs.Prelude.{None, Option, Some, String, if◌then◌else◌, is_some}
use Rattle.std.specs.Global.{Global}
use Rattle.std.specs.declared.io.Error.{Error}
use Rattle.std.proofs.lemmas.Bool.{false≢true, true≢false}
use Rattle.linegrep_cli.specs.EngineCalls.{EngineCall}
use Rattle.linegrep_cli.specs.OperandRuns.{AreSaid, AreTold, AreWritten, last_text, next_text, no_text, no_visit}
use Rattle.linegrep_cli.specs.declared.scope.Scope.{Scope}
use Rattle.linegrep_cli.specs.declared.visit.Visit.{Visit}
use Rattle.linegrep_files.specs.declared.entry.Entry.TheVariants.{File, Folder, Unread}

-- an entry that is a folder is of one path, and nothing else
pub same-folder : (one other : String Global) → Folder one ≡ Folder other → one ≡ other
same-folder one other same = cc

pub file-isnt-folder : (one other : String Global) → File one ≡ Folder other → ⊥
file-isnt-folder one other same = absurd (cc)

pub unread-isnt-folder : (one : String Global) (error : Error) (other : String Global)
    → Unread one error ≡ Folder other → ⊥
unread-isnt-folder one error other same = absurd (cc)

module _ {E F : Type 0} (step : E → EngineCall F → E → Type 0) where
  -- texts, and more after them
  texts-then : (old mid : E) (first next : ℕ) (failure : Option Error) (new : E)
      → AreWritten step old first None mid → AreWritten step mid next failure new
      → AreWritten step old (first + next) failure new
  texts-then old mid first _ _ _ before no_text =
      let same : first ≡ first + 0 = omega arith in
      subst (λ count. AreWritten step old count None mid) same before
  texts-then old mid first _ _ new before (next_text count {mid = between} more moved) =
      let same : (first + count) + 1 ≡ first + (count + 1) = omega arith in
      subst (λ count. AreWritten step old count None new) same
      (next_text (first + count) (texts-then old mid first count None between before more) moved)
  texts-then old mid first _ _ new before (last_text count total error {mid = between} within more moved) =
      last_text (first + count) (first + total) error (omega (arith, within))
      (texts-then old mid first count None between before more) moved

  -- texts up to one that couldn't be written, of more than so many
  texts-cut : (old : E) (first next : ℕ) (error : Error) (new : E) → AreWritten step old first (Some error) new
      → AreWritten step old (first + next) (Some error) new
  texts-cut old _ next _ new (last_text count total error within before moved) =
      last_text count (total + next) error (omega (arith, within)) before moved

  -- what is wrong with ignore files couldn't be said to the end
  pub told-cut : (scope : Scope) (old : E) (warned noted : ℕ) (failure : Option Error) (visit : Visit) (new : E)
      → visit ≡ record no_visit { failure = failure } → is_some visit.failure ≡ true
      → AreSaid step scope old warned failure new → AreTold step scope old warned noted failure new
  told-cut scope old warned noted None visit new is some said =
      absurd (true≢false (sym some ∙ ap (λ (v : Visit). is_some v.failure) is))
  told-cut scope old warned noted (Some error) visit new is some said =
      texts-cut old _ (if scope.explains then noted else 0) error new said

  -- it was said, and then what isn't visited
  pub told-then : (scope : Scope) (old mid : E) (warned first noted : ℕ) (failure last : Option Error)
      (visit : Visit) (new : E)
      → visit ≡ record no_visit { failure = failure } → is_some visit.failure ≡ false → noted ≡ first
      → AreSaid step scope old warned failure mid
      → AreWritten step mid (if scope.explains then noted else 0) last new
      → AreTold step scope old warned first last new
  told-then scope old mid warned first noted (Some error) last visit new is none same said more =
      absurd (false≢true (sym none ∙ ap (λ (v : Visit). is_some v.failure) is))
  told-then scope old mid warned first noted None last visit new is none same said more =
      subst (λ count. AreTold step scope old warned count last new) same
      (texts-then old mid _ _ last new said more)
