-- The patterns that uses of options name.
use Rattle.std.proofs.Common.{◌≡◌, ℕ, ◌+◌, ◌<◌, true, List, [], ◌∷◌, ◌++◌, ◌∙◌, ap, append-nil}
use Rattle.std.proofs.Common.{append_assoc, drop, get_or, length, refl, subst, sym, take}
use Rattle.std.proofs.lemmas.List.{drop_more, take-append-drop, take_more}
use Rattle.std.proofs.lemmas.List.Folds.{concat-append}
use Rattle.std.specs.Global.{Global}
use Rattle.std.specs.List.{concat}
use Rattle.std.specs.Prelude.{Err, IfErr, IfOk, Ok, Option, Result, Vec}
use Rattle.std.specs.declared.io.Error.{Error}
use Rattle.grep_searcher.specs.Source.{Pulls, ReadResult, Reads}
use Rattle.linegrep_options.specs.declared.uses.Use.{Use}
use Rattle.linegrep_cli.specs.NamedPatterns.{AreNamed, AreUnnamed, IsFileRead, IsNamed, IsUnnamed, IsUnread}
use Rattle.linegrep_cli.specs.NamedPatterns.{of_failed_input, of_input}
use Rattle.linegrep_cli.specs.OperandRuns.{is_input}
use Rattle.linegrep_files.specs.Failures.{has_cause}
use Rattle.linegrep_files.specs.declared.failures.Failure.{Failure}

module _ {R : Type 0} (remaining : R → Option (List ℕ)) (read_step : R → ReadResult → R → Type 0)
    (reads : List ℕ → Result (Vec ℕ Global) Error → Type 0) where
  -- one more use
  named-next : (done : List Use) (one : Use) (input mid last : R) (patterns own : List (List ℕ))
      → AreNamed remaining read_step reads done input patterns mid
      → IsNamed remaining read_step reads one mid own last
      → AreNamed remaining read_step reads (done ++ one ∷ []) input (patterns ++ own) last
  named-next [] one input mid last patterns own (none, same) named = (
    own,
    [],
    last,
    subst (λ i. IsNamed remaining read_step reads one i own last) same named,
    (refl, refl),
    rw none (sym (append-nil own)),
  )
  named-next (first ∷ later) one input mid last patterns own (firsts, rest, after, is, are, split) named = (
    firsts,
    rest ++ own,
    after,
    is,
    named-next later one after mid last rest own are named,
    ap (λ l. l ++ own) split ∙ append_assoc firsts rest own,
  )

  -- the uses up to one more, as a loop goes over them
  pub named-more : (uses : List Use) (i : ℕ) (d : Use) (input mid last : R) (patterns own new : List (List ℕ))
      → i < length uses → AreNamed remaining read_step reads (take i uses) input patterns mid
      → IsNamed remaining read_step reads (get_or uses i d) mid own last → new ≡ patterns ++ own
      → AreNamed remaining read_step reads (take (i + 1) uses) input new last
  named-more uses i d input mid last patterns own new below are named split =
      rw (take_more uses i d below, split)
      (named-next (take i uses) (get_or uses i d) input mid last patterns own are named)

  -- a use whose file can't be read, after others
  pub unnamed-at : (uses : List Use) (i : ℕ) (d : Use) (input mid last : R) (patterns : List (List ℕ))
      → i < length uses → AreNamed remaining read_step reads (take i uses) input patterns mid
      → IsUnnamed remaining read_step reads (get_or uses i d) mid last
      → AreUnnamed remaining read_step reads uses input last
  unnamed-at uses i d input mid last patterns below are unnamed = (
    take i uses,
    get_or uses i d,
    drop (i + 1) uses,
    patterns,
    mid,
    sym (take-append-drop i uses) ∙ ap (λ l. take i uses ++ l) (drop_more uses i d below),
    are,
    unnamed,
  )

  -- standard input is read as a file, or can't be
  pub input-read : (file : List ℕ) (input input' : R) (result : Result (Vec ℕ Global) Failure) → is_input file ≡ true
      → IfOk result (λ contents. (pieces : List (List ℕ)) × (contents.items ≡ concat pieces)
      × Reads remaining read_step true input pieces input')
      → IfOk result (λ contents. IsFileRead remaining read_step reads file input contents.items input')
  input-read file input input' (Ok contents) named (pieces, is, read) =
      subst (λ bytes. IsFileRead remaining read_step reads file input bytes input') (sym is)
      (of_input pieces named read)
  input-read file input input' (Err failure) named read = tt

  pub input-unread : (file : List ℕ) (input input' : R) (result : Result (Vec ℕ Global) Failure) → is_input file ≡ true
      → IfErr result (λ failure. has_cause failure ≡ true → (pieces : List (List ℕ)) × (mid : R) × (error : Error)
      × Pulls read_step input pieces mid × read_step mid (Err error) input')
      → IfErr result (λ failure. has_cause failure ≡ true → IsUnread remaining read_step reads file input input')
  input-unread file input input' (Ok contents) named failed = tt
  input-unread file input input' (Err failure) named failed = λ caused.
      let (pieces, mid, error, pulled, gave) = failed caused in of_failed_input pieces mid error named pulled gave

-- a piece more of what is read
pub pulls-more : {R : Type 0} (step : R → ReadResult → R → Type 0) (old mid new : R) (pieces : List (List ℕ))
    (piece : List ℕ) → Pulls step old pieces mid → 0 < length piece → step mid (Ok piece) new
    → Pulls step old (pieces ++ piece ∷ []) new
pulls-more step old mid new [] piece same some gave =
    (some, (new, subst (λ s. step s (Ok piece) new) (sym same) gave, refl))
pulls-more step old mid new (first ∷ later) piece (more, (after, gave-first, rest)) some gave =
    (more, (after, gave-first, pulls-more step after mid new later piece rest some gave))

pub contents-more : (pieces : List (List ℕ)) (piece old new : List ℕ) → old ≡ concat pieces → new ≡ old ++ piece
    → new ≡ concat (pieces ++ piece ∷ [])
contents-more pieces piece old new is grown =
    grown ∙ ap (λ l. l ++ piece) is ∙ ap (λ l. concat pieces ++ l) (sym (append-nil piece))
    ∙ sym (concat-append pieces (piece ∷ []))
