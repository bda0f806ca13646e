-- Runs of calls of a source.
use Rattle.std.proofs.Common.{◌≡◌, ℕ, Bool, true, false, List, [], ◌∷◌, ◌++◌, Option, refl, sym}
use Rattle.std.proofs.Common.{subst, ap, ◌∙◌, append-nil}
use Rattle.std.proofs.lemmas.Bool.{false≢true}
use Rattle.std.specs.List.{concat}
use Rattle.std.specs.declared.io.Error.{Error}
use Rattle.grep_decode.specs.Source.{ReadResult, Pulls}
use Rattle.grep_decode.specs.Reading.{FailsWith}
use Rattle.grep_decode.specs.DecoderStates.{ReadsSince}

module _ {S : Type 0} (step : S → ReadResult → S → Type 0) where
  -- two runs, one after the other
  pub Pulls-append : (first second : List (List ℕ)) (old mid new : S) → Pulls step old first mid
      → Pulls step mid second new → Pulls step old (first ++ second) new
  Pulls-append [] second old mid new run next = subst (λ s. Pulls step s second new) (sym run) next
  Pulls-append (piece ∷ first) second old mid new (some, (after, gave, rest)) next =
      (some, (after, gave, Pulls-append first second after mid new rest next))

  -- a run, and then one that failed
  pub FailsWith-after : (pieces : List (List ℕ)) (old mid new : S) (e : Error)
      → Pulls step old pieces mid → FailsWith step mid e new → FailsWith step old e new
  FailsWith-after pieces old mid new e run (later, last, rest, failed) =
      (pieces ++ later, last, Pulls-append pieces later old mid last run rest, failed)

module _ {S : Type 0} (remaining : S → Option (List ℕ)) (step : S → ReadResult → S → Type 0) where
  pub ReadsSince-none : (ended : Bool) (s : S) → ReadsSince remaining step ended ended s [] s
  ReadsSince-none true s = (refl, refl, refl)
  ReadsSince-none false s = refl

  -- after the end no calls are made
  pub ReadsSince-ended : (is : Bool) (old new : S) (pieces : List (List ℕ))
      → ReadsSince remaining step true is old pieces new → is ≡ true
  ReadsSince-ended is old new pieces calls = calls.0

  pub ReadsSince-append : (was is then : Bool) (old mid new : S) (first second : List (List ℕ))
      → ReadsSince remaining step was is old first mid
      → ReadsSince remaining step is then mid second new → ReadsSince remaining step was
      then old (first ++ second) new
  ReadsSince-append false false false old mid new first second run next =
      Pulls-append step first second old mid new run next
  ReadsSince-append false false true old mid new first second run (last, next, ended, end) =
      (last, Pulls-append step first second old mid last run next, ended, end)
  ReadsSince-append false true false old mid new first second run (is, none, same) =
      absurd (false≢true is)
  ReadsSince-append false true true old mid new first second run (is, none, same) =
      subst (λ s. ReadsSince remaining step false true old (first ++ second) s) (sym same)
      (subst (λ ps. ReadsSince remaining step false true old ps mid)
      (sym (ap (λ ps. first ++ ps) none ∙ append-nil first)) run)
  ReadsSince-append true false then old mid new first second (is, none, same) next =
      absurd (false≢true is)
  ReadsSince-append true true then old mid new first second (is, none, same) (also, nothing, kept) =
      (also, ap (λ ps. ps ++ second) none ∙ nothing, kept ∙ same)

  -- no bytes come after the end
  pub ReadsSince-nothing : (was is : Bool) (old new : S) (pieces : List (List ℕ)) (more : List ℕ)
      → ReadsSince remaining step was is old pieces new
      → (is ≡ true → more ≡ []) → was ≡ true → concat pieces ++ more ≡ []
  ReadsSince-nothing true is old new pieces more (also, none, same) end ended =
      ap (λ ps. concat ps ++ more) none ∙ end also
  ReadsSince-nothing false is old new pieces more calls end ended = absurd (false≢true ended)
