-- What an output holds after texts are put and flushed, and what its last call was if that fails.
use Rattle.std.proofs.Common.{◌≡◌, ◌∙◌, ℕ, List, [], ◌∷◌, ◌++◌, ap, append_assoc, refl, subst, sym}
use Rattle.std.proofs.Common.{inl, inr, unwrap_or}
use Rattle.std.specs.Prelude.{None, Option, Some, Ok, Err}
use Rattle.std.specs.Io.KnownBytes.{Appends}
use Rattle.std.specs.declared.io.Error.{Error}
use Rattle.std.proofs.lemmas.List.{append-nil, append_cancel_left}
use Rattle.grep_output.specs.Outputs.{AreCalled, EndsIn, FailsToWrite, OutputCall, WritesAll, flushes}
use Rattle.grep_output.specs.Outputs.{taken_by, taken_by_all, writes}
use Rattle.grep_output.specs.PendingTexts.{Flushes, PutsAll}
use Rattle.linegrep_cli.specs.WrittenRuns.{FailsWith, HasFailedWith}

-- if a text or a flush fails, the output's last call has
pub write-failed : {W : Type 0} (write_step : W → OutputCall → W → Type 0) (old new : W) (text : List ℕ) (error : Error)
    → FailsToWrite write_step old text error new → HasFailedWith write_step error new
write-failed write_step old new text error fails = (fails.mid, fails.call, fails.last, by fails.call fails.ends_in)
  where
    by : (call : OutputCall) → EndsIn error call → FailsWith error call
    by (writes bytes result) ends = ends
    by (flushes (Ok u)) ends = ends
    by (flushes (Err e)) ends = absurd ends

pub flush-failed : {W : Type 0} (write_step : W → OutputCall → W → Type 0) (old new : W) (pending : List ℕ)
    (error : Error) → Flushes write_step old pending (Err error) new → HasFailedWith write_step error new
flush-failed write_step old new pending error (inl fails) = write-failed write_step old new pending error fails
flush-failed write_step old new pending error (inr flushed) = (flushed.mid, flushes (Err error), flushed.last, refl)

module _ {W : Type 0} (contents : W → Option (List ℕ)) (write_step : W → OutputCall → W → Type 0)
    (grows : (old new : W) (call : OutputCall) → write_step old call new
    → Appends (contents old) (contents new) (taken_by call)) where
  -- known bytes grow
  more : (old new : W) (held bytes : List ℕ) → contents old ≡ Some held
      → Appends (contents old) (contents new) bytes → contents new ≡ Some (held ++ bytes)
  more old new held bytes is grown =
      by (contents new) (subst (λ known. Appends known (contents new) bytes) is grown)
    where
      by : (known : Option (List ℕ)) → Appends (Some held) known bytes → known ≡ Some (held ++ bytes)
      by None none = absurd none
      by (Some now) same = ap Some same

  -- by those that calls took
  called : (calls : List OutputCall) (old new : W) (held : List ℕ) → contents old ≡ Some held
      → AreCalled write_step old calls new → contents new ≡ Some (held ++ taken_by_all calls)
  called [] old new held is same =
      subst (λ w. contents w ≡ Some (held ++ [])) same (is ∙ ap Some (sym (append-nil held)))
  called (call ∷ later) old new held is (mid, step, made) =
      called later mid new (held ++ taken_by call)
      (more old mid held (taken_by call) is (grows old mid call step)) made
      ∙ ap Some (append_assoc held (taken_by call) (taken_by_all later))

  written : (old new : W) (held bytes : List ℕ) → contents old ≡ Some held
      → WritesAll write_step old bytes new → contents new ≡ Some (held ++ bytes)
  written old new held bytes is all =
      called all.calls old new held is all.made ∙ ap (λ taken. Some (held ++ taken)) all.taken

  -- a text that is put comes after what is pending
  pub text-put : (old new : W) (held pending text later : List ℕ) → contents old ≡ Some held
      → PutsAll write_step old pending text new later
      → (now : List ℕ) × (contents new ≡ Some now) × (held ++ (pending ++ text) ≡ now ++ later)
  text-put old new held pending text later is put = (
    held ++ put.bytes,
    written old new held put.bytes is put.written,
    ap (λ all. held ++ all) put.split ∙ sym (append_assoc held put.bytes later),
  )

  -- what is put is one text
  pub one-text : (old new : W) (held pending one other later : List ℕ) → contents old ≡ Some held
      → PutsAll write_step old pending one new later → PutsAll write_step old pending other new later
      → one ≡ other
  one-text old new held pending one other later is put puts =
      let first = text-put old new held pending one later is put in
      let second = text-put old new held pending other later is puts in
      let same = ap (λ known. unwrap_or known []) (sym first.1 ∙ second.1) in
      append_cancel_left pending one other (append_cancel_left held (pending ++ one) (pending ++ other)
      (first.2 ∙ (ap (λ now. now ++ later) same ∙ sym second.2)))

  -- after it nothing is pending
  pub all-flushed : (old new : W) (held pending : List ℕ) → contents old ≡ Some held
      → Flushes write_step old pending (Ok tt) new → contents new ≡ Some (held ++ pending)
  all-flushed old new held pending is flushed =
      more flushed.mid new (held ++ pending) [] (written old flushed.mid held pending is flushed.written)
      (grows flushed.mid new (flushes (Ok tt)) flushed.last)
      ∙ ap Some (append-nil (held ++ pending))
