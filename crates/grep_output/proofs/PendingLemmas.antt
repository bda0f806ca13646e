-- Texts that are put together one after another, and written.
use Rattle.std.proofs.Common.{◌≡◌, ◌≤◌, ◌+◌, ℕ, List, [], ◌++◌, sym, ap, ◌∙◌, append_assoc, drop, length, subst, take}
use Rattle.std.proofs.Common.{arith}
use Rattle.std.proofs.Math.Seq.{take-append_seam}
use Rattle.std.proofs.lemmas.List.{drop-append-le, length-take, take-append-drop}
use Rattle.std.proofs.lemmas.List.{take-append-le, take-take}
use Rattle.std.specs.Prelude.{Result, Ok, Err}
use Rattle.std.specs.declared.io.Error.{Error}
use Rattle.std.proofs.lemmas.List.{append-nil}
use Rattle.grep_output.specs.Outputs.{OutputCall, Writes}
use Rattle.grep_output.specs.PendingTexts.{PutsAll, Puts}
use Rattle.grep_output.proofs.OutputLemmas.{Writes-none, Writes-more, Writes-cut}

-- what is pending and two texts after it
both : (pending xs kept ys bytes : List ℕ) → pending ++ xs ≡ bytes ++ kept → pending ++ (xs ++ ys) ≡ bytes
    ++ (kept ++ ys)
both pending xs kept ys bytes split = sym (append_assoc pending xs ys)
    ∙ (ap (λ zs. zs ++ ys) split ∙ append_assoc bytes kept ys)

module _ {W : Type 0} (write_step : W → OutputCall → W → Type 0) where
  pub Puts-none : (writer : W) (pending : List ℕ) → PutsAll write_step writer pending [] writer pending
  Puts-none writer pending = record { bytes = []; written = Writes-none write_step writer; split = append-nil pending }

  -- a text, and then another one
  pub Puts-more : (old mid new : W) (pending xs kept ys later : List ℕ) (result : Result (Unit {0}) Error)
      → PutsAll write_step old pending xs mid kept → Puts write_step mid kept ys result new later
      → Puts write_step old pending (xs ++ ys) result new later
  Puts-more old mid new pending xs kept ys later (Ok u) first rest = record {
    bytes = first.bytes ++ rest.bytes;
    written = Writes-more write_step old mid new first.bytes rest.bytes (Ok tt) first.written rest.written;
    split = both pending xs kept ys first.bytes first.split
        ∙ (ap (λ zs. first.bytes ++ zs) rest.split ∙ sym (append_assoc first.bytes rest.bytes later));
  }
  Puts-more old mid new pending xs kept ys later (Err e) first rest =
      subst (λ text. Writes write_step old text (Err e) new) (sym (both pending xs kept ys first.bytes first.split))
      (Writes-more write_step old mid new first.bytes (kept ++ ys) (Err e) first.written rest)

  -- a text is put together from the start, and what is pending then is written
  pub Puts-written : (old mid new : W) (text later : List ℕ) (result : Result (Unit {0}) Error)
      → PutsAll write_step old [] text mid later → Writes write_step mid later result new
      → Writes write_step old text result new
  Puts-written old mid new text later result first rest =
      subst (λ bytes. Writes write_step old bytes result new) (sym first.split)
      (Writes-more write_step old mid new first.bytes later result first.written rest)

-- the texts before, and the one that is being made
pub kept-split : (start len : ℕ) (bytes : List ℕ) → start ≤ len
    → take len bytes ≡ take start bytes ++ drop start (take len bytes)
kept-split start len bytes low = sym (ap (λ xs. xs ++ drop start (take len bytes))
    (sym (take-take start len bytes low)) ∙ take-append-drop start (take len bytes))

-- bytes are put into the room after a text
pub room-filled : (start len size : ℕ) (old filled after more : List ℕ) → start ≤ len
    → len ≤ length old → len + length more ≤ size → size ≡ length filled
    → take (len + length more) filled ≡ take len old ++ more
    → (take start (take size (filled ++ after)) ≡ take start old)
    × (drop start (take (len + length more) (take size (filled ++ after)))
    ≡ drop start (take len old) ++ more)
room-filled start len size old filled after more low within room is put =
    let all : take size (filled ++ after) ≡ filled = rw is (take-append_seam filled after) in
    let enough : start ≤ length (take len old) = omega (arith, length-take len old) in
    rw all (
      sym (take-take start (len + length more) filled (omega (arith, low)))
          ∙ (ap (take start) put ∙ (take-append-le start (take len old) more enough
          ∙ take-take start len old low)),
      ap (drop start) put ∙ drop-append-le start (take len old) more enough,
    )
