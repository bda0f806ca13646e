-- Texts that are put in pieces, one after another.
use Rattle.std.proofs.Common.{◌≡◌, ◌∙◌, ℕ, ◌+◌, ◌≤◌, Bool, false, List, [], ◌++◌, ap, append_assoc, arith, length, refl}
use Rattle.std.proofs.Common.{subst, sym}
use Rattle.std.proofs.lemmas.List.{append-nil, length-append}
use Rattle.std.specs.Prelude.{◌||◌, Result, Ok, Err}
use Rattle.std.specs.declared.io.Error.{Error}
use Rattle.grep_output.proofs.OutputLemmas.{Writes-cut}
use Rattle.grep_output.proofs.PendingLemmas.{Puts-more, Puts-none}
use Rattle.grep_output.specs.Outputs.{FailsToWrite, OutputCall}
use Rattle.grep_output.specs.PendingTexts.{Adds, PutsAll, pending_bytes}
use Rattle.grep_printer.proofs.SomeTextLemmas.{text-more, text-none}
use Rattle.grep_printer.specs.Formats.{is_text}
use Rattle.grep_printer.specs.TextWriters.{FailsToPut, IsSameWriter, PiecePut, PutsInPieces, PutsSome, PutsText}
use Rattle.grep_printer.specs.declared.text_writer.TextError.{TextError}
use Rattle.grep_printer.specs.declared.text_writer.TextError.TheVariants.{Io, OutOfMemory}
use Rattle.grep_printer.specs.declared.text_writer.TextWriter.{TextWriter}

-- one step after another
pub same-writer : {W : Type 0} (old mid new : TextWriter W) → IsSameWriter old mid → IsSameWriter mid new
    → IsSameWriter old new
same-writer old mid new first later = record {
  pending = later.pending ∙ first.pending;
  writer = later.writer ∙ first.writer;
  buffer_size = later.buffer_size ∙ first.buffer_size;
}

module _ {W : Type 0} (step : W → OutputCall → W → Type 0) where
  -- a text is put after what was pending, and no piece is at hand
  pub record HasPut (old : TextWriter W) (text : List ℕ) (now : TextWriter W) : Type 0 where
    pub same : IsSameWriter old now
    pub put : PutsAll step old.writer.now (pending_bytes old.pending.now) text now.writer.now
        (pending_bytes now.pending.now)
    pub unwritten : length (pending_bytes old.pending.now ++ text) ≤ old.buffer_size → now.writer.now ≡ old.writer.now
    pub has_written : now.has_written ≡ (old.has_written || is_text text)
    pub empty : now.pending.now.text ≡ []

  -- nothing is put yet
  pub put-none : (old : TextWriter W) → old.pending.now.text ≡ [] → HasPut old [] old
  put-none old empty = record {
    same = record { pending = refl; writer = refl; buffer_size = refl };
    put = Puts-none step old.writer.now (pending_bytes old.pending.now);
    unwritten = λ fits. refl;
    has_written = text-none old.has_written;
    empty = empty;
  }

  -- a piece is pushed
  pub record IsPushing (now mid : TextWriter W) (piece : List ℕ) : Type 0 where
    pub same : IsSameWriter now mid
    pub writer : mid.writer.now ≡ now.writer.now
    pub has_written : mid.has_written ≡ now.has_written
    pub adds : Adds now.pending.now mid.pending.now piece

  -- the texts before it are all that was pending, and the piece is all that is made
  pending-before : (now mid : TextWriter W) (piece : List ℕ) → now.pending.now.text ≡ [] → IsPushing now mid piece
      → mid.pending.now.before ≡ pending_bytes now.pending.now
  pending-before now mid piece empty pushing =
      pushing.adds.0 ∙ sym (ap (λ (t : List ℕ). now.pending.now.before ++ t) empty ∙ append-nil now.pending.now.before)

  piece-text : (now mid : TextWriter W) (piece : List ℕ) → now.pending.now.text ≡ [] → IsPushing now mid piece
      → mid.pending.now.has_failed ≡ false → mid.pending.now.text ≡ piece
  piece-text now mid piece empty pushing made =
      (pushing.adds.1 made).1 ∙ ap (λ (t : List ℕ). t ++ piece) empty

  -- a piece is put after a text
  pub put-more : (old now mid new : TextWriter W) (done piece : List ℕ) → HasPut old done now → IsPushing now mid piece
      → PiecePut step mid (Ok tt) new → IsSameWriter mid new → new.pending.now.text ≡ []
      → new.has_written ≡ (mid.has_written || is_text mid.pending.now.text) → HasPut old (done ++ piece) new
  put-more old now mid new done piece has pushing (made, put, kept, unwritten) same empty has_written =
      let before = pending-before now mid piece has.empty pushing in
      let text = piece-text now mid piece has.empty pushing made in
      record {
        same = same-writer old now new has.same (same-writer now mid new pushing.same same);
        put = Puts-more step old.writer.now now.writer.now new.writer.now (pending_bytes old.pending.now) done
            (pending_bytes now.pending.now) piece (pending_bytes new.pending.now) (Ok tt) has.put
            (subst (λ w. PutsAll step w (pending_bytes now.pending.now) piece new.writer.now
            (pending_bytes new.pending.now))
            pushing.writer
            (subst (λ p. PutsAll step mid.writer.now p piece new.writer.now (pending_bytes new.pending.now)) before
            (subst (λ t. PutsAll step mid.writer.now mid.pending.now.before t new.writer.now
            (pending_bytes new.pending.now)) text put)));
        unwritten = λ fits.
            let all : length (pending_bytes old.pending.now ++ (done ++ piece))
            ≡ length (pending_bytes old.pending.now ++ done) + length piece =
            ap length (sym (append_assoc (pending_bytes old.pending.now) done piece))
            ∙ length-append (pending_bytes old.pending.now ++ done) piece in
            let split : length (pending_bytes old.pending.now ++ done)
            ≡ length has.put.bytes + length (pending_bytes now.pending.now) =
            ap length has.put.split ∙ length-append has.put.bytes (pending_bytes now.pending.now) in
            let here : length (pending_bytes mid.pending.now) ≡ length (pending_bytes now.pending.now) + length piece =
            length-append mid.pending.now.before mid.pending.now.text
            ∙ (ap (λ p. length p + length mid.pending.now.text) before
            ∙ ap (λ t. length (pending_bytes now.pending.now) + length t) text) in
            let size : mid.buffer_size ≡ old.buffer_size = pushing.same.buffer_size ∙ has.same.buffer_size in
            unwritten (omega (arith, fits, all, split, here, size))
            ∙ (pushing.writer ∙ has.unwritten (omega (arith, fits, all)));
        has_written = has_written
            ∙ (ap (λ t. mid.has_written || is_text t) text
            ∙ (ap (λ b. b || is_text piece) (pushing.has_written ∙ has.has_written)
            ∙ text-more old.has_written done piece));
        empty = empty;
      }

  -- a piece isn't put, after which others were to come
  pub put-fails : (T : Type 0) (old now mid new : TextWriter W) (done piece rest whole : List ℕ) (error : TextError)
      → HasPut old done now → IsPushing now mid piece → whole ≡ (done ++ piece) ++ rest
      → PiecePut step mid (Err error) new
      → IsSameWriter mid new → PutsInPieces step {T = T} old whole (Err error) new
  put-fails T old now mid new done piece rest whole (Io error) has pushing is (made, failed, none) same =
      let before = pending-before now mid piece has.empty pushing in
      let text = piece-text now mid piece has.empty pushing made in
      let here = subst (λ w. FailsToWrite step w (pending_bytes now.pending.now ++ piece) error new.writer.now)
      pushing.writer
      (subst (λ p. FailsToWrite step mid.writer.now (p ++ piece) error new.writer.now) before
      (subst (λ t. FailsToWrite step mid.writer.now (mid.pending.now.before ++ t) error new.writer.now) text failed)) in
      let put = Puts-more step old.writer.now now.writer.now new.writer.now (pending_bytes old.pending.now) done
      (pending_bytes now.pending.now) piece [] (Err error) has.put here in
      record {
        same = same-writer old now new has.same (same-writer now mid new pushing.same same);
        failed = subst (λ t. FailsToWrite step old.writer.now t error new.writer.now)
            (append_assoc (pending_bytes old.pending.now) (done ++ piece) rest
            ∙ ap (λ t. pending_bytes old.pending.now ++ t) (sym is))
            (Writes-cut step old.writer.now new.writer.now (pending_bytes old.pending.now ++ (done ++ piece)) rest
            error put);
        pending = none;
      }
  put-fails T old now mid new done piece rest whole OutOfMemory has pushing is (unwritten, pending) same =
      let before = pending-before now mid piece has.empty pushing in
      record {
        same = same-writer old now new has.same (same-writer now mid new pushing.same same);
        part = done;
        begins = (piece ++ rest, is ∙ append_assoc done piece rest);
        put = subst (λ w. PutsAll step old.writer.now (pending_bytes old.pending.now) done w
            (pending_bytes new.pending.now)) (sym (unwritten ∙ pushing.writer))
            (subst (λ p. PutsAll step old.writer.now (pending_bytes old.pending.now) done now.writer.now p)
            (sym (pending ∙ before)) has.put);
      }

  -- whatever is returned of a text that is put whole
  pub fails-alike : (T U : Type 0) (old new : TextWriter W) (text : List ℕ) (error : TextError)
      → PutsInPieces step {T = T} old text (Err error) new → PutsInPieces step {T = U} old text (Err error) new
  fails-alike T U old new text (Io error) fails = fails
  fails-alike T U old new text OutOfMemory fails = fails
