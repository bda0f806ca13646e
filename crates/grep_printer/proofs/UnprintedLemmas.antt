-- A sink that has printed nothing more: what it prints next is printed from where it was before.
use Rattle.std.proofs.Common.{◌≡◌, ◌∙◌, ◌≤◌, ℕ, Bool, true, List, ◌++◌, ap, ap₂, arith, inl, inr, length, refl, subst}
use Rattle.std.proofs.Common.{sym}
use Rattle.std.specs.Global.{Global}
use Rattle.std.specs.Prelude.{◌&&◌, ◌||◌, Option, Result, Ok, Err}
use Rattle.grep_output.specs.Outputs.{Begins, FailsToWrite, OutputCall}
use Rattle.grep_output.specs.PendingTexts.{PutsAll, pending_bytes}
use Rattle.grep_matcher.specs.Meanings.{MatcherFacts}
use Rattle.grep_searcher.specs.Plans.{Call, Settings}
use Rattle.grep_searcher.specs.declared.SearchError.{SearchError}
use Rattle.grep_printer.proofs.WalkLemmas.{same-more}
use Rattle.grep_printer.specs.CallParts.{FailsAtParts, HasParts, has_match}
use Rattle.grep_printer.specs.Formats.{PrintedCall, Rules, is_text}
use Rattle.grep_printer.specs.PrinterSteps.{FailsBefore, FailsToWriteCall, HasFound, IsAsBefore, IsPreparing}
use Rattle.grep_printer.specs.PrinterSteps.{Prints, PrintsCall, PrintsSome, scene_of, text_of}
use Rattle.grep_printer.specs.declared.printer.PrinterSink.{PrinterSink}

-- one such step after another
pub before-more : {F M W : Type 0} (old mid new : PrinterSink F M W) → IsAsBefore old mid → IsAsBefore mid new
    → IsAsBefore old new
before-more old mid new first later = record {
  same = same-more old mid new first.same later.same;
  format = later.format ∙ first.format;
  writer = later.writer ∙ first.writer;
  pending = later.pending ∙ first.pending;
  has_written = later.has_written ∙ first.has_written;
  has_failed = later.has_failed ∙ first.has_failed;
}

-- so is one of which the parts at hand are others
pub before-parts : {F M W : Type 0} (old new : PrinterSink F M W) → IsPreparing old new → IsAsBefore old new
before-parts old new prepared = record {
  same = prepared.same;
  format = prepared.format;
  writer = prepared.writer;
  pending = ap (λ p. pending_bytes p) prepared.pending;
  has_written = prepared.has_written;
  has_failed = prepared.has_failed;
}

module _ {F M W E : Type 0} (rules : Rules F) (output : E → Option (List ℕ)) (facts : M → MatcherFacts E)
    (first_at : M → List ℕ → ℕ → Option (ℕ × ℕ)) (write_step : W → OutputCall → W → Type 0)
    (old mid : PrinterSink F M W) (stays : IsAsBefore old mid) (settings : Settings) where
  same-scene : scene_of mid settings ≡ scene_of old settings
  same-scene = ap (λ path. record { path = path; settings = settings }) stays.same.path

  same-text : (printed : PrintedCall) → text_of rules mid settings printed ≡ text_of rules old settings printed
  same-text printed = ap₂ (λ format scene. rules.text format scene printed) stays.format same-scene

  same-asked : (call : Call) → (has_match settings call && rules.asks mid.format call)
      ≡ (has_match settings call && rules.asks old.format call)
  same-asked call = ap (λ format. has_match settings call && rules.asks format call) stays.format

  same-found : (printed : PrintedCall) → HasFound rules facts first_at mid settings mid.format printed
      → HasFound rules facts first_at old settings old.format printed
  same-found printed found =
      subst (λ asked. HasParts (first_at old.matcher) settings (facts old.matcher).meaning asked printed)
      (same-asked printed.call)
      (subst (λ m. HasParts (first_at m) settings (facts m).meaning
      (has_match settings printed.call && rules.asks mid.format printed.call) printed) stays.same.matcher found)

  same-put : (text text' later : List ℕ) (new : W) → text ≡ text'
      → PutsAll write_step mid.writer.now (pending_bytes mid.printer.now.pending) text new later
      → PutsAll write_step old.writer.now (pending_bytes old.printer.now.pending) text' new later
  same-put text text' later new is put =
      subst (λ t. PutsAll write_step old.writer.now (pending_bytes old.printer.now.pending) t new later) is
      (subst (λ p. PutsAll write_step old.writer.now p text new later) stays.pending
      (subst (λ w. PutsAll write_step w (pending_bytes mid.printer.now.pending) text new later) stays.writer put))

  prints-on : (call : Call) (goes : Bool) (new : PrinterSink F M W)
      → Prints rules output facts first_at write_step mid settings call goes new
      → Prints rules output facts first_at write_step old settings call goes new
  prints-on call goes new prints =
      let printed = prints.printed in
      let text = same-text printed in record {
        same = same-more old mid new stays.same prints.same;
        printed = printed;
        is_call = prints.is_call;
        has_parts = same-found printed prints.has_parts;
        goes_on = prints.goes_on ∙ ap₂ (λ format scene. rules.goes_on format scene printed) stays.format same-scene;
        put = same-put (text_of rules mid settings printed) (text_of rules old settings printed)
            (pending_bytes new.printer.now.pending) new.writer.now text prints.put;
        format = prints.format ∙ ap₂ (λ format scene. rules.next format scene printed) stays.format same-scene;
        has_written = prints.has_written ∙ ap₂ (λ before t. before || is_text t) stays.has_written text;
        has_failed = prints.has_failed ∙ stays.has_failed;
        at_once = λ none. prints.at_once (stays.same.buffer_size ∙ none);
        kept = prints.kept;
        unwritten = λ bare fits.
            let size : length (pending_bytes mid.printer.now.pending ++ text_of rules mid settings printed)
            ≡ length (pending_bytes old.printer.now.pending ++ text_of rules old settings printed) =
            ap₂ (λ (p t : List ℕ). length (p ++ t)) stays.pending text in
            let room = stays.same.buffer_size in
            prints.unwritten (ap₂ (λ format scene. rules.is_bare format scene) stays.format same-scene ∙ bare)
            (omega (arith, fits, size, room)) ∙ stays.writer;
      }

  writing-on : (call : Call) (e : SearchError Global) (new : PrinterSink F M W)
      → FailsToWriteCall rules output facts first_at write_step mid settings call e new
      → FailsToWriteCall rules output facts first_at write_step old settings call e new
  writing-on call e new fails =
      let printed = fails.printed in record {
        printed = printed;
        is_call = fails.is_call;
        has_parts = same-found printed fails.has_parts;
        error = fails.error;
        is_io = fails.is_io;
        failed = subst (λ t. FailsToWrite write_step old.writer.now t fails.error new.writer.now)
            (ap₂ (λ (p t : List ℕ). p ++ t) stays.pending (same-text printed))
            (subst (λ w. FailsToWrite write_step w
            (pending_bytes mid.printer.now.pending ++ text_of rules mid settings printed) fails.error new.writer.now)
            stays.writer fails.failed);
        pending = fails.pending;
        format = fails.format ∙ ap₂ (λ format scene. rules.next format scene printed) stays.format same-scene;
        has_failed = fails.has_failed;
      }

  failing-on : (call : Call) (e : SearchError Global) (new : PrinterSink F M W)
      → FailsBefore rules output facts first_at write_step mid settings call e new
      → FailsBefore rules output facts first_at write_step old settings call e new
  failing-on call e new fails = record {
    unwritten = fails.unwritten ∙ stays.writer;
    pending = fails.pending ∙ stays.pending;
    format = fails.format ∙ stays.format;
    has_failed = fails.has_failed ∙ stays.has_failed;
    cause = elim fails.cause [
      | inl (memory, why) ↦ inl (
        memory,
        elim why [
          | inl asked ↦ inl (sym (same-asked call) ∙ asked)
          | inr bare ↦ inr (sym (ap₂ (λ format scene. rules.is_bare format scene) stays.format same-scene) ∙ bare)
        ],
      )
      | inr (asked, at) ↦ inr (
        sym (same-asked call) ∙ asked,
        subst (λ m. FailsAtParts output (facts m) settings call e) stays.same.matcher at,
      )
    ];
  }

  some-on : (printed : PrintedCall) (e : SearchError Global) (new : PrinterSink F M W)
      → PrintsSome rules output facts first_at write_step mid settings printed e new
      → PrintsSome rules output facts first_at write_step old settings printed e new
  some-on printed e new some = record {
    memory = some.memory;
    asked = sym (same-asked printed.call) ∙ some.asked;
    part = some.part;
    begins = subst (Begins some.part) (same-text printed) some.begins;
    put = same-put some.part some.part (pending_bytes new.printer.now.pending) new.writer.now refl some.put;
    format = some.format ∙ stays.format;
    has_failed = some.has_failed ∙ stays.has_failed;
  }

  pub printed-from : (call : Call) (result : Result Bool (SearchError Global)) (new : PrinterSink F M W)
      → PrintsCall rules output facts first_at write_step mid settings call result new
      → PrintsCall rules output facts first_at write_step old settings call result new
  printed-from call (Ok goes) new prints = prints-on call goes new prints
  printed-from call (Err e) new fails = record {
    same = same-more old mid new stays.same fails.same;
    has_written = fails.has_written ∙ stays.has_written;
    cause = elim fails.cause [
      | inl writing ↦ inl (writing-on call e new writing)
      | inr other ↦ inr (elim other [
        | inl before ↦ inl (failing-on call e new before)
        | inr (printed, is_call, found, some) ↦
            inr (printed, is_call, same-found printed found, some-on printed e new some)
      ])
    ];
  }
