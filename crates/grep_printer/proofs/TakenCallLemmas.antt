-- A sink of a printer that keeps the texts of lines at once, against its calls one after another.
use Rattle.std.proofs.Common.{◌≡◌, ◌∙◌, ℕ, suc, ◌+◌, true, false, not, ◌&&◌, ◌||◌}
use Rattle.std.proofs.Common.{List, [], ◌∷◌, ◌++◌, length, Option, ap, arith, inl, ◌<◌}
use Rattle.std.proofs.Common.{refl, sym, subst, append_assoc, length-append}
use Rattle.std.proofs.Math.Bool.{or_assoc}
use Rattle.std.proofs.lemmas.List.{append-nil}
use Rattle.std.specs.Option.{option_map}
use Rattle.grep_output.proofs.OutputLemmas.{Writes-none}
use Rattle.grep_output.specs.Outputs.{OutputCall, WritesAll}
use Rattle.grep_output.specs.PendingTexts.{pending_bytes}
use Rattle.grep_matcher.specs.Meanings.{MatcherFacts}
use Rattle.grep_searcher.specs.MatchedLines.{calls_of_match, calls_of_lines}
use Rattle.grep_searcher.specs.Plans.{AreMade, Call, Planned, Settings, all_true}
use Rattle.grep_searcher.specs.Plans.{matches, planned}
use Rattle.grep_report.specs.SinkReports.{MatchReport, match_bytes}
use Rattle.grep_lines.proofs.LineRangeLemmas.{some-lines}
use Rattle.grep_printer.specs.Formats.{AreTexts, Rules, is_text, without_parts}
use Rattle.grep_printer.specs.PrinterSteps.{HasFound, IsSameSink, Prints, PrintsCall, scene_of}
use Rattle.grep_printer.specs.declared.printer.PrinterSink.{PrinterSink}
use Rattle.grep_report.specs.SinkReports.{no_surroundings}

-- whether two texts have any
is_text-both : (a b : List ℕ) → is_text (a ++ b) ≡ (is_text a || is_text b)
is_text-both a b = grind (arith, length-append)

module _ {F M W E : Type 0} (rules : Rules F) (output : E → Option (List ℕ))
    (facts : M → MatcherFacts E) (first_at : M → List ℕ → ℕ → Option (ℕ × ℕ))
    (write_step : W → OutputCall → W → Type 0) (settings : Settings) where
  -- a sink that has kept a text more, and nothing else
  pub record HasKept (old : PrinterSink F M W) (text : List ℕ) (after : F)
      (new : PrinterSink F M W) : Type 0 where
    pub same : IsSameSink old new
    pub writer : new.writer.now ≡ old.writer.now
    pub pending : pending_bytes new.printer.now.pending
        ≡ pending_bytes old.printer.now.pending ++ text
    pub format : new.format ≡ after
    pub has_written : new.printer.now.has_written ≡ (old.printer.now.has_written || is_text text)
    pub has_failed : new.printer.now.has_failed ≡ old.printer.now.has_failed

  -- a match without parts
  abbrev match_of : Option ℕ → ℕ → ℕ → List ℕ → Planned
  match_of number index offset line =
      planned (matches (option_map (λ first. first + index) number) offset line no_surroundings)
      (offset + length line)

  -- none are asked for, or the search is inverted
  abbrev HasNoParts : PrinterSink F M W → Call → Type 0
  HasNoParts old call = (settings.invert_match || not (rules.asks old.format call)) ≡ true

  found-none : (old : PrinterSink F M W) (number : Option ℕ) (index offset : ℕ) (line : List ℕ)
      → HasNoParts old (match_of number index offset line).call
      → HasFound rules facts first_at old settings old.format
      (without_parts (match_of number index offset line))
  found-none old number index offset line none =
      let unasked : (not settings.invert_match
      && rules.asks old.format (match_of number index offset line).call) ≡ false = grind arith in
      rw unasked refl

  -- a call of which the text is kept
  one-kept : (old new : PrinterSink F M W) (number : Option ℕ) (index offset : ℕ) (line : List ℕ)
      → rules.goes_on old.format (scene_of old settings)
      (without_parts (match_of number index offset line)) ≡ true
      → HasNoParts old (match_of number index offset line).call
      → HasKept old (rules.text old.format (scene_of old settings)
      (without_parts (match_of number index offset line)))
      (rules.next old.format (scene_of old settings)
      (without_parts (match_of number index offset line))) new
      → 0 < old.printer.now.buffer_size
      → Prints rules output facts first_at write_step old settings
      (match_of number index offset line).call true new
  one-kept old new number index offset line goes none kept buffered = record {
    same = kept.same;
    printed = without_parts (match_of number index offset line);
    is_call = refl;
    has_parts = found-none old number index offset line none;
    goes_on = sym goes;
    put = record {
      bytes = [];
      written = subst (λ writer. WritesAll write_step old.writer.now [] writer)
          (sym kept.writer) (Writes-none write_step old.writer.now);
      split = sym kept.pending;
    };
    format = kept.format;
    has_written = kept.has_written;
    has_failed = kept.has_failed;
    at_once = λ unbuffered. absurd (omega arith);
    kept = λ other. absurd (let never = other in cc);
    unwritten = λ bare fits. kept.writer;
  }

  -- calls of which the texts are kept
  pub lines-kept : (old new : PrinterSink F M W) (number : Option ℕ) (index offset : ℕ)
      (line : List ℕ) (later : List (List ℕ)) (text : List ℕ) (format : F)
      → AreTexts rules (scene_of old settings) old.format
      (calls_of_lines number index offset (line ∷ later)) text format
      → HasKept old text format new → 0 < old.printer.now.buffer_size
      → AreMade (PrintsCall rules output facts first_at write_step) settings old
      (calls_of_lines number index offset (line ∷ later)) all_true new
  lines-kept old new number index offset line [] text format texts kept buffered = inl (
    new,
    one-kept old new number index offset line texts.2 texts.3 (record {
      same = kept.same;
      writer = kept.writer;
      pending = kept.pending ∙ ap (λ t. pending_bytes old.printer.now.pending ++ t) whole;
      format = kept.format ∙ texts.4.1;
      has_written = kept.has_written ∙ ap (λ t. old.printer.now.has_written || is_text t) whole;
      has_failed = kept.has_failed;
    }) buffered,
    (refl, refl),
  )
    where
      whole : text ≡ rules.text old.format (scene_of old settings)
          (without_parts (match_of number index offset line))
      whole = texts.1 ∙ (ap (λ t. rules.text old.format (scene_of old settings)
          (without_parts (match_of number index offset line)) ++ t) texts.4.0
          ∙ append-nil (rules.text old.format (scene_of old settings)
          (without_parts (match_of number index offset line))))
  lines-kept old new number index offset line (next ∷ later) text format texts kept buffered = inl (
    mid,
    one-kept old mid number index offset line texts.2 texts.3 (record {
      same = record { printer = refl; writer = refl; format = refl; buffer_size = refl; matcher = refl; path = refl };
      writer = refl;
      pending = append-nil (pending_bytes old.printer.now.pending ++ first);
      format = refl;
      has_written = refl;
      has_failed = refl;
    }) buffered,
    lines-kept mid new number (suc index) (offset + length line) next later texts.0 format texts.4
        (record {
          same = record {
            printer = kept.same.printer;
            writer = kept.same.writer;
            format = kept.same.format;
            buffer_size = kept.same.buffer_size;
            matcher = kept.same.matcher;
            path = kept.same.path;
          };
          writer = kept.writer;
          pending = kept.pending ∙ (ap (λ t. pending_bytes old.printer.now.pending ++ t) texts.1
              ∙ (sym (append_assoc (pending_bytes old.printer.now.pending) first texts.0)
              ∙ ap (λ t. t ++ texts.0)
              (sym (append-nil (pending_bytes old.printer.now.pending ++ first)))));
          format = kept.format;
          has_written = kept.has_written
              ∙ (ap (λ t. old.printer.now.has_written || is_text t) texts.1
              ∙ (ap (λ b. old.printer.now.has_written || b) (is_text-both first texts.0)
              ∙ sym (or_assoc old.printer.now.has_written (is_text first) (is_text texts.0))));
          has_failed = kept.has_failed;
        }) buffered,
  )
    where
      first : List ℕ
      first = rules.text old.format (scene_of old settings)
          (without_parts (match_of number index offset line))

      mid : PrinterSink F M W
      mid = record old {
        format = rules.next old.format (scene_of old settings)
            (without_parts (match_of number index offset line));
        printer = record old.printer {
          now = record old.printer.now {
            pending = record old.printer.now.pending {
              before = pending_bytes old.printer.now.pending ++ first;
              text = [];
            };
            has_written = old.printer.now.has_written || is_text first;
          };
        };
      }

  -- of the lines of a match
  pub match-kept : (old new : PrinterSink F M W) (m : MatchReport) (text : List ℕ) (format : F)
      → 0 < length (match_bytes m)
      → AreTexts rules (scene_of old settings) old.format (calls_of_match m) text format
      → HasKept old text format new → 0 < old.printer.now.buffer_size
      → AreMade (PrintsCall rules output facts first_at write_step) settings old
      (calls_of_match m) all_true new
  match-kept old new m text format some texts kept buffered =
      let found = some-lines m.terminator (match_bytes m) some in
      subst (λ ls. AreMade (PrintsCall rules output facts first_at write_step) settings old
      (calls_of_lines m.line_number 0 m.offset ls) all_true new) (sym found.2)
      (lines-kept old new m.line_number 0 m.offset found.0 found.1 text format
      (subst (λ ls. AreTexts rules (scene_of old settings) old.format
      (calls_of_lines m.line_number 0 m.offset ls) text format) found.2 texts) kept buffered)
