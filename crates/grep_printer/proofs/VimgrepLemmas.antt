-- The lines in which the parts of a report start, pushed or put one after another.
use Rattle.std.proofs.Common.{◌≡◌, ◌≤◌, ◌∙◌, ℕ, ◌+◌, List, [], ◌∷◌, ◌++◌, length, arith, ap, subst, sym, Option}
use Rattle.std.specs.Prelude.{◌<◌, ◌==◌, count_by, false, if◌then◌else◌, slice_range}
use Rattle.grep_lines.specs.Blocks.{lines_before}
use Rattle.grep_output.specs.Outputs.{OutputCall}
use Rattle.grep_output.specs.PendingTexts.{pending_bytes}
use Rattle.grep_replace.proofs.FoundPartLemmas.{ordered-from}
use Rattle.grep_printer.proofs.PartTextLemmas.{IsWriting, writing-more}
use Rattle.grep_printer.proofs.PassedLineLemmas.{lines-passed}
use Rattle.grep_printer.proofs.TextWriterLemmas.{HasPut}
use Rattle.grep_printer.specs.Formats.{Scene}
use Rattle.grep_printer.specs.LineTexts.{end_byte, number_after}
use Rattle.grep_replace.specs.MatchedParts.{AreInOrder}
use Rattle.grep_report.specs.SinkReports.{Surroundings}
use Rattle.grep_printer.specs.Reports.{line_kind, reporting_call}
use Rattle.grep_printer.specs.StandardTexts.{is_hidden, layout_of, text_before}
use Rattle.grep_printer.specs.VimgrepTexts.{part_line, part_lines, vimgrep_text}
use Rattle.grep_printer.specs.declared.config.Config.{Config}
use Rattle.grep_printer.specs.declared.fields.Layout.{Layout}
use Rattle.grep_printer.specs.declared.fields.LineKind.TheVariants as LineKind
use Rattle.grep_printer.specs.declared.report.Report.{Report}
use Rattle.grep_printer.specs.declared.report.ReportKind.{ReportKind}
use Rattle.grep_printer.specs.declared.report.ReportKind.TheVariants.{Match, Context}
use Rattle.grep_printer.specs.declared.standard.Progress.{Progress}
use Rattle.grep_printer.specs.declared.text_writer.TextWriter.{TextWriter}

module _ (layout : Layout) (report : Report) (start : List ℕ) (all : List (ℕ × ℕ)) where
  -- the line of a part of the report, before which there are so many
  abbrev line_after : ℕ → ℕ × ℕ → List ℕ
  line_after passed part = part_line layout (line_kind report.kind) report.offset report.bytes.now
      (number_after report.number passed) part

  -- of some parts it is pushed, so many lines are before a position, and these parts are left,
  -- which start there or later
  pub record IsListing (text : List ℕ) (passed position : ℕ) (rest : List (ℕ × ℕ)) : Type 0 where
    pub writing : IsWriting (λ part. line_after (lines_before (end_byte layout) report.bytes.now part.0) part)
        (length report.bytes.now) start all text rest
    pub counted : passed ≡ lines_before (end_byte layout) report.bytes.now position
    pub ordered : AreInOrder position (length report.bytes.now) rest

  -- the line of the next part is pushed
  pub listing-more : (text : List ℕ) (passed position : ℕ) (rest : List (ℕ × ℕ)) (part : ℕ × ℕ) (later : List (ℕ × ℕ))
      (next : ℕ) → IsListing text passed position rest → rest ≡ part ∷ later → next ≡ passed
      + count_by (λ b. b == end_byte layout) (slice_range report.bytes.now position part.0)
      → IsListing (text ++ line_after next part) next part.0 later
  listing-more text passed position rest part later next listing is counted =
      let ordered = subst (AreInOrder position (length report.bytes.now)) is listing.ordered in
      let here : next ≡ lines_before (end_byte layout) report.bytes.now part.0 =
      omega (arith, counted, listing.counted, lines-passed (end_byte layout) report.bytes.now position part.0 ordered.0) in
      record {
        writing = writing-more _ (length report.bytes.now) start all text rest part later _ listing.writing is
            (ap (λ n. text ++ line_after n part) here);
        counted = here;
        ordered = ordered-from later part.1 part.0 (length report.bytes.now) ordered.1 ordered.3;
      }

-- the lines of some parts are put, and no more is kept than is to be
pub record IsPuttingLines {W : Type 0} (step : W → OutputCall → W → Type 0) (layout : Layout) (report : Report)
    (start : List ℕ) (all : List (ℕ × ℕ)) (old now : TextWriter W) (passed position : ℕ) (rest : List (ℕ × ℕ)) : Type 0
  where
    pub text : List ℕ
    pub has : HasPut step old text now
    pub kept : length (pending_bytes now.pending.now) ≤ now.buffer_size
    pub listing : IsListing layout report start all text passed position rest

-- the text of a report with parts, unless it is hidden: what comes before a report, and their lines
pub shown-text : (config : Config) (progress : Progress) (scene : Scene) (layout : Layout) (number : Option ℕ)
    (offset : ℕ) (bytes : List ℕ) (around : Surroundings) (kind : ReportKind) (parts : List (ℕ × ℕ))
    → layout ≡ layout_of config scene
    → 0 < length parts → is_hidden progress scene.settings.binary_detection ≡ false
    → vimgrep_text config progress scene (reporting_call kind number offset bytes around) parts
    ≡ text_before layout progress ++ part_lines layout (line_kind kind) offset bytes number parts
shown-text config progress scene layout number offset bytes around kind [] is some shown = absurd (omega (arith, some))
shown-text config progress scene layout number offset bytes around Match (part ∷ rest) is some shown =
    ap (λ hidden. if hidden then [] else text_before (layout_of config scene) progress
    ++ part_lines (layout_of config scene) LineKind.Match offset bytes number (part ∷ rest)) shown
    ∙ ap (λ l. text_before l progress ++ part_lines l LineKind.Match offset bytes number (part ∷ rest)) (sym is)
shown-text config progress scene layout number offset bytes around (Context kind) (part ∷ rest) is some shown =
    ap (λ hidden. if hidden then [] else text_before (layout_of config scene) progress
    ++ part_lines (layout_of config scene) LineKind.Context offset bytes number (part ∷ rest)) shown
    ∙ ap (λ l. text_before l progress ++ part_lines l LineKind.Context offset bytes number (part ∷ rest)) (sym is)
