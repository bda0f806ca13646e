-- The texts of matches as lines as they are, and what a format keeps of them.
use Rattle.std.proofs.Common.{◌≡◌, ◌∙◌, ℕ, suc, Bool, true, false, List, [], ◌++◌}
use Rattle.std.proofs.Common.{Option, None, ap, arith, if◌then◌else◌, length, refl, subst, sym}
use Rattle.std.proofs.lemmas.Bool.{lt-ltb}
use Rattle.std.specs.Prelude.{◌&&◌, ◌==◌, is_some, nat_lt, not}
use Rattle.grep_matcher.specs.Lines.{byte_of}
use Rattle.grep_printer.proofs.PlainLineLemmas.{lines-plain}
use Rattle.grep_printer.specs.CountedTexts.{counted_rules}
use Rattle.grep_printer.specs.Formats.{PrintedCall, Scene}
use Rattle.grep_printer.specs.LineTexts.{end_byte, is_plain, plain_lines}
use Rattle.grep_printer.specs.PartTexts.{column_of, match_text, writes_parts}
use Rattle.grep_printer.specs.StandardTexts.{call_text, goes_on, is_hidden, layout_of}
use Rattle.grep_printer.specs.StandardTexts.{progress_after, report_text, standard_rules, text_before}
use Rattle.grep_printer.specs.declared.config.Config.{Config}
use Rattle.grep_printer.specs.declared.counted.CountedFormat.{CountedFormat}
use Rattle.grep_printer.specs.declared.standard.Progress.{Progress}
use Rattle.grep_printer.specs.declared.standard.StandardFormat.{StandardFormat}
use Rattle.grep_searcher.specs.BinaryDetections.{convert_byte_of}
use Rattle.grep_searcher.specs.Lines.{lines}
use Rattle.grep_searcher.specs.Plans.{Call, begins, binary_data, breaks, context, finishes, matches}
use Rattle.grep_searcher.specs.SearchLaws.{is_match}
use Rattle.linegrep_cli.proofs.MatchWalkLemmas.{AreSteps}

-- the lines of a call that reports a match, each after its number, if it has one
abbrev pub plain-text : ℕ → Call → List ℕ
plain-text terminator (matches number offset bytes around) =
    plain_lines terminator 58 number (lines terminator bytes)
plain-text terminator call = []

-- settings by which lines, or parts in their place, are written as they are
pub record WritesLines (config : Config) (scene : Scene) : Type 0 where
  pub plain : is_plain config scene.path ≡ true
  pub no_heading : config.heading ≡ false

-- nothing was written before a search, and no binary byte was found in it
pub record IsPlainProgress (progress : Progress) (count : ℕ) : Type 0 where
  pub first : progress.follows ≡ false
  pub no_binary : progress.binary ≡ None
  pub found : progress.has_match ≡ nat_lt 0 count

none-either : (b : Bool) (xs ys : List ℕ) → xs ≡ [] → ys ≡ [] → (if b then xs else ys) ≡ []
none-either true xs ys left right = left
none-either false xs ys left right = right

module _ (config : Config) (progress : Progress) (scene : Scene) (count : ℕ)
    (writes : WritesLines config scene) (is : IsPlainProgress progress count) where
  shown : is_hidden progress scene.settings.binary_detection ≡ false
  shown = ap (λ (b : Option ℕ). is_some b
      && is_some (convert_byte_of scene.settings.binary_detection)) is.no_binary

  no-opening : text_before (layout_of config scene) progress ≡ []
  no-opening = none-either progress.is_open [] _ refl (rw (is.first, writes.no_heading) refl)

  no-parts : config.only_matching ≡ false → (parts : List (ℕ × ℕ))
      → writes_parts (layout_of config scene) parts ≡ false
  no-parts whole parts = ap (λ b. b && not (length parts == 0)) whole

  match-lines : config.only_matching ≡ false → (number : Option ℕ) (offset : ℕ) (bytes : List ℕ)
      (parts : List (ℕ × ℕ))
      → match_text (layout_of config scene) number offset bytes parts
      ≡ plain_lines (end_byte (layout_of config scene)) 58 number
      (lines (end_byte (layout_of config scene)) bytes)
  match-lines whole number offset bytes parts = rw (no-parts whole parts)
      (lines-plain (layout_of config scene) _ writes.plain
      (record { number = number; column = column_of parts; offset = offset; start = 0 }) parts
      (lines (end_byte (layout_of config scene)) bytes))

  -- a report of a match is written, and nothing before it
  pub call-shown : (call : Call) (parts : List (ℕ × ℕ)) → is_match call ≡ true
      → call_text config progress scene call parts ≡ report_text (layout_of config scene) call parts
  call-shown begins parts hit = absurd cc
  call-shown (matches number offset bytes around) parts hit =
      ap (λ b. if b then [] else text_before (layout_of config scene) progress
      ++ match_text (layout_of config scene) number offset bytes parts) shown
      ∙ ap (λ (xs : List ℕ). xs ++ match_text (layout_of config scene) number offset bytes parts) no-opening
  call-shown (context kind number offset line) parts hit = absurd cc
  call-shown breaks parts hit = absurd cc
  call-shown (binary_data offset) parts hit = absurd cc
  call-shown (finishes bytes binary) parts hit = absurd cc

  report-plain : config.only_matching ≡ false → (call : Call) (parts : List (ℕ × ℕ))
      → is_match call ≡ true
      → report_text (layout_of config scene) call parts
      ≡ plain-text (byte_of scene.settings.line_terminator) call
  report-plain whole begins parts hit = absurd cc
  report-plain whole (matches number offset bytes around) parts hit =
      match-lines whole number offset bytes parts
  report-plain whole (context kind number offset line) parts hit = absurd cc
  report-plain whole breaks parts hit = absurd cc
  report-plain whole (binary_data offset) parts hit = absurd cc
  report-plain whole (finishes bytes binary) parts hit = absurd cc

  pub call-plain : config.only_matching ≡ false → (call : Call) (parts : List (ℕ × ℕ))
      → is_match call ≡ true
      → call_text config progress scene call parts
      ≡ plain-text (byte_of scene.settings.line_terminator) call
  call-plain whole call parts hit = call-shown call parts hit ∙ report-plain whole call parts hit

  -- after a match more
  pub match-more : (call : Call) → is_match call ≡ true
      → IsPlainProgress (progress_after progress call) (suc count)
  match-more begins hit = absurd cc
  match-more (matches number offset bytes around) hit = record {
    first = is.first;
    no_binary = is.no_binary;
    found = sym (lt-ltb 0 (suc count) (omega arith));
  }
  match-more (context kind number offset line) hit = absurd cc
  match-more breaks hit = absurd cc
  match-more (binary_data offset) hit = absurd cc
  match-more (finishes bytes binary) hit = absurd cc

  pub goes-on : (call : Call) → is_match call ≡ true
      → goes_on progress scene.settings.binary_detection call ≡ true
  goes-on begins hit = absurd cc
  goes-on (matches number offset bytes around) hit = ap not shown
  goes-on (context kind number offset line) hit = absurd cc
  goes-on breaks hit = absurd cc
  goes-on (binary_data offset) hit = absurd cc
  goes-on (finishes bytes binary) hit = absurd cc

-- nothing is written at the end
pub end-none : (config : Config) (progress : Progress) (scene : Scene) (count : ℕ)
    (parts : List (ℕ × ℕ)) → call_text config progress scene (finishes count None) parts ≡ []
end-none config progress scene count parts =
    none-either progress.has_match [] [] refl refl

module _ (scene : Scene) where
  -- what a format that counts nothing keeps, after so many matches
  pub record IsPlainFormat (count : ℕ) (counted : CountedFormat StandardFormat) : Type 0 where
    pub writes : WritesLines counted.format.config scene
    pub whole : counted.format.config.only_matching ≡ false
    pub progress : IsPlainProgress counted.format.progress count

  pub standard-steps : (HasParts : CountedFormat StandardFormat → PrintedCall → Type 0)
      → AreSteps (counted_rules standard_rules) scene HasParts IsPlainFormat
      (plain-text (byte_of scene.settings.line_terminator)) true
  standard-steps HasParts = record {
    begin = λ counted printed good is. record {
      goes = ap (goes_on counted.format.progress scene.settings.binary_detection) is;
      good = record {
        writes = good.writes;
        whole = good.whole;
        progress = subst (λ call. IsPlainProgress (progress_after counted.format.progress call) 0)
            (sym is) good.progress;
      };
      text_is = ap (λ call. call_text counted.format.config counted.format.progress scene call
          printed.parts) is;
    };
    match = λ count counted printed good asked hit. record {
      goes = goes-on counted.format.config counted.format.progress scene count good.writes
          good.progress printed.call hit;
      good = record {
        writes = good.writes;
        whole = good.whole;
        progress = match-more counted.format.config counted.format.progress scene count good.writes
            good.progress printed.call hit;
      };
      text_is = call-plain counted.format.config counted.format.progress scene count good.writes
          good.progress good.whole printed.call printed.parts hit;
    };
  }

-- if parts are written in place of lines
module _ (config : Config) (scene : Scene) (parts-of : Call → List (ℕ × ℕ)) where
  -- what is kept after so many matches
  pub record IsPartFormat (count : ℕ) (counted : CountedFormat StandardFormat) : Type 0 where
    pub config_is : counted.format.config ≡ config
    pub progress : IsPlainProgress counted.format.progress count

  pub part-steps : (HasParts : CountedFormat StandardFormat → PrintedCall → Type 0)
      → WritesLines config scene
      → ((counted : CountedFormat StandardFormat) (printed : PrintedCall)
      → counted.format.config ≡ config → is_match printed.call ≡ true → HasParts counted printed
      → printed.parts ≡ parts-of printed.call)
      → AreSteps (counted_rules standard_rules) scene HasParts IsPartFormat
      (λ call. report_text (layout_of config scene) call (parts-of call)) true
  part-steps HasParts writes has = record {
    begin = λ counted printed good is. record {
      goes = ap (goes_on counted.format.progress scene.settings.binary_detection) is;
      good = record {
        config_is = good.config_is;
        progress = subst (λ call. IsPlainProgress (progress_after counted.format.progress call) 0)
            (sym is) good.progress;
      };
      text_is = ap (λ call. call_text counted.format.config counted.format.progress scene call
          printed.parts) is;
    };
    match = λ count counted printed good asked hit. record {
      goes = goes-on config counted.format.progress scene count writes good.progress printed.call hit;
      good = record {
        config_is = good.config_is;
        progress = match-more config counted.format.progress scene count writes good.progress
            printed.call hit;
      };
      text_is = ap (λ c. call_text c counted.format.progress scene printed.call printed.parts)
          good.config_is
          ∙ (call-shown config counted.format.progress scene count writes good.progress printed.call
          printed.parts hit
          ∙ ap (report_text (layout_of config scene) printed.call)
          (has counted printed good.config_is hit asked));
    };
  }
