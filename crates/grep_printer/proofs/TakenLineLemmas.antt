-- Lines that are printed at once, against the texts of their calls one after another.
use Rattle.std.proofs.Common.{◌≡◌, ◌∙◌, ℕ, suc, ◌+◌, ◌^◌, ◌≤◌, ◌<◌, true, false, not, ◌||◌}
use Rattle.std.proofs.Common.{List, [], ◌∷◌, ◌++◌, length, Option, None, Some, ap, ap₂, arith}
use Rattle.std.proofs.Common.{refl, sym, subst, ⊎_elim, append_assoc}
use Rattle.std.proofs.lemmas.Bool.{cases_eq}
use Rattle.std.proofs.lemmas.List.Elements.{All-nil, All-cons, All-head, All-tail}
use Rattle.std.specs.Option.{option_map}
use Rattle.std.specs.Prelude.{All, IfSome, if◌then◌else◌}
use Rattle.grep_matcher.proofs.LineLemmas.{lines-end, lines-inner}
use Rattle.grep_matcher.specs.Lines.{lines, onto_first}
use Rattle.grep_lines.proofs.LineRangeLemmas.{some-lines}
use Rattle.grep_lines.proofs.LineStepLemmas.{lines-at-most}
use Rattle.grep_report.specs.SinkReports.{MatchReport, match_bytes}
use Rattle.grep_searcher.specs.MatchedLines.{calls_of_match}
use Rattle.grep_searcher.specs.SinkArguments.{match_call}
use Rattle.grep_searcher.specs.MatchedLines.{calls_of_lines}
use Rattle.grep_printer.specs.ColoredTexts.{is_matched, matched_color, painted, reset}
use Rattle.grep_printer.specs.Formats.{AreTexts, Scene}
use Rattle.grep_printer.specs.Hyperlinks.{prefix_link}
use Rattle.grep_printer.specs.LineTexts.{fields_with}
use Rattle.grep_printer.specs.declared.hyperlinks.Hyperlink.{Hyperlink}
use Rattle.grep_printer.specs.LineTexts.{counted_parts, end_byte, fields, indentation, is_long, line_text}
use Rattle.grep_printer.specs.LineTexts.{lines_text, long_text, missing_end, more_notice, next_number, notice}
use Rattle.grep_printer.specs.LineTexts.{painted_line, place_after, preview_text, previewed, shown_line, trimmed}
use Rattle.grep_printer.specs.PartTexts.{match_text, writes_parts}
use Rattle.grep_printer.specs.StandardTexts.{asks_for_parts, call_text, is_hidden, layout_of}
use Rattle.grep_printer.specs.StandardTexts.{progress_after, standard_rules, text_before}
use Rattle.grep_searcher.specs.Plans.{matches}
use Rattle.grep_printer.proofs.ColorLemmas.{painted-none}
use Rattle.grep_printer.specs.declared.config.Config.{Config}
use Rattle.grep_printer.specs.declared.standard.Progress.{Progress}
use Rattle.std.proofs.lemmas.List.{append-nil}
use Rattle.grep_printer.specs.SummaryTexts.{counts_on, counts_parts, summary_rules, with_matches}
use Rattle.grep_printer.specs.declared.summary.Counts.{Counts}
use Rattle.grep_printer.specs.declared.summary_builder.SummaryConfig.{SummaryConfig}
use Rattle.grep_printer.specs.declared.fields.Layout.{Layout}
use Rattle.grep_printer.specs.declared.fields.LineKind.TheVariants.{Match}
use Rattle.grep_printer.specs.declared.fields.Place.{Place}
use Rattle.grep_printer.specs.declared.standard.StandardFormat.{StandardFormat}
use Rattle.grep_report.specs.SinkReports.{no_surroundings}

-- ---- a line by itself

-- it has one line
abbrev IsAlone : ℕ → List ℕ → Type 0
IsAlone t line = lines t line ≡ line ∷ []

alone-first : (t b : ℕ) (ls : List (List ℕ)) → IsAlone t (b ∷ [])
    → ((line : List ℕ) → lines t (b ∷ line) ≡ onto_first b (lines t line))
    → All (IsAlone t) ls → All (IsAlone t) (onto_first b ls)
alone-first t b [] one more alone = All-cons (IsAlone t) (b ∷ []) [] one (All-nil (IsAlone t))
alone-first t b (line ∷ later) one more alone =
    let first : IsAlone t line = All-head (IsAlone t) line later alone in
    All-cons (IsAlone t) (b ∷ line) later (more line ∙ ap (onto_first b) first)
    (All-tail (IsAlone t) line later alone)

-- so has each line of some bytes
pub lines-alone : (t : ℕ) (bytes : List ℕ) → All (IsAlone t) (lines t bytes)
lines-alone t [] = All-nil (IsAlone t)
lines-alone t (b ∷ bytes) = ⊎_elim
    (λ same. subst (All (IsAlone t)) (sym (lines-end t b bytes same))
    (All-cons (IsAlone t) (b ∷ []) (lines t bytes) (lines-end t b [] same) (lines-alone t bytes)))
    (λ other. subst (All (IsAlone t)) (sym (lines-inner t b bytes other))
    (alone-first t b (lines t bytes) (lines-inner t b [] other)
    (λ line. lines-inner t b line other) (lines-alone t bytes)))
    (cases_eq b t)

-- ---- lines of a standard printer

-- without parts nothing is colored
painted-plain : (color : Option (List ℕ)) (end start : ℕ) (line : List ℕ)
    → painted color None [] end start line ≡ line
painted-plain None end start line = refl
painted-plain (Some color) end start line =
    painted-none color reset (is_matched [] end) false start line (λ k low. refl)

-- with a number that is so much greater, if there is one
abbrev number_at : Option ℕ → ℕ → Option ℕ
number_at number index = option_map (λ first. first + index) number

number-zero : (number : Option ℕ) → number_at number 0 ≡ number
number-zero None = refl
number-zero (Some first) = ap Some (omega arith)

-- the number after that
number-next : (number : Option ℕ) (index : ℕ)
    → IfSome number (λ first. first + index + 1 < 2 ^ 64)
    → next_number (number_at number index) ≡ number_at number (suc index)
number-next None index fits = refl
number-next (Some first) index fits = ap Some (omega (arith, fits))

module _ (layout : Layout) where
  none-counted : (start : ℕ) (line : List ℕ) → counted_parts layout [] start line ≡ 0
  none-counted start line = grind arith

  painted-anywhere : (start : ℕ) (line : List ℕ) → painted_line layout None [] start line ≡ line
  painted-anywhere start line = painted-plain (matched_color layout.config.color_specs) _ start line

  preview-anywhere : (start : ℕ) (line : List ℕ) → preview_text layout None [] start line
      ≡ previewed layout line ++ more_notice 0 0
  unfolding preview_text
  preview-anywhere start line =
      ap (λ (t : List ℕ). t ++ more_notice 0 0) (painted-anywhere start (previewed layout line))

  -- the text of a line without parts doesn't depend on where its report begins
  long-anywhere : (place : Place) (line : List ℕ) → long_text layout Match place [] line
      ≡ long_text layout Match (record place { start = 0 }) [] line
  unfolding long_text
  long-anywhere place line =
      ap₂ (λ (t : List ℕ) count. if layout.config.max_columns_preview then t else notice Match count)
      (preview-anywhere (place.start + indentation layout line) (trimmed layout line)
      ∙ sym (preview-anywhere (0 + indentation layout line) (trimmed layout line)))
      (none-counted place.start line ∙ sym (none-counted 0 line))

  -- nor do its fields
  fields-anywhere : (link : Option Hyperlink) (place : Place)
      → fields_with layout link Match place ≡ fields_with layout link Match (record place { start = 0 })
  fields-anywhere None place = refl
  fields-anywhere (Some link) place = refl

  line-anywhere : (place : Place) (line : List ℕ) → line_text layout Match place [] line
      ≡ line_text layout Match (record place { start = 0 }) [] line
  unfolding shown_line
  line-anywhere place line = ap₂ (λ (long text : List ℕ). fields layout Match place
      ++ (if is_long layout.config.max_columns (trimmed layout line)
      then long ++ end_byte layout ∷ []
      else text ++ missing_end (end_byte layout) (trimmed layout line)))
      (long-anywhere place line)
      (painted-anywhere (place.start + indentation layout line) (trimmed layout line)
      ∙ sym (painted-anywhere (0 + indentation layout line) (trimmed layout line)))
      ∙ ap (λ (before : List ℕ). before ++ shown_line layout Match (record place { start = 0 }) [] line)
      (fields-anywhere (prefix_link layout.config.heading layout.path) place)

  writes-none : writes_parts layout [] ≡ false
  writes-none = grind arith

  abbrev place_of : Option ℕ → ℕ → Place
  place_of number offset = record { number = number; column = None; offset = offset; start = 0 }

  -- the text of a match of one line
  line-alone : (number : Option ℕ) (offset : ℕ) (line : List ℕ)
      → lines (end_byte layout) line ≡ line ∷ []
      → match_text layout number offset line []
      ≡ line_text layout Match (place_of number offset) [] line
  line-alone number offset line alone =
      rw (writes-none, alone) (append-nil (line_text layout Match (place_of number offset) [] line))

module _ (config : Config) (scene : Scene) where
  abbrev layout : Layout
  layout = layout_of config scene

  abbrev t : ℕ
  t = end_byte layout

  -- what was reported after a match
  abbrev opened : Progress → Progress
  opened progress = progress_after progress (matches None 0 [] no_surroundings)

  abbrev format_with : Progress → StandardFormat
  format_with progress = record { config = config; progress = progress }

  -- the text of a match of one line, after what comes before it
  line-text : (progress : Progress)
      → is_hidden progress scene.settings.binary_detection ≡ false
      → (number : Option ℕ) (offset start : ℕ) (line : List ℕ) → lines t line ≡ line ∷ []
      → call_text config progress scene (matches number offset line no_surroundings) []
      ≡ text_before layout progress
      ++ line_text layout Match (record (place_of layout number offset) { start = start }) [] line
  line-text progress shown number offset start line alone =
      rw shown (ap (λ text. text_before layout progress ++ text)
      (line-alone layout number offset line alone
      ∙ sym (line-anywhere layout (record (place_of layout number offset) { start = start }) line)))

  first-text : (progress : Progress)
      → is_hidden progress scene.settings.binary_detection ≡ false
      → (number : Option ℕ) (offset start : ℕ) (line : List ℕ) (later : List (List ℕ))
      → All (IsAlone t) (line ∷ later)
      → text_before layout progress
      ++ lines_text layout Match (record (place_of layout number offset) { start = start }) []
      (line ∷ later)
      ≡ call_text config progress scene (matches number offset line no_surroundings) []
      ++ lines_text layout Match (place_after (record (place_of layout number offset) {
        start = start;
      }) line) [] later
  first-text progress shown number offset start line later alone =
      let first : IsAlone t line = All-head (IsAlone t) line later alone in
      sym (append_assoc (text_before layout progress)
      (line_text layout Match (record (place_of layout number offset) { start = start }) [] line)
      (lines_text layout Match (place_after (record (place_of layout number offset) {
        start = start;
      }) line) [] later))
      ∙ ap (λ text. text ++ lines_text layout Match
      (place_after (record (place_of layout number offset) { start = start }) line) [] later)
      (sym (line-text progress shown number offset start line first))

  -- of lines, after what comes before the first
  pub lines-texts : (progress : Progress)
      → is_hidden progress scene.settings.binary_detection ≡ false
      → (scene.settings.invert_match || not (asks_for_parts config)) ≡ true
      → (number : Option ℕ) (index offset start : ℕ) (line : List ℕ) (later : List (List ℕ))
      → All (IsAlone t) (line ∷ later)
      → IfSome number (λ first. first + index + length (line ∷ later) ≤ 2 ^ 64)
      → AreTexts standard_rules scene (format_with progress)
      (calls_of_lines number index offset (line ∷ later))
      (text_before layout progress
      ++ lines_text layout Match (record (place_of layout (number_at number index) offset) {
        start = start;
      }) [] (line ∷ later))
      (format_with (opened progress))
  lines-texts progress shown bare number index offset start line [] alone fits = (
    [],
    first-text progress shown (number_at number index) offset start line [] alone,
    ap not shown,
    bare,
    (refl, refl),
  )
  lines-texts progress shown bare number index offset start line (next ∷ later) alone fits = (
    lines_text layout Match (place_after (record (place_of layout (number_at number index) offset) {
      start = start;
    }) line) [] (next ∷ later),
    first-text progress shown (number_at number index) offset start line (next ∷ later) alone,
    ap not shown,
    bare,
    subst (λ n. AreTexts standard_rules scene (format_with (opened progress))
        (calls_of_lines number (suc index) (offset + length line) (next ∷ later))
        (lines_text layout Match (record (place_of layout n (offset + length line)) {
          start = start + length line;
        }) [] (next ∷ later))
        (format_with (opened progress))) (sym (number-next number index (grind (arith, fits))))
        (lines-texts (opened progress) shown bare number (suc index) (offset + length line)
        (start + length line) next later (All-tail (IsAlone t) line (next ∷ later) alone)
        (grind (arith, fits))),
  )

  pub match-texts : (progress new : Progress) (m : MatchReport) (text : List ℕ)
      → is_hidden progress scene.settings.binary_detection ≡ false
      → (scene.settings.invert_match || not (asks_for_parts config)) ≡ true
      → m.terminator ≡ t → 0 < length (match_bytes m)
      → IfSome m.line_number (λ first. first + length (match_bytes m) ≤ 2 ^ 64)
      → text ≡ call_text config progress scene (match_call m) []
      → new ≡ progress_after progress (match_call m)
      → AreTexts standard_rules scene (format_with progress) (calls_of_match m) text
      (format_with new)
  match-texts progress new m text shown bare split some fits is after =
      let found = some-lines t (match_bytes m) some in
      let few = lines-at-most t (match_bytes m) in
      let count = ap length found.2 in
      let same : lines m.terminator (match_bytes m) ≡ found.0 ∷ found.1 =
      ap (λ b. lines b (match_bytes m)) split ∙ found.2 in
      let alone = subst (All (IsAlone t)) found.2 (lines-alone t (match_bytes m)) in
      let texts = lines-texts progress shown bare m.line_number 0 m.offset 0 found.0 found.1 alone
      (grind (arith, fits, few, count)) in
      let whole : text ≡ text_before layout progress
      ++ lines_text layout Match (place_of layout (number_at m.line_number 0) m.offset) []
      (found.0 ∷ found.1) =
      is ∙ rw (shown, writes-none layout, found.2, number-zero m.line_number) refl in
      subst (λ ls. AreTexts standard_rules scene (format_with progress)
      (calls_of_lines m.line_number 0 m.offset ls) text (format_with new)) (sym same)
      (subst (λ p. AreTexts standard_rules scene (format_with progress)
      (calls_of_lines m.line_number 0 m.offset (found.0 ∷ found.1)) text (format_with p)) (sym after)
      (subst (λ bytes. AreTexts standard_rules scene (format_with progress)
      (calls_of_lines m.line_number 0 m.offset (found.0 ∷ found.1)) bytes
      (format_with (opened progress))) (sym whole) texts))

-- ---- lines that are counted

pub lines-counted : (scene : Scene) (config : SummaryConfig) (number : Option ℕ)
    (index offset : ℕ) (line : List ℕ) (later : List (List ℕ)) (counts : Counts)
    → counts_on config.kind ≡ true
    → (scene.settings.invert_match || not (counts_parts config.kind)) ≡ true
    → AreTexts summary_rules scene (record { config = config; counts = counts })
    (calls_of_lines number index offset (line ∷ later)) []
    (record { config = config; counts = with_matches counts (length (line ∷ later)) (length (line ∷ later)) })
lines-counted scene config number index offset line [] counts on bare =
    ([], refl, ap (λ b. b || config.counts_all) on, grind arith, (refl, refl))
lines-counted scene config number index offset line (next ∷ later) counts on bare = (
  [],
  refl,
  ap (λ b. b || config.counts_all) on,
  grind arith,
  subst (λ after. AreTexts summary_rules scene
      (record { config = config; counts = with_matches counts 1 1 })
      (calls_of_lines number (suc index) (offset + length line) (next ∷ later)) []
      (record { config = config; counts = after })) (grind arith)
      (lines-counted scene config number (suc index) (offset + length line) next later
      (with_matches counts 1 1) on bare),
)

pub match-counted : (scene : Scene) (config : SummaryConfig) (m : MatchReport) (counts new : Counts)
    (count : ℕ) (text : List ℕ) → 0 < length (match_bytes m) → counts_on config.kind ≡ true
    → (scene.settings.invert_match || not (counts_parts config.kind)) ≡ true
    → text ≡ [] → new ≡ with_matches counts count count
    → count ≡ length (lines m.terminator (match_bytes m))
    → AreTexts summary_rules scene (record { config = config; counts = counts })
    (calls_of_match m) text (record { config = config; counts = new })
match-counted scene config m counts new count text some on bare none is many =
    let found = some-lines m.terminator (match_bytes m) some in
    rw (none, is, many, found.2)
    (lines-counted scene config m.line_number 0 m.offset found.0 found.1 counts on bare)
