-- Lines that are written as they are.
use Rattle.std.proofs.Common.{◌≡◌, ◌∙◌, ℕ, ◌+◌, ◌<◌, List, [], ◌∷◌, ◌++◌, ap, arith, length}
use Rattle.std.proofs.Common.{⊎_elim, ◌≤◌, ap₂, append_assoc, refl, sym}
use Rattle.std.proofs.lemmas.Bool.{and_parts, cases_eq, eq-eqb, not-true}
use Rattle.std.proofs.lemmas.Bool.Decides.{nat_tests}
use Rattle.std.proofs.lemmas.List.{append-nil}
use Rattle.std.proofs.lemmas.List.Sums.{sum_by-cons}
use Rattle.std.specs.List.{count_by, flat_map}
use Rattle.std.specs.Option.{is_none}
use Rattle.std.specs.Prelude.{Bool, false, true, ◌||◌, if◌then◌else◌}
use Rattle.std.specs.Prelude.{cond, max, min, nat_lt, not, Option, None, Some, slice_range}
use Rattle.grep_matcher.proofs.LineLemmas.{lines-end, lines-inner}
use Rattle.grep_matcher.specs.Lines.{lines, onto_first}
use Rattle.grep_searcher.specs.Lines.{strip}
use Rattle.grep_replace.specs.MatchedParts.{AreInOrder, ends_after}
use Rattle.grep_printer.specs.ColoredTexts.{line_color, matched_color, path_color}
use Rattle.grep_printer.specs.Hyperlinks.{prefix_link, shown_path}
use Rattle.grep_printer.specs.LineTexts.{end_byte, is_plain, line_text, lines_text, mark_after, mark_byte, missing_end}
use Rattle.grep_printer.specs.LineTexts.{next_number, number_field, place_after, text_field}
use Rattle.grep_printer.specs.LineTexts.{plain_line, plain_lines, plain_part, shown_line}
use Rattle.grep_printer.specs.Reports.{HasPlainParts, call_of, report_place, reporting_call, surroundings_of}
use Rattle.grep_printer.specs.StandardTexts.{report_text}
use Rattle.grep_printer.specs.PartTexts.{across_text, clipped_text, is_in_span, line_span, part_place, writes_parts}
use Rattle.grep_printer.specs.declared.config.Config.{Config}
use Rattle.grep_printer.specs.declared.fields.Layout.{Layout}
use Rattle.grep_printer.specs.declared.hyperlinks.PrinterPath.{PrinterPath}
use Rattle.grep_printer.specs.declared.fields.LineKind.{LineKind}
use Rattle.grep_printer.specs.declared.fields.LineKind.TheVariants.{Match as match_line, Context as context_line}
use Rattle.grep_printer.specs.declared.fields.Place.{Place}
use Rattle.grep_printer.specs.declared.report.Report.{Report}
use Rattle.grep_searcher.specs.declared.SinkContextKind.{SinkContextKind}
use Rattle.grep_printer.specs.declared.report.ReportKind.TheVariants.{Match, Context}
use native.Mathlib.Numerals.{unary_clauses}

module _ (t : ℕ) where
  -- a line with the terminator at its end
  abbrev ended : List ℕ → List ℕ
  ended line = line ++ missing_end t line

  -- a byte in front of others leaves what is missing at the end
  missing-more : (b c : ℕ) (bytes : List ℕ) → missing_end t (b ∷ c ∷ bytes) ≡ missing_end t (c ∷ bytes)
  missing-more b c bytes = simp unary_clauses refl

  missing-none : missing_end t (t ∷ []) ≡ []
  missing-none = let same = eq-eqb t t refl in simp same refl

  -- the first line of some bytes, and that all lines are those bytes, with the terminator at the end
  pub record AreEnded (b : ℕ) (bytes : List ℕ) : Type 0 where
    pub byte : ℕ
    pub line : List ℕ
    pub later : List (List ℕ)
    pub is : lines t (b ∷ bytes) ≡ (byte ∷ line) ∷ later
    pub whole : flat_map ended ((byte ∷ line) ∷ later) ≡ ended (b ∷ bytes)

  only : (b : ℕ) → lines t (b ∷ []) ≡ (b ∷ []) ∷ [] → AreEnded b []
  only b is = record { byte = b; line = []; later = []; is = is; whole = append-nil (ended (b ∷ [])) }

  pub all-ended : (b : ℕ) (bytes : List ℕ) → AreEnded b bytes
  all-ended b [] =
      ⊎_elim (λ same. only b (lines-end t b [] same)) (λ other. only b (lines-inner t b [] other)) (cases_eq b t)
  all-ended b (c ∷ bytes) = more (all-ended c bytes)
    where
      after : (text : List ℕ) → text ≡ ended (c ∷ bytes) → b ∷ text ≡ ended (b ∷ c ∷ bytes)
      after text same = ap (λ (xs : List ℕ). b ∷ xs) same
          ∙ ap (λ (end : List ℕ). (b ∷ c ∷ bytes) ++ end) (sym (missing-more b c bytes))

      more : AreEnded c bytes → AreEnded b (c ∷ bytes)
      more rest =
          ⊎_elim
          (λ same. record {
            byte = b;
            line = [];
            later = (rest.byte ∷ rest.line) ∷ rest.later;
            is = lines-end t b (c ∷ bytes) same ∙ ap (λ ls. (b ∷ []) ∷ ls) rest.is;
            whole = ap (λ (end : List ℕ). (b ∷ end) ++ flat_map ended ((rest.byte ∷ rest.line) ∷ rest.later))
                (ap (λ x. missing_end t (x ∷ [])) same ∙ missing-none)
                ∙ after (flat_map ended ((rest.byte ∷ rest.line) ∷ rest.later)) rest.whole;
          })
          (λ other. record {
            byte = b;
            line = rest.byte ∷ rest.line;
            later = rest.later;
            is = lines-inner t b (c ∷ bytes) other ∙ ap (onto_first b) rest.is;
            whole = ap (λ (end : List ℕ). ((b ∷ rest.byte ∷ rest.line) ++ end) ++ flat_map ended rest.later)
                (missing-more b rest.byte rest.line)
                ∙ after (ended (rest.byte ∷ rest.line) ++ flat_map ended rest.later) rest.whole;
          })
          (cases_eq b t)

  -- the lines of some bytes are those bytes, with the terminator at the end
  pub lines-ended : (b : ℕ) (bytes : List ℕ) → flat_map ended (lines t (b ∷ bytes)) ≡ ended (b ∷ bytes)
  lines-ended b bytes = let all = all-ended b bytes in ap (flat_map ended) all.is ∙ all.whole

-- lines without numbers
lines-unnumbered : (t mark : ℕ) (ls : List (List ℕ)) → plain_lines t mark None ls ≡ flat_map (ended t) ls
lines-unnumbered t mark [] = refl
lines-unnumbered t mark (line ∷ later) =
    ap (λ (rest : List ℕ). ended t line ++ rest) (lines-unnumbered t mark later)

-- lines without numbers are their bytes, with the terminator at the end
pub lines-as-one : (t mark : ℕ) (bytes : List ℕ) → 0 < length bytes
    → plain_lines t mark None (lines t bytes) ≡ plain_line t mark None bytes
lines-as-one t mark [] some = absurd (omega (arith, some))
lines-as-one t mark (b ∷ bytes) some =
    lines-unnumbered t mark (lines t (b ∷ bytes)) ∙ lines-ended t b bytes

module _ (t mark : ℕ) (whole : List ℕ) where
  -- some lines are pushed, and these are left
  pub record ArePushed (text : List ℕ) (number : Option ℕ) (left : List (List ℕ)) : Type 0 where
    pub pushed : text ++ plain_lines t mark number left ≡ whole

  -- the next one is pushed
  pub pushed-line : (text : List ℕ) (number : Option ℕ) (left : List (List ℕ)) (line : List ℕ)
      (later : List (List ℕ)) → ArePushed text number left → left ≡ line ∷ later
      → ArePushed (text ++ plain_line t mark number line) (next_number number) later
  pushed-line text number left line later are is = record {
    pushed = append_assoc text (plain_line t mark number line) (plain_lines t mark (next_number number) later)
        ∙ (ap (λ ls. text ++ plain_lines t mark number ls) (sym is) ∙ are.pushed);
  }

pub none-is : {X : Type 0} → (o : Option X) → is_none o ≡ true → o ≡ None
none-is None none = refl
none-is (Some x) none = absurd cc

path-none : (heading : Bool) (color : Option (List ℕ)) (mark : List ℕ) (path : Option PrinterPath)
    → (heading || is_none path) ≡ true → (if heading then [] else text_field color mark (shown_path path)) ≡ []
path-none true color mark path none = refl
path-none false color mark None none = refl
path-none false color mark (Some path) none = absurd cc

-- a number that isn't written
shown-none : (is_written : Bool) (number : Option ℕ) → not is_written ≡ true
    → (if is_written then number else None) ≡ None
shown-none true number none = absurd cc
shown-none false number none = refl

offset-none : (is_written : Bool) (offset : ℕ) → not is_written ≡ true
    → (if is_written then Some offset else None) ≡ None
offset-none true offset none = absurd cc
offset-none false offset none = refl

-- settings by which lines are written as they are
pub record ArePlain (config : Config) (path : Option PrinterPath) : Type 0 where
  pub paths : (config.heading || is_none path) ≡ true
  pub links : is_none (prefix_link config.heading path) ≡ true
  pub columns : not config.column ≡ true
  pub offsets : not config.byte_offset ≡ true
  pub limits : is_none config.max_columns ≡ true
  pub numbers : is_none (line_color config.color_specs) ≡ true
  pub matched : is_none (matched_color config.color_specs) ≡ true
  pub indented : not config.trim_ascii ≡ true
  pub apart : is_none config.separators ≡ true

pub are_plain : (config : Config) (path : Option PrinterPath) → is_plain config path ≡ true → ArePlain config path
are_plain config path plain =
    let y = and_parts _ (is_none config.separators) plain in
    let z = and_parts _ (not config.trim_ascii) y.0 in
    let a = and_parts _ (is_none (matched_color config.color_specs)) z.0 in
    let b = and_parts _ (is_none (line_color config.color_specs)) a.0 in
    let c = and_parts _ (is_none config.max_columns) b.0 in
    let e = and_parts _ (not config.byte_offset) c.0 in
    let f = and_parts _ (not config.column) e.0 in
    let g = and_parts (config.heading || is_none path) (is_none (prefix_link config.heading path)) f.0 in
    record {
      paths = g.0;
      links = g.1;
      columns = f.1;
      offsets = e.1;
      limits = c.1;
      numbers = b.1;
      matched = a.1;
      indented = z.1;
      apart = y.1;
    }

module _ (layout : Layout) (kind : LineKind) (plain : is_plain layout.config layout.path ≡ true) where
  -- a line that is written as it is
  pub line-plain : (place : Place) (parts : List (ℕ × ℕ)) (line : List ℕ)
      → line_text layout kind place parts line ≡ plain_line (end_byte layout) (mark_byte kind) place.number line
  unfolding shown_line
  line-plain place parts line =
      let are = are_plain layout.config layout.path plain in
      let matched = none-is (matched_color layout.config.color_specs) are.matched in
      let color = none-is (line_color layout.config.color_specs) are.numbers in
      let most = none-is layout.config.max_columns are.limits in
      let indented = not-true layout.config.trim_ascii are.indented in
      let no_path = path-none layout.config.heading (path_color layout.config.color_specs)
      (mark_after layout.config.path_terminator (mark_byte kind ∷ [])) layout.path are.paths in
      let no_link = none-is (prefix_link layout.config.heading layout.path) are.links in
      let no_column = shown-none layout.config.column place.column are.columns in
      let no_offset = offset-none layout.config.byte_offset place.offset are.offsets in
      let apart = none-is layout.config.separators are.apart in
      simp (
        apart,
        no_link,
        no_path,
        no_column,
        no_offset,
        most,
        color,
        matched,
        indented,
        append-nil (number_field None (mark_byte kind ∷ []) place.number),
      ) refl

  -- such lines
  pub lines-plain : (place : Place) (parts : List (ℕ × ℕ)) (ls : List (List ℕ))
      → lines_text layout kind place parts ls ≡ plain_lines (end_byte layout) (mark_byte kind) place.number ls
  lines-plain place parts [] = refl
  lines-plain place parts (line ∷ later) =
      ap (λ (t : List ℕ). t ++ lines_text layout kind (place_after place line) parts later)
      (line-plain place parts line)
      ∙ ap (λ (t : List ℕ). plain_line (end_byte layout) (mark_byte kind) place.number line ++ t)
      (lines-plain (place_after place line) parts later)

  -- what a part has in a line is the part, if it starts in the line and doesn't reach into its
  -- terminator
  pub part-plain : (number : Option ℕ) (offset : ℕ) (line : List ℕ) (part : ℕ × ℕ) → part.0 ≤ part.1
      → part.1 ≤ length (strip layout.terminator line) → part.0 < length line
      → clipped_text layout kind offset line number (line_span layout.terminator 0 line) part
      ≡ plain_part (end_byte layout) (mark_byte kind) number line part
  part-plain number offset line part ordered within early =
      let span = line_span layout.terminator 0 line in
      let start : max part.0 0 ≡ part.0 = omega arith in
      let end : max (max part.0 0) (min part.1 span.end) ≡ part.1 = omega (arith, ordered, within) in
      let inside : is_in_span span part ≡ true = grind (arith, nat_tests, ordered, within, early) in
      ap (λ holds. if holds then line_text layout kind
      (record (part_place offset number part) { start = max part.0 span.start }) (part ∷ [])
      (slice_range line (max part.0 span.start)
      (max (max part.0 span.start) (min part.1 span.end))) else []) inside
      ∙ (line-plain _ (part ∷ [])
      (slice_range line (max part.0 0) (max (max part.0 0) (min part.1 span.end)))
      ∙ ap₂ (λ a b. plain_line (end_byte layout) (mark_byte kind) number (slice_range line a b)) start end)

-- a report that is written so
module _ (layout : Layout) (report : Report) (parts : List (ℕ × ℕ)) (plain : is_plain layout.config layout.path ≡ true)
  where
    abbrev instead : List ℕ → List ℕ → Bool → List ℕ
    instead in_parts in_lines by_parts = if by_parts then in_parts else in_lines

    -- a match of which no parts are written
    pub match-plain : writes_parts layout parts ≡ false
        → report_text layout (reporting_call Match report.number report.offset report.bytes.now
        (surroundings_of report)) parts
        ≡ plain_lines (end_byte layout) 58 report.number (lines (end_byte layout) report.bytes.now)
    match-plain whole = ap (instead _ _) whole
        ∙ lines-plain layout match_line plain (report_place report parts) parts
        (lines (end_byte layout) report.bytes.now)

    -- a line that isn't a match, so too
    pub context-plain : writes_parts layout parts ≡ false → (kind : SinkContextKind)
        → report_text layout (reporting_call (Context kind) report.number report.offset report.bytes.now
        (surroundings_of report)) parts
        ≡ plain_line (end_byte layout) 45 report.number report.bytes.now
    context-plain whole kind = ap (instead _ _) whole
        ∙ line-plain layout context_line plain (report_place report parts) parts report.bytes.now

    -- such parts
    parts-plain : (low : ℕ) (some : List (ℕ × ℕ))
        → AreInOrder low (length (strip layout.terminator report.bytes.now)) some
        → length (strip layout.terminator report.bytes.now) < length report.bytes.now
        → flat_map (clipped_text layout match_line report.offset report.bytes.now report.number
        (line_span layout.terminator 0 report.bytes.now)) some
        ≡ flat_map (plain_part (end_byte layout) 58 report.number report.bytes.now) some
    parts-plain low [] ordered ended = refl
    parts-plain low (part ∷ later) ordered ended = ap₂ (λ (xs : List ℕ) ys. xs ++ ys)
        (part-plain layout match_line plain report.number report.offset report.bytes.now part ordered.1
        ordered.2 (omega (arith, ordered.1, ordered.2, ended)))
        (parts-plain part.1 later ordered.3 ended)

    -- a match of which such parts are written
    pub match-parts-plain : writes_parts layout parts ≡ true → HasPlainParts layout.terminator report parts
        → report_text layout (call_of report) parts
        ≡ flat_map (plain_part (end_byte layout) 58 report.number report.bytes.now) parts
    match-parts-plain writes has =
        ap (λ kind. report_text layout (reporting_call kind report.number report.offset report.bytes.now
        (surroundings_of report)) parts)
        has.is_match
        ∙ (ap (instead _ _) writes
        ∙ (ap (λ ls. across_text layout match_line report.offset report.bytes.now report.number 0 ls parts) has.line
        ∙ (append-nil _ ∙ parts-plain 0 parts has.within has.ended)))

-- parts in order of which none ends after a position
pub ordered-by : (limit : ℕ) (parts : List (ℕ × ℕ)) (low high : ℕ) → AreInOrder low high parts
    → count_by (ends_after limit) parts ≡ 0 → AreInOrder low limit parts
ordered-by limit [] low high ordered none = tt
ordered-by limit (part ∷ later) low high ordered none =
    go (nat_lt limit part.1) refl (ordered-by limit later part.1 high ordered.3)
  where
    split : count_by (ends_after limit) (part ∷ later)
        ≡ cond (nat_lt limit part.1) 1 0 + count_by (ends_after limit) later
    split = sum_by-cons (λ p. cond (ends_after limit p) 1 0) part later

    go : (b : Bool) → nat_lt limit part.1 ≡ b
        → (count_by (ends_after limit) later ≡ 0 → AreInOrder part.1 limit later)
        → AreInOrder low limit (part ∷ later)
    go true over rest = absurd (omega (arith, none, split ∙ ap (λ b. cond b 1 0 + count_by (ends_after limit) later) over))
    go false within rest = (
      ordered.0,
      ordered.1,
      grind (arith, nat_tests, within),
      rest (omega (arith, none, split ∙ ap (λ b. cond b 1 0 + count_by (ends_after limit) later) within)),
    )
