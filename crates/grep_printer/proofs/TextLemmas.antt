-- Texts that are put together line after line.
use Rattle.std.proofs.Common.{◌≡◌, ℕ, ◌+◌, ◌<◌, ◌≤◌, ◌^◌, List, [], ◌∷◌, ◌++◌, length, refl, sym, ap, ◌∙◌, arith}
use Rattle.std.proofs.Common.{ap₂, append_assoc, subst, None, Option}
use Rattle.std.proofs.lemmas.List.{length-append}
use Rattle.std.proofs.lemmas.Bool.{and_parts}
use Rattle.std.proofs.lemmas.List.Sums.{sum_by-cons}
use Rattle.std.proofs.lemmas.Bool.Decides.{nat_tests}
use Rattle.std.specs.List.{concat, count_by}
use Rattle.std.specs.Prelude.{Bool, cond, true, false, ◌&&◌, if◌then◌else◌, nat_le, nat_lt}
use Rattle.grep_matcher.proofs.LineLemmas.{lines-joined}
use Rattle.grep_searcher.specs.Lines.{lines, strip}
use Rattle.grep_matcher.specs.Lines.{byte_of}
use Rattle.grep_printer.proofs.ColorLemmas.{painted-after, reaches-after}
use Rattle.grep_printer.proofs.PartTextLemmas.{ordered-after}
use Rattle.grep_printer.specs.ColoredTexts.{highlight_color, matched_color}
use Rattle.grep_printer.specs.LineTexts.{begins_after, end_byte, fields, highlight_of}
use Rattle.grep_printer.specs.LineTexts.{indentation, is_long, is_touching}
use Rattle.grep_printer.specs.LineTexts.{line_text, lines_text, long_text, missing_end, more_notice, notice}
use Rattle.grep_printer.specs.LineTexts.{painted_line, place_after, preview_text, previewed, shown_line, trimmed}
use Rattle.grep_replace.specs.MatchedParts.{AreInOrder, parts_after}
use Rattle.grep_printer.specs.declared.fields.Layout.{Layout}
use Rattle.grep_printer.specs.declared.fields.LineKind.{LineKind}
use Rattle.grep_printer.specs.declared.fields.LineKind.TheVariants.{Context, Match}
use Rattle.grep_printer.specs.declared.fields.Place.{Place}

abbrev one_if : Bool → ℕ
one_if b = cond b 1 0

-- a test that fails for each part that starts before a position and ends by it
record IsLater (position : ℕ) (test : ℕ × ℕ → Bool) : Type 0 where
  fails : (part : ℕ × ℕ) → nat_lt part.0 position ≡ true → nat_le part.1 position ≡ true → test part ≡ false

-- the parts that end by a position don't count under such a test
counted-after : (position : ℕ) (test : ℕ × ℕ → Bool) (parts : List (ℕ × ℕ)) → IsLater position test
    → count_by test (parts_after position parts) ≡ count_by test parts
counted-after position test [] later = refl
counted-after position test (part ∷ parts) later =
    go (nat_lt part.0 position && nat_le part.1 position) refl (counted-after position test parts later)
  where
    go : (passed : Bool) → (nat_lt part.0 position && nat_le part.1 position) ≡ passed
        → count_by test (parts_after position parts) ≡ count_by test parts
        → count_by test (if passed then parts_after position parts else part ∷ parts) ≡ count_by test (part ∷ parts)
    go true passed others =
        let both = and_parts (nat_lt part.0 position) (nat_le part.1 position) passed in
        let apart : test part ≡ false = later.fails part both.0 both.1 in
        let cons : count_by test (part ∷ parts) ≡ one_if (test part) + count_by test parts =
        sum_by-cons (λ p. one_if (test p)) part parts in
        let none = ap one_if apart in
        others ∙ omega (arith, cons, none)
    go false kept others = refl

-- such are whether a part is in a line from there on, and whether it begins there
touching-later : (position start end : ℕ) → position ≤ start → IsLater position (is_touching start end)
touching-later position start end less =
    record { fails = λ part starts ends. grind (arith, nat_tests, starts, ends, less) }

beginning-later : (position start end : ℕ) → position ≤ start → IsLater position (begins_after start end)
beginning-later position start end less =
    record { fails = λ part starts ends. grind (arith, nat_tests, starts, ends, less) }

module _ (layout : Layout) (kind : LineKind) where
  -- the parts that end by a position don't show in a line from there on
  painted-later : (highlight : Option (List ℕ)) (position start : ℕ) (parts : List (ℕ × ℕ))
      (line : List ℕ) → position ≤ start
      → painted_line layout highlight (parts_after position parts) start line
      ≡ painted_line layout highlight parts start line
  painted-later highlight position start parts line less = painted-after (matched_color layout.config.color_specs) highlight position
      (start + length (strip layout.terminator line)) start parts line less

  preview-later : (highlight : Option (List ℕ)) (position start : ℕ) (parts : List (ℕ × ℕ))
      (line : List ℕ) → position ≤ start
      → preview_text layout highlight (parts_after position parts) start line
      ≡ preview_text layout highlight parts start line
  unfolding preview_text
  preview-later highlight position start parts line less =
      let first = previewed layout line in
      let end = start + length line in
      let next = start + length first in
      ap (λ (t : List ℕ). t ++ more_notice (count_by (is_touching start end) (parts_after position parts))
      (count_by (begins_after next end) (parts_after position parts)))
      (painted-later highlight position start parts first less)
      ∙ ap₂ (λ all later. painted_line layout highlight parts start first ++ more_notice all later)
      (counted-after position (is_touching start end) parts (touching-later position start end less))
      (counted-after position (begins_after next end) parts
      (beginning-later position next end (omega (arith, less))))

  -- nor in its highlight
  highlight-later : (k : LineKind) (place : Place) (position : ℕ) (parts : List (ℕ × ℕ)) → position ≤ place.start
      → highlight_of layout k place (parts_after position parts) ≡ highlight_of layout k place parts
  highlight-later Match place position parts less =
      ap (λ b. if b then highlight_color layout.config.color_specs else None)
      (reaches-after position place.start parts less)
  highlight-later Context place position parts less = refl

  long-later : (place : Place) (position : ℕ) (parts : List (ℕ × ℕ)) (line : List ℕ) → position ≤ place.start
      → long_text layout kind place (parts_after position parts) line ≡ long_text layout kind place parts line
  unfolding long_text
  long-later place position parts line less =
      let after = parts_after position parts in
      let start = place.start + indentation layout line in
      ap₂ (λ (t : List ℕ) n. if layout.config.max_columns_preview then t
      else notice kind (if layout.config.only_matching then 0 else n))
      (ap (λ highlight. preview_text layout highlight after start (trimmed layout line))
      (highlight-later kind place position parts less)
      ∙ preview-later (highlight_of layout kind place parts) position start parts (trimmed layout line)
      (omega (arith, less)))
      (counted-after position (is_touching place.start (place.start + length line)) parts
      (touching-later position place.start (place.start + length line) less))

  line-after : (place : Place) (position : ℕ) (parts : List (ℕ × ℕ)) (line : List ℕ) → position ≤ place.start
      → line_text layout kind place (parts_after position parts) line ≡ line_text layout kind place parts line
  unfolding shown_line
  line-after place position parts line less =
      let shown = trimmed layout line in
      let after = parts_after position parts in
      let start = place.start + indentation layout line in
      ap₂ (λ (long t : List ℕ). fields layout kind place
      ++ (if is_long layout.config.max_columns shown then long ++ end_byte layout ∷ []
      else t ++ missing_end (end_byte layout) shown))
      (long-later place position parts line less)
      (ap (λ highlight. painted_line layout highlight after start shown) (highlight-later kind place position parts less)
      ∙ painted-later (highlight_of layout kind place parts) position start parts shown (omega (arith, less)))

  -- nor in the lines from there on
  lines-after : (place : Place) (position : ℕ) (parts : List (ℕ × ℕ)) (left : List (List ℕ)) → position ≤ place.start
      → lines_text layout kind place (parts_after position parts) left ≡ lines_text layout kind place parts left
  lines-after place position parts [] less = refl
  lines-after place position parts (line ∷ later) less =
      ap (λ (t : List ℕ). t ++ lines_text layout kind (place_after place line) (parts_after position parts) later)
      (line-after place position parts line less)
      ∙ ap (λ (t : List ℕ). line_text layout kind place parts line ++ t)
      (lines-after (place_after place line) position parts later (omega (arith, less)))

  -- of the lines of a match some are pushed, and these are left, the first of them at a place, and these parts
  pub record IsPushing (whole text : List ℕ) (place : Place) (left : List (List ℕ)) (rest : List (ℕ × ℕ))
      : Type 0 where
    pub pushed : text ++ lines_text layout kind place rest left ≡ whole
    pub fits : place.offset + length (concat left) < 2 ^ 64
    pub starts : place.start ≤ place.offset
    pub ordered : AreInOrder 0 (2 ^ 64) rest

  -- none is pushed yet
  pub pushing-none : (text : List ℕ) (place : Place) (parts : List (ℕ × ℕ)) (bytes : List ℕ) (left : List (List ℕ))
      → left ≡ lines (byte_of layout.terminator) bytes → place.offset + length bytes < 2 ^ 64
      → place.start ≤ place.offset → AreInOrder 0 (2 ^ 64) parts
      → IsPushing (text ++ lines_text layout kind place parts (lines (byte_of layout.terminator) bytes))
      text place left parts
  pushing-none text place parts bytes left same fits starts ordered = record {
    pushed = ap (λ all. text ++ lines_text layout kind place parts all) same;
    fits = subst (λ n. place.offset + n < 2 ^ 64)
        (sym (ap (λ all. length (concat all)) same
        ∙ ap length (lines-joined (byte_of layout.terminator) bytes))) fits;
    starts = starts;
    ordered = ordered;
  }

  -- one more line
  pub pushing-more : (whole text : List ℕ) (place : Place) (left : List (List ℕ)) (rest : List (ℕ × ℕ)) (line : List ℕ)
      (later : List (List ℕ)) (new : List ℕ) → IsPushing whole text place left rest → left ≡ line ∷ later
      → new ≡ text ++ line_text layout kind place (parts_after place.start rest) line
      → IsPushing whole new (place_after place line) later (parts_after place.start rest)
  pushing-more whole text place left rest line later new pushing is pushed =
      let after = parts_after place.start rest in
      let one = line_text layout kind place after line in
      let others = lines_text layout kind (place_after place line) after later in
      let fits = pushing.fits in
      let starts = pushing.starts in
      let joined = ap (λ all. length (concat all)) is ∙ length-append line (concat later) in
      record {
        pushed = ap (λ (t : List ℕ). t ++ others) pushed ∙ (append_assoc text one others
            ∙ (ap (λ (t : List ℕ). text ++ t) (lines-after place place.start rest (line ∷ later) (omega arith))
            ∙ (ap (λ all. text ++ lines_text layout kind place rest all) (sym is) ∙ pushing.pushed)));
        fits = omega (arith, fits, joined);
        starts = omega (arith, starts);
        ordered = ordered-after rest place.start 0 (2 ^ 64) pushing.ordered;
      }
