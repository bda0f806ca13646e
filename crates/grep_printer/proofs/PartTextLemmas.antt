-- The texts of the parts of a report, pushed one after another.
use Rattle.std.proofs.Common.{◌≡◌, ℕ, ◌+◌, ◌≤◌, List, [], ◌∷◌, ◌++◌, length, arith, ap, sym, ◌∙◌, subst, append_assoc}
use Rattle.std.proofs.Common.{◌⊎◌, inl, inr, Bool, true, false, refl, Option, take}
use Rattle.std.proofs.lemmas.List.{append-nil, length-append, length-take}
use Rattle.std.proofs.lemmas.Bool.{and_parts}
use Rattle.std.proofs.lemmas.Bool.Decides.{nat_tests}
use Rattle.std.specs.List.{concat, ends_with, flat_map}
use Rattle.std.specs.Prelude.{nat_eq, nat_le, nat_lt, if◌then◌else◌, ◌-◌, ◌<◌, ◌&&◌}
use Rattle.grep_matcher.proofs.LineLemmas.{lines-joined}
use Rattle.grep_matcher.specs.Lines.{byte_of, bytes_of}
use Rattle.grep_matcher.specs.declared.line_terminator.LineTerminator.{LineTerminator}
use Rattle.grep_searcher.specs.Lines.{lines, strip}
use Rattle.grep_replace.proofs.FoundPartLemmas.{ordered-from}
use Rattle.grep_replace.specs.MatchedParts.{AreInOrder, parts_after}
use Rattle.grep_printer.specs.PartTexts.{across_text, clipped_text, is_in_span, line_span}
use Rattle.grep_printer.specs.LineTexts.{next_number}
use Rattle.grep_printer.specs.declared.fields.Layout.{Layout}
use Rattle.grep_printer.specs.declared.fields.LineKind.{LineKind}
use Rattle.grep_printer.specs.declared.reports.Span.{Span}

-- of some parts the texts are pushed, and these are left
pub record IsWriting (f : ℕ × ℕ → List ℕ) (high : ℕ) (start : List ℕ) (all : List (ℕ × ℕ)) (text : List ℕ)
    (rest : List (ℕ × ℕ)) : Type 0 where
  pub pushed : text ++ flat_map f rest ≡ start ++ flat_map f all
  pub ordered : AreInOrder 0 high rest

module _ (f : ℕ × ℕ → List ℕ) (high : ℕ) (start : List ℕ) (all : List (ℕ × ℕ)) where
  -- one more is pushed
  pub writing-more : (text : List ℕ) (rest : List (ℕ × ℕ)) (part : ℕ × ℕ) (later : List (ℕ × ℕ)) (new : List ℕ)
      → IsWriting f high start all text rest → rest ≡ part ∷ later → new ≡ text ++ f part
      → IsWriting f high start all new later
  writing-more text rest part later new writing is pushed =
      let ordered = subst (AreInOrder 0 high) is writing.ordered in
      record {
        pushed = ap (λ (t : List ℕ). t ++ flat_map f later) pushed ∙ (append_assoc text (f part) (flat_map f later)
            ∙ (ap (λ (ps : List (ℕ × ℕ)). text ++ flat_map f ps) (sym is) ∙ writing.pushed));
        ordered = ordered-from later part.1 0 high (omega arith) ordered.3;
      }

  -- what is left has no text
  pub writing-done : (text : List ℕ) (rest : List (ℕ × ℕ)) → IsWriting f high start all text rest
      → flat_map f rest ≡ [] → text ≡ start ++ flat_map f all
  writing-done text rest writing none =
      sym (append-nil text) ∙ (ap (λ (t : List ℕ). text ++ t) (sym none) ∙ writing.pushed)

-- an end of parts is in order too
pub ordered-after : (parts : List (ℕ × ℕ)) (position low high : ℕ) → AreInOrder low high parts
    → AreInOrder 0 high (parts_after position parts)
ordered-after [] position low high ordered = tt
ordered-after (part ∷ later) position low high ordered =
    go (nat_lt part.0 position && nat_le part.1 position) (ordered-after later position part.1 high ordered.3)
  where
    go : (passed : Bool) → AreInOrder 0 high (parts_after position later)
        → AreInOrder 0 high (if passed then parts_after position later else part ∷ later)
    go true others = others
    go false others = (omega arith, ordered.1, ordered.2, ordered.3)

-- a line without its terminator is no longer
pub strip-within : (terminator : LineTerminator) (line : List ℕ) → length (strip terminator line) ≤ length line
strip-within terminator line = go (ends_with nat_eq line (bytes_of terminator))
  where
    go : (ends : Bool)
        → length (if ends then take (length line - length (bytes_of terminator)) line else line) ≤ length line
    go true = omega (arith, length-take (length line - length (bytes_of terminator)) line)
    go false = omega arith

module _ (layout : Layout) (kind : LineKind) (offset : ℕ) (bytes : List ℕ) where
  -- a part isn't in a line that ends before the part starts, or that starts after it
  in-none : (span : Span) (part : ℕ × ℕ) → span.end ≤ span.next
      → (span.next ≤ part.0) ⊎ ((part.0 < span.start) × (part.1 ≤ span.start)) → is_in_span span part ≡ false
  in-none span part stripped (inl before) = grind (arith, nat_tests)
  in-none span part stripped (inr (starts, ends)) = grind (arith, nat_tests)

  clipped-empty : (number : Option ℕ) (span : Span) (part : ℕ × ℕ) → is_in_span span part ≡ false
      → clipped_text layout kind offset bytes number span part ≡ []
  clipped-empty number span part none = rw none refl

  -- no part is in a line that ends before the parts start
  pub clipped-none : (number : Option ℕ) (span : Span) (parts : List (ℕ × ℕ)) (low high : ℕ) → span.end ≤ span.next
      → AreInOrder low high parts → span.next ≤ low
      → flat_map (clipped_text layout kind offset bytes number span) parts ≡ []
  clipped-none number span [] low high stripped ordered before = refl
  clipped-none number span (part ∷ later) low high stripped ordered before =
      let first = clipped-empty number span part
      (in-none span part stripped (inl (omega (arith, ordered.0, before)))) in
      let others = clipped-none number span later part.1 high stripped ordered.3
      (omega (arith, ordered.0, ordered.1, before)) in
      ap (λ (t : List ℕ). t ++ flat_map (clipped_text layout kind offset bytes number span) later) first ∙ others

  -- the parts that end before a line don't count
  clipped-after : (number : Option ℕ) (span : Span) (position : ℕ) (parts : List (ℕ × ℕ)) → span.end ≤ span.next
      → position ≤ span.start
      → flat_map (clipped_text layout kind offset bytes number span) (parts_after position parts)
      ≡ flat_map (clipped_text layout kind offset bytes number span) parts
  clipped-after number span position [] stripped less = refl
  clipped-after number span position (part ∷ later) stripped less =
      go (nat_lt part.0 position && nat_le part.1 position) refl (clipped-after number span position later stripped less)
    where
      go : (passed : Bool) → (nat_lt part.0 position && nat_le part.1 position) ≡ passed
          → flat_map (clipped_text layout kind offset bytes number span) (parts_after position later)
          ≡ flat_map (clipped_text layout kind offset bytes number span) later
          → flat_map (clipped_text layout kind offset bytes number span)
          (if passed then parts_after position later else part ∷ later)
          ≡ flat_map (clipped_text layout kind offset bytes number span) (part ∷ later)
      go true passed others =
          let both = and_parts (nat_lt part.0 position) (nat_le part.1 position) passed in
          let starts : part.0 < position = grind (arith, nat_tests, both) in
          let ends : part.1 ≤ position = grind (arith, nat_tests, both) in
          let first = clipped-empty number span part (in-none span part stripped
          (inr (omega (arith, starts, less), omega (arith, ends, less)))) in
          others ∙ sym (ap (λ (t : List ℕ). t ++ flat_map (clipped_text layout kind offset bytes number span) later)
          first)
      go false kept others = refl

  -- nor do they in the lines from a position on
  across-after : (number : Option ℕ) (start position : ℕ) (left : List (List ℕ)) (parts : List (ℕ × ℕ))
      → position ≤ start
      → across_text layout kind offset bytes number start left (parts_after position parts)
      ≡ across_text layout kind offset bytes number start left parts
  across-after number start position [] parts less = refl
  across-after number start position (line ∷ later) parts less =
      let span = line_span layout.terminator start line in
      let shorter = strip-within layout.terminator line in
      let first = clipped-after number span position parts (omega (arith, shorter)) less in
      let others = across-after (next_number number) (start + length line) position later parts (omega arith) in
      ap (λ (t : List ℕ). t ++ across_text layout kind offset bytes (next_number number) (start + length line) later
      (parts_after position parts)) first
      ∙ ap (λ (t : List ℕ). flat_map (clipped_text layout kind offset bytes number span) parts ++ t) others

  -- of some lines what the parts have in them is pushed, and these are left, the first of them with a number and
  -- a start; these parts are left
  pub record IsCrossing (whole text : List ℕ) (number : Option ℕ) (start : ℕ) (left : List (List ℕ))
      (rest : List (ℕ × ℕ)) : Type 0 where
    pub pushed : text ++ across_text layout kind offset bytes number start left rest ≡ whole
    pub fits : start + length (concat left) ≡ length bytes
    pub ordered : AreInOrder 0 (length bytes) rest

  -- none is pushed yet
  pub crossing-none : (text : List ℕ) (number : Option ℕ) (left : List (List ℕ)) (parts : List (ℕ × ℕ))
      → left ≡ lines (byte_of layout.terminator) bytes → AreInOrder 0 (length bytes) parts
      → IsCrossing (text ++ across_text layout kind offset bytes number 0
      (lines (byte_of layout.terminator) bytes) parts) text number 0 left parts
  crossing-none text number left parts same ordered = record {
    pushed = ap (λ (ls : List (List ℕ)). text ++ across_text layout kind offset bytes number 0 ls parts) same;
    fits =
        let joined = ap (λ (ls : List (List ℕ)). length (concat ls)) same
        ∙ ap length (lines-joined (byte_of layout.terminator) bytes) in
        omega (arith, joined);
    ordered = ordered;
  }

  -- the next line lies in the bytes
  pub crossing-within : (whole text : List ℕ) (number : Option ℕ) (start : ℕ) (left : List (List ℕ))
      (rest : List (ℕ × ℕ)) (line : List ℕ) (later : List (List ℕ))
      → IsCrossing whole text number start left rest → left ≡ line ∷ later
      → (start + length line) + length (concat later) ≡ length bytes
  crossing-within whole text number start left rest line later crossing is =
      let fits = crossing.fits in
      let joined = ap (λ (ls : List (List ℕ)). length (concat ls)) is ∙ length-append line (concat later) in
      omega (arith, fits, joined)

  -- one more line
  pub crossing-more : (whole text : List ℕ) (number : Option ℕ) (start : ℕ) (left : List (List ℕ))
      (rest : List (ℕ × ℕ)) (line : List ℕ) (later : List (List ℕ)) (new : List ℕ)
      → IsCrossing whole text number start left rest → left ≡ line ∷ later
      → new ≡ text ++ flat_map (clipped_text layout kind offset bytes number
      (line_span layout.terminator start line)) (parts_after start rest)
      → IsCrossing whole new (next_number number) (start + length line) later (parts_after start rest)
  crossing-more whole text number start left rest line later new crossing is pushed =
      let clipped = flat_map (clipped_text layout kind offset bytes number
      (line_span layout.terminator start line)) (parts_after start rest) in
      let others = across_text layout kind offset bytes (next_number number) (start + length line) later
      (parts_after start rest) in
      record {
        pushed = ap (λ (t : List ℕ). t ++ others) pushed ∙ (append_assoc text clipped others
            ∙ (ap (λ (t : List ℕ). text ++ t) (across-after number start start (line ∷ later) rest (omega arith))
            ∙ (ap (λ (ls : List (List ℕ)). text ++ across_text layout kind offset bytes number start ls rest) (sym is)
            ∙ crossing.pushed)));
        fits = crossing-within whole text number start left rest line later crossing is;
        ordered = ordered-after rest start 0 (length bytes) crossing.ordered;
      }
