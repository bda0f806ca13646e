-- The text of some lines, by the place of each in all of them.
use Rattle.std.proofs.Common.{◌≡◌, ◌∙◌, ℕ, ◌+◌, List, [], ◌∷◌, ◌++◌, Option, Some, None, ap, ap₂, append_assoc, arith}
use Rattle.std.proofs.Common.{length, length-append, refl, sym, take}
use Rattle.std.proofs.Math.Seq.{take-append_seam}
use Rattle.std.proofs.lemmas.List.{append-nil}
use Rattle.std.proofs.lemmas.List.Folds.{concat-append}
use Rattle.std.specs.List.{concat, enumerate_from, flat_map}
use Rattle.grep_printer.specs.LinePlaces.{IsWordNumber, LinesArePlaced, PlainLinesAreNumbered, place_past}
use Rattle.grep_printer.specs.LineTexts.{line_text, lines_text, next_number, number_after, place_after, plain_line}
use Rattle.grep_printer.specs.LineTexts.{plain_lines}
use Rattle.grep_printer.specs.declared.fields.Layout.{Layout}
use Rattle.grep_printer.specs.declared.fields.LineKind.{LineKind}
use Rattle.grep_printer.specs.declared.fields.Place.{Place}

-- the number of the first line, and the one after that of a line
number-first : (number : Option ℕ) → IsWordNumber number → number_after number 0 ≡ number
number-first None small = refl
number-first (Some n) small = ap Some (omega (arith, small))

number-more : (number : Option ℕ) (count : ℕ)
    → next_number (number_after number count) ≡ number_after number (count + 1)
number-more None count = refl
number-more (Some n) count = ap Some (omega arith)

-- the lines after so many
plain-from : (terminator mark : ℕ) (number : Option ℕ) (count : ℕ) (ls : List (List ℕ))
    → plain_lines terminator mark (number_after number count) ls
    ≡ flat_map (λ line. plain_line terminator mark (number_after number line.0) line.1) (enumerate_from count ls)
plain-from terminator mark number count [] = refl
plain-from terminator mark number count (line ∷ later) =
    ap (λ text. plain_line terminator mark (number_after number count) line ++ text)
    (ap (λ n. plain_lines terminator mark n later) (number-more number count)
    ∙ plain-from terminator mark number (count + 1) later)

pub plain-lines-numbered : PlainLinesAreNumbered
plain-lines-numbered terminator mark number ls small =
    ap (λ n. plain_lines terminator mark n ls) (sym (number-first number small)) ∙ plain-from terminator mark number 0 ls

-- the bytes of one line more
bytes-more : (before : List (List ℕ)) (line : List ℕ)
    → length (concat (before ++ line ∷ [])) ≡ length (concat before) + length line
bytes-more before line =
    ap length (concat-append before (line ∷ []) ∙ ap (λ bytes. concat before ++ bytes) (append-nil line))
    ∙ length-append (concat before) line

-- the place of the first line, and the one after that of a line
place-first : (place : Place) → IsWordNumber place.number → place_past place [] ≡ place
place-first place small =
    let offset : place.offset + 0 ≡ place.offset = omega arith in
    let start : place.start + 0 ≡ place.start = omega arith in
    rw (number-first place.number small, offset, start) refl

place-more : (place : Place) (before : List (List ℕ)) (line : List ℕ)
    → place_after (place_past place before) line ≡ place_past place (before ++ line ∷ [])
place-more place before line =
    let bytes = bytes-more before line in
    let counted : length (before ++ line ∷ []) ≡ length before + 1 = length-append before (line ∷ []) in
    let number = number-more place.number (length before) ∙ ap (number_after place.number) (sym counted) in
    let offset : place.offset + length (concat before) + length line
    ≡ place.offset + length (concat (before ++ line ∷ [])) = omega arith in
    let start : place.start + length (concat before) + length line
    ≡ place.start + length (concat (before ++ line ∷ [])) = omega arith in
    cc

module _ (layout : Layout) (kind : LineKind) (place : Place) (parts : List (ℕ × ℕ)) where
  -- the lines after some
  lines-from : (before ls : List (List ℕ)) → lines_text layout kind (place_past place before) parts ls
      ≡ flat_map (λ line. line_text layout kind (place_past place (take line.0 (before ++ ls))) parts line.1)
      (enumerate_from (length before) ls)
  lines-from before [] = refl
  lines-from before (line ∷ later) =
      let front : take (length before) (before ++ line ∷ later) ≡ before = take-append_seam before (line ∷ later) in
      let counted : length (before ++ line ∷ []) ≡ length before + 1 = length-append before (line ∷ []) in
      let rest = ap (λ next. lines_text layout kind next parts later) (place-more place before line)
      ∙ lines-from (before ++ line ∷ []) later in
      ap₂ (λ (b : List (List ℕ)) (t : List ℕ). line_text layout kind (place_past place b) parts line ++ t) (sym front)
      (rest
      ∙ (ap (λ (ls : List (List ℕ)). flat_map
      (λ l. line_text layout kind (place_past place (take l.0 ls)) parts l.1)
      (enumerate_from (length (before ++ line ∷ [])) later)) (append_assoc before (line ∷ []) later)
      ∙ ap (λ n. flat_map
      (λ l. line_text layout kind (place_past place (take l.0 (before ++ line ∷ later))) parts l.1)
      (enumerate_from n later)) counted))

pub lines-placed : LinesArePlaced
lines-placed layout kind place parts ls small =
    ap (λ first. lines_text layout kind first parts ls) (sym (place-first place small))
    ∙ lines-from layout kind place parts [] ls
