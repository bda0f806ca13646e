-- The plans of searches across lines at some inputs, as the checker computes them.
use Rattle.std.proofs.Common.{◌≡◌, ℕ, ◌+◌, ◌<◌, ◌≤◌, ◌&&◌, true, false, List, [], ◌∷◌, length}
use Rattle.std.proofs.Common.{Option, Some, None, codes, refl, sym, ap, subst, ◌∙◌, arith, ⊎_elim}
use Rattle.std.proofs.Common.{if◌then◌else◌}
use Rattle.std.proofs.Math.Bool.{and-false}
use Rattle.std.proofs.lemmas.Bool.{cases_lt, le-ltb}
use Rattle.std.specs.Prelude.{nat_eq, nat_le, nat_lt, ◌==◌}
use Rattle.std.specs.List.{list_any, starts_with}
use Rattle.grep_matcher.specs.declared.line_terminator.LineTerminator.TheVariants.{Byte, Crlf}
use Rattle.grep_matcher.specs.Literals.{literal_meaning}
use Rattle.grep_matcher.specs.FindResults.{plain}
use Rattle.grep_matcher.specs.Meanings.{Meaning}
use Rattle.grep_report.specs.declared.sink_context.SinkContextKind.TheVariants.{Before, After}
use Rattle.grep_report.specs.declared.sink_context.SinkContextKind.TheVariants.{Other}
use Rattle.grep_report.specs.SinkReports.{surroundings}
use Rattle.grep_definitions.specs.Plans.{is_across, search_plan, IsAskedWith, all_matches}
use Rattle.grep_definitions.specs.Plans.{is_touched, touches, Settings, Planned, matches, planned}
use Rattle.grep_definitions.specs.BuiltSettings.{default_settings}
use Rattle.grep_definitions.proofs.WorkedExamples.{has_a, begun, match_call, context_call}
use Rattle.grep_definitions.proofs.WorkedExamples.{break_call}
use Rattle.grep_definitions.specs.SinkRuns.{plan_of}

-- the settings that let a search run across lines
abbrev wide : Settings
wide = record default_settings { multi_line = true }

-- the first occurrence of a literal in a haystack whose first byte has a position
abbrev occurrence_from : List ℕ → ℕ → List ℕ → Option (ℕ × ℕ)
occurrence_from bytes position [] = if length bytes == 0 then Some (position, position) else None
occurrence_from bytes position (b ∷ hay) =
    if starts_with nat_eq (b ∷ hay) bytes then Some (position, position + length bytes)
    else occurrence_from bytes
    (position + 1) hay

-- a matcher of a literal, which doesn't say which bytes no match contains
abbrev literal : List ℕ → Meaning
literal bytes = plain (occurrence_from bytes 0)

-- a literal with a line feed in it
abbrev two_lines : Meaning
two_lines = literal (codes "abc\ndef")

-- a matcher whose only match is the empty one at the haystack's end
abbrev at_end : Meaning
at_end = plain (λ hay. Some (length hay, length hay))

-- a match as a range of the searched bytes, with its number, its offset, its bytes and the count
abbrev match_in : List ℕ → ℕ → ℕ → List ℕ → ℕ → Planned
match_in bytes number offset line count =
    planned
    (matches (Some number) offset line (surroundings bytes offset (offset + length line))) count

-- two matches: the second begins in the line in which the first ends
abbrev input : List ℕ
input = codes "xxx\nabc\ndefxxxabc\ndefxxx\nxxx"

-- the lines that the two matches touch are one report, and each byte counts
one_report : search_plan wide two_lines input
    ≡ plan_of (begun ∷ match_in input 2 4 (codes "abc\ndefxxxabc\ndefxxx\n") 25 ∷ []) 28
one_report = refl

-- under inversion the lines that no match touches are reported, each alone
inverted_input : search_plan (record wide { invert_match = true }) two_lines input
    ≡ plan_of (begun ∷ match_in input 1 0 (codes "xxx\n") 4 ∷ match_in input 5 25 (codes "xxx") 28 ∷ []) 28
inverted_input = refl

-- there the limit is one of lines, and each byte counts also past it
inverted_to_limit : search_plan (record wide {
  invert_match = true;
  max_matches = Some 1;
}) two_lines input ≡ plan_of (begun ∷ match_in input 1 0 (codes "xxx\n") 4 ∷ []) 28
inverted_to_limit = refl

-- a line before a report of many lines has the report's count
around_report : search_plan (record wide { before_context = 1; after_context = 1 }) two_lines input
    ≡ plan_of
    (begun ∷ context_call Before 1 0 (codes "xxx\n") 25
    ∷ match_in input 2 4 (codes "abc\ndefxxxabc\ndefxxx\n") 25
    ∷ context_call After 5 25 (codes "xxx") 28 ∷ []) 28
around_report = refl

-- the limit is one of matches: the second touches a line that the first touches too, and its own
-- line is a line after; neither it nor a line that doesn't match ends the search
limit_of_matches : search_plan (record wide {
  max_matches = Some 1;
  after_context = 1;
  stop_on_nonmatch = true;
}) two_lines input ≡ plan_of
    (begun ∷ match_in input 2 4 (codes "abc\ndefxxxabc\n") 18
    ∷ context_call After 4 18 (codes "defxxx\n") 25 ∷ []) 28
limit_of_matches = refl

-- the empty literal matches before each byte, in each line
empty_literal : search_plan wide (literal []) (codes "a\nb\n")
    ≡ plan_of (begun ∷ match_in (codes "a\nb\n") 1 0 (codes "a\nb\n") 4 ∷ []) 4
empty_literal = refl

-- a match before each byte, and none at the end
empty_literal_matches : all_matches (literal []) (codes "a\nb\n") ≡ (0, 0) ∷ (1, 1) ∷ (2, 2)
    ∷ (3, 3) ∷ []
empty_literal_matches = refl

-- so under inversion no line is left
empty_literal_inverted : search_plan (record wide {
  invert_match = true;
}) (literal []) (codes "a\nb\n") ≡ plan_of (begun ∷ []) 4
empty_literal_inverted = refl

-- the first two of them are in the first line
empty_literal_to_limit : search_plan (record wide {
  max_matches = Some 2;
}) (literal []) (codes "a\nb\n") ≡ plan_of (begun ∷ match_in (codes "a\nb\n") 1 0 (codes "a\n") 2 ∷ []) 4
empty_literal_to_limit = refl

-- an empty match after the last terminator touches no line
after_last_line : search_plan (record wide {
  before_context = 1;
}) at_end (codes "a\nb\n") ≡ plan_of (begun ∷ []) 4
after_last_line = refl

-- one at the end of a line without terminator touches that line
at_end_of_open_line : search_plan (record wide { before_context = 1 }) at_end (codes "a\nb")
    ≡ plan_of (begun ∷ context_call Before 1 0 (codes "a\n") 3 ∷ match_in (codes "a\nb") 2 2 (codes "b") 3 ∷ [])
    3
at_end_of_open_line = refl

-- the second match begins where the first ends, in the same line
overlapping_lines : search_plan wide two_lines (codes "xxx\nabc\ndefabc\ndefxxx\nxxx")
    ≡ plan_of (begun ∷ match_in (codes "xxx\nabc\ndefabc\ndefxxx\nxxx") 2 4 (codes "abc\ndefabc\ndefxxx\n") 22 ∷ []) 25
overlapping_lines = refl

-- a match that ends with a terminator doesn't touch the next line, and lines that touch are one
-- report
matched_terminators : search_plan wide (literal (codes "a\n")) (codes "a\na\nb\n")
    ≡ plan_of (begun ∷ match_in (codes "a\na\nb\n") 1 0 (codes "a\na\n") 4 ∷ []) 6
matched_terminators = refl

-- a line between two reports is reported once, as the line after the first, and makes no break
apart_by_a_line : search_plan (record wide {
  before_context = 1;
  after_context = 1;
}) (literal (codes "a\na")) (codes "a\na\nx\na\na\n") ≡ plan_of
    (begun ∷ match_in (codes "a\na\nx\na\na\n") 1 0 (codes "a\na\n") 4 ∷ context_call After 3 4 (codes "x\n") 6
    ∷ match_in (codes "a\na\nx\na\na\n") 4 6 (codes "a\na\n") 10 ∷ []) 10
apart_by_a_line = refl

-- lines left out before a line before a report make a break, with the report's count
break_before_report : search_plan (record wide { before_context = 1 }) (literal (codes "a\na"))
    (codes "a\na\nx\nx\na\na\n") ≡ plan_of
    (begun ∷ match_in (codes "a\na\nx\nx\na\na\n") 1 0 (codes "a\na\n") 4 ∷ break_call 12
    ∷ context_call Before 4 6 (codes "x\n") 12 ∷ match_in (codes "a\na\nx\nx\na\na\n") 5 8 (codes "a\na\n") 12 ∷ []) 12
break_before_report = refl

-- under passthru the other lines are reported, and at limit 0 all are such lines
passthru_at_limit_zero : search_plan (record wide {
  passthru = true;
  max_matches = Some 0;
}) (literal (codes "a\nb")) (codes "a\nb\n")
    ≡ plan_of (begun ∷ context_call Other 1 0 (codes "a\n") 2
    ∷ context_call Other 2 2 (codes "b\n") 4 ∷ []) 4
passthru_at_limit_zero = refl

-- at limit 0 each byte counts
limit_zero : search_plan (record wide {
  max_matches = Some 0;
}) (literal (codes "a\nb")) (codes "a\nb\n") ≡ plan_of (begun ∷ []) 4
limit_zero = refl

-- under CRLF a match may end between the carriage return and the line feed, or with both
crlf_terminator : search_plan (record wide { line_terminator = Crlf }) (literal (codes "a\r\nb\r"))
    (codes "a\r\nb\r\nc\r\n") ≡ plan_of (begun ∷ match_in (codes "a\r\nb\r\nc\r\n") 1 0 (codes "a\r\nb\r\n") 6 ∷ []) 9
crlf_terminator = refl

-- a matcher that knows that no match contains the terminator is searched with by line
known_absent : is_across wide (literal_meaning (codes "a")) ≡ false
known_absent = refl

-- so is one that declares the terminator
declared : is_across wide (record has_a { terminator = Some (Byte 10) }) ≡ false
declared = refl

-- and not one whose literal contains the terminator
known_present : is_across wide (literal_meaning (codes "a\nb")) ≡ true
known_present = refl

-- a stop ends a search by line, and none across lines
stop_by_line : search_plan (record wide { stop_on_nonmatch = true }) (record has_a {
  terminator = Some (Byte 10);
}) (codes "a\nb\nc\n") ≡ plan_of (begun ∷ match_call 1 0 (codes "a\n") 2 ∷ []) 4
stop_by_line = refl

stop_across_lines : search_plan (record wide { stop_on_nonmatch = true }) has_a (codes "a\nb\nc\n")
    ≡ plan_of (begun ∷ match_in (codes "a\nb\nc\n") 1 0 (codes "a\n") 2 ∷ []) 6
stop_across_lines = refl

-- two matches with a line between them
abbrev one_letter : Meaning
one_letter = literal (codes "a")

-- which lines after the first they touch
touched_later : (j : ℕ) → 1 ≤ j → is_touched wide one_letter (codes "a\nx\na\n") ((0, 1) ∷ (4, 5)
    ∷ []) j ≡ (nat_le 2 j && nat_lt j 3)
touched_later j low = ⊎_elim (λ (inside : j < 3). ⊎_elim
    (λ (less : j < 2). let same : j ≡ 1 = omega arith in subst Touched (sym same) refl)
    (λ (over : 2 ≤ j). let same : j ≡ 2 = omega arith in subst Touched (sym same) refl)
    (cases_lt j 2)) (λ (past : 3 ≤ j).
    let out = le-ltb j 3 past in
    ap (λ b. b && list_any (touches wide one_letter (codes "a\nx\na\n") j) ((0, 1) ∷ (4, 5) ∷ []))
    out ∙ sym (ap (λ b. nat_le 2 j && b) out ∙ and-false (nat_le 2 j))) (cases_lt j 3)
  where
    Touched : ℕ → Type 0
    Touched j =
        is_touched wide one_letter (codes "a\nx\na\n") ((0, 1) ∷ (4, 5) ∷ []) j
        ≡ (nat_le 2 j && nat_lt j 3)

-- the matcher is asked at the line between for what comes after the second, once the first was
-- reported
asked_between : IsAskedWith wide one_letter (codes "a\nx\na\n") (codes "\n")
    (begun ∷ match_in (codes "a\nx\na\n") 1 0 (codes "a\n") 2 ∷ [])
asked_between = record {
  index = 1;
  question = record {
    question = record {
      found = (0, 1) ∷ (4, 5) ∷ [];
      question = record { later = []; all = refl; room = refl; inside = omega arith; rest = refl };
      after = λ above. refl;
      apart = λ above. refl;
      first = 2;
      last = 3;
      low = omega arith;
      some = λ any. omega arith;
      run = touched_later;
    };
    room = λ inverted. refl;
  };
  before = refl;
}
