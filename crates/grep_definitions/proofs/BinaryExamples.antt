-- Where searches end at a binary byte, and what is searched of converted bytes, at some inputs, as
-- the checker computes them.
use Rattle.std.proofs.Common.{◌≡◌, ℕ, true, false, List, [], ◌∷◌, ◌++◌, Some, None, inl, inr, refl}
use Rattle.std.proofs.Common.{codes, arith, get_or}
use Rattle.grep_matcher.specs.Lines.{lines}
use Rattle.grep_report.specs.declared.binary_detection.BinaryDetection.TheVariants.{Quit, Convert}
use Rattle.grep_report.specs.declared.sink_context.SinkContextKind.TheVariants.{Before, After}
use Rattle.grep_definitions.specs.Plans.{search_plan, binary_data, Finish, Planned, Plan, Settings}
use Rattle.grep_definitions.specs.Searches.{before_quit, binary_position, stream_view, look_of}
use Rattle.grep_definitions.specs.Searches.{nowhere, in_contents, on_stream, contents_point}
use Rattle.grep_definitions.specs.Searches.{point_unless, plan_with, IsTooLong}
use Rattle.grep_definitions.specs.BuiltSettings.{default_settings}
use Rattle.grep_definitions.proofs.WorkedExamples.{has_a, begun, match_call, context_call}
use Rattle.grep_definitions.proofs.WorkedExamples.{break_call}
use Rattle.grep_definitions.specs.SinkRuns.{plan_of}

module _ (settings : Settings) (bytes : List ℕ) where
  -- the calls of whole contents as if they had no binary byte
  abbrev all_calls : List Planned
  all_calls = (search_plan settings has_a bytes).calls

  -- the plan if they are searched up to the byte 0
  abbrev quit_plan : Plan
  quit_plan = plan_with (Quit 0) (contents_point 0 bytes all_calls)
      (search_plan settings has_a bytes)

  -- the same if the byte isn't looked for among the first bytes
  abbrev quit_in_reports : Plan
  quit_in_reports = plan_with (Quit 0) (point_unless 0 all_calls None)
      (search_plan settings has_a bytes)

-- some calls, and `binary_data` after them, with the offset of the byte and the count of the search
-- that ends there
abbrev plan_to_byte : List Planned → ℕ → ℕ → Plan
plan_to_byte calls offset count =
    record {
      calls = calls ++ record { call = binary_data offset; if_false = finish_at_byte } ∷ [];
      finish = finish_at_byte;
    }
  where
    finish_at_byte : Finish
    finish_at_byte = record { count = count; binary = Some offset }

-- a text whose last byte is the byte 0
abbrev nul_at_end : List ℕ
nul_at_end = codes "a" ++ 0 ∷ []

-- the byte is among the first, so no line is searched: no report is made, and no byte counts
quit_at_first_look : quit_plan default_settings nul_at_end ≡ plan_to_byte (begun ∷ []) 1 0
quit_at_first_look = refl

-- nor does it matter that no match may be reported
quit_at_limit_zero : quit_plan (record default_settings { max_matches = Some 0 }) nul_at_end
    ≡ plan_to_byte (begun ∷ []) 1 0
quit_at_limit_zero = refl

-- a text without the byte has no such point, so its plan is as ever
quit_nowhere : quit_plan default_settings (codes "a\nb\n")
    ≡ plan_of (begun ∷ match_call 1 0 (codes "a\n") 2 ∷ []) 4
quit_nowhere = refl

-- after the first bytes only reports are looked at: a line that isn't reported may hold the byte,
-- and the search ends at the next report that does
abbrev nul_in_lines : List ℕ
nul_in_lines = codes "a\nb" ++ 0 ∷ codes "\na" ++ 0 ∷ codes "\na\n"

quit_at_report : quit_in_reports default_settings nul_in_lines
    ≡ plan_to_byte (begun ∷ match_call 1 0 (codes "a\n") 2 ∷ []) 6 6
quit_at_report = refl

-- a context line is a report
quit_at_context : quit_in_reports (record default_settings { after_context = 1 }) nul_in_lines
    ≡ plan_to_byte (begun ∷ match_call 1 0 (codes "a\n") 2 ∷ []) 3 3
quit_at_context = refl

-- the break before such a report isn't made
abbrev nul_after_break : List ℕ
nul_after_break = codes "a\nx\nx\na" ++ 0 ∷ codes "\n"

break_not_made : quit_in_reports (record default_settings { after_context = 1 }) nul_after_break
    ≡ plan_to_byte (begun ∷ match_call 1 0 (codes "a\n") 2 ∷ context_call After 2 2 (codes "x\n") 4
    ∷ []) 7 7
break_not_made = refl

-- one before a line that comes before it is
break_before_context_made : quit_in_reports (record default_settings {
  before_context = 1;
}) nul_after_break ≡ plan_to_byte
    (begun ∷ match_call 1 0 (codes "a\n") 2 ∷ break_call 9 ∷ context_call Before 3 4 (codes "x\n") 9
    ∷ []) 7 7
break_before_context_made = refl

-- what is read before the first byte at which a search ends. A line that is too long for a buffer
-- of two bytes, as it holds the byte, isn't before it
quit_before : lines 10 (before_quit (Quit 0) nul_in_lines) ≡ codes "a\n" ∷ codes "b" ∷ []
quit_before = refl

long_with_byte : IsTooLong 10 2 (get_or (lines 10 nul_in_lines) 1 [])
long_with_byte = inl (omega arith)

short_before_byte : IsTooLong 10 2 (get_or (lines 10 (before_quit (Quit 0) nul_in_lines)) 1 []) → ⊥
short_before_byte (inl long) = omega arith
short_before_byte (inr (full, unended)) = omega arith

-- a byte that is converted ends its line
converted : stream_view (Convert 0) 10 nul_in_lines ≡ codes "a\nb\n\na\n\na\n"
converted = refl

-- so there are more lines, and the offset is that of the first such byte
converted_plan : search_plan default_settings has_a (stream_view (Convert 0) 10 nul_in_lines)
    ≡ plan_of
    (begun ∷ match_call 1 0 (codes "a\n") 2 ∷ match_call 4 5 (codes "a\n") 7
    ∷ match_call 6 8 (codes "a\n") 10 ∷ []) 10
converted_plan = refl

converted_offset : binary_position (Convert 0) 10 nul_in_lines ≡ Some 3
converted_offset = refl

-- a byte that ends lines isn't converted, so none of them is binary
terminator_kept : binary_position (Convert 10) 10 nul_in_lines ≡ None
terminator_kept = refl

terminator_view : stream_view (Convert 10) 10 nul_in_lines ≡ nul_in_lines
terminator_view = refl

-- of bytes at which a search ends nothing is replaced
quit_view : stream_view (Quit 0) 10 nul_in_lines ≡ nul_in_lines
quit_view = refl

-- a slice that is searched as it is is looked at as contents, and only to end there
slice_quits : look_of (record default_settings {
  binary_detection = Quit 0;
}) has_a true ≡ in_contents 0
slice_quits = refl

slice_converts_nothing : look_of (record default_settings {
  binary_detection = Convert 0;
}) has_a true ≡ nowhere
slice_converts_nothing = refl

-- any other input is looked at as it is read, line by line
reader_quits : look_of (record default_settings {
  binary_detection = Quit 0;
}) has_a false ≡ on_stream
reader_quits = refl

reader_converts : look_of (record default_settings {
  binary_detection = Convert 0;
}) has_a false ≡ on_stream
reader_converts = refl

-- without detection nowhere
looks_nowhere : look_of default_settings has_a false ≡ nowhere
looks_nowhere = refl
