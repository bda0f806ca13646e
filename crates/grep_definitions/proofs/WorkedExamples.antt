-- The plans of searches by line at some inputs, as the checker computes them: the calls, each with
-- the byte count if it returns false, and the whole count.
use Rattle.std.proofs.Common.{◌≡◌, ℕ, ◌+◌, true, false, not, List, [], ◌∷◌, Some, None, refl, inl}
use Rattle.std.proofs.Common.{inr, if◌then◌else◌, codes}
use Rattle.std.specs.Prelude.{nat_eq, Result, Ok}
use Rattle.std.specs.List.{list_any}
use Rattle.grep_matcher.specs.declared.line_terminator.LineTerminator.TheVariants.{Crlf}
use Rattle.grep_matcher.specs.Lines.{lines}
use Rattle.grep_matcher.specs.Meanings.{Meaning}
use Rattle.grep_report.specs.declared.sink_context.SinkContextKind.{SinkContextKind}
use Rattle.grep_report.specs.declared.sink_context.SinkContextKind.TheVariants.{Before, After}
use Rattle.grep_report.specs.declared.sink_context.SinkContextKind.TheVariants.{Other}
use Rattle.grep_definitions.specs.SinkRuns.{plan_of}
use Rattle.grep_definitions.specs.Plans.{search_plan, begins, matches, context, breaks, finishes}
use Rattle.grep_definitions.specs.Plans.{Finish, Planned, Steps, stopped, finish_result, AreMade}
use Rattle.grep_definitions.specs.Plans.{IsFinished, IsRun, counted, planned, Settings}
use Rattle.grep_definitions.specs.BuiltSettings.{default_settings}
use Rattle.grep_report.specs.SinkReports.{no_surroundings}

-- a matcher of one byte
abbrev pub has : ℕ → Meaning
has byte = record {
  first = λ hay. if list_any (λ x. nat_eq x byte) hay then Some (0, 1) else None;
  terminator = None;
  absent = λ _. false;
}

-- a matcher of the letter a
abbrev pub has_a : Meaning
has_a = has 97

-- the call that begins a search
abbrev pub begun : Planned
begun = planned begins 0

-- a match, with its number, its offset, its bytes and the count
abbrev pub match_call : ℕ → ℕ → List ℕ → ℕ → Planned
match_call number offset line count = planned (matches (Some number) offset line no_surroundings) count

-- a context line
abbrev pub context_call : SinkContextKind → ℕ → ℕ → List ℕ → ℕ → Planned
context_call kind number offset line count = planned (context kind (Some number) offset line) count

-- a break
abbrev pub break_call : ℕ → Planned
break_call count = planned breaks count

-- an empty input has no line to report, and no bytes to count
empty_input : search_plan default_settings has_a [] ≡ plan_of (begun ∷ []) 0
empty_input = refl

-- lines left out between a context line and a match make a break; each byte counts
context_break_match : search_plan (record default_settings {
  after_context = 1;
}) has_a (codes "a\nx\nx\nx\na\n") ≡ plan_of
    (begun ∷ match_call 1 0 (codes "a\n") 2 ∷ context_call After 2 2 (codes "x\n") 4 ∷ break_call 10
    ∷ match_call 5 8 (codes "a\n") 10 ∷ []) 10
context_break_match = refl

-- under inversion a line that the matcher finds ends the search: it counts, and those after it do
-- not
stop_under_inversion : search_plan (record default_settings {
  invert_match = true;
  stop_on_nonmatch = true;
}) has_a (codes "b\na\nb\n") ≡ plan_of (begun ∷ match_call 1 0 (codes "b\n") 2 ∷ []) 4
stop_under_inversion = refl

-- no line is searched if no match may be reported, and no byte counts
no_line_at_limit_zero : search_plan (record default_settings {
  invert_match = true;
  max_matches = Some 0;
}) has_a (codes "a\n") ≡ plan_of (begun ∷ []) 0
no_line_at_limit_zero = refl

-- passthru reports each line even if no match may be reported
passthru_at_limit_zero : search_plan
    (record default_settings {
      invert_match = true;
      max_matches = Some 0;
      passthru = true;
    }) has_a (codes "a\n") ≡ plan_of (begun ∷ context_call Other 1 0 (codes "a\n") 2 ∷ []) 2
passthru_at_limit_zero = refl

-- past the limit the context is reported, and a line that hits in it is a match; the context
-- counts, and the line after it does not
context_after_limit : search_plan (record default_settings {
  max_matches = Some 1;
  after_context = 2;
}) has_a (codes "a\na\nb\na\n") ≡ plan_of
    (begun ∷ match_call 1 0 (codes "a\n") 2 ∷ match_call 2 2 (codes "a\n") 4
    ∷ context_call After 3 4 (codes "b\n") 6 ∷ []) 6
context_after_limit = refl

-- under inversion lines that the matcher doesn't find hit there, and open no context of their own
inverted_after_limit : search_plan
    (record default_settings { invert_match = true; max_matches = Some 1; after_context = 3 }) has_a
    (codes "b\nb\na\nb\nb\n") ≡ plan_of
    (begun ∷ match_call 1 0 (codes "b\n") 2 ∷ match_call 2 2 (codes "b\n") 4
    ∷ context_call After 3 4 (codes "a\n") 6 ∷ match_call 4 6 (codes "b\n") 8 ∷ []) 8
inverted_after_limit = refl

-- the line that fills the limit is the last that opens a context
second_fills_limit : search_plan (record default_settings {
  max_matches = Some 2;
  after_context = 1;
}) has_a (codes "a\na\na\na\n") ≡ plan_of
    (begun ∷ match_call 1 0 (codes "a\n") 2 ∷ match_call 2 2 (codes "a\n") 4
    ∷ match_call 3 4 (codes "a\n") 6 ∷ []) 6
second_fills_limit = refl

-- there a stop takes the first line that is not chosen for the last, also of those that count
stop_after_limit : search_plan
    (record default_settings {
      max_matches = Some 1;
      after_context = 2;
      stop_on_nonmatch = true;
    }) has_a (codes "a\na\nb\na\n")
    ≡ plan_of (begun ∷ match_call 1 0 (codes "a\n") 2 ∷ match_call 2 2 (codes "a\n") 4 ∷ []) 4
stop_after_limit = refl

-- one line before each match is reported
abbrev one_line_before : Settings
one_line_before = record default_settings { before_context = 1 }

-- a line before a match has the match's count; the line after the match counts, if no call returns
-- false
before_line_counts_match : search_plan one_line_before has_a (codes "x\nx\na\nb\n")
    ≡ plan_of (begun ∷ context_call Before 2 2 (codes "x\n") 6 ∷ match_call 3 4 (codes "a\n") 6
    ∷ []) 8
before_line_counts_match = refl

-- a sink that counts its calls, and returns false at the second
abbrev second_false : Steps ℕ ℕ
second_false old k call result new = (result ≡ Ok (not (nat_eq old 1))) × (new ≡ old + 1)

-- if the call for the line before the match returns false, the count is the match's, though that
-- isn't reported
false_at_before_line : AreMade second_false one_line_before 0
    (search_plan one_line_before has_a (codes "x\nx\na\nb\n")).calls (stopped (counted 6)) 2
false_at_before_line = inl (1, (refl, refl), inr (inl (refl, (refl, refl))))

-- the finish that follows has that count, whatever the plan's own finish is
finish_at_before_line : (finish : Finish) (result : Result (Unit {0}) ℕ) (new : ℕ)
    → IsFinished second_false one_line_before (stopped (counted 6)) 2 finish result new
    ≡ second_false 2 one_line_before (finishes 6 None) (finish_result result) new
finish_at_before_line finish result new = refl

-- so the run is whole
run_to_before_line : IsRun second_false one_line_before 0
    (search_plan one_line_before has_a (codes "x\nx\na\nb\n")) (Ok tt) 3
run_to_before_line = record {
  outcome = stopped (counted 6);
  mid = 2;
  made = false_at_before_line;
  finished = (refl, refl);
}

-- a line between two matches is reported once, as the line after the first
after_meets_before : search_plan (record default_settings {
  before_context = 1;
  after_context = 1;
}) has_a (codes "a\nx\na\n") ≡ plan_of
    (begun ∷ match_call 1 0 (codes "a\n") 2 ∷ context_call After 2 2 (codes "x\n") 4
    ∷ match_call 3 4 (codes "a\n") 6 ∷ []) 6
after_meets_before = refl

-- under CRLF a carriage return alone is a byte of its line
crlf_lone_carriage_return : search_plan (record default_settings {
  line_terminator = Crlf;
}) (has 13) (codes "a\r\n\rb\r\n") ≡ plan_of (begun ∷ match_call 2 3 (codes "\rb\r\n") 7 ∷ []) 7
crlf_lone_carriage_return = refl

-- under CRLF a line feed alone ends a line, which keeps it when it is matched; lines that are not
-- reported count
crlf_lone_line_feed : search_plan (record default_settings {
  line_terminator = Crlf;
}) (has 10) (codes "a\r\nb\nc\r\n") ≡ plan_of (begun ∷ match_call 2 3 (codes "b\n") 5 ∷ []) 8
crlf_lone_line_feed = refl

-- a break comes before a line before a match, with the match's count; the line after the last
-- report counts
break_before_context : search_plan one_line_before has_a (codes "a\nx\nx\na\nx\n") ≡ plan_of
    (begun ∷ match_call 1 0 (codes "a\n") 2 ∷ break_call 8 ∷ context_call Before 3 4 (codes "x\n") 8
    ∷ match_call 4 6 (codes "a\n") 8 ∷ []) 10
break_before_context = refl

-- the largest context reaches the end of the input
largest_context : search_plan (record default_settings {
  after_context = 18446744073709551615;
}) has_a (codes "a\nx\n")
    ≡ plan_of (begun ∷ match_call 1 0 (codes "a\n") 2 ∷ context_call After 2 2 (codes "x\n") 4 ∷ [])
    4
largest_context = refl

-- the limit is filled, and the stop ends the context after it; the line after the stop does not
-- count
limit_and_stop : search_plan
    (record default_settings {
      max_matches = Some 2;
      stop_on_nonmatch = true;
      after_context = 2;
    }) has_a (codes "a\na\na\nb\n") ≡ plan_of
    (begun ∷ match_call 1 0 (codes "a\n") 2 ∷ match_call 2 2 (codes "a\n") 4
    ∷ match_call 3 4 (codes "a\n") 6 ∷ []) 6
limit_and_stop = refl

-- under passthru the stop ends the search, and the limit does not; nor does the line after the stop
-- count there
limit_and_stop_under_passthru : search_plan
    (record default_settings {
      max_matches = Some 1;
      stop_on_nonmatch = true;
      passthru = true;
    }) has_a (codes "a\nb\nc\n")
    ≡ plan_of (begun ∷ match_call 1 0 (codes "a\n") 2 ∷ context_call Other 2 2 (codes "b\n") 4 ∷ [])
    4
limit_and_stop_under_passthru = refl

-- no line is reported with a number if numbers are switched off
numbers_off : search_plan (record default_settings {
  line_number = false;
  after_context = 1;
}) has_a (codes "a\nx\n") ≡ plan_of
    (begun ∷ planned (matches None 0 (codes "a\n") no_surroundings) 2 ∷ planned (context After None 2 (codes "x\n"))
    4 ∷ []) 4
numbers_off = refl

-- the last line is reported as it is if it has no terminator, and the count ends with the bytes
last_line_unended : search_plan (record default_settings { after_context = 1 }) has_a (codes "a\nx")
    ≡ plan_of (begun ∷ match_call 1 0 (codes "a\n") 2 ∷ context_call After 2 2 (codes "x") 3 ∷ []) 3
last_line_unended = refl

-- a terminator ends its line, an empty line holds the terminator alone, and the last line may lack
-- it
lines_of_bytes : lines 10 (codes "ab\n\nc") ≡ codes "ab\n" ∷ codes "\n" ∷ codes "c" ∷ []
lines_of_bytes = refl

-- a terminator at the end has no line after it
lines_of_ended_bytes : lines 10 (codes "a\nb\n") ≡ codes "a\n" ∷ codes "b\n" ∷ []
lines_of_ended_bytes = refl
