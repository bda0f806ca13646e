-- The parts of a call's report that match, as a printer finds them again.
use Rattle.std.specs.Prelude.{◌≡◌, ℕ, ◌-◌, Bool, not, false, if◌then◌else◌, List, [], ◌++◌}
use Rattle.std.specs.Prelude.{length}
use Rattle.std.specs.Prelude.{Option}
use Rattle.std.specs.Global.{Global}
use Rattle.grep_matcher.specs.Meanings.{MatcherFacts}
use Rattle.grep_searcher.specs.Lines.{strip}
use Rattle.grep_searcher.specs.Meanings.{Meaning}
use Rattle.grep_searcher.specs.Plans.{is_across, reported_bytes, Call, Settings, matches, context}
use Rattle.grep_searcher.specs.declared.SearchError.{SearchError}
use Rattle.grep_printer.specs.Formats.{PrintedCall}
use Rattle.grep_replace.specs.MatchedParts.{first_from, parts_in}
use Rattle.grep_printer.specs.PartErrors.{IsMatcherError}

-- whether the lines of a call's report match: those of a match do, and in an inverted search those
-- of any other report
abbrev pub has_match : Settings → Call → Bool
has_match settings (matches number offset bytes around) = not settings.invert_match
has_match settings (context kind number offset bytes) = settings.invert_match
has_match settings call = false

-- the bytes of a report, with those around a match
abbrev pub shown_bytes : Call → List ℕ
shown_bytes (matches number offset bytes around) = around.before ++ (bytes ++ around.after)
shown_bytes call = reported_bytes call

-- where the bytes of a report start among these
abbrev pub shown_start : Call → ℕ
shown_start (matches number offset bytes around) = length around.before
shown_start call = 0

module _ (settings : Settings) (meaning : Meaning) (call : Call) where
  -- the bytes about which the matcher is asked: a line without its terminator, and in a search
  -- across lines a report with the bytes around it
  abbrev pub asked_bytes : List ℕ
  asked_bytes =
      if is_across settings meaning
      then shown_bytes call
      else strip settings.line_terminator (reported_bytes call)

  -- where the bytes of the report start among these
  abbrev pub asked_start : ℕ
  asked_start = if is_across settings meaning then shown_start call else 0

  -- the parts of the report, counted from its start: the successive matches from its start on that
  -- lie in it
  abbrev pub parts_of_call : (List ℕ → ℕ → Option (ℕ × ℕ)) → List (ℕ × ℕ)
  parts_of_call first_at =
      parts_in (first_from (first_at asked_bytes) asked_start) (length asked_bytes - asked_start)
      (length (reported_bytes call))

-- these are the parts of a call's report
abbrev pub HasParts : (List ℕ → ℕ → Option (ℕ × ℕ)) → Settings → Meaning → Bool → PrintedCall
    → Type 0
HasParts first_at settings meaning is_asked printed =
    printed.parts
    ≡ (if is_asked then parts_of_call settings meaning printed.call first_at else [])

-- an error is the matcher's, as a message, for the bytes in which it was asked to find the parts of
-- a call
abbrev pub FailsAtParts : {E : Type 0} → (E → Option (List ℕ)) → MatcherFacts E → Settings → Call
    → SearchError Global → Type 0
FailsAtParts output facts settings call e =
    IsMatcherError output facts.fails (asked_bytes settings facts.meaning call) e
