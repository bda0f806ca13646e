-- The call that a sink gets, by what it is lent.
use Rattle.grep_report.specs.SinkReports.{MatchReport, ContextReport, FinishReport, match_bytes}
use Rattle.grep_report.specs.SinkReports.{match_surroundings}
use Rattle.grep_definitions.specs.Plans.{Call, matches, context, finishes}

-- the call that reports a match, a context line, the end
abbrev pub match_call : MatchReport → Call
match_call m = matches m.line_number m.offset (match_bytes m) (match_surroundings m)

abbrev pub context_call : ContextReport → Call
context_call c = context c.kind c.line_number c.offset c.bytes

abbrev pub finish_call : FinishReport → Call
finish_call f = finishes f.byte_count f.binary_byte_offset
