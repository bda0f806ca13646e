use Rattle.std.proofs.Common.{◌∙◌, sym}
use Rattle.grep_regex.specs.GroupsPast.{groups-past-seen}
use Rattle.grep_regex.specs.PatternFirstMatches.{none-past}
use Rattle.grep_regex.specs.Seen.{seen_bytes}
use Rattle.grep_regex.specs.Views.{regex_options, regex_patterns}
use Rattle.grep_regex.proofs.finder.captures_at.Goals as goal

pub returns-then-seen-start-clause-value : goal.returns-then-seen-start-clause-value
returns-then-seen-start-clause-value g c =
    let r = c.args.regex.now in
    sym (none-past (regex_options r) (regex_patterns r)
    (seen_bytes (regex_options r).line_terminator c.args.haystack.now) c.args.start
    (rw c.seen_bytes-seen.ensures at c.if-seen-start.true))

pub returns-then-seen-start-clause-groups : goal.returns-then-seen-start-clause-groups
returns-then-seen-start-clause-groups g c =
    let r = c.args.regex.now in
    c.clear.ensures.items
    ∙ sym (groups-past-seen (regex_options r) (regex_patterns r) c.args.haystack.now c.args.start
    (rw c.seen_bytes-seen.ensures at c.if-seen-start.true))
