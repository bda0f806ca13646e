use Rattle.std.proofs.Common.{ℕ, ◌≤◌, List, Option, Some, None, arith, subst}
use Rattle.std.proofs.lemmas.Result.{IfOk-weaker}
use Rattle.std.specs.Prelude.{IfOk}
use Rattle.grep_matcher.specs.FindResults.{IsFrom}
use Rattle.grep_regex.specs.PatternFirstMatches.{from-seen, none-past}
use Rattle.grep_regex.specs.Seen.{seen_bytes}
use Rattle.grep_regex.specs.Views.{regex_options, regex_patterns, regex_first_at, regex_text_at, IsAnswer}
use Rattle.grep_regex.proofs.EngineLemmas.{none-answers}
use Rattle.grep_regex.proofs.finder.find_by.Goals as goal

-- what is found from a later position on is found from this one on
from-later : (start later : ℕ) (hay : List ℕ) (found : Option (ℕ × ℕ)) → start ≤ later → IsFrom later hay found
    → IsFrom start hay found
from-later start later hay None ordered within = within
from-later start later hay (Some m) ordered within = (omega (arith, ordered, within.0), within.1)

pub returns-then-start-seen-clause-value : goal.returns-then-start-seen-clause-value
returns-then-start-seen-clause-value g c =
    let r = c.args.shortcut.now.regex.now in
    let seen = seen_bytes (regex_options r).line_terminator c.args.haystack.now in
    none-answers c.args.asked (regex_first_at r c.args.haystack.now c.args.start)
    (none-past (regex_options r) (regex_patterns r) seen c.args.start
    (rw c.seen_bytes-seen.ensures at c.if-start-seen.true))

pub returns-in-Answer : goal.returns-in-Answer
returns-in-Answer g c =
    let r = c.args.shortcut.now.regex.now in
    let hay = c.args.haystack.now in
    let start = c.args.start in
    record {
      value = subst (λ text. IsAnswer c.args.asked (regex_text_at r text start) c.in-Answer.found)
          c.seen_bytes-seen.ensures c.in-Answer.ensures.0;
      within = from-seen (regex_options r).line_terminator hay start c.in-Answer.found
          (subst (λ text. IsFrom start text c.in-Answer.found) c.seen_bytes-seen.ensures c.in-Answer.ensures.1);
    }

pub returns-in-From : goal.returns-in-From
returns-in-From g c =
    let r = c.args.shortcut.now.regex.now in
    let hay = c.args.haystack.now in
    let start = c.args.start in
    let seen = seen_bytes (regex_options r).line_terminator hay in
    let known = c.in-From.ensures in
    record {
      value = subst (λ text. IfOk c.find_in.result (IsAnswer c.args.asked (regex_text_at r text start)))
          c.seen_bytes-seen.ensures
          (subst (λ first. IfOk c.find_in.result (IsAnswer c.args.asked first)) known.2 c.find_in.ensures.value);
      within = IfOk-weaker c.find_in.result (IsFrom c.in-From.later seen) (IsFrom start hay)
          (λ found within. from-seen (regex_options r).line_terminator hay start found
          (from-later start c.in-From.later seen found known.0 within))
          (subst (λ text. IfOk c.find_in.result (IsFrom c.in-From.later text)) c.seen_bytes-seen.ensures
          c.find_in.ensures.within);
    }
