use Rattle.std.proofs.Common.{◌∙◌, sym, true≢false}
use Rattle.grep_printer.proofs.ReplacedCallLemmas.{event-replaced}
use Rattle.grep_printer.proofs.UnkeptLemmas.{there-is-memory}
use Rattle.grep_printer.proofs.replaced_format.ReplacedFormatFormat.push.Goals as goal

pub returns-in-Some-clause-text : goal.returns-in-Some-clause-text
returns-in-Some-clause-text g c =
    rw (event-replaced c.args.self.now.template.now (g.M.CapturesAt.groups_at c.args.self.now.matcher)
    c.args.searcher.now.settings (g.M.Matcher.facts c.args.self.now.matcher).meaning c.args.event.now
    c.in-Some.report.now c.args.parts.now c.in-Some.ensures
    (λ none. true≢false (sym (rw none at c.is_empty.ensures) ∙ c.if-is_empty.false)))
    c.push_replaced.ensures.text

pub returns-in-Some-clause-next : goal.returns-in-Some-clause-next
returns-in-Some-clause-next g c =
    rw (event-replaced c.args.self.now.template.now (g.M.CapturesAt.groups_at c.args.self.now.matcher)
    c.args.searcher.now.settings (g.M.Matcher.facts c.args.self.now.matcher).meaning c.args.event.now
    c.in-Some.report.now c.args.parts.now c.in-Some.ensures
    (λ none. true≢false (sym (rw none at c.is_empty.ensures) ∙ c.if-is_empty.false)))
    (λ made. c.push_replaced.ensures.next (there-is-memory c.push_replaced.new.text.has_failed made))

pub returns-in-Some-clause-goes_on : goal.returns-in-Some-clause-goes_on
returns-in-Some-clause-goes_on g c =
    rw (event-replaced c.args.self.now.template.now (g.M.CapturesAt.groups_at c.args.self.now.matcher)
    c.args.searcher.now.settings (g.M.Matcher.facts c.args.self.now.matcher).meaning c.args.event.now
    c.in-Some.report.now c.args.parts.now c.in-Some.ensures
    (λ none. true≢false (sym (rw none at c.is_empty.ensures) ∙ c.if-is_empty.false)))
    (λ made. c.push_replaced.ensures.goes_on (there-is-memory c.push_replaced.new.text.has_failed made))
