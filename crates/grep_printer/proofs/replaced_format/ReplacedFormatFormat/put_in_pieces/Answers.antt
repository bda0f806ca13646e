use Rattle.std.proofs.Common.{◌≡◌, ◌∙◌, subst, sym, true≢false}
use Rattle.std.specs.Prelude.{IfOk, true}
use Rattle.grep_printer.proofs.ReplacedCallLemmas.{event-replaced}
use Rattle.grep_printer.specs.Formats.{Scene}
use Rattle.grep_printer.specs.TextWriters.{PutsInPieces, had_memory}
use Rattle.grep_printer.proofs.replaced_format.ReplacedFormatFormat.put_in_pieces.Goals as goal

pub returns-in-Some-clause-put : goal.returns-in-Some-clause-put
returns-in-Some-clause-put g c =
    let scene : Scene = record { path = c.args.path.now; settings = c.args.searcher.now.settings } in
    let replaced = event-replaced c.args.self.now.template.now (g.M.CapturesAt.groups_at c.args.self.now.matcher)
    c.args.searcher.now.settings (g.M.Matcher.facts c.args.self.now.matcher).meaning c.args.event.now
    c.in-Some.report.now c.args.parts.now c.in-Some.ensures
    (λ none. true≢false (sym (rw none at c.is_empty.ensures) ∙ c.if-not-is_empty.true)) in
    subst (λ printed. PutsInPieces g.W.Output.step c.args.out.now
    (g.F.Format.rules.text c.args.self.now.format scene printed) c.put_replaced.result c.put_replaced.new.out) (sym replaced)
    c.put_replaced.ensures.put

pub returns-in-Some-clause-next : goal.returns-in-Some-clause-next
returns-in-Some-clause-next g c =
    let scene : Scene = record { path = c.args.path.now; settings = c.args.searcher.now.settings } in
    let replaced = event-replaced c.args.self.now.template.now (g.M.CapturesAt.groups_at c.args.self.now.matcher)
    c.args.searcher.now.settings (g.M.Matcher.facts c.args.self.now.matcher).meaning c.args.event.now
    c.in-Some.report.now c.args.parts.now c.in-Some.ensures
    (λ none. true≢false (sym (rw none at c.is_empty.ensures) ∙ c.if-not-is_empty.true)) in
    subst (λ printed. had_memory c.put_replaced.result ≡ true → c.put_replaced.new.self ≡ record c.args.self.now {
      format = g.F.Format.rules.next c.args.self.now.format scene printed;
    }) (sym replaced) c.put_replaced.ensures.next

pub returns-in-Some-clause-goes_on : goal.returns-in-Some-clause-goes_on
returns-in-Some-clause-goes_on g c =
    let scene : Scene = record { path = c.args.path.now; settings = c.args.searcher.now.settings } in
    let replaced = event-replaced c.args.self.now.template.now (g.M.CapturesAt.groups_at c.args.self.now.matcher)
    c.args.searcher.now.settings (g.M.Matcher.facts c.args.self.now.matcher).meaning c.args.event.now
    c.in-Some.report.now c.args.parts.now c.in-Some.ensures
    (λ none. true≢false (sym (rw none at c.is_empty.ensures) ∙ c.if-not-is_empty.true)) in
    subst (λ printed. IfOk c.put_replaced.result
    (λ goes. goes ≡ g.F.Format.rules.goes_on c.args.self.now.format scene printed)) (sym replaced)
    c.put_replaced.ensures.goes_on
