use Rattle.std.proofs.Common.{◌≡◌, ◌∙◌, ◌||◌, ap, not, subst}
use Rattle.grep_output.specs.PendingTexts.{Adds}
use Rattle.grep_printer.proofs.ReplacedCallLemmas.{replaced-is}
use Rattle.grep_printer.specs.Formats.{Scene}
use Rattle.grep_printer.proofs.replaced_format.ReplacedFormat.push_replaced.Goals as goal

pub returns-clause-text : goal.returns-clause-text
returns-clause-text g c =
    let scene : Scene = record { path = c.args.path.now; settings = c.args.searcher.now.settings } in
    let made = replaced-is g.M.CapturesAt.groups_at c.of_report-replacement.result c.args.self.now.template.now
    c.args.self.now.matcher scene.settings (g.M.Matcher.facts c.args.self.now.matcher).meaning c.args.report.now
    c.with_bytes.result c.args.parts.now c.deref-3.result.now c.deref-2.result.now
    c.of_report-replacement.ensures.template c.of_report-replacement.ensures.matcher
    c.of_report-replacement.ensures.asked c.of_report-replacement.ensures.start
    c.of_report-replacement.ensures.end c.with_bytes.ensures.call
    (c.deref-2.ensures.value ∙ c.in-Ok.ensures.bytes)
    (c.deref-3.ensures.value ∙ c.in-Ok.ensures.parts) in
    subst (λ printed. Adds c.args.text.now c.push.new.text
    (g.F.Format.rules.text c.args.self.now.format scene printed)) made c.push.ensures.text

pub returns-clause-next : goal.returns-clause-next
returns-clause-next g c ok =
    let scene : Scene = record { path = c.args.path.now; settings = c.args.searcher.now.settings } in
    let made = replaced-is g.M.CapturesAt.groups_at c.of_report-replacement.result c.args.self.now.template.now
    c.args.self.now.matcher scene.settings (g.M.Matcher.facts c.args.self.now.matcher).meaning c.args.report.now
    c.with_bytes.result c.args.parts.now c.deref-3.result.now c.deref-2.result.now
    c.of_report-replacement.ensures.template c.of_report-replacement.ensures.matcher
    c.of_report-replacement.ensures.asked c.of_report-replacement.ensures.start
    c.of_report-replacement.ensures.end c.with_bytes.ensures.call
    (c.deref-2.ensures.value ∙ c.in-Ok.ensures.bytes)
    (c.deref-3.ensures.value ∙ c.in-Ok.ensures.parts) in
    ap (λ f. record { format = f; matcher = c.args.self.now.matcher; template = c.args.self.now.template })
    (subst (λ printed. c.push.new.self ≡ g.F.Format.rules.next c.args.self.now.format scene printed) made
    (c.push.ensures.next (ap (λ b. not b || g.F.Format.rules.is_bare c.args.self.now.format scene) ok)))

pub returns-clause-goes_on : goal.returns-clause-goes_on
returns-clause-goes_on g c ok =
    let scene : Scene = record { path = c.args.path.now; settings = c.args.searcher.now.settings } in
    let made = replaced-is g.M.CapturesAt.groups_at c.of_report-replacement.result c.args.self.now.template.now
    c.args.self.now.matcher scene.settings (g.M.Matcher.facts c.args.self.now.matcher).meaning c.args.report.now
    c.with_bytes.result c.args.parts.now c.deref-3.result.now c.deref-2.result.now
    c.of_report-replacement.ensures.template c.of_report-replacement.ensures.matcher
    c.of_report-replacement.ensures.asked c.of_report-replacement.ensures.start
    c.of_report-replacement.ensures.end c.with_bytes.ensures.call
    (c.deref-2.ensures.value ∙ c.in-Ok.ensures.bytes)
    (c.deref-3.ensures.value ∙ c.in-Ok.ensures.parts) in
    subst (λ printed. c.push.result ≡ g.F.Format.rules.goes_on c.args.self.now.format scene printed) made
    (c.push.ensures.goes_on (ap (λ b. not b || g.F.Format.rules.is_bare c.args.self.now.format scene) ok))
