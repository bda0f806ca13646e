use Rattle.std.proofs.Common.{◌≡◌, ◌∙◌, [], ap, refl, subst}
use Rattle.std.specs.Prelude.{IfOk}
use Rattle.grep_output.proofs.PendingLemmas.{Puts-none}
use Rattle.grep_output.specs.PendingTexts.{pending_bytes}
use Rattle.grep_printer.proofs.ReplacedCallLemmas.{replaced-is}
use Rattle.grep_printer.specs.Formats.{Scene}
use Rattle.grep_printer.specs.TextWriters.{PutsInPieces}
use Rattle.grep_printer.proofs.replaced_format.ReplacedFormat.put_replaced.Goals as goal

pub returns-in_default-clause-put : goal.returns-in_default-clause-put
returns-in_default-clause-put g c = record {
  same = record { pending = refl; writer = refl; buffer_size = refl };
  part = [];
  begins = (_, refl);
  put = Puts-none g.W.Output.step c.args.out.now.writer.now (pending_bytes c.args.out.now.pending.now);
}

pub returns-clause-put : goal.returns-clause-put
returns-clause-put g c =
    let scene : Scene = record { path = c.args.path.now; settings = c.args.searcher.now.settings } in
    let made = replaced-is g.M.CapturesAt.groups_at c.of_report-replacement.result c.args.self.now.template.now
    c.args.self.now.matcher scene.settings (g.M.Matcher.facts c.args.self.now.matcher).meaning c.args.report.now
    c.with_bytes.result c.args.parts.now c.deref-3.result.now c.deref-2.result.now
    c.of_report-replacement.ensures.template c.of_report-replacement.ensures.matcher
    c.of_report-replacement.ensures.asked c.of_report-replacement.ensures.start
    c.of_report-replacement.ensures.end c.with_bytes.ensures.call
    (c.deref-2.ensures.value ∙ c.in-Ok.ensures.bytes)
    (c.deref-3.ensures.value ∙ c.in-Ok.ensures.parts) in
    subst (λ printed. PutsInPieces g.W.Output.step c.args.out.now
    (g.F.Format.rules.text c.args.self.now.format scene printed) c.put_report.result c.put_report.new.out) made
    c.put_report.ensures.put

pub returns-clause-next : goal.returns-clause-next
returns-clause-next g c had =
    let scene : Scene = record { path = c.args.path.now; settings = c.args.searcher.now.settings } in
    let made = replaced-is g.M.CapturesAt.groups_at c.of_report-replacement.result c.args.self.now.template.now
    c.args.self.now.matcher scene.settings (g.M.Matcher.facts c.args.self.now.matcher).meaning c.args.report.now
    c.with_bytes.result c.args.parts.now c.deref-3.result.now c.deref-2.result.now
    c.of_report-replacement.ensures.template c.of_report-replacement.ensures.matcher
    c.of_report-replacement.ensures.asked c.of_report-replacement.ensures.start
    c.of_report-replacement.ensures.end c.with_bytes.ensures.call
    (c.deref-2.ensures.value ∙ c.in-Ok.ensures.bytes)
    (c.deref-3.ensures.value ∙ c.in-Ok.ensures.parts) in
    ap (λ f. record { format = f; matcher = c.args.self.now.matcher; template = c.args.self.now.template })
    (subst (λ printed. c.put_report.new.format ≡ g.F.Format.rules.next c.args.self.now.format scene printed) made
    (c.put_report.ensures.next had))

pub returns-clause-goes_on : goal.returns-clause-goes_on
returns-clause-goes_on g c =
    let scene : Scene = record { path = c.args.path.now; settings = c.args.searcher.now.settings } in
    let made = replaced-is g.M.CapturesAt.groups_at c.of_report-replacement.result c.args.self.now.template.now
    c.args.self.now.matcher scene.settings (g.M.Matcher.facts c.args.self.now.matcher).meaning c.args.report.now
    c.with_bytes.result c.args.parts.now c.deref-3.result.now c.deref-2.result.now
    c.of_report-replacement.ensures.template c.of_report-replacement.ensures.matcher
    c.of_report-replacement.ensures.asked c.of_report-replacement.ensures.start
    c.of_report-replacement.ensures.end c.with_bytes.ensures.call
    (c.deref-2.ensures.value ∙ c.in-Ok.ensures.bytes)
    (c.deref-3.ensures.value ∙ c.in-Ok.ensures.parts) in
    subst (λ printed. IfOk c.put_report.result
    (λ goes. goes ≡ g.F.Format.rules.goes_on c.args.self.now.format scene printed)) made c.put_report.ensures.goes_on
