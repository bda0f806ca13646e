use Rattle.std.proofs.Common.{◌≡◌, ◌++◌, List, ap, rules, ℕ}
use Rattle.grep_matcher.specs.Lines.{lines}
use Rattle.grep_printer.proofs.PlainLineLemmas.{ArePushed, pushed-line}
use Rattle.grep_printer.proofs.PushLemmas.{pushed-more, pushed-none}
use Rattle.grep_printer.specs.LineTexts.{plain_line, plain_lines}
use Rattle.grep_printer.proofs.plain.push_each_line.Goals as goal

pub loop-line-init : goal.loop-line-init
loop-line-init c =
    let same : c.into_iter-line-iterator.result ≡ lines c.args.terminator c.args.bytes.now = search rules in
    pushed-none c.args.text.now _ (record {
      pushed = ap (λ ls. c.args.text.now.text ++ plain_lines c.args.terminator c.args.mark c.args.number ls) same;
    })

pub loop-line-preserved : goal.loop-line-preserved
loop-line-preserved c =
    let old = c.args.text.now in
    let t = c.args.terminator in
    let mark = c.args.mark in
    let number = c.loop-line.number in
    let line : List ℕ = c.in-Some.line.now in
    let one : List ℕ = plain_line t mark number line in
    let whole : List ℕ = old.text ++ plain_lines t mark c.args.number (lines t c.args.bytes.now) in
    let pushed = c.loop-line.invariant in
    rw c.next_number-number.ensures (pushed-more old c.loop-line.text c.push_line.new.text
    (λ text. ArePushed t mark whole text number c.loop-line.line-iterator)
    (λ text. ArePushed t mark whole text _ c.next.new.self) one pushed c.push_line.ensures
    (pushed-line t mark whole pushed.bytes number c.loop-line.line-iterator line c.next.new.self pushed.is
    c.in-Some.ensures.steps))
