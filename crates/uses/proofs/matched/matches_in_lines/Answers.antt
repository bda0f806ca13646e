use Rattle.std.proofs.Common.{arith}
use Rattle.std.proofs.lemmas.Grind.{common_steps}
use Rattle.std.proofs.lemmas.List.Elements.{filter_passes}
use Rattle.std.specs.Prelude.{is_some}
use Rattle.grep_searcher.specs.Lines.{lines}
use Rattle.uses.specs.MatchedLines.{first_in}
use Rattle.uses.proofs.matched.matches_in_lines.Goals as goal

pub first_match-requires : goal.first_match-requires
first_match-requires g c =
    let all = filter_passes (λ line. is_some (first_in (g.M.Matcher.facts c.args.matcher.now).meaning line))
    (lines 10 c.args.bytes.now) c.loop-line.line-index c.line-item.result.items in
    let text = c.deref.ensures.value in let items = c.deref-line-items.ensures.value in
    grind (arith, common_steps, all, c.loop-line-test.true, c.line-item.is, text, items, c.in_ok-lines.ensures.lines c.requires)
