use Rattle.std.proofs.Common.{◌≡◌, ◌⊎◌, ◌∙◌, ◌-◌, ap, length, subst, sym, ℕ, List}
use Rattle.std.proofs.lemmas.Result.{on_ok_weaker}
use Rattle.std.specs.Prelude.{IfErr}
use Rattle.grep_searcher.specs.Lines.{strip}
use Rattle.grep_searcher.specs.SearchErrors.{IsOutOfMemory}
use Rattle.grep_printer.proofs.CallPartLemmas.{across-asked, across-parts, line-asked, line-parts}
use Rattle.grep_replace.specs.MatchedParts.{first_from, parts_in}
use Rattle.grep_printer.proofs.PartErrorLemmas.{part-error}
use Rattle.grep_printer.specs.PartErrors.{EachErrorIs, IsMatcherError}
use Rattle.grep_printer.proofs.parts.find_report_parts.Goals as goal

pub returns-then-multi_line_with_matcher-clause-parts :
    goal.returns-then-multi_line_with_matcher-clause-parts
returns-then-multi_line_with_matcher-clause-parts g c =
    let report = c.args.report.now in
    let across = sym c.multi_line_with_matcher.ensures ∙ c.if-multi_line_with_matcher.true in
    on_ok_weaker c.find_parts.result (λ found. found ∙ across-parts report.number report.offset report.bytes.now
    report.shown.now report.start c.args.searcher.now.settings (g.M.Matcher.facts c.args.matcher.now).meaning
    (g.M.FindAt.first_at c.args.matcher.now) report.kind c.requires.shown across)
    c.find_parts.ensures.parts

pub returns-then-multi_line_with_matcher-clause-error :
    goal.returns-then-multi_line_with_matcher-clause-error
returns-then-multi_line_with_matcher-clause-error g c =
    let report = c.args.report.now in
    let facts = g.M.Matcher.facts c.args.matcher.now in
    let across = sym c.multi_line_with_matcher.ensures ∙ c.if-multi_line_with_matcher.true in
    subst (λ (bytes : List ℕ). IfErr c.find_parts.result
    (EachErrorIs g.M.Error.Display.output
    (λ e. IsOutOfMemory e ⊎ IsMatcherError g.M.Error.Display.output facts.fails bytes e)))
    (sym (across-asked report.number report.offset report.bytes.now report.shown.now report.start
    c.args.searcher.now.settings facts.meaning (g.M.FindAt.first_at c.args.matcher.now) report.kind c.requires.shown across))
    (part-error g.M.Error.Display.output facts.fails report.shown.now c.find_parts.result c.find_parts.ensures.error)

pub returns-clause-parts : goal.returns-clause-parts
returns-clause-parts g c =
    let report = c.args.report.now in
    let settings = c.args.searcher.now.settings in
    let first_at = g.M.FindAt.first_at c.args.matcher.now in
    let by_line = sym c.multi_line_with_matcher.ensures ∙ c.if-multi_line_with_matcher.false in
    let line_is : c.without_terminator-line.result.now ≡ strip settings.line_terminator report.bytes.now =
    c.without_terminator-line.ensures ∙ ap (λ t. strip t report.bytes.now) c.line_terminator.ensures in
    on_ok_weaker c.find_parts-2.result (λ found.
    subst (λ (line : List ℕ). c.find_parts-2.new.parts.items ≡ parts_in (first_from (first_at line) 0) (length line - 0)
    (length report.bytes.now)) line_is found
    ∙ line-parts report.number report.offset report.bytes.now report.shown.now report.start settings
    (g.M.Matcher.facts c.args.matcher.now).meaning first_at report.kind c.requires.shown by_line) c.find_parts-2.ensures.parts

pub returns-clause-error : goal.returns-clause-error
returns-clause-error g c =
    let report = c.args.report.now in
    let settings = c.args.searcher.now.settings in
    let facts = g.M.Matcher.facts c.args.matcher.now in
    let by_line = sym c.multi_line_with_matcher.ensures ∙ c.if-multi_line_with_matcher.false in
    let line_is : c.without_terminator-line.result.now ≡ strip settings.line_terminator report.bytes.now =
    c.without_terminator-line.ensures ∙ ap (λ t. strip t report.bytes.now) c.line_terminator.ensures in
    subst (λ (bytes : List ℕ). IfErr c.find_parts-2.result
    (EachErrorIs g.M.Error.Display.output
    (λ e. IsOutOfMemory e ⊎ IsMatcherError g.M.Error.Display.output facts.fails bytes e)))
    (line_is ∙ sym (line-asked report.number report.offset report.bytes.now report.shown.now report.start settings
    facts.meaning (g.M.FindAt.first_at c.args.matcher.now) report.kind c.requires.shown by_line))
    (part-error g.M.Error.Display.output facts.fails c.without_terminator-line.result.now c.find_parts-2.result
    c.find_parts-2.ensures.error)
