use Rattle.std.proofs.Common.{◌≡◌, ◌∙◌, ◌||◌, [], ap, false, not, rules, true}
use Rattle.grep_searcher.specs.Plans.{Call}
use Rattle.grep_searcher.specs.SinkArguments.{match_call}
use Rattle.grep_printer.specs.Formats.{Scene}
use Rattle.grep_printer.specs.StandardTexts.{asks_for_parts, call_text, is_hidden}
use Rattle.grep_printer.specs.StandardTexts.{progress_after}
use Rattle.grep_printer.proofs.TakenLineLemmas.{match-texts}
use Rattle.grep_printer.proofs.standard.StandardFormatFormat.push_lines.Goals as goal

pub returns-then-not-has_failed-clause-texts : goal.returns-then-not-has_failed-clause-texts
returns-then-not-has_failed-clause-texts g c = λ taken there.
    let scene : Scene =
    record { path = c.args.path.now; settings = c.args.searcher.now.settings } in
    let old = c.args.self.now in
    let shown : is_hidden old.progress c.args.searcher.now.settings.binary_detection ≡ false =
    search rules in
    let bare : (c.args.searcher.now.settings.invert_match || not (asks_for_parts old.config)) ≡ true =
    search rules in
    let text : c.push_shown.new.text.text
    ≡ call_text old.config old.progress scene (match_call c.args.lines.now) [] = search rules in
    let after = c.add.ensures
    ∙ ap (λ (call : Call). progress_after old.progress call) c.of_match-report.ensures.call in
    match-texts old.config scene old.progress _ c.args.lines.now _ shown bare c.requires.split
    c.requires.some c.requires.numbers text after
