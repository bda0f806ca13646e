use Rattle.std.proofs.Common.{◌∙◌, ap, sym}
use Rattle.grep_printer.proofs.BareTextLemmas.{bare-text}
use Rattle.grep_printer.specs.Formats.{Scene}
use Rattle.grep_printer.specs.StandardTexts.{call_text}
use Rattle.grep_printer.proofs.standard.StandardFormatFormat.is_bare.Goals as goal

pub returns-clause-text : goal.returns-clause-text
returns-clause-text g c = λ bare printed none.
    let old = c.args.self.now in
    let scene : Scene = record { path = c.args.path.now; settings = c.args.searcher.now.settings } in
    ap (call_text old.config old.progress scene printed.call) none
    ∙ bare-text old.config old.progress scene (sym c.is_bare.ensures ∙ bare) printed.call
