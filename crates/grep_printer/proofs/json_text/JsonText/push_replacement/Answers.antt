use Rattle.std.proofs.Common.{subst}
use Rattle.grep_printer.proofs.PushLemmas.{tokens-two}
use Rattle.grep_printer.specs.JsonPieces.{replacement_tokens}
use Rattle.grep_printer.specs.Pushes.{AddsTokens}
use Rattle.grep_printer.proofs.json_text.JsonText.push_replacement.Goals as goal

pub returns-in-Ok-Some : goal.returns-in-Ok-Some
returns-in-Ok-Some g c =
    let end = c.push_bytes.new.self in
    subst (λ text. AddsTokens c.args.self.now end (replacement_tokens text))
    (rw c.in-Ok-Some.field-0-is at c.in-Ok-Some.ensures)
    (simp c.deref.ensures.value at
    (tokens-two c.args.self.now c.push.new.self end _ _ c.push.ensures c.push_bytes.ensures))
