-- What a push to a text of JSON comes to.
use Rattle.std.specs.Prelude.{◌≡◌, ◌++◌, List, false}
use Rattle.json.specs.Token.{Token}
use Rattle.grep_printer.specs.declared.json_text.JsonText.{JsonText}

-- What comes before a text of JSON stays. If there was memory, the text has some more tokens at its
-- end.
abbrev pub AddsTokens : JsonText → JsonText → List Token → Type 0
AddsTokens old new tokens =
    (new.out.before ≡ old.out.before)
    × (new.has_failed ≡ false
    → (old.has_failed ≡ false) × (new.out.tokens ≡ old.out.tokens ++ tokens))
