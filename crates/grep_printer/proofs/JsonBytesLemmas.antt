-- Bytes in messages: a text, or base64.
use Rattle.std.proofs.Common.{◌≡◌, ℕ, List, refl}
use Rattle.std.proofs.lemmas.Bool.{false_from_ne_true}
use Rattle.std.specs.Prelude.{IsUtf8}
use Rattle.std.proofs.lemmas.Str.{IsUtf8-from_is_utf8, is_utf8-from_IsUtf8}
use Rattle.base64.specs.Engines.{standard}
use Rattle.base64.specs.GeneralPurpose.{encode_of}
use Rattle.grep_printer.specs.JsonMessages.{base64_json, bytes_json, text_json}

-- bytes that are UTF-8
pub bytes_json-text : (bytes : List ℕ) → IsUtf8 bytes → bytes_json bytes ≡ text_json bytes
unfolding bytes_json
bytes_json-text bytes utf8 = rw (is_utf8-from_IsUtf8 bytes utf8) refl

-- bytes that aren't
pub bytes_json-other : (bytes : List ℕ) → ¬ (IsUtf8 bytes) → bytes_json bytes ≡ base64_json (encode_of standard bytes)
unfolding bytes_json
bytes_json-other bytes other = rw (false_from_ne_true _ (λ t. other (IsUtf8-from_is_utf8 bytes t))) refl
