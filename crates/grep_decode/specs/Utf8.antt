-- Bytes that are decoded as UTF-8, with U+FFFD for each ill-formed part.
use Rattle.std.specs.Prelude.{◌≡◌, ◌++◌, ℕ, Bool, List, [], None, drop, IsTrue}
use Rattle.std.specs.Str.Lossy.{utf8_error_len, utf8_lossy, utf8_valid_len, replacement_bytes}

-- no character begins these bytes, and what is wrong there is that they end
abbrev pub IsUnfinishedUtf8 : List ℕ → Type 0
IsUnfinishedUtf8 bytes = (utf8_valid_len bytes ≡ 0) × (utf8_error_len bytes ≡ None)

-- One U+FFFD replaces the bytes from index `start` to index `end`, whatever more bytes follow. None
-- do if `is_last`.
abbrev pub IsReplaced : Bool → List ℕ → ℕ → ℕ → Type 0
IsReplaced is_last bytes start end = (more : List ℕ) → (IsTrue is_last → more ≡ [])
    → utf8_lossy (drop start bytes ++ more) ≡ replacement_bytes
    ++ utf8_lossy (drop end bytes ++ more)
