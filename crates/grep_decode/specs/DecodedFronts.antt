-- A front of bytes of UTF-16 that was decoded.
use Rattle.std.specs.Prelude.{◌≡◌, ◌⊎◌, ℕ, ◌<◌, ◌≤◌, Bool, List, [], ◌++◌, length, take, drop}
use Rattle.std.specs.Prelude.{IsTrue}
use Rattle.grep_decode.specs.declared.byte_order.ByteOrder.{ByteOrder}
use Rattle.grep_decode.specs.Decoded.{IsUnfinishedUtf16, utf16_text}

-- So many bytes of the input were taken, and their text was written, as so many bytes of the
-- output, whatever more bytes follow. None do if `is_last`. Nothing is written only if there is no
-- room for a scalar value of four bytes, or none is whole.
pub record IsDecodedFront (order : ByteOrder) (is_last : Bool) (input output : List ℕ)
    (taken written : ℕ) : Type 0 where
  pub taken_within : taken ≤ length input
  pub written_within : written ≤ length output
  pub text : (more : List ℕ) → (IsTrue is_last → more ≡ [])
      → utf16_text order (input ++ more)
      ≡ take written output ++ utf16_text order (drop taken input ++ more)
  pub stops : written ≡ 0
      → (length output < 4) ⊎ ((length input < 4) × (IsTrue is_last → input ≡ []))
  pub unfinished : written ≡ 0 → (length output < 4) ⊎ IsUnfinishedUtf16 order input
  pub progress : written ≡ 0 → taken ≡ 0
