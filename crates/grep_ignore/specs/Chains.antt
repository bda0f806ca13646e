-- Numbers in a row, each with the place of the one before it whose low bits are the same. No public
-- contract cites this file.
use Rattle.std.specs.Prelude.{◌≡◌, ◌≢◌, ℕ, ◌-◌, ◌<◌, ◌≤◌, List, bit_and, length, slice_index}

-- the low bits of a number, of which there are as many as a size allows
unfoldable pub bits_of : ℕ → ℕ → ℕ
bits_of size number = bit_and number (size - 1)

-- how many numbers there are up to the last before an end that is a number, or none
pub record IsCountOf (numbers : List ℕ) (number end count : ℕ) : Type 0 where
  pub within : count ≤ end
  pub others : (k : ℕ) → count ≤ k → k < end → slice_index numbers k ≢ number
  pub last : 0 < count → slice_index numbers (count - 1) ≡ number

-- how many numbers there are up to the last before an end that has some low bits, or none
pub record IsCountOfBits (numbers : List ℕ) (size bits end count : ℕ) : Type 0 where
  pub within : count ≤ end
  pub others : (k : ℕ) → count ≤ k → k < end → bits_of size (slice_index numbers k) ≢ bits
  pub last : 0 < count → bits_of size (slice_index numbers (count - 1)) ≡ bits

-- by low bits there is the last of some first numbers that has them, and for each of these the one
-- before it
pub record AreChained (numbers before last : List ℕ) (count : ℕ) : Type 0 where
  pub lasts : (bits : ℕ) → bits < length last
      → IsCountOfBits numbers (length last) bits count (slice_index last bits)
  pub befores : (k : ℕ) → k < count
      → IsCountOfBits numbers (length last) (bits_of (length last) (slice_index numbers k)) k
      (slice_index before k)

-- numbers are chained, and there is room for them
pub record IsChain (numbers before last : List ℕ) : Type 0 where
  pub room : length numbers ≤ length last
  pub same : length before ≡ length numbers
  pub chained : AreChained numbers before last (length numbers)
