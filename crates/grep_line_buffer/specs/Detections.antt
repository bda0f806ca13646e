-- What a buffer holds of the bytes that it reads, by its detection.
use Rattle.std.specs.Prelude.{ℕ, ◌+◌, Bool, true, false, ◌==◌, if◌then◌else◌, List, map, take}
use Rattle.std.specs.Prelude.{Option, None, Some}
use Rattle.std.specs.List.{position, position_or_len}
use Rattle.grep_line_buffer.specs.declared.detection.Detection.{Detection}
use Rattle.grep_line_buffer.specs.declared.detection.Detection.TheVariants.{None as no_detection}
use Rattle.grep_line_buffer.specs.declared.detection.Detection.TheVariants.{Quit, Convert}

-- whether the input ends at a binary byte
abbrev pub is_quit : Detection → Bool
is_quit no_detection = false
is_quit (Quit b) = true
is_quit (Convert b) = false

-- the bytes before the byte of `Quit`, and for each byte of `Convert` the byte t, which ends lines
abbrev pub detected_bytes : Detection → ℕ → List ℕ → List ℕ
detected_bytes no_detection t bytes = bytes
detected_bytes (Quit b) t bytes = take (position_or_len (λ x. x == b) bytes) bytes
detected_bytes (Convert b) t bytes = map (λ x. if x == b then t else x) bytes

-- where the first binary byte is. If it is the byte t, `Convert` looks for none
abbrev pub found_in : Detection → ℕ → List ℕ → Option ℕ
found_in no_detection t bytes = None
found_in (Quit b) t bytes = position (λ x. x == b) bytes
found_in (Convert b) t bytes = if b == t then None else position (λ x. x == b) bytes

-- the first of them that is there
abbrev pub first_of : Option ℕ → Option ℕ → Option ℕ
first_of None later = later
first_of (Some n) later = Some n

-- an offset and an index from there
abbrev pub byte_offset : ℕ × ℕ → ℕ
byte_offset p = p.0 + p.1
