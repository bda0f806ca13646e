-- The buffers of a search.
use Rattle.std.specs.Prelude.{◌≡◌, ℕ, ◌≤◌, min, Option, None, Some}
use Rattle.std.specs.IoError.{error_kind}
use Rattle.std.specs.declared.io.Error.{Error}
use Rattle.std.specs.declared.io.ErrorKind.TheVariants.{InvalidData, Other, OutOfMemory}
use Rattle.grep_searcher.specs.declared.search.buffers.Buffers.{Buffers}
use Rattle.grep_definitions.specs.Plans.{Settings}
use Rattle.grep_line_buffer.specs.declared.fill_error.FillError.{FillError}
use Rattle.grep_line_buffer.specs.declared.fill_error.FillError.TheVariants.{Read, HeapLimit}
use Rattle.grep_line_buffer.specs.declared.fill_error.FillError.TheVariants.{Offset, Memory}
use Rattle.grep_line_buffer.specs.declared.detection.Detection.{Detection}
use Rattle.grep_line_buffer.specs.declared.detection.Detection.TheVariants.{None as detects_nothing}
use Rattle.grep_line_buffer.specs.declared.detection.Detection.TheVariants.{Quit as quits_at}
use Rattle.grep_line_buffer.specs.declared.detection.Detection.TheVariants.{Convert as converts}
use Rattle.grep_line_buffer.specs.BufferStates.{BufferState, IsWithin}
use Rattle.grep_matcher.specs.Lines.{byte_of}
use Rattle.grep_report.specs.declared.binary_detection.BinaryDetection.{BinaryDetection}
use Rattle.grep_report.specs.declared.binary_detection.BinaryDetection.TheVariants.{
  None as no_detection,
}
use Rattle.grep_report.specs.declared.binary_detection.BinaryDetection.TheVariants.{Quit, Convert}

-- the least size of a line buffer, by its limit
abbrev pub least_size : Option ℕ → ℕ
least_size None = 65536
least_size (Some most) = min 65536 most

-- what a line buffer does with binary bytes, by the setting
abbrev pub detection_of : BinaryDetection → Detection
detection_of no_detection = detects_nothing
detection_of (Quit b) = quits_at b
detection_of (Convert b) = converts b

-- a line buffer fits a configuration with this limit, where lines are split at the byte t
pub record IsFitting (most : Option ℕ) (t : ℕ) (lines : BufferState) : Type 0 where
  pub limit : lines.limit ≡ most
  pub terminator : lines.terminator ≡ t
  pub size : least_size most ≤ lines.size
  pub within : IsWithin most lines.size

-- the buffers of a search with these settings do
abbrev pub AreFitting : {A : Type 0} → Settings → Buffers A → Type 0
AreFitting settings buffers =
    IsFitting settings.heap_limit (byte_of settings.line_terminator) buffers.lines

-- the error of reading that an error of a line buffer becomes: the reader's own, or one of a kind
-- of its own
abbrev pub IsMadeOf : FillError → Error → Type 0
IsMadeOf (Read e) error = error ≡ e
IsMadeOf HeapLimit error = error_kind error ≡ Other
IsMadeOf Offset error = error_kind error ≡ InvalidData
IsMadeOf Memory error = error_kind error ≡ OutOfMemory
