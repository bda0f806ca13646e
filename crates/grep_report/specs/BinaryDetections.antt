-- The byte of a binary detection, by its kind.
use Rattle.std.specs.Prelude.{ℕ, Option, Some, None}
use Rattle.grep_report.specs.declared.binary_detection.BinaryDetection.{BinaryDetection}
use Rattle.grep_report.specs.declared.binary_detection.BinaryDetection.TheVariants.{
  None as no_detection,
  Quit,
  Convert,
}

-- at which a search ends
abbrev pub quit_byte_of : BinaryDetection → Option ℕ
quit_byte_of no_detection = None
quit_byte_of (Quit byte) = Some byte
quit_byte_of (Convert byte) = None

-- which is replaced
abbrev pub convert_byte_of : BinaryDetection → Option ℕ
convert_byte_of no_detection = None
convert_byte_of (Quit byte) = None
convert_byte_of (Convert byte) = Some byte
