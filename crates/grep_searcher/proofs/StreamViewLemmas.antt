-- What is searched of an input as it is read, by what the line buffer's detection makes of it.
use Rattle.std.proofs.Common.{◌≡◌, ℕ, false, List, refl}
use Rattle.grep_searcher.specs.SearchBuffers.{detection_of}
use Rattle.grep_definitions.specs.Searches.{before_quit, binary_position, is_detecting, stream_view}
use Rattle.grep_line_buffer.proofs.InputViewLemmas.{unquit, viewed}
use Rattle.grep_line_buffer.specs.Detections.{found_in}
use Rattle.grep_line_buffer.specs.declared.detection.Detection.TheVariants.{None as detects_nothing}
use Rattle.grep_report.specs.declared.binary_detection.BinaryDetection.{BinaryDetection}
use Rattle.grep_report.specs.declared.binary_detection.BinaryDetection.TheVariants.{None as no_detection}
use Rattle.grep_report.specs.declared.binary_detection.BinaryDetection.TheVariants.{Quit, Convert}

pub as-viewed : (d : BinaryDetection) (t : ℕ) (bytes : List ℕ) → stream_view d t bytes
    ≡ viewed (detection_of d) t bytes
as-viewed no_detection t bytes = refl
as-viewed (Quit b) t bytes = refl
as-viewed (Convert b) t bytes = refl

pub as-unquit : (d : BinaryDetection) (bytes : List ℕ) → before_quit d bytes
    ≡ unquit (detection_of d) bytes
as-unquit no_detection bytes = refl
as-unquit (Quit b) bytes = refl
as-unquit (Convert b) bytes = refl

pub as-found : (d : BinaryDetection) (t : ℕ) (bytes : List ℕ) → binary_position d t bytes
    ≡ found_in (detection_of d) t bytes
as-found no_detection t bytes = refl
as-found (Quit b) t bytes = refl
as-found (Convert b) t bytes = refl

-- it looks for no byte if the search doesn't
pub undetected : (d : BinaryDetection) → is_detecting d ≡ false → detection_of d ≡ detects_nothing
undetected no_detection none = refl
undetected (Quit b) none = cc
undetected (Convert b) none = cc
