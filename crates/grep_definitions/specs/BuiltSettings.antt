-- The settings of a builder, and those of a searcher that it builds.
use Rattle.std.specs.Prelude.{true, false, None, if◌then◌else◌}
use Rattle.grep_matcher.specs.declared.line_terminator.LineTerminator.TheVariants.{Byte}
use Rattle.grep_report.specs.declared.binary_detection.BinaryDetection.TheVariants.{
  None as no_detection,
}
use Rattle.grep_report.specs.declared.mmap_choice.MmapChoice.TheVariants.{Never}
use Rattle.grep_definitions.specs.Plans.{Settings}

-- as they are if nothing is set
abbrev pub default_settings : Settings
default_settings = record {
  line_terminator = Byte 10;
  invert_match = false;
  line_number = true;
  multi_line = false;
  after_context = 0;
  before_context = 0;
  passthru = false;
  heap_limit = None;
  memory_map = Never;
  binary_detection = no_detection;
  encoding = None;
  bom_sniffing = true;
  stop_on_nonmatch = false;
  max_matches = None;
}

-- as a searcher is built with them: both contexts are 0 under passthru
abbrev pub built : Settings → Settings
built settings = record settings {
  after_context = if settings.passthru then 0 else settings.after_context;
  before_context = if settings.passthru then 0 else settings.before_context;
}
