use Rattle.std.proofs.Common.{◌≡◌, ◌+◌, length}
use Rattle.linegrep_files.specs.IgnoreFiles.{HasPlace}
use Rattle.linegrep_files.proofs.ignores.Ignores.warn_of.Given as goal

abbrev pub invariant-loop-line : goal.invariant-loop-line
invariant-loop-line l = record {
  layers : l.self.layers ≡ l.fn.self.layers;
  place : HasPlace l.fn.self l.self;
  warned : length l.self.warnings.items ≡ length l.fn.self.warnings.items + l.line-index;
}
