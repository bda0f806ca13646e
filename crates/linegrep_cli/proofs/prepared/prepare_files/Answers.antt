use Rattle.std.proofs.Common.{inl, inr}
use Rattle.linegrep_cli.specs.Refusals.{of_colors, of_files, of_hyperlink_format, of_path_separator}
use Rattle.linegrep_cli.proofs.prepared.prepare_files.Goals as goal

pub returns-in-Err-clause-refused : goal.returns-in-Err-clause-refused
returns-in-Err-clause-refused g c = λ caused. elim (c.in-Err.ensures.refused caused) [
  | inl separator ↦ of_path_separator separator
  | inr (inl colors) ↦ of_colors colors
  | inr (inr format) ↦ of_hyperlink_format format
]

pub returns-in-Err-read-clause-refused : goal.returns-in-Err-read-clause-refused
returns-in-Err-read-clause-refused g c = λ caused.
    of_files c.file_options.result c.file_options.ensures (c.in-Err-read.ensures.err caused)
