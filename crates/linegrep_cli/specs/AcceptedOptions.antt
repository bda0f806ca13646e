-- Options whose values are not refused.
use Rattle.std.specs.Prelude.{◌≡◌, false}
use Rattle.linegrep_cli.specs.HyperlinkOptions.{IsFormatAccepted}
use Rattle.linegrep_cli.specs.PathSeparators.{refuses_path_separator}
use Rattle.linegrep_cli.specs.PatternOptions.{refuses_size_limits}
use Rattle.linegrep_cli.specs.RunScopes.{order_for}
use Rattle.linegrep_cli.specs.SearcherOptions.{refuses_label}
use Rattle.linegrep_cli.specs.declared.options.Options.{Options}
use Rattle.linegrep_files.specs.FolderFacts.{FolderFacts}
use Rattle.linegrep_files.specs.Orders.{HasOrder}

-- for files to be found, and their paths written: the separator of paths is one byte, the format of
-- links is one, the limits of sizes are sizes, and the system has the order of files
pub record AreAcceptedForFiles (folders : FolderFacts) (options : Options) : Type 0 where
  pub path_separator : refuses_path_separator options ≡ false
  pub hyperlink_format : IsFormatAccepted options
  pub size_limits : refuses_size_limits options ≡ false
  pub order : HasOrder folders.times (order_for options)

-- for files to be searched: the label of the encoding is known too
pub record AreAccepted (folders : FolderFacts) (options : Options) : Type 0 where
  pub for_files : AreAcceptedForFiles folders options
  pub label : refuses_label options ≡ false
