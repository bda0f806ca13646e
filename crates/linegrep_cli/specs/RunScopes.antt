-- What options say of a run.
use Rattle.std.specs.Prelude.{◌≡◌, ℕ, Bool, true, false, not, ◌&&◌, ◌||◌, if◌then◌else◌, List, []}
use Rattle.std.specs.Prelude.{◌∷◌, Option, None, Some, Result, Ok, Err}
use Rattle.std.specs.Borrow.{Bor}
use Rattle.std.specs.declared.io.Error.{Error}
use Rattle.linegrep_cli.specs.OperandRuns.{is_same}
use Rattle.linegrep_cli.specs.OptionMeanings.{paths_of, searches_input}
use Rattle.linegrep_cli.specs.OptionUses.{has}
use Rattle.linegrep_cli.specs.PrinterOptions.{counts_all, is_summary, shows_paths}
use Rattle.linegrep_cli.specs.SearcherOptions.{is_all_searched}
use Rattle.linegrep_files.specs.declared.file_id.FileId.{FileId}
use Rattle.linegrep_cli.specs.declared.scope.Scope.{Scope}
use Rattle.linegrep_options.specs.declared.option_id.OptionId.TheVariants.{Binary, Debug, Files}
use Rattle.linegrep_options.specs.declared.option_id.OptionId.TheVariants.{FilesWithoutMatch}
use Rattle.linegrep_options.specs.declared.option_id.OptionId.TheVariants.{Follow}
use Rattle.linegrep_options.specs.declared.option_id.OptionId.TheVariants.{NoIgnoreMessages}
use Rattle.linegrep_options.specs.declared.option_id.OptionId.TheVariants.{NoMessages, Quiet, Sort}
use Rattle.linegrep_options.specs.declared.option_id.OptionId.TheVariants.{Sortr}
use Rattle.linegrep_cli.specs.declared.options.Options.{Options}
use Rattle.linegrep_cli.specs.declared.scope.Messages.{Messages}
use Rattle.linegrep_cli.specs.declared.scope.Messages.TheVariants.{Full, Silent, WithoutWarnings}
use Rattle.linegrep_cli.specs.declared.scope.Quiet.{Quiet as QuietRun}
use Rattle.linegrep_files.specs.Orders.{by_path, named_order}
use Rattle.linegrep_files.specs.declared.order.Order.{Order}

-- whether the search of a file of a folder goes on after a NUL, though the file isn't searched as
-- text
abbrev pub searches_binary : Options → Bool
searches_binary options = has options Binary || is_all_searched options

-- the file that isn't searched: the one that lines are written to
abbrev pub left_out_of : Options → Option FileId
left_out_of options = if is_summary options then None else options.streams.output

-- in which order files of folders are searched
abbrev pub order_for : Options → Order
order_for options = if has options Sort then named_order options.sort false
    else if has options Sortr then named_order options.sortr true else by_path

-- what is said of what goes wrong
abbrev pub messages_of : Options → Messages
messages_of options = if has options NoMessages then Silent
    else if has options NoIgnoreMessages then WithoutWarnings else Full

-- what is looked for, if nothing is written of what is found
abbrev pub quiet_of : Options → Option QuietRun
quiet_of options = if has options Quiet then Some (record {
  seeks_unmatched = has options FilesWithoutMatch && not (has options Files);
  counts_all = counts_all options && not (has options Files);
}) else None

-- what options say of a run, by whether several files may be searched
abbrev pub scope_of : Options → Bool → Scope
scope_of options several = record {
  searches_input = searches_input options;
  searches_binary = searches_binary options;
  route = record { follows_links = has options Follow };
  order = order_for options;
  lists_files = has options Files;
  lists_input = has options Files;
  shows_paths = shows_paths options (not (searches_input options) && several);
  messages = messages_of options;
  explains = has options Debug;
  quiet = quiet_of options;
  left_out = left_out_of options;
  leaves_out_input = is_same (left_out_of options) options.streams.input;
}

-- a folder was found
abbrev pub is_folder : Result Bool Error → Bool
is_folder (Ok found) = found
is_folder (Err error) = false

-- whether several files may be searched: there is no path, there are several, or the only one is
-- that of a folder
abbrev pub MaySearch : (List ℕ → Result Bool Error → Type 0) → List (Bor (List ℕ)) → Bool → Type 0
MaySearch finds (path ∷ []) several =
    (found : Result Bool Error) × finds path.now found × (several ≡ is_folder found)
MaySearch finds [] several = several ≡ true
MaySearch finds (path ∷ next ∷ later) several = several ≡ true

abbrev pub IsScopeOf : (List ℕ → Result Bool Error → Type 0) → Options → Scope → Type 0
IsScopeOf finds options scope = (several : Bool)
    × (searches_input options ≡ false → MaySearch finds (paths_of options) several)
    × (scope ≡ scope_of options several)
