-- What a run is prepared with before its operands are visited.
use Rattle.std.specs.Prelude.{◌≡◌}
use Rattle.linegrep_cli.specs.AcceptedOptions.{AreAccepted}
use Rattle.linegrep_cli.specs.ColorOptions.{AreColorTexts}
use Rattle.linegrep_cli.specs.FileChoices.{AreChoicesOf}
use Rattle.linegrep_cli.specs.HyperlinkOptions.{AreHyperlinks}
use Rattle.linegrep_cli.specs.PathSeparators.{path_separator_of}
use Rattle.linegrep_cli.specs.SearcherOptions.{searcher_settings}
use Rattle.linegrep_cli.specs.SeparatorOptions.{IsSeparators}
use Rattle.linegrep_cli.specs.declared.options.Options.{Options}
use Rattle.linegrep_cli.specs.declared.prepared.Layout.{Layout}
use Rattle.linegrep_cli.specs.declared.search.Prepared.{Prepared}
use Rattle.linegrep_files.specs.FolderFacts.{FolderFacts}

-- separators, colors, what is written in place of slashes, and links are what options ask for
pub record IsLayout (folders : FolderFacts) (options : Options) (layout : Layout) : Type 0 where
  pub separators : IsSeparators options layout.separators
  pub colors : AreColorTexts options layout.colors
  pub path_separator : layout.path_separator ≡ path_separator_of options
  pub hyperlinks : AreHyperlinks folders options layout.hyperlinks

-- options are accepted, and a searcher, the choices of files, and the layout of what is written are
-- what they ask for
pub record IsPrepared (folders : FolderFacts) (options : Options) (prepared : Prepared) : Type 0
  where
    pub accepted : AreAccepted folders options
    pub settings : prepared.searcher.settings ≡ searcher_settings options
    pub choices : AreChoicesOf folders options prepared.choices
    pub layout : IsLayout folders options prepared.layout
