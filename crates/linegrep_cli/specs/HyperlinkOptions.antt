-- Links to files: how options ask for them, and where they lead.
use Rattle.std.specs.Prelude.{◌≡◌, ◌≢◌, ℕ, Bool, true, false, not, ◌&&◌, ◌==◌, if◌then◌else◌}
use Rattle.std.specs.Prelude.{List, [], ◌++◌, codes, length, take, Option, None, Some, Result, Ok}
use Rattle.std.specs.Prelude.{Err, String, Vec, string_bytes}
use Rattle.std.specs.Borrow.{Bor}
use Rattle.std.specs.Global.{Global}
use Rattle.std.specs.List.{prefix_len}
use Rattle.std.specs.Option.{IfSome, option_copied}
use Rattle.std.specs.Str.{is_utf8}
use Rattle.std.specs.declared.io.Error.{Error}
use Rattle.grep_printer.specs.HyperlinkFormats.{IsFormatOf, IsRefusedFormat, begins_with}
use Rattle.grep_printer.specs.declared.hyperlink_format.HyperlinkFormatError.{HyperlinkFormatError}
use Rattle.grep_printer.specs.declared.hyperlink_format.HyperlinkFormatError.TheVariants.{Memory}
use Rattle.grep_printer.specs.declared.hyperlink_format.HyperlinkPart.{HyperlinkPart}
use Rattle.grep_printer.specs.declared.hyperlinks.Hyperlink.{Hyperlink}
use Rattle.grep_printer.specs.declared.hyperlinks.HyperlinkConfig.{HyperlinkConfig}
use Rattle.grep_printer.specs.declared.hyperlinks.HyperlinkEnvironment.{HyperlinkEnvironment}
use Rattle.grep_printer.specs.declared.hyperlinks.PrinterPath.{PrinterPath}
use Rattle.linegrep_cli.specs.PrinterOptions.{color_choice}
use Rattle.linegrep_cli.specs.PathSeparators.{IsShown, writes_paths_as_they_are}
use Rattle.linegrep_cli.specs.TerminalColors.{is_colored}
use Rattle.linegrep_cli.specs.declared.options.Options.{Options}
use Rattle.linegrep_files.specs.FolderFacts.{FolderFacts}

-- how many bytes come before the first line feed, or how many there are without one
abbrev pub name_len : List ℕ → ℕ
name_len bytes = prefix_len (λ byte. not (byte == 10)) bytes

-- bytes that are a text in UTF-8, or nothing if they aren't
abbrev pub text_or_nothing : List ℕ → List ℕ
text_or_nothing bytes = if is_utf8 bytes then bytes else []

-- a name in the first line of a file, or nothing if it isn't in UTF-8
abbrev pub host_in : List ℕ → List ℕ
host_in bytes = text_or_nothing (take (name_len bytes) bytes)

-- the name of the machine, by what the system returns of the file that has it
abbrev pub host_of : Result (Vec ℕ Global) Error → List ℕ
host_of (Ok bytes) = host_in bytes.items
host_of (Err error) = []

abbrev pub IsHost : FolderFacts → List ℕ → Type 0
IsHost folders host = (read : Result (Vec ℕ Global) Error)
    × folders.reads (codes "/proc/sys/kernel/hostname") read × (host ≡ host_of read)

-- what comes before a path in the Windows Subsystem for Linux, by what the system returns of the
-- variable that it sets
abbrev pub wsl_prefix_of : Result (Option (String Global)) Error → List ℕ
wsl_prefix_of (Ok (Some name)) = codes "wsl$/" ++ string_bytes name
wsl_prefix_of (Ok None) = []
wsl_prefix_of (Err error) = []

abbrev pub IsWslPrefix : FolderFacts → List ℕ → Type 0
IsWslPrefix folders prefix = (variable : Result (Option (String Global)) Error)
    × folders.variables (codes "WSL_DISTRO_NAME") variable × (prefix ≡ wsl_prefix_of variable)

-- what a format names of the environment
pub record IsEnvironment (folders : FolderFacts) (environment : HyperlinkEnvironment) : Type 0
  where
    pub host : IsHost folders (string_bytes environment.host)
    pub wsl_prefix : IsWslPrefix folders (string_bytes environment.wsl_prefix)

-- there may be links: there are colors, and no messages in JSON
abbrev pub links_are_written : Options → Bool
links_are_written options =
    is_colored (color_choice options) options.streams && not (writes_paths_as_they_are options)

-- the format of links that options ask for, if they ask for one, is a format
abbrev pub IsFormatAccepted : Options → Type 0
IsFormatAccepted options = IfSome options.hyperlink_format
    (λ text. (parts : List HyperlinkPart) × IsFormatOf text.now parts)

-- the format of links that options ask for isn't one
abbrev pub IsFormatRefused : Options → Type 0
IsFormatRefused options = (text : Bor (List ℕ)) × (error : HyperlinkFormatError)
    × (options.hyperlink_format ≡ Some text) × (error ≢ Memory) × IsRefusedFormat text.now error

-- how links are written, by what options ask for: not at all, if they ask for no format, there may
-- be no links, or the format is that of no link; or else by the format and the environment
pub data AreHyperlinks (folders : FolderFacts) (options : Options) : Option HyperlinkConfig → Type 0
  where
    of_no_option : options.hyperlink_format ≡ None → AreHyperlinks folders options None
    of_no_links : links_are_written options ≡ false → AreHyperlinks folders options None
    of_empty : (text : Bor (List ℕ)) (parts : List HyperlinkPart)
        → options.hyperlink_format ≡ Some text → IsFormatOf text.now parts
        → (length parts == 0) ≡ true → AreHyperlinks folders options None
    of_format : (text : Bor (List ℕ)) (config : HyperlinkConfig)
        → options.hyperlink_format ≡ Some text → links_are_written options ≡ true
        → IsFormatOf text.now config.format.parts.items → IsEnvironment folders config.environment
        → AreHyperlinks folders options (Some config)

-- lent settings are those of the links that options ask for
abbrev pub AreHyperlinksLent : FolderFacts → Options → Option (Bor HyperlinkConfig) → Type 0
AreHyperlinksLent folders options lent = AreHyperlinks folders options (option_copied lent)

-- where a link leads, by what the system returns as the path from its root on
abbrev pub IsTargetOf : Result (String Global) Error → Option (String Global) → Type 0
IsTargetOf (Err error) target = target ≡ None
IsTargetOf (Ok path) None = begins_with 47 (string_bytes path) ≡ false
IsTargetOf (Ok path) (Some target) =
    (begins_with 47 (string_bytes path) ≡ true) × (target ≡ path)

-- where a link to the file at a path leads, if the system says it
abbrev pub IsTarget : FolderFacts → List ℕ → Option (String Global) → Type 0
IsTarget folders path target = (resolved : Result (String Global) Error)
    × folders.resolves path resolved × IsTargetOf resolved target

-- a link leads there
abbrev pub LeadsTo : Bor HyperlinkConfig → Option (String Global) → Option Hyperlink → Type 0
LeadsTo config None link = link ≡ None
LeadsTo config (Some target) None = ⊥
LeadsTo config (Some target) (Some link) =
    (link.config ≡ config) × (link.path.now ≡ string_bytes target)

-- the link to the file at a path, if links are written
abbrev pub IsLink : FolderFacts → Option (Bor HyperlinkConfig) → List ℕ → Option Hyperlink → Type 0
IsLink folders None path link = link ≡ None
IsLink folders (Some config) path link = (target : Option (String Global))
    × IsTarget folders path target × LeadsTo config target link

-- the path that is written, by the separator and the links, if there are any, and by the path of
-- what is searched, if there is one
abbrev pub IsPathShown : FolderFacts → Option ℕ → Option (Bor HyperlinkConfig)
    → Option (Bor (List ℕ)) → Option PrinterPath → Type 0
IsPathShown folders separator hyperlinks None shown = shown ≡ None
IsPathShown folders separator hyperlinks (Some path) None = ⊥
IsPathShown folders separator hyperlinks (Some path) (Some shown) =
    IsShown separator (Some path) (Some shown.text) × IsLink folders hyperlinks path.now shown.link
