-- The printer that options ask for, and its settings.
use Rattle.std.specs.Prelude.{◌≡◌, ℕ, Bool, true, false, not, ◌&&◌, ◌||◌, ◌==◌, if◌then◌else◌}
use Rattle.std.specs.Prelude.{List, [], codes, nat_lt, Option, None, Some}
use Rattle.std.specs.Borrow.{Bor}
use Rattle.std.specs.Option.{option_map}
use Rattle.grep_output.specs.PendingTexts.{pending_bytes}
use Rattle.grep_printer.specs.declared.colors.ColorSpecs.{ColorSpecs}
use Rattle.grep_printer.specs.declared.colors.ColorTexts.{ColorTexts}
use Rattle.grep_printer.specs.declared.config.Config.{Config}
use Rattle.grep_printer.specs.declared.config.SearchSeparator.{SearchSeparator}
use Rattle.grep_printer.specs.declared.config.SearchSeparator.TheVariants.{Blank, Groups, Nothing}
use Rattle.grep_printer.specs.declared.printer.Printer.{Printer as Writer}
use Rattle.grep_printer.specs.declared.replaced_format.ReplacedFormat.{ReplacedFormat}
use Rattle.grep_printer.specs.declared.replacers.TemplateReplacer.{TemplateReplacer}
use Rattle.grep_printer.specs.declared.separators.Separators.{Separators}
use Rattle.grep_printer.specs.declared.summary_builder.SummaryConfig.{SummaryConfig}
use Rattle.grep_printer.specs.declared.summary_builder.SummaryKind.{SummaryKind}
use Rattle.grep_printer.specs.declared.summary_builder.SummaryKind.TheVariants.{Count as lines}
use Rattle.grep_printer.specs.declared.summary_builder.SummaryKind.TheVariants.{
  CountMatches as parts,
}
use Rattle.grep_printer.specs.declared.summary_builder.SummaryKind.TheVariants.{PathWithMatch}
use Rattle.grep_printer.specs.declared.summary_builder.SummaryKind.TheVariants.{PathWithoutMatch}
use Rattle.grep_printer.specs.declared.summary_builder.SummaryKind.TheVariants.{Quiet as silent}
use Rattle.grep_printer.specs.StatsSums.{no_stats}
use Rattle.grep_printer.specs.VimgrepTexts.{vimgrep_config}
use Rattle.grep_replace.specs.declared.template.Template.{Template}
use Rattle.linegrep_cli.specs.OptionMeanings.{after_lines, before_lines, shows_columns}
use Rattle.linegrep_cli.specs.OptionUses.{has}
use Rattle.linegrep_cli.specs.TerminalColors.{colors_for}
use Rattle.linegrep_cli.specs.declared.counted_run.CountedRun.{CountedRun}
use Rattle.linegrep_options.specs.declared.option_id.OptionId.TheVariants.{BlockBuffered}
use Rattle.linegrep_options.specs.declared.option_id.OptionId.TheVariants.{ByteOffset}
use Rattle.linegrep_options.specs.declared.option_id.OptionId.TheVariants.{Color, Count}
use Rattle.linegrep_options.specs.declared.option_id.OptionId.TheVariants.{CountMatches}
use Rattle.linegrep_options.specs.declared.option_id.OptionId.TheVariants.{FilesWithMatches}
use Rattle.linegrep_options.specs.declared.option_id.OptionId.TheVariants.{FilesWithoutMatch}
use Rattle.linegrep_options.specs.declared.option_id.OptionId.TheVariants.{Heading}
use Rattle.linegrep_options.specs.declared.option_id.OptionId.TheVariants.{IncludeZero, InvertMatch}
use Rattle.linegrep_options.specs.declared.option_id.OptionId.TheVariants.{Json}
use Rattle.linegrep_options.specs.declared.option_id.OptionId.TheVariants.{LineBuffered}
use Rattle.linegrep_options.specs.declared.option_id.OptionId.TheVariants.{MaxColumnsPreview}
use Rattle.linegrep_options.specs.declared.option_id.OptionId.TheVariants.{NoFilename}
use Rattle.linegrep_options.specs.declared.option_id.OptionId.TheVariants.{NoHeading, Null}
use Rattle.linegrep_options.specs.declared.option_id.OptionId.TheVariants.{OnlyMatching, Pretty}
use Rattle.linegrep_options.specs.declared.option_id.OptionId.TheVariants.{Quiet}
use Rattle.linegrep_options.specs.declared.option_id.OptionId.TheVariants.{Stats}
use Rattle.linegrep_options.specs.declared.option_id.OptionId.TheVariants.{Trim, Vimgrep}
use Rattle.linegrep_options.specs.declared.option_id.OptionId.TheVariants.{WithFilename}
use Rattle.linegrep_cli.specs.declared.options.Options.{Options}
use Rattle.linegrep_cli.specs.declared.printers.Printer.{Printer}
use Rattle.linegrep_cli.specs.declared.printers.Printer.TheVariants.{Lines, Parts, ReplacedLines}
use Rattle.linegrep_cli.specs.declared.printers.Printer.TheVariants.{ReplacedParts}
use Rattle.linegrep_cli.specs.declared.printers.Printer.TheVariants.{Summary}
use Rattle.linegrep_cli.specs.declared.printers.Printer.TheVariants.{Json as Messages}

-- lines or matches are counted
abbrev pub counts : Options → Bool
counts options = has options Count || has options CountMatches

-- single matches are counted, and not lines, in a search by line or across lines. With `-v` lines
-- are counted in any case
abbrev pub counts_matches : Options → Bool → Bool
counts_matches options is_across = not (has options InvertMatch) && (has options CountMatches
    || (has options Count && (has options OnlyMatching || is_across)))

-- the paths of files are written, and nothing else of them
abbrev pub is_summary_of_paths : Options → Bool
is_summary_of_paths options = has options FilesWithMatches || has options FilesWithoutMatch

-- all that is found is counted, to say at the end how much it was. It isn't if messages say it
abbrev pub counts_all : Options → Bool
counts_all options = has options Stats && not (has options Json)

-- something is written in place of lines, or nothing
abbrev pub is_summary : Options → Bool
is_summary options = has options Quiet || counts options || is_summary_of_paths options

-- what is written in place of lines, if something is, in a search by line or across lines
abbrev pub summary_kind : Options → Bool → Option SummaryKind
summary_kind options is_across = if has options Quiet then Some silent
    else if counts_matches options is_across then Some parts
    else if counts options then Some lines
    else if has options FilesWithMatches then Some PathWithMatch
    else if has options FilesWithoutMatch then Some PathWithoutMatch
    else None

-- paths are written. In JSON, and if paths are all that is written, they always are. Otherwise they
-- are written if an option asks for them or several files may be searched, unless an option refuses
-- them
abbrev pub shows_paths : Options → Bool → Bool
shows_paths options searches_several = has options Json || is_summary_of_paths options
    || (not (has options NoFilename)
    && (has options WithFilename || has options Vimgrep || searches_several))

-- a path is written once, above the lines of its file
abbrev pub shows_headings : Options → Bool
shows_headings options = not (has options NoHeading) && not (has options Vimgrep)
    && (has options Heading || has options Pretty || options.streams.is_terminal)

-- each line is written at once, and not many together
abbrev pub is_line_buffered : Options → Bool
is_line_buffered options = has options LineBuffered
    || (options.streams.is_terminal && not (has options BlockBuffered))

-- the limit of bytes of a line, by the value of `-M`
abbrev pub column_limit : Option ℕ → Option ℕ
column_limit None = None
column_limit (Some most) = if most == 0 then None else Some most

-- the byte after a path, in place of a colon or of the end of a line
abbrev pub path_terminator_of : Options → Option ℕ
path_terminator_of options = if has options Null then Some 0 else None

-- what is written between the lines of two files
abbrev pub separator_of : Options → SearchSeparator
separator_of options = if shows_headings options then Blank
    else if nat_lt 0 (after_lines options) || nat_lt 0 (before_lines options) then Groups
    else Nothing

-- when there are colors, in the words of `--color`
abbrev pub color_choice : Options → Option (List ℕ)
color_choice options = if has options Color then option_map (λ choice. choice.now) options.color
    else if has options Pretty then Some (codes "always") else None

-- some settings of a printer of lines, with what options ask for of what is written of a line
abbrev pub with_line_parts : Options → Config → Config
with_line_parts options config = record config {
  column = shows_columns options;
  byte_offset = has options ByteOffset;
  only_matching = has options OnlyMatching;
  max_columns = column_limit options.max_columns;
  max_columns_preview = has options MaxColumnsPreview;
  trim_ascii = has options Trim;
}

-- the settings of the printer of lines, with some colors and separators
abbrev pub line_settings : Options → ColorSpecs → Option (Bor Separators) → Config
line_settings options colors separators = record {
  heading = shows_headings options;
  column = shows_columns options;
  byte_offset = has options ByteOffset;
  only_matching = has options OnlyMatching;
  max_columns = column_limit options.max_columns;
  max_columns_preview = has options MaxColumnsPreview;
  path_terminator = path_terminator_of options;
  separator = separator_of options;
  color_specs = colors;
  trim_ascii = has options Trim;
  separators = separators;
}

-- each part that matches is written with its line, in the form of Vim's quickfix list
abbrev pub is_vimgrep : Options → Bool
is_vimgrep options = has options Vimgrep && not (has options OnlyMatching)

-- the settings of the printer of a kind of summary
abbrev pub summary_settings : Options → SummaryKind → ColorSpecs → SummaryConfig
summary_settings options kind colors = record {
  kind = kind;
  exclude_zero = not (has options IncludeZero);
  counts_all = counts_all options;
  path_terminator = path_terminator_of options;
  color_specs = colors;
}

-- a printer has written nothing yet. It keeps 64 KiB of text, or writes each text at once, if
-- options ask for that
pub record IsNew {F : Type 0} (options : Options) (printer : Writer F) : Type 0 where
  pub pending : pending_bytes printer.pending ≡ []
  pub has_written : printer.has_written ≡ false
  pub has_failed : printer.has_failed ≡ false
  pub buffer_size : printer.buffer_size ≡ (if is_line_buffered options then 0 else 65536)

-- the printer of a run has written nothing yet, and nothing was counted. It counts if options ask
-- for that
pub record IsNewRun {F : Type 0} (options : Options) (run : CountedRun F) : Type 0 where
  pub printer : IsNew options run.printer
  pub counts : run.printer.format.is_counting ≡ counts_all options
  pub stats : run.stats ≡ no_stats

-- a format replaces each match by a template, for the groups that a matcher finds
abbrev pub IsReplacing : {F M : Type 0} → M → Option (Bor Template) → ReplacedFormat F M → Type 0
IsReplacing matcher None format = ⊥
IsReplacing matcher (Some template) format =
    (format.matcher ≡ matcher) × (format.template.now ≡ template.now)

-- a replacer replaces each match by a template, if there is one
abbrev pub IsReplacer : {M : Type 0} → M → Option (Bor Template) → Option (TemplateReplacer M)
    → Type 0
IsReplacer matcher None None = Unit {0}
IsReplacer matcher (Some template) (Some replacer) =
    (replacer.matcher ≡ matcher) × (replacer.template.now ≡ template.now)
IsReplacer matcher template replacer = ⊥

-- a printer is the one that options ask for, in a search by line or across lines, with these
-- separators and colors. If there is a template, it replaces each match
abbrev pub IsPrinterFor : {M : Type 0} → Options → Bool → Option (Bor Separators) → M
    → Option (Bor Template) → ColorSpecs → Printer M → Type 0
IsPrinterFor options is_across separators matcher template colors (Lines run) =
    (summary_kind options is_across ≡ None) × (has options Json ≡ false)
    × (is_vimgrep options ≡ false) × (template ≡ None)
    × (run.printer.format.format.config ≡ line_settings options colors separators)
    × IsNewRun options run
IsPrinterFor options is_across separators matcher template colors (Parts run) =
    (summary_kind options is_across ≡ None) × (has options Json ≡ false)
    × (is_vimgrep options ≡ true) × (template ≡ None)
    × (run.printer.format.format.lines.config ≡ vimgrep_config
    (line_settings options colors separators))
    × IsNewRun options run
IsPrinterFor options is_across separators matcher template colors (ReplacedLines run) =
    (summary_kind options is_across ≡ None) × (has options Json ≡ false)
    × (is_vimgrep options ≡ false) × IsReplacing matcher template run.printer.format.format
    × (run.printer.format.format.format.config ≡ line_settings options colors separators)
    × IsNewRun options run
IsPrinterFor options is_across separators matcher template colors (ReplacedParts run) =
    (summary_kind options is_across ≡ None) × (has options Json ≡ false)
    × (is_vimgrep options ≡ true) × IsReplacing matcher template run.printer.format.format
    × (run.printer.format.format.format.lines.config
    ≡ vimgrep_config (line_settings options colors separators))
    × IsNewRun options run
IsPrinterFor options is_across separators matcher template colors (Summary run) =
    (kind : SummaryKind) × (summary_kind options is_across ≡ Some kind)
    × (run.printer.format.format.config ≡ summary_settings options kind colors)
    × IsNewRun options run
IsPrinterFor options is_across separators matcher template colors (Messages run) =
    (summary_kind options is_across ≡ None) × (has options Json ≡ true)
    × (run.printer.format.always_begin_end ≡ false)
    × IsReplacer matcher template run.printer.format.replacer × IsNew options run.printer
    × (run.stats ≡ no_stats)

-- a printer is the one that options ask for, with the colors that they ask for
abbrev pub IsPrinterOf : {M : Type 0} → Options → Bool → Option (Bor Separators)
    → Option (Bor ColorTexts) → M → Option (Bor Template) → Printer M → Type 0
IsPrinterOf options is_across separators chosen matcher template printer =
    IsPrinterFor options is_across separators matcher template
    (colors_for chosen (color_choice options) options.streams) printer
