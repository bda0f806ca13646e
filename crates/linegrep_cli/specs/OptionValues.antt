-- The values of options, by the uses of options.
use Rattle.std.specs.Prelude.{◌≡◌, ℕ, Bool, ◌||◌, codes, nat_lt, List, [], Option, MatchOption}
use Rattle.std.specs.Prelude.{slice_index}
use Rattle.std.specs.Borrow.{Bor}
use Rattle.std.specs.List.{list_any}
use Rattle.std.specs.Option.{option_and_then}
use Rattle.std.specs.Str.{bytes_eq}
use Rattle.linegrep_options.specs.CommandLines.{number_of}
use Rattle.linegrep_options.specs.OptionUses.{last_place, last_value, places_of, values_of}
use Rattle.linegrep_options.specs.declared.option_id.OptionId.{OptionId}
use Rattle.linegrep_options.specs.declared.option_id.OptionId.TheVariants.{AfterContext}
use Rattle.linegrep_options.specs.declared.option_id.OptionId.TheVariants.{BeforeContext, Color}
use Rattle.linegrep_options.specs.declared.option_id.OptionId.TheVariants.{Colors}
use Rattle.linegrep_options.specs.declared.option_id.OptionId.TheVariants.{Context}
use Rattle.linegrep_options.specs.declared.option_id.OptionId.TheVariants.{ContextSeparator}
use Rattle.linegrep_options.specs.declared.option_id.OptionId.TheVariants.{DfaSizeLimit, Encoding}
use Rattle.linegrep_options.specs.declared.option_id.OptionId.TheVariants.{FieldContextSeparator}
use Rattle.linegrep_options.specs.declared.option_id.OptionId.TheVariants.{FieldMatchSeparator}
use Rattle.linegrep_options.specs.declared.option_id.OptionId.TheVariants.{File, Files, Glob, Iglob}
use Rattle.linegrep_options.specs.declared.option_id.OptionId.TheVariants.{HyperlinkFormat}
use Rattle.linegrep_options.specs.declared.option_id.OptionId.TheVariants.{IgnoreFile}
use Rattle.linegrep_options.specs.declared.option_id.OptionId.TheVariants.{MaxColumns, MaxCount}
use Rattle.linegrep_options.specs.declared.option_id.OptionId.TheVariants.{MaxDepth}
use Rattle.linegrep_options.specs.declared.option_id.OptionId.TheVariants.{MaxFilesize}
use Rattle.linegrep_options.specs.declared.option_id.OptionId.TheVariants.{PathSeparator, Regexp}
use Rattle.linegrep_options.specs.declared.option_id.OptionId.TheVariants.{RegexSizeLimit}
use Rattle.linegrep_options.specs.declared.option_id.OptionId.TheVariants.{Replace, Sort, Sortr}
use Rattle.linegrep_options.specs.declared.option_id.OptionId.TheVariants.{«Type»}
use Rattle.linegrep_options.specs.declared.option_id.OptionId.TheVariants.{TypeAdd, TypeClear}
use Rattle.linegrep_options.specs.declared.option_id.OptionId.TheVariants.{TypeNot}
use Rattle.linegrep_options.specs.declared.option_id.OptionId.TheVariants.{
  Unrestricted as AsUnrestricted,
}
use Rattle.linegrep_options.specs.declared.uses.Use.{Use}
use Rattle.linegrep_cli.specs.declared.lists.Listed.{Listed}
use Rattle.linegrep_cli.specs.declared.lists.Lists.{Lists}
use Rattle.linegrep_cli.specs.declared.options.Options.{Options}
use Rattle.linegrep_cli.specs.declared.options.Unrestricted.{Unrestricted}
use Rattle.linegrep_cli.specs.declared.program.Streams.{Streams}
use Rattle.linegrep_files.specs.declared.file_options.TypeOptions.{TypeOptions}
use Rattle.linegrep_files.specs.declared.file_options.Values.{Values}

-- the number that the last use of an option gives, if it is used
abbrev pub number_for : List Use → OptionId → Option ℕ
number_for uses option = option_and_then (λ text. number_of text.now) (last_value uses option)

-- a list of texts, which is there only if it isn't empty
abbrev pub AreListed : List (Bor (List ℕ)) → Option (Bor (List (Bor (List ℕ)))) → Type 0
AreListed texts listed = MatchOption listed (texts ≡ []) (λ some. some.now ≡ texts)

-- one of some files is standard input
abbrev pub names_input : List (Bor (List ℕ)) → Bool
names_input files = list_any (λ file. bytes_eq file.now (codes "-")) files

-- uses of options name the patterns, or ask that files are listed
abbrev pub names_patterns : List Use → Bool
names_patterns uses = nat_lt 0 (last_place uses Regexp) || nat_lt 0 (last_place uses File)
    || nat_lt 0 (last_place uses Files)

-- the first, second and third of some places
abbrev pub unrestricted_at : List ℕ → Unrestricted
unrestricted_at places = record {
  ignored = slice_index places 0;
  hidden = slice_index places 1;
  binary = slice_index places 2;
}

-- the values of an option, with their places
pub record AreValues (uses : List Use) (option : OptionId) (listed : Listed) : Type 0 where
  pub texts : listed.texts.items ≡ values_of option uses
  pub places : listed.places.items ≡ places_of option 1 uses

-- the values of options that may be given several times, and the operands
pub record AreLists (uses : List Use) (operands : List (Bor (List ℕ)))
    (lists : Lists) : Type 0 where
  pub operands_are : lists.operands.items ≡ operands
  pub pattern_files : lists.pattern_files.items ≡ values_of File uses
  pub colors : lists.colors.items ≡ values_of Colors uses
  pub globs : lists.globs.items ≡ values_of Glob uses
  pub iglobs : lists.iglobs.items ≡ values_of Iglob uses
  pub ignore_files : lists.ignore_files.items ≡ values_of IgnoreFile uses
  pub unrestricted : lists.unrestricted.items ≡ places_of AsUnrestricted 1 uses
  pub types : AreValues uses «Type» lists.types
  pub types_not : AreValues uses TypeNot lists.types_not
  pub types_added : AreValues uses TypeAdd lists.types_added
  pub types_cleared : AreValues uses TypeClear lists.types_cleared

-- lent values of an option
pub record AreLent (listed : Listed) (values : Values) : Type 0 where
  pub texts : values.texts.now ≡ listed.texts.items
  pub places : values.places.now ≡ listed.places.items

-- what is said of types of files
pub record AreTypes (lists : Lists) (types : TypeOptions) : Type 0 where
  pub asked : AreLent lists.types types.asked
  pub left_out : AreLent lists.types_not types.left_out
  pub added : AreLent lists.types_added types.added
  pub cleared : AreLent lists.types_cleared types.cleared

-- the options of a run, by the uses of options, their values and the operands
pub record AreOptions (uses : Bor (List Use)) (lists : Lists) (streams : Streams)
    (options : Options) : Type 0
  where
    pub streams_are : options.streams ≡ streams
    pub uses_are : options.uses ≡ uses
    pub max_count : options.max_count ≡ number_for uses.now MaxCount
    pub max_columns : options.max_columns ≡ number_for uses.now MaxColumns
    pub after_context : options.after_context ≡ number_for uses.now AfterContext
    pub before_context : options.before_context ≡ number_for uses.now BeforeContext
    pub context : options.context ≡ number_for uses.now Context
    pub context_separator : options.context_separator ≡ last_value uses.now ContextSeparator
    pub field_context_separator :
        options.field_context_separator ≡ last_value uses.now FieldContextSeparator
    pub field_match_separator :
        options.field_match_separator ≡ last_value uses.now FieldMatchSeparator
    pub path_separator : options.path_separator ≡ last_value uses.now PathSeparator
    pub hyperlink_format : options.hyperlink_format ≡ last_value uses.now HyperlinkFormat
    pub regex_size_limit : options.regex_size_limit ≡ last_value uses.now RegexSizeLimit
    pub dfa_size_limit : options.dfa_size_limit ≡ last_value uses.now DfaSizeLimit
    pub replace : options.replace ≡ last_value uses.now Replace
    pub color : options.color ≡ last_value uses.now Color
    pub colors : AreListed lists.colors.items options.colors
    pub encoding : options.encoding ≡ last_value uses.now Encoding
    pub globs : AreListed lists.globs.items options.globs
    pub iglobs : AreListed lists.iglobs.items options.iglobs
    pub ignore_files : AreListed lists.ignore_files.items options.ignore_files
    pub types : AreTypes lists options.types
    pub max_depth : options.max_depth ≡ number_for uses.now MaxDepth
    pub max_filesize : options.max_filesize ≡ last_value uses.now MaxFilesize
    pub sort : options.sort ≡ last_value uses.now Sort
    pub sortr : options.sortr ≡ last_value uses.now Sortr
    pub unrestricted : options.unrestricted ≡ unrestricted_at lists.unrestricted.items
    pub operands : AreListed lists.operands.items options.operands
    pub reads_patterns : options.reads_patterns ≡ names_input lists.pattern_files.items
    pub names_patterns_is : options.names_patterns ≡ names_patterns uses.now
