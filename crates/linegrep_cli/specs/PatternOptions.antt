-- The options with which the patterns of a command line are compiled.
use Rattle.std.specs.Prelude.{Bool, true, false, ℕ, not, ◌&&◌, ◌||◌, ◌==◌, if◌then◌else◌}
use Rattle.std.specs.Prelude.{List, [], ◌∷◌, ◌++◌, codes, flat_map, length, map, nat_lt}
use Rattle.std.specs.Prelude.{Option, None, Some, String, string_bytes, unwrap_or}
use Rattle.std.specs.Borrow.{Bor}
use Rattle.std.specs.Global.{Global}
use Rattle.std.specs.List.{list_any}
use Rattle.std.specs.Str.{chars}
use Rattle.std.specs.Char.Unicode.Uppercase.{is_uppercase}
use Rattle.grep_regex.specs.Patterns.{default_options}
use Rattle.grep_regex.specs.declared.options.Options.{Options as PatternSettings}
use Rattle.linegrep_cli.specs.OptionUses.{has}
use Rattle.linegrep_cli.specs.SearcherOptions.{terminator_of}
use Rattle.linegrep_options.specs.declared.option_id.OptionId.TheVariants.{Crlf}
use Rattle.linegrep_options.specs.declared.option_id.OptionId.TheVariants.{FixedStrings}
use Rattle.linegrep_options.specs.declared.option_id.OptionId.TheVariants.{IgnoreCase, LineRegexp}
use Rattle.linegrep_options.specs.declared.option_id.OptionId.TheVariants.{Multiline}
use Rattle.linegrep_options.specs.declared.option_id.OptionId.TheVariants.{MultilineDotall}
use Rattle.linegrep_options.specs.declared.option_id.OptionId.TheVariants.{NoPcre2Unicode}
use Rattle.linegrep_options.specs.declared.option_id.OptionId.TheVariants.{NoUnicode}
use Rattle.linegrep_options.specs.declared.option_id.OptionId.TheVariants.{NullData}
use Rattle.linegrep_options.specs.declared.option_id.OptionId.TheVariants.{SmartCase, WordRegexp}
use Rattle.linegrep_cli.specs.declared.options.Options.{Options}
use Rattle.linegrep_files.specs.Limits.{has_no_size, size_asked}

-- a letter that takes its meaning from the one after it: a backslash, but in a literal
abbrev pub is_escape : Bool → ℕ → Bool
is_escape is_literal letter = not is_literal && (letter == 92)

-- the letters of a pattern, without those that are right after an escape
unfoldable pub unescaped : Bool → List ℕ → List ℕ
unescaped is_literal [] = []
unescaped is_literal (letter ∷ []) = letter ∷ []
unescaped is_literal (letter ∷ next ∷ later) = if is_escape is_literal letter
    then letter ∷ unescaped is_literal later
    else letter ∷ unescaped is_literal (next ∷ later)

-- a pattern has a capital letter, but for those right after an escape
unfoldable pub has_capital : Bool → List ℕ → Bool
has_capital is_literal text = list_any is_uppercase (unescaped is_literal (chars text))

-- letters match in either case: with `-i`, and with `-S` if no pattern has a capital letter
abbrev pub ignores_case : Options → List (String Global) → Bool
ignores_case options patterns = has options IgnoreCase || (has options SmartCase
    && not (list_any (λ text. has_capital (has options FixedStrings) (string_bytes text)) patterns))

-- lines end in a carriage return and a line feed too
abbrev pub ends_in_crlf : Options → Bool
ends_in_crlf options = not (has options NullData) && has options Crlf

-- classes, case folding and words are Unicode's
abbrev pub is_unicode : Options → Bool
is_unicode options = not (has options NoUnicode) && not (has options NoPcre2Unicode)

-- how many bytes the tables of the patterns may have: as an option says, or else the default
abbrev pub size_limit_of : Options → ℕ
size_limit_of options = unwrap_or (size_asked options.regex_size_limit) default_options.size_limit

-- the limits of sizes that options set aren't sizes
abbrev pub refuses_size_limits : Options → Bool
refuses_size_limits options =
    has_no_size options.regex_size_limit || has_no_size options.dfa_size_limit

-- the options of the patterns. `^` and `$` match at the ends of lines, and no match has the end of
-- a line in it, unless matches may run over several lines. What no option sets has its default
abbrev pub pattern_options : Options → List (String Global) → PatternSettings
pattern_options options patterns = record default_options {
  case_insensitive = ignores_case options patterns;
  fixed_strings = has options FixedStrings;
  word = has options WordRegexp;
  whole_line = has options LineRegexp;
  multi_line = true;
  dot_matches_new_line = has options Multiline && has options MultilineDotall;
  unicode = is_unicode options;
  crlf = ends_in_crlf options;
  line_terminator = if has options Multiline then None else Some (terminator_of options);
  size_limit = size_limit_of options;
}

-- a template may name groups of the patterns, which aren't literals
abbrev pub has_dollar : Option (Bor (List ℕ)) → Bool
has_dollar None = false
has_dollar (Some text) = list_any (λ byte. byte == 36) text.now

abbrev pub names_groups : Options → Bool
names_groups options = has_dollar options.replace && not (has options FixedStrings)

-- several patterns as one pattern, whose groups have one sequence of numbers and names. The
-- patterns are alternatives, each in a group without a number
abbrev pub group_of : List ℕ → List ℕ → List ℕ
group_of start text = start ++ (text ++ codes ")")

abbrev pub joined_text : List (List ℕ) → List ℕ
joined_text [] = []
joined_text (first ∷ later) = group_of (codes "(?:") first
    ++ flat_map (group_of (codes "|(?:")) later

-- the texts that are compiled: the patterns, or several patterns as one
abbrev pub searched_texts : Options → List (List ℕ) → List (List ℕ)
searched_texts options texts = if nat_lt 1 (length texts) && names_groups options
    then joined_text texts ∷ [] else texts

abbrev pub pattern_texts : Options → List (String Global) → List (List ℕ)
pattern_texts options patterns = searched_texts options (map string_bytes patterns)
