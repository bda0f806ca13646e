-- What the theorem of a run comes to if one input is searched, in the words of a user: which lines
-- of it are written, their number, or its path, and the status.
use Rattle.std.specs.Prelude.{◌≡◌, ◌≢◌, ℕ, ◌+◌, Bool, true, false, not, ◌&&◌, nat_lt}
use Rattle.std.specs.Prelude.{if◌then◌else◌, All, List, [], ◌∷◌, ◌++◌, decimal, length}
use Rattle.std.specs.Prelude.{◌==◌, filter, slice_range, take, Option, None, Some, is_some}
use Rattle.std.specs.Borrow.{Bor}
use Rattle.std.specs.List.{enumerate_from, flat_map, list_any}
use Rattle.std.specs.declared.alloc.AllocError.{AllocError}
use Rattle.grep_printer.specs.LineTexts.{missing_end}
use Rattle.grep_printer.specs.StatsSums.{capped}
use Rattle.grep_printer.specs.declared.hyperlinks.PrinterPath.{PrinterPath}
use Rattle.grep_replace.specs.MatchedParts.{first_from, parts_in}
use Rattle.grep_regex.specs.Views.{regex_first_at, regex_meaning}
use Rattle.grep_regex.specs.declared.regex.Regex.{Regex}
use Rattle.grep_searcher.specs.Lines.{lines, strip}
use Rattle.grep_searcher.specs.Meanings.{MatcherFacts}
use Rattle.grep_searcher.specs.Searches.{searched_bytes}
use Rattle.grep_searcher.specs.declared.LineTerminator.TheVariants.{Byte}
use Rattle.linegrep_cli.specs.OptionUses.{has}
use Rattle.linegrep_cli.specs.OptionValues.{AreOptions}
use Rattle.linegrep_cli.specs.SearchTexts.{Input, MayHave}
use Rattle.linegrep_cli.specs.SearcherOptions.{searcher_settings}
use Rattle.linegrep_cli.specs.WholeRuns.{literal_facts, literal_first_at, literal_groups_at}
use Rattle.linegrep_cli.specs.WholeRuns.{named_facts, named_first_at}
use Rattle.linegrep_cli.specs.WholeRuns.{named_groups_at, naming_of}
use Rattle.linegrep_cli.specs.WrittenRuns.{HasWritten}
use Rattle.linegrep_cli.specs.Worlds.{World}
use Rattle.linegrep_cli.specs.declared.lists.Lists.{Lists}
use Rattle.linegrep_cli.specs.declared.options.Options.{Options}
use Rattle.linegrep_cli.specs.declared.program.Streams.{Streams}
use Rattle.linegrep_cli.specs.declared.search.Ended.{Ended}
use Rattle.linegrep_options.specs.OptionUses.{is_same}
use Rattle.linegrep_options.specs.declared.option_id.OptionId.{OptionId}
use Rattle.linegrep_options.specs.declared.option_id.OptionId.TheVariants.{AfterContext}
use Rattle.linegrep_options.specs.declared.option_id.OptionId.TheVariants.{BeforeContext}
use Rattle.linegrep_options.specs.declared.option_id.OptionId.TheVariants.{ByteOffset, Color}
use Rattle.linegrep_options.specs.declared.option_id.OptionId.TheVariants.{Column, Context}
use Rattle.linegrep_options.specs.declared.option_id.OptionId.TheVariants.{ContextSeparator, Count}
use Rattle.linegrep_options.specs.declared.option_id.OptionId.TheVariants.{CountMatches, Crlf}
use Rattle.linegrep_options.specs.declared.option_id.OptionId.TheVariants.{FieldContextSeparator}
use Rattle.linegrep_options.specs.declared.option_id.OptionId.TheVariants.{FieldMatchSeparator}
use Rattle.linegrep_options.specs.declared.option_id.OptionId.TheVariants.{FilesWithMatches}
use Rattle.linegrep_options.specs.declared.option_id.OptionId.TheVariants.{FilesWithoutMatch}
use Rattle.linegrep_options.specs.declared.option_id.OptionId.TheVariants.{Heading, IncludeZero}
use Rattle.linegrep_options.specs.declared.option_id.OptionId.TheVariants.{InvertMatch, Json}
use Rattle.linegrep_options.specs.declared.option_id.OptionId.TheVariants.{LineNumber, MaxColumns}
use Rattle.linegrep_options.specs.declared.option_id.OptionId.TheVariants.{MaxCount, Multiline}
use Rattle.linegrep_options.specs.declared.option_id.OptionId.TheVariants.{NoContextSeparator}
use Rattle.linegrep_options.specs.declared.option_id.OptionId.TheVariants.{NoLineNumber, Null}
use Rattle.linegrep_options.specs.declared.option_id.OptionId.TheVariants.{NullData, OnlyMatching}
use Rattle.linegrep_options.specs.declared.option_id.OptionId.TheVariants.{Passthru, Pretty, Quiet}
use Rattle.linegrep_options.specs.declared.option_id.OptionId.TheVariants.{Replace, Sort, Sortr}
use Rattle.linegrep_options.specs.declared.option_id.OptionId.TheVariants.{Stats, StopOnNonmatch}
use Rattle.linegrep_options.specs.declared.option_id.OptionId.TheVariants.{Trim, Vimgrep}
use Rattle.linegrep_options.specs.declared.option_id.OptionId.TheVariants.{WithFilename}
use Rattle.linegrep_options.specs.declared.uses.Use.{Use}

-- The options that change which lines of a file are written, or how. All others say what the
-- pattern means, which files are searched, or what is said of them on standard error.
abbrev pub changing_options : List OptionId
changing_options = Quiet ∷ Count ∷ CountMatches ∷ IncludeZero ∷ FilesWithMatches
    ∷ FilesWithoutMatch ∷ Json ∷ Vimgrep ∷ OnlyMatching ∷ Replace ∷ InvertMatch ∷ Multiline
    ∷ StopOnNonmatch ∷ MaxCount ∷ Crlf ∷ NullData ∷ Passthru ∷ AfterContext ∷ BeforeContext
    ∷ Context ∷ ContextSeparator ∷ NoContextSeparator ∷ FieldMatchSeparator ∷ FieldContextSeparator
    ∷ LineNumber ∷ NoLineNumber ∷ Column ∷ ByteOffset ∷ WithFilename ∷ Null ∷ Heading ∷ Pretty
    ∷ Color ∷ MaxColumns ∷ Trim ∷ Stats ∷ Sort ∷ Sortr ∷ []

-- whether an option is one of some
abbrev pub is_among : List OptionId → OptionId → Bool
is_among options option = list_any (is_same option) options

-- whether an option is one of those, but none of some others
abbrev pub changes_more : List OptionId → OptionId → Bool
changes_more allowed option = is_among changing_options option && not (is_among allowed option)

-- options use none of those but some that are allowed, and standard output is no terminal
pub record UseOnly (allowed : List OptionId) (options : Options) : Type 0 where
  pub uses : Bor (List Use)
  pub lists : Lists
  pub streams : Streams
  pub are_options : AreOptions uses lists streams options
  pub no_other : All (λ one. changes_more allowed one.id ≡ false) uses.now
  pub no_terminal : streams.is_terminal ≡ false

-- the text that is searched of an input: a content that it may have, decoded. It has no NUL
pub record IsTextOfInput (options : Options) (one : Input) (text : List ℕ) : Type 0 where
  pub content : List ℕ
  pub may_have : MayHave one content
  pub decoded : text ≡ searched_bytes (searcher_settings options) content
  pub no_nul : All (λ byte. byte ≢ 0) text

-- whether a line matches a regular expression, without its line feed
abbrev pub is_matched_by : Regex → List ℕ → Bool
is_matched_by regex line = is_some ((regex_meaning regex).first (strip (Byte 10) line))

-- the lines of a text that match, those that don't, and whether one does
abbrev pub matching_lines : Regex → List ℕ → List (List ℕ)
matching_lines regex text = filter (is_matched_by regex) (lines 10 text)

abbrev pub other_lines : Regex → List ℕ → List (List ℕ)
other_lines regex text = filter (λ line. not (is_matched_by regex line)) (lines 10 text)

abbrev pub has_matching : Regex → List ℕ → Bool
has_matching regex text = list_any (is_matched_by regex) (lines 10 text)

-- a line as it is written: with a line feed at its end, which the last line of a text may lack
abbrev pub line_with_end : List ℕ → List ℕ
line_with_end line = line ++ missing_end 10 line

-- a line after its number, which is one more than that of the lines before it
abbrev pub line_with_number : ℕ × List ℕ → List ℕ
line_with_number one = decimal (one.0 + 1) ++ 58 ∷ line_with_end one.1

-- a number in a line of its own, unless it is 0
abbrev pub line_of_count : ℕ → List ℕ
line_of_count count = if nat_lt 0 count then decimal count ++ 10 ∷ [] else []

-- where the successive matches in a line are, without its line feed
abbrev pub match_places : Regex → List ℕ → List (ℕ × ℕ)
match_places regex line =
    parts_in (first_from (regex_first_at regex (strip (Byte 10) line)) 0)
    (length (strip (Byte 10) line)) (length line)

-- Each match in a line of its own. There is none if all that matches is the end of a text that
-- doesn't end in a line feed, as with `$`: then it is the line.
abbrev pub lines_of_matches : Regex → List ℕ → List ℕ
lines_of_matches regex line = if length (match_places regex line) == 0 then line_with_end line
    else flat_map (λ place. line_with_end (slice_range line place.0 place.1))
    (match_places regex line)

-- What is said of a run: by its options, the expression that it searches for, the path that is
-- written of its input, the text that it searches, whether it has written a text, and its status
abbrev pub Claim : Type 1
Claim = Options → Regex → Option PrinterPath → List ℕ → (List ℕ → Type 0) → ℕ → Type 0

-- `linegrep P FILE`: the lines that match are written
abbrev pub WritesMatching : Claim
WritesMatching options regex path text IsWritten status =
    path ≡ None → IsWritten (flat_map line_with_end (matching_lines regex text))

-- `linegrep -v P FILE`: the other lines are
abbrev pub WritesOthers : Claim
WritesOthers options regex path text IsWritten status =
    path ≡ None → has options InvertMatch ≡ true
    → IsWritten (flat_map line_with_end (other_lines regex text))

-- `linegrep -n P FILE`: the lines that match are, each after its number
abbrev pub WritesNumbered : Claim
WritesNumbered options regex path text IsWritten status =
    path ≡ None → has options LineNumber ≡ true
    → IsWritten (flat_map line_with_number
    (filter (λ one. is_matched_by regex one.1) (enumerate_from 0 (lines 10 text))))

-- `linegrep -m N P FILE`: the first N lines that match are
abbrev pub WritesFirst : Claim
WritesFirst options regex path text IsWritten status =
    path ≡ None → (most : ℕ) → options.max_count ≡ Some most
    → IsWritten (flat_map line_with_end (take most (matching_lines regex text)))

-- `linegrep -c P FILE`: how many lines match is written, or nothing if none does. The count goes up
-- to the greatest number of 64 bits. The status says whether a line matches
abbrev pub WritesCount : Claim
WritesCount options regex path text IsWritten status =
    path ≡ None → has options Count ≡ true
    → IsWritten (line_of_count (capped (length (matching_lines regex text))))
    × (status ≡ (if has_matching regex text then 0 else 1))

-- `linegrep -o P FILE`: the matches in the lines that match are, each in a line of its own
abbrev pub WritesMatches : Claim
WritesMatches options regex path text IsWritten status =
    path ≡ None → has options OnlyMatching ≡ true
    → IsWritten (flat_map (lines_of_matches regex) (matching_lines regex text))

-- `linegrep -l P FILE`: the path is written, as it is shown, if a line matches. The status says
-- whether one does
abbrev pub WritesPath : Claim
WritesPath options regex path text IsWritten status =
    has options FilesWithMatches ≡ true → (shown : PrinterPath) → path ≡ Some shown
    → shown.link ≡ None
    → IsWritten (if has_matching regex text then shown.text.now ++ 10 ∷ [] else [])
    × (status ≡ (if has_matching regex text then 0 else 1))

-- `linegrep -q P FILE`, if it has searched the whole file: nothing is written. The status says
-- whether a line matches
abbrev pub WritesNothing : Claim
WritesNothing options regex path text IsWritten status =
    has options Quiet ≡ true
    → IsWritten [] × (status ≡ (if has_matching regex text then 0 else 1))

-- without `-v`, `-m` and `-c`, the status says whether a line matches
abbrev pub TellsMatching : Claim
TellsMatching options regex path text IsWritten status =
    path ≡ None → status ≡ (if has_matching regex text then 0 else 1)

-- By what surrounds a run.
module _ {S F R W X : Type 0} (world : World S F R W X) where
  -- Something holds of each run with such a matcher that has searched one input, and whose options
  -- use no option but some that changes what is written of it.
  abbrev pub EachRunWith : {M : Type 0} → (M → MatcherFacts AllocError)
      → (M → List ℕ → ℕ → Option (ℕ × ℕ)) → (M → List ℕ → ℕ → List (Option (ℕ × ℕ))) → Regex
      → List OptionId → Claim → Type 0
  EachRunWith facts first_at groups_at regex allowed Says = (system : S) (before : List ℕ)
      (options : Options) (input : R) (ended : Ended R W) (one : Input) (text : List ℕ)
      (run : HasWritten world system before facts first_at groups_at options regex input ended)
      → UseOnly allowed options → run.inputs ≡ one ∷ [] → IsTextOfInput options one text
      → Says options regex one.path text
      (λ written. world.output.contents ended.output ≡ Some (before ++ written)) ended.status

  -- it does with either of the matchers that a run may have
  abbrev pub EachRun : List OptionId → Claim → Type 0
  EachRun allowed Says = (regex : Regex)
      → EachRunWith literal_facts literal_first_at literal_groups_at regex allowed Says
      × EachRunWith (named_facts {naming = naming_of regex}) named_first_at named_groups_at regex
      allowed Says

  -- the laws: what is claimed holds of each run whose options change no more than the claim says
  abbrev pub MatchingLinesAreWritten : Type 0
  MatchingLinesAreWritten = EachRun [] WritesMatching

  abbrev pub OtherLinesAreWritten : Type 0
  OtherLinesAreWritten = EachRun (InvertMatch ∷ []) WritesOthers

  abbrev pub NumberedLinesAreWritten : Type 0
  NumberedLinesAreWritten = EachRun (LineNumber ∷ []) WritesNumbered

  abbrev pub FirstLinesAreWritten : Type 0
  FirstLinesAreWritten = EachRun (MaxCount ∷ []) WritesFirst

  abbrev pub StatusesTellMatching : Type 0
  StatusesTellMatching = EachRun (LineNumber ∷ []) TellsMatching

  abbrev pub MatchingLinesAreCounted : Type 0
  MatchingLinesAreCounted = EachRun (Count ∷ []) WritesCount

  abbrev pub PathsAreWritten : Type 0
  PathsAreWritten = EachRun (FilesWithMatches ∷ []) WritesPath

  abbrev pub QuietRunsWriteNothing : Type 0
  QuietRunsWriteNothing = EachRun (Quiet ∷ []) WritesNothing

  abbrev pub MatchesAreWritten : Type 0
  MatchesAreWritten = EachRun (OnlyMatching ∷ []) WritesMatches
