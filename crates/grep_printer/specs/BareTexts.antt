-- The text of calls for which only bare lines are written: each line as it is, after its number.
use Rattle.std.specs.Prelude.{◌≡◌, ℕ, Bool, false, true, not, ◌&&◌, List, [], ◌∷◌, ◌++◌}
use Rattle.std.specs.Prelude.{Result, Ok, Err, MatchResult}
use Rattle.std.specs.Option.{is_none}
use Rattle.std.specs.declared.io.Error.{Error}
use Rattle.grep_output.specs.Outputs.{OutputCall, Writes}
use Rattle.grep_searcher.specs.BinaryDetections.{convert_byte_of, quit_byte_of}
use Rattle.grep_searcher.specs.Lines.{lines}
use Rattle.grep_searcher.specs.Plans.{Call, Planned, breaks, context, matches}
use Rattle.grep_printer.specs.Formats.{Scene, is_text}
use Rattle.grep_printer.specs.LineTexts.{is_plain, plain_line, plain_lines}
use Rattle.grep_printer.specs.declared.config.Config.{Config}
use Rattle.grep_printer.specs.declared.config.SearchSeparator.{SearchSeparator}
use Rattle.grep_printer.specs.declared.config.SearchSeparator.TheVariants.{Blank, Groups, Nothing}

-- whether nothing is written between two searches
abbrev pub is_nothing : SearchSeparator → Bool
is_nothing Nothing = true
is_nothing Blank = false
is_nothing Groups = false

-- only bare lines are written: each line as it is, after its number alone, and what comes between
-- groups of lines. So there is no path and no part, nothing between searches, and no message about
-- binary bytes
abbrev pub is_bare : Config → Scene → Bool
is_bare config scene =
    is_plain config scene.path && is_none scene.path && not config.only_matching
    && is_nothing config.separator && is_none (convert_byte_of scene.settings.binary_detection)
    && is_none (quit_byte_of scene.settings.binary_detection)

-- the text of a call for which only bare lines are written
abbrev pub bare_text : ℕ → Call → List ℕ
bare_text terminator (matches number offset bytes around) =
    plain_lines terminator 58 number (lines terminator bytes)
bare_text terminator (context kind number offset line) = plain_line terminator 45 number line
bare_text terminator breaks = 45 ∷ 45 ∷ terminator ∷ []
bare_text terminator call = []

-- the texts of some such calls, in order
abbrev pub bare_texts : ℕ → List Planned → List ℕ
bare_texts terminator [] = []
bare_texts terminator (planned ∷ later) =
    bare_text terminator planned.call ++ bare_texts terminator later

-- what is kept is written and a text after it, and what is returned says whether the text has any
-- bytes
abbrev pub WritesAfter : {W : Type 0} → (W → OutputCall → W → Type 0) → W → List ℕ → List ℕ
    → Result Bool Error → W → Type 0
WritesAfter write_step writer kept text result writer' =
    MatchResult result
    (λ has_text. (has_text ≡ is_text text)
    × Writes write_step writer (kept ++ text) (Ok tt) writer')
    (λ error. Writes write_step writer (kept ++ text) (Err error) writer')
