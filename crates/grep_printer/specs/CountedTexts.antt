-- What is counted of a search that any format writes, and the text of such counts.
use Rattle.std.specs.Prelude.{◌≡◌, ℕ, ◌+◌, ◌/◌, ◌%◌, nat_lt, true, not, ◌&&◌, ◌||◌, if◌then◌else◌}
use Rattle.std.specs.Prelude.{List, [], ◌∷◌, ◌++◌}
use Rattle.std.specs.Prelude.{codes, decimal, length, Option}
use Rattle.std.specs.List.{sum_by}
use Rattle.grep_matcher.specs.Lines.{byte_of}
use Rattle.grep_searcher.specs.Lines.{lines}
use Rattle.grep_searcher.specs.Plans.{Call, begins, matches, context, breaks, binary_data, finishes}
use Rattle.grep_printer.specs.Formats.{PrintedCall, Rules, Scene, printed_by}
use Rattle.grep_printer.specs.JsonMessages.{six_digits}
use Rattle.grep_printer.specs.PlanCounts.{line_count_of, matched, part_count_of}
use Rattle.grep_printer.specs.StatsSums.{capped, capped_sum, no_stats}
use Rattle.grep_printer.specs.declared.counted.CountedFormat.{CountedFormat}
use Rattle.grep_printer.specs.declared.stats.Stats.{Stats}

-- counts, after some more bytes were written
abbrev pub with_written : Stats → ℕ → Stats
with_written stats size = record stats { bytes_printed = capped_sum stats.bytes_printed size }

-- counts, after a match, by how many lines it has, and how often the matcher matches in it
abbrev pub with_found : Stats → ℕ → ℕ → Stats
with_found stats line_count match_count = record stats {
  matched_lines = capped_sum stats.matched_lines line_count;
  matches = capped_sum stats.matches match_count;
}

-- counts, after the end of a search, by how many bytes it has been through
abbrev pub with_finish : Stats → ℕ → Stats
with_finish stats count = record stats {
  searches = 1;
  searches_with_match = if nat_lt 0 stats.matched_lines then 1 else 0;
  bytes_searched = count;
}

-- counts, after a call, by the byte at which lines end and by how many parts its report has
abbrev pub counted_after : ℕ → Stats → Call → ℕ → Stats
counted_after terminator stats begins parts = stats
counted_after terminator stats (matches number offset bytes around) parts =
    with_found stats (length (lines terminator bytes)) parts
counted_after terminator stats (context kind number offset bytes) parts = stats
counted_after terminator stats breaks parts = stats
counted_after terminator stats (binary_data offset) parts = stats
counted_after terminator stats (finishes count binary) parts = with_finish stats count

-- counts, after a call and its text, by how many bytes that has
abbrev pub counted_with : ℕ → Stats → Call → ℕ → ℕ → Stats
counted_with terminator stats call parts size =
    with_written (counted_after terminator stats call parts) size

-- the rules of a format that may count too. If it counts, it asks for the parts of matches
abbrev pub counted_rules : {F : Type 0} → Rules F → Rules (CountedFormat F)
counted_rules rules = record {
  begun = λ format follows. record {
    format = rules.begun format.format follows;
    is_counting = format.is_counting;
    stats = no_stats;
  };
  asks = λ format call. format.is_counting || rules.asks format.format call;
  text = λ format scene printed. rules.text format.format scene printed;
  next = λ format scene printed. record {
    format = rules.next format.format scene printed;
    is_counting = format.is_counting;
    stats = if format.is_counting
        then counted_with (byte_of scene.settings.line_terminator) format.stats printed.call
        (length printed.parts) (length (rules.text format.format scene printed))
        else format.stats;
  };
  goes_on = λ format scene printed. rules.goes_on format.format scene printed;
  has_match = λ format. rules.has_match format.format;
  is_bare = λ format scene. not format.is_counting && rules.is_bare format.format scene;
}

-- the counts of a whole search, by its matches, the text that was written, and how many bytes it
-- has been through
abbrev pub search_stats : ℕ → List PrintedCall → List ℕ → ℕ → Stats
search_stats terminator found text count = record {
  elapsed = 0;
  searches = 1;
  searches_with_match = if nat_lt 0 (sum_by (line_count_of terminator) found) then 1 else 0;
  bytes_searched = count;
  bytes_printed = capped (length text);
  matched_lines = capped (sum_by (line_count_of terminator) found);
  matches = capped (sum_by part_count_of found);
}

-- a format that counts has these counts at the end of a search
abbrev pub StatsCount : {F : Type 0} → Rules F → Type 0
StatsCount {F} rules =
    (format : F) (scene : Scene) (calls : List PrintedCall) (last : PrintedCall) (count : ℕ)
    (binary : Option ℕ)
    → last.call ≡ finishes count binary
    → (printed_by (counted_rules rules) scene
    (record { format = format; is_counting = true; stats = no_stats }) (calls
    ++ last ∷ [])).format.stats
    ≡ search_stats (byte_of scene.settings.line_terminator) (matched calls)
    (printed_by (counted_rules rules) scene
    (record { format = format; is_counting = true; stats = no_stats }) (calls
    ++ last ∷ [])).text count

-- a line with a count, and the words that say what is counted
abbrev pub count_text : ℕ → List ℕ → List ℕ
count_text count words = (decimal count ++ 32 ∷ []) ++ words

-- nanoseconds as seconds, to the next microsecond
abbrev pub seconds_of : ℕ → List ℕ
seconds_of nanos = decimal ((nanos + 500) / 1000 / 1000000)
    ++ (codes "." ++ six_digits ((nanos + 500) / 1000 % 1000000))

-- a line with a time, which is given in nanoseconds, and the words that say what took it
abbrev pub time_text : ℕ → List ℕ → List ℕ
time_text nanos words = seconds_of nanos ++ words

-- what was found
abbrev pub found_text : Stats → List ℕ
found_text stats = count_text stats.matches (codes "matches\n")
    ++ (count_text stats.matched_lines (codes "matched lines\n")
    ++ count_text stats.searches_with_match (codes "files contained matches\n"))

-- what was searched and written
abbrev pub searched_text : Stats → List ℕ
searched_text stats = count_text stats.searches (codes "files searched\n")
    ++ (count_text stats.bytes_printed (codes "bytes printed\n")
    ++ count_text stats.bytes_searched (codes "bytes searched\n"))

-- the text of counts, after an empty line, and how long all took, which is given in nanoseconds
abbrev pub stats_text : Stats → ℕ → List ℕ
stats_text stats elapsed = codes "\n" ++ (found_text stats ++ (searched_text stats
    ++ (time_text stats.elapsed (codes " seconds spent searching\n")
    ++ time_text elapsed (codes " seconds total\n"))))
