-- What a run has written that has searched one input, by options that change nothing but which of
-- its lines are written and whether these have numbers.
use Rattle.std.proofs.Common.{◌≡◌, ◌∙◌, ℕ, ◌+◌, Bool, true, false, List, [], ◌∷◌, ◌++◌, Option}
use Rattle.std.proofs.Common.{None, Some, ap, ap₂, append_assoc, if◌then◌else◌, length, refl, subst}
use Rattle.std.proofs.Common.{arith, suc, sym, zero, zero-lt-suc}
use Rattle.std.proofs.Math.Bool.{or-false}
use Rattle.std.proofs.lemmas.Bool.{MatchBool-at_false, lt-ltb}
use Rattle.std.proofs.lemmas.List.{append-nil}
use Rattle.std.proofs.lemmas.List.Elements.{filter_agree}
use Rattle.std.specs.List.{enumerate_from, flat_map}
use Rattle.std.specs.Prelude.{◌||◌, decimal, filter, is_some, nat_lt, not, slice_index_or, take}
use Rattle.std.specs.declared.alloc.AllocError.{AllocError}
use Rattle.grep_matcher.specs.Lines.{byte_of}
use Rattle.grep_printer.specs.CountedTexts.{stats_text}
use Rattle.grep_printer.specs.LineTexts.{plain_line}
use Rattle.grep_printer.specs.StatsSums.{capped}
use Rattle.grep_printer.specs.SummaryTexts.{counts_on, finish_text, has_found, is_written}
use Rattle.grep_printer.specs.declared.colors.ColorSpecs.TheVariants.{Plain}
use Rattle.grep_printer.specs.declared.hyperlinks.PrinterPath.{PrinterPath}
use Rattle.grep_printer.specs.declared.standard.StandardFormat.{StandardFormat}
use Rattle.grep_printer.specs.declared.summary.Counts.{Counts}
use Rattle.grep_printer.specs.declared.summary_builder.SummaryConfig.{SummaryConfig}
use Rattle.grep_printer.specs.declared.summary_builder.SummaryKind.{SummaryKind}
use Rattle.grep_printer.specs.declared.summary_builder.SummaryKind.TheVariants.{Count as CountKind}
use Rattle.grep_printer.specs.declared.summary_builder.SummaryKind.TheVariants.{PathWithMatch}
use Rattle.grep_printer.specs.declared.summary_builder.SummaryKind.TheVariants.{Quiet as QuietKind}
use Rattle.grep_regex.specs.Views.{regex_meaning}
use Rattle.grep_regex.specs.declared.regex.Regex.{Regex}
use Rattle.grep_searcher.proofs.HitLineLemmas.{hits_if-plain}
use Rattle.grep_searcher.specs.HitLines.{hit_lines, hit_matches, is_hit, items_up_to}
use Rattle.grep_searcher.specs.Lines.{lines, strip}
use Rattle.grep_searcher.specs.Meanings.{MatcherFacts, Meaning}
use Rattle.grep_searcher.specs.Plans.{Settings, hits_if, is_across}
use Rattle.grep_searcher.specs.Searches.{searched_bytes}
use Rattle.grep_searcher.specs.SearchLaws.{number_of}
use Rattle.grep_searcher.specs.declared.LineTerminator.{LineTerminator}
use Rattle.grep_searcher.specs.declared.LineTerminator.TheVariants.{Byte}
use Rattle.linegrep_cli.proofs.HitTextLemmas.{flat_map-agree, hit-texts, hits-placed, line-text}
use Rattle.linegrep_cli.proofs.HitTextLemmas.{length-hits, unnumbered-texts}
use Rattle.linegrep_cli.proofs.HitPartLemmas.{parts-texts}
use Rattle.linegrep_cli.proofs.LineSearchLemmas.{lines-searched, parts-searched}
use Rattle.linegrep_cli.proofs.MatchWalkLemmas.{printed_of}
use Rattle.linegrep_cli.proofs.OneInputLemmas.{IsOneText, one-text}
use Rattle.linegrep_cli.proofs.PlainRunLemmas.{KeepCount, KeepPath, count-kind, path-kind, without-null}
use Rattle.linegrep_cli.proofs.PlainRunLemmas.{without-zero}
use Rattle.linegrep_cli.proofs.PlainRunLemmas.{KeepLook, KeepText, no-color, no-separators, no-summary}
use Rattle.linegrep_cli.proofs.PlainRunLemmas.{no-template, not-counted, not-json, not-vimgrep}
use Rattle.linegrep_cli.proofs.PlainRunLemmas.{parts-as-asked, plain-lines}
use Rattle.linegrep_cli.proofs.PlainSettingLemmas.{ArePlainSettings, KeepLines}
use Rattle.linegrep_cli.proofs.PlainSettingLemmas.{plain-settings}
use Rattle.linegrep_cli.proofs.PlainTextLemmas.{WritesLines}
use Rattle.linegrep_cli.proofs.PrinterChoiceLemmas.{lines-printer, summary-printer}
use Rattle.linegrep_cli.proofs.PrinterKindLemmas.{lines-run, summary-run}
use Rattle.linegrep_cli.proofs.SummaryTextLemmas.{goes_on, matches-counted, no_bytes}
use Rattle.linegrep_cli.proofs.UnusedOptionLemmas.{IsRefused, has-none}
use Rattle.linegrep_cli.specs.Corollaries.{IsTextOfInput, UseOnly, is_matched_by, line_of_count}
use Rattle.linegrep_cli.specs.Corollaries.{line_with_end, line_with_number, lines_of_matches}
use Rattle.linegrep_cli.specs.PrinterOptions.{color_choice, summary_kind, summary_settings}
use Rattle.linegrep_cli.specs.OptionUses.{has}
use Rattle.linegrep_cli.specs.SearchTexts.{AreCounts, AreTotals, Input}
use Rattle.linegrep_cli.specs.SearchTexts.{IsTextBy, settings_for}
use Rattle.linegrep_cli.specs.SearcherOptions.{searcher_settings}
use Rattle.linegrep_cli.specs.TerminalColors.{colors_for}
use Rattle.linegrep_cli.specs.WrittenRuns.{HasWritten}
use Rattle.linegrep_cli.specs.Worlds.{World}
use Rattle.linegrep_cli.specs.declared.counted_run.CountedRun.{CountedRun}
use Rattle.linegrep_cli.specs.declared.options.Options.{Options}
use Rattle.linegrep_cli.specs.declared.printers.Printer.{Printer}
use Rattle.linegrep_cli.specs.declared.search.Ended.{Ended}
use Rattle.linegrep_cli.specs.declared.printers.Printer.TheVariants.{Lines, Summary}
use Rattle.linegrep_options.specs.declared.option_id.OptionId.{OptionId}
use Rattle.linegrep_options.specs.declared.option_id.OptionId.TheVariants.{Count, FilesWithMatches}
use Rattle.linegrep_options.specs.declared.option_id.OptionId.TheVariants.{IncludeZero, OnlyMatching}
use Rattle.linegrep_options.specs.declared.option_id.OptionId.TheVariants.{Quiet}

-- the texts of two settings are one, which differ only in what is done about a NUL
searched-same : (settings : Settings) (quits : Bool) (content : List ℕ)
    → searched_bytes (settings_for settings quits) content ≡ searched_bytes settings content
unfolding searched_bytes
searched-same settings quits content = refl

-- the lines that hit, if it is known which do
pub hits-known : (k : Settings) (meaning : Meaning) (text : List ℕ) (hit : List ℕ → Bool)
    → k.line_terminator ≡ Byte 10 → ((line : List ℕ) → is_hit k meaning line ≡ hit line)
    → hit_lines k meaning text ≡ items_up_to k.max_matches (filter hit (lines 10 text))
hits-known k meaning text hit feeds same =
    ap (items_up_to k.max_matches)
    (filter_agree (is_hit k meaning) hit same (lines (byte_of k.line_terminator) text)
    ∙ ap (λ (t : LineTerminator). filter hit (lines (byte_of t) text)) feeds)

-- a line hits exactly if it matches, or if it doesn't
module _ (k : Settings) (meaning : Meaning) (regex : Regex) (feeds : k.line_terminator ≡ Byte 10)
    (means : meaning ≡ regex_meaning regex) where
  matches-same : (line : List ℕ)
      → is_some (meaning.first (strip k.line_terminator line)) ≡ is_matched_by regex line
  matches-same line = ap₂ (λ (m : Meaning) (t : LineTerminator). is_some (m.first (strip t line)))
      means feeds

  pub hit-matches : k.invert_match ≡ false → (line : List ℕ)
      → is_hit k meaning line ≡ is_matched_by regex line
  hit-matches plain line =
      hits_if-plain k (is_some (meaning.first (strip k.line_terminator line))) plain
      ∙ matches-same line

  inverted : k.invert_match ≡ true → (b : Bool) → hits_if k b ≡ not b
  inverted is true = ap not is
  inverted is false = is

  pub hit-misses : k.invert_match ≡ true → (line : List ℕ)
      → is_hit k meaning line ≡ not (is_matched_by regex line)
  hit-misses is line = inverted is (is_some (meaning.first (strip k.line_terminator line)))
      ∙ ap not (matches-same line)

-- lines with numbers
numbered-text : (k : Settings) (one : ℕ × List ℕ) → k.line_terminator ≡ Byte 10
    → k.line_number ≡ true
    → plain_line (byte_of k.line_terminator) 58 (number_of k one.0) one.1 ≡ line_with_number one
numbered-text k one feeds numbers =
    ap₂ (λ (t : LineTerminator) (b : Bool). plain_line (byte_of t) 58
    (if b then Some (one.0 + 1) else None) one.1) feeds numbers
    ∙ append_assoc (decimal (one.0 + 1)) (58 ∷ []) (line_with_end one.1)

-- the text of a count, if counts of 0 are left out
count-text : (leaves_out : Bool) (count : ℕ) → leaves_out ≡ true
    → (if nat_lt 0 count || not leaves_out then decimal count ++ 10 ∷ [] else []) ≡ line_of_count count
count-text leaves_out count is =
    ap (λ b. if nat_lt 0 count || not b then decimal count ++ 10 ∷ [] else []) is
    ∙ ap (λ b. if b then decimal count ++ 10 ∷ [] else []) (or-false (nat_lt 0 count))

-- a capped count is 0 only if the count is
some-capped : (count : ℕ) → nat_lt 0 (capped count) ≡ nat_lt 0 count
some-capped zero = refl
some-capped (suc count) = lt-ltb 0 (capped (suc count)) (omega arith)
    ∙ sym (lt-ltb 0 (suc count) (omega arith))

-- there is a first of some matches if there is one
some-first : {T : Type 0} (found : List T) → nat_lt 0 (length (take 1 found)) ≡ nat_lt 0 (length found)
some-first [] = refl
some-first (first ∷ later) = sym (lt-ltb 0 (length (first ∷ later)) (zero-lt-suc (length later)))

-- the text of a path without a color and without a link, by whether there is a match
path-text : (config : SummaryConfig) (path : Option PrinterPath) (shown : PrinterPath) (counts : Counts)
    → config.path_terminator ≡ None → config.color_specs ≡ Plain → path ≡ Some shown
    → shown.link ≡ None
    → finish_text PathWithMatch config path 10 counts
    ≡ (if nat_lt 0 counts.match_count then shown.text.now ++ 10 ∷ [] else [])
path-text config path shown counts terminator plain named unlinked =
    rw (terminator, plain, named, unlinked, or-false (nat_lt 0 counts.match_count)) refl

by-line-of : (k : Settings) (meaning : Meaning) → ArePlainSettings k → is_across k meaning ≡ false
by-line-of k meaning plain = rw plain.single refl

module _ {S F R W X M : Type 0} (world : World S F R W X) (system : S) (before : List ℕ)
    (facts : M → MatcherFacts AllocError) (first_at : M → List ℕ → ℕ → Option (ℕ × ℕ))
    (groups_at : M → List ℕ → ℕ → List (Option (ℕ × ℕ))) (options : Options) (regex : Regex)
    (input : R) (ended : Ended R W)
    (run : HasWritten world system before facts first_at groups_at options regex input ended)
    (allowed : List OptionId) (only : UseOnly allowed options) (keep : KeepLines allowed)
    (one : Input) (single : run.inputs ≡ one ∷ []) (text : List ℕ)
    (of : IsTextOfInput options one text) where
  abbrev pub k : Settings
  k = settings_for (searcher_settings options) one.quits

  abbrev pub meaning : Meaning
  meaning = (facts run.matcher).meaning

  pub plain : ArePlainSettings k
  plain = plain-settings allowed options only keep one.quits

  pub means : meaning ≡ regex_meaning regex
  means = run.is_matcher.meaning

  searched : searched_bytes k of.content ≡ text
  searched = searched-same (searcher_settings options) one.quits of.content ∙ sym of.decoded

  alone : IsOneText facts first_at groups_at (searcher_settings options) run.matcher run.printer one
      run.findings
  alone = one-text facts first_at groups_at (searcher_settings options) run.matcher run.printer one
      run.texts single

  -- what comes of the one search, with the run's printer
  by-printer : (printer : Printer M) → run.printer ≡ printer
      → IsTextBy facts first_at groups_at k run.matcher printer false one.path text alone.next
  by-printer printer is =
      subst (λ p. IsTextBy facts first_at groups_at k run.matcher p false one.path text alone.next) is
      (subst (λ bytes. IsTextBy facts first_at groups_at k run.matcher run.printer false one.path
      bytes alone.next) searched (alone.of of.content of.may_have))

  -- a format that doesn't count writes nothing at the end
  no-totals : {G : Type 0} (counting : CountedRun G) → counting.printer.format.is_counting ≡ false
      → AreCounts counting.printer.format run.findings.stats run.totals → run.totals ≡ []
  no-totals counting off totals =
      MatchBool-at_false ((elapsed : ℕ) × (run.totals ≡ stats_text run.findings.stats elapsed))
      (run.totals ≡ []) off totals

  -- what is written, by the text of the search and without totals
  all-written : (texts : List ℕ) → alone.next.text ≡ texts → run.totals ≡ []
      → world.output.contents ended.output ≡ Some (before ++ texts)
  all-written texts is none =
      run.written ∙ ap (λ (t : List ℕ). Some (before ++ t))
      (ap₂ (λ (a b : List ℕ). a ++ b) (alone.text_is ∙ is) none ∙ append-nil texts)

  -- the status, by whether something was found
  status-known : (found : Bool) → alone.next.found ≡ found
      → ended.status ≡ (if found then 0 else 1)
  status-known found is = run.status_is ∙ ap (λ b. if b then 0 else 1) (alone.found_is ∙ is)

  -- with a printer of lines, or of their parts
  module _ (keeps : KeepText allowed) (look : KeepLook allowed) (nameless : one.path ≡ None) where
    pub record IsLinePrinter : Type 0 where
      pub counting : CountedRun StandardFormat
      pub is : run.printer ≡ Lines counting
      pub writes : WritesLines counting.printer.format.format.config (record { path = one.path; settings = k })
      pub parts_as_asked : counting.printer.format.format.config.only_matching ≡ has options OnlyMatching
      pub totals : run.totals ≡ []

    line-printer : IsLinePrinter
    line-printer =
        let across = is_across (searcher_settings options) meaning in
        let colors = colors_for run.colors (color_choice options) options.streams in
        let kind = lines-printer options across run.separators run.matcher run.template colors
        run.printer (no-summary allowed options only keeps look across)
        (not-vimgrep allowed options only keeps) (not-json allowed options only keeps)
        (no-template allowed options only keeps regex run.template run.is_template) run.is_printer in
        let chosen = lines-run run.printer kind in
        let usual = no-separators allowed options only keeps run.separators run.are_separators in record {
          counting = chosen.0;
          is = chosen.1;
          writes = plain-lines allowed options only keeps colors run.separators
              chosen.0.printer.format.format.config (record { path = one.path; settings = k })
              (no-color allowed options only keeps run.colors) usual nameless chosen.2.0;
          parts_as_asked = parts-as-asked allowed options only keeps colors run.separators
              chosen.0.printer.format.format.config chosen.2.0;
          totals = no-totals chosen.0 (chosen.2.1.counts ∙ not-counted allowed options only keeps)
              (subst (λ p. AreTotals p run.findings.stats run.totals) chosen.1 run.are_totals);
        }

    -- the texts of the lines that hit are written, and the status says whether there is one
    pub lines-written : IsRefused allowed OnlyMatching
        → (world.output.contents ended.output ≡ Some (before ++ flat_map (line-text k meaning text)
        (hits-placed k meaning text)))
        × (ended.status ≡ (if nat_lt 0 (length (hit_lines k meaning text)) then 0 else 1))
    lines-written whole =
        let by = line-printer in
        let result = lines-searched facts first_at k run.matcher one.path text plain of.no_nul
        by.counting.printer.format alone.next by.writes
        (by.parts_as_asked ∙ has-none allowed options only OnlyMatching whole) (by-printer (Lines by.counting) by.is) in (
          all-written (flat_map (line-text k meaning text) (hits-placed k meaning text))
              (result.0 ∙ hit-texts k meaning text) by.totals,
          status-known (nat_lt 0 (length (hit_lines k meaning text)))
              (result.1 ∙ ap (λ n. nat_lt 0 n) (length-hits k meaning text)),
        )

    -- the matches in the lines that hit are written, each in a line of its own
    pub matches-written : has options OnlyMatching ≡ true → k.invert_match ≡ false → k.line_number ≡ false
        → world.output.contents ended.output
        ≡ Some (before ++ flat_map (lines_of_matches regex) (hit_lines k meaning text))
    matches-written parts plainly unnumbered =
        let by = line-printer in
        let config = by.counting.printer.format.format.config in
        let asked = by.parts_as_asked ∙ parts in
        let result = parts-searched facts first_at k run.matcher one.path text plain of.no_nul
        by.counting.printer.format alone.next by.writes asked plainly
        (by-printer (Lines by.counting) by.is) in
        all-written (flat_map (lines_of_matches regex) (hit_lines k meaning text))
        (result.0 ∙ parts-texts k meaning text regex (first_at run.matcher) run.is_matcher.first
        (by-line-of k meaning plain) plain.by_feeds unnumbered (record { path = one.path; settings = k }) refl
        config by.writes asked) by.totals

    -- without numbers, if it is known which lines hit
    pub lines-unnumbered : IsRefused allowed OnlyMatching → (hit : List ℕ → Bool) → k.line_number ≡ false
        → ((line : List ℕ) → is_hit k meaning line ≡ hit line)
        → world.output.contents ended.output ≡ Some (before
        ++ flat_map line_with_end (items_up_to k.max_matches (filter hit (lines 10 text))))
    lines-unnumbered whole hit numbers same =
        (lines-written whole).0 ∙ ap (λ (t : List ℕ). Some (before ++ t))
        (unnumbered-texts k meaning text numbers
        ∙ (ap (λ (t : LineTerminator). flat_map (λ line. plain_line (byte_of t) 58 None line)
        (hit_lines k meaning text)) plain.by_feeds
        ∙ ap (flat_map line_with_end) (hits-known k meaning text hit plain.by_feeds same)))

    -- with numbers
    pub lines-numbered : IsRefused allowed OnlyMatching → (hit : List ℕ → Bool) → k.line_number ≡ true
        → k.max_matches ≡ None
        → ((line : List ℕ) → is_hit k meaning line ≡ hit line)
        → world.output.contents ended.output ≡ Some (before
        ++ flat_map line_with_number (filter (λ one. hit one.1) (enumerate_from 0 (lines 10 text))))
    lines-numbered whole hit numbers all same =
        (lines-written whole).0 ∙ ap (λ (t : List ℕ). Some (before ++ t))
        (flat_map-agree (line-text k meaning text) line_with_number (hits-placed k meaning text)
        (λ i d below. numbered-text k (slice_index_or (hits-placed k meaning text) i d) plain.by_feeds
        numbers)
        ∙ ap (flat_map line_with_number)
        (ap (λ (most : Option ℕ). items_up_to most (filter (λ one. is_hit k meaning one.1)
        (enumerate_from 0 (lines (byte_of k.line_terminator) text)))) all
        ∙ (filter_agree (λ (one : ℕ × List ℕ). is_hit k meaning one.1) (λ one. hit one.1)
        (λ one. same one.1) (enumerate_from 0 (lines (byte_of k.line_terminator) text))
        ∙ ap (λ (t : LineTerminator). filter (λ (one : ℕ × List ℕ). hit one.1)
        (enumerate_from 0 (lines (byte_of t) text))) plain.by_feeds)))

  -- with a printer of summaries
  module _ (keeps : KeepText allowed) (kind : SummaryKind)
      (asks : (across : Bool) → across ≡ false → summary_kind options across ≡ Some kind) where
    abbrev summary : SummaryConfig
    summary = summary_settings options kind Plain

    -- how many matches are printed: all that there are, or the first
    abbrev pub printed_count : ℕ
    printed_count = length (printed_of (hit_matches k meaning text) (counts_on kind))

    -- what is said of their count is written, and the status says whether that is what was looked
    -- for
    pub record IsSummaryWritten : Type 0 where
      pub counts : Counts
      pub count_is : counts.match_count ≡ capped printed_count
      pub written : world.output.contents ended.output
          ≡ Some (before ++ finish_text kind summary one.path 10 counts)
      pub status_is : ended.status ≡ (if has_found kind (capped printed_count) then 0 else 1)

    pub summary-written : IsSummaryWritten
    summary-written =
        let across = is_across (searcher_settings options) meaning in
        let colors = colors_for run.colors (color_choice options) options.streams in
        let is-kind = summary-printer options across run.separators run.matcher run.template colors
        run.printer kind (asks across (by-line-of k meaning plain)) run.is_printer in
        let chosen = summary-run run.printer is-kind in
        let config-is : chosen.0.printer.format.format.config ≡ summary =
        chosen.2.0 ∙ ap (summary_settings options kind) (no-color allowed options only keeps run.colors) in
        let result = matches-counted facts first_at k run.matcher one.path text plain of.no_nul
        chosen.0.printer.format alone.next (by-printer (Summary chosen.0) chosen.1) in
        let totals = no-totals chosen.0
        (chosen.2.1.counts ∙ not-counted allowed options only keeps)
        (subst (λ p. AreTotals p run.findings.stats run.totals) chosen.1 run.are_totals) in
        let on : goes_on chosen.0.printer.format.format.config ≡ counts_on kind =
        ap goes_on config-is ∙ (ap (λ (all : Bool). counts_on kind || all)
        (not-counted allowed options only keeps) ∙ or-false (counts_on kind)) in
        let count : length (printed_of (hit_matches k meaning text)
        (goes_on chosen.0.printer.format.format.config)) ≡ printed_count =
        ap (λ (b : Bool). length (printed_of (hit_matches k meaning text) b)) on in record {
          counts = result.counts;
          count_is = result.count_is ∙ ap capped count;
          written = all-written (finish_text kind summary one.path 10 result.counts)
              (result.text_is
              ∙ ap₂ (λ (c : SummaryConfig) (t : LineTerminator).
              finish_text c.kind c one.path (byte_of t) result.counts) config-is plain.by_feeds) totals;
          status_is = status-known (has_found kind (capped printed_count))
              (result.found_is
              ∙ ap₂ (λ (c : SummaryConfig) (n : ℕ). has_found c.kind (capped n)) config-is count);
        }

  -- how many lines hit is written, if one does, and the status says whether one does
  pub count-written : (keeps : KeepText allowed) (counting : KeepCount allowed)
      → has options Count ≡ true → one.path ≡ None
      → (world.output.contents ended.output
      ≡ Some (before ++ line_of_count (capped (length (hit_lines k meaning text)))))
      × (ended.status ≡ (if nat_lt 0 (length (hit_lines k meaning text)) then 0 else 1))
  count-written keeps counting counts nameless =
      let total = length (hit_lines k meaning text) in
      let size = length-hits k meaning text in
      let result = summary-written keeps CountKind (count-kind allowed options only keeps counting counts) in (
        result.written ∙ ap (λ (t : List ℕ). Some (before ++ t))
            (ap (λ (p : Option PrinterPath). finish_text CountKind
            (summary_settings options CountKind Plain) p 10 result.counts) nameless
            ∙ (count-text (not (has options IncludeZero)) result.counts.match_count
            (ap not (without-zero allowed options only keeps counting))
            ∙ ap (λ n. line_of_count n) (result.count_is ∙ ap capped size))),
        result.status_is ∙ ap (λ b. if b then 0 else 1)
            (ap (λ n. nat_lt 0 (capped n)) size ∙ some-capped total),
      )

  -- if a search ends at the first match, it has printed one if a line hits
  first-found : nat_lt 0 (capped (length (take 1 (hit_matches k meaning text))))
      ≡ nat_lt 0 (length (hit_lines k meaning text))
  first-found = some-capped (length (take 1 (hit_matches k meaning text)))
      ∙ (some-first (hit_matches k meaning text) ∙ ap (λ n. nat_lt 0 n) (length-hits k meaning text))

  -- nothing is written, and the status says whether a line hits
  pub nothing-written : (keeps : KeepText allowed) → has options Quiet ≡ true
      → (world.output.contents ended.output ≡ Some (before ++ []))
      × (ended.status ≡ (if nat_lt 0 (length (hit_lines k meaning text)) then 0 else 1))
  nothing-written keeps quiet =
      let result = summary-written keeps QuietKind (λ across by-line. rw quiet refl) in (
        result.written ∙ ap (λ (t : List ℕ). Some (before ++ t))
            (either-none (is_written QuietKind result.counts.match_count (not (has options IncludeZero)))),
        result.status_is ∙ ap (λ (b : Bool). if b then 0 else 1) first-found,
      )
    where
      either-none : (b : Bool) → (if b then [] else []) ≡ no_bytes
      either-none true = refl
      either-none false = refl

  -- the path is written, if a line hits, and the status says whether one does
  pub path-written : (keeps : KeepText allowed) (looking : KeepPath allowed)
      → has options FilesWithMatches ≡ true → (shown : PrinterPath) → one.path ≡ Some shown
      → shown.link ≡ None
      → (world.output.contents ended.output ≡ Some (before
      ++ (if nat_lt 0 (length (hit_lines k meaning text)) then shown.text.now ++ 10 ∷ [] else [])))
      × (ended.status ≡ (if nat_lt 0 (length (hit_lines k meaning text)) then 0 else 1))
  path-written keeps looking lists shown named unlinked =
      let result = summary-written keeps PathWithMatch (path-kind allowed options only looking lists) in (
        result.written ∙ ap (λ (t : List ℕ). Some (before ++ t))
            (path-text (summary_settings options PathWithMatch Plain) one.path shown result.counts
            (without-null allowed options only looking) refl named unlinked
            ∙ ap (λ (b : Bool). if b then shown.text.now ++ 10 ∷ [] else [])
            (ap (λ n. nat_lt 0 n) result.count_is ∙ first-found)),
        result.status_is ∙ ap (λ (b : Bool). if b then 0 else 1) first-found,
      )
