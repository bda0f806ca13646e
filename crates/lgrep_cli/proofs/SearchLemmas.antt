-- What a search of a reader with a printer has put, and what is written in the end.
use Rattle.std.proofs.Common.{◌≡◌, ℕ, List, [], ◌++◌, length, refl, sym, ap, ◌∙◌, subst}
use Rattle.std.proofs.lemmas.List.{append-nil}
use Rattle.std.specs.Prelude.{Bool, true, false, if◌then◌else◌, Option, Some, None, Result, Ok, Err, IfErr, OnOk}
use Rattle.std.specs.Global.{Global}
use Rattle.std.specs.Io.KnownBytes.{Appends, Consumes, IsAtEnd}
use Rattle.std.specs.List.{concat}
use Rattle.std.specs.declared.io.Error.{Error}
use Rattle.grep_decode.specs.Source.{ReadResult}
use Rattle.grep_matcher.specs.Meanings.{IsInfallible, MatcherFacts}
use Rattle.grep_matcher.specs.declared.LineTerminator.{LineTerminator}
use Rattle.grep_output.proofs.OutputLemmas.{Appends-more, written-appends}
use Rattle.grep_output.proofs.PendingLemmas.{Puts-written}
use Rattle.grep_output.specs.Outputs.{OutputCall, flushes, taken_by, Writes}
use Rattle.grep_output.specs.PendingTexts.{pending_bytes}
use Rattle.grep_printer.specs.PrintedSearches.{IsPrintedBy, IsSearchPrinted, IsSourcePrinted, PrintsCalls, of_input}
use Rattle.grep_printer.specs.PrintedSearches.{of_reading, search_errors}
use Rattle.grep_printer.specs.StandardTexts.{default_config, standard_rules}
use Rattle.grep_printer.specs.declared.hyperlinks.PrinterPath.{PrinterPath}
use Rattle.grep_printer.specs.declared.printed_search.Searched.{Searched}
use Rattle.grep_printer.specs.declared.printer.Printer.{Printer}
use Rattle.grep_printer.specs.declared.printer.PrinterSink.{PrinterSink}
use Rattle.grep_printer.specs.declared.standard.StandardFormat.{StandardFormat}
use Rattle.grep_searcher.specs.Plans.{Planned, SearcherState, Settings, refusal_of, search_plan}
use Rattle.grep_searcher.specs.SearchErrors.{IsOutOfMemory}
use Rattle.grep_searcher.specs.Searches
use Rattle.grep_searcher.specs.Searches.{BinaryPoint, IsInput, IsUnlessRefusedBy, IsUnread, Reads, Taken, calls_with}
use Rattle.grep_searcher.specs.Searches.{searched_bytes}
use Rattle.grep_searcher.specs.declared.ConfigError.{ConfigError}
use Rattle.grep_searcher.specs.declared.SearchError.{SearchError}
use Rattle.grep_searcher.specs.declared.SearchError.TheVariants.{Io}
use Rattle.lgrep_cli.proofs.PrinterLemmas.{ArePut, IsBegun, IsCut, goes-put, input-put}
use Rattle.lgrep_cli.specs.OptionSettings.{numbered_unless, settings_of_options}
use Rattle.lgrep_cli.specs.PrintedTexts.{count_text, text}
use Rattle.lgrep_cli.specs.ProgramRuns.{searcher_of, meaning_of, calls_of, calls_over, whole_text, partial_text, Input}
use Rattle.lgrep_cli.specs.ProgramRuns.{IsPrinted, IsPrintedAndFlushed, IsPrintedWhole, IsProgramRun, IsFailure}
use Rattle.lgrep_cli.specs.ProgramRuns.{of_memory, of_reader, of_reader_and_write, of_write}
use Rattle.lgrep_cli.specs.declared.options.Options.{Options}

-- an input with nothing after the pieces that came
abbrev bytes_of : Settings → List (List ℕ) → List ℕ
bytes_of settings pieces = searched_bytes settings (concat pieces ++ [])

nothing-more : (settings : Settings) (ended : Bool) (pieces : List (List ℕ))
    → IsInput settings ended pieces (bytes_of settings pieces)
nothing-more settings ended pieces = ([], (λ _. refl), refl)

-- an error is made of one error
same-error : (e : SearchError Global) (a b : Error) → e ≡ Io a → e ≡ Io b → a ≡ b
same-error e a b first second = cc

-- the text of some calls if they aren't counted
uncounted : {W : Type 0} (write_step : W → OutputCall → W → Type 0) (options : Options) (counted lines : List ℕ)
    (old : W)
    (result : Result (Unit {0}) Error) (new : W) → options.count ≡ false → Writes write_step old lines result new
    → Writes write_step old (if options.count then counted else lines) result new
uncounted write_step options counted lines old result new is written =
    subst (λ b. Writes write_step old (if b then counted else lines) result new) (sym is) written

-- a searcher that numbers lines or not
abbrev numbering : Options → Bool → SearcherState
numbering options is_count = record {
  settings = numbered_unless is_count (settings_of_options options);
  has_buffers =
      true;
}

-- a value isn't both true and false
not-both : (b : Bool) → b ≡ true → b ≡ false → ⊥
not-both b is isnt = let never : true ≡ false = sym is ∙ isnt in absurd (cc)

module _ {R W : Type 0} (remaining : R → Option (List ℕ)) (read_step : R → ReadResult → R → Type 0)
    (write_step : W → OutputCall → W → Type 0) where
  -- out of memory, before the reader and the writer had a call
  pub out_of_memory : (options : Options) (reader : R) (writer : W) (e : SearchError Global) → IsOutOfMemory e
      → IsFailure remaining read_step write_step options reader writer e reader writer
  out_of_memory options reader writer e (error, io, kind) =
      subst (λ x. IsFailure remaining read_step write_step options reader writer x reader writer) (sym io)
      (of_memory kind)

  -- of a reader that says which bytes remain, whatever was taken
  whole-input : (settings : Settings) (input : List ℕ) (reader reader' : R) → remaining reader ≡ Some input
      → (taken : Taken remaining read_step reader reader')
      → IsInput settings taken.ended taken.pieces (searched_bytes settings input)
  whole-input settings input reader reader' all taken =
      go taken.ended taken.pieces taken.calls (remaining reader') refl
      (subst (λ left. Consumes left (remaining reader') (concat taken.pieces)) all taken.takes)
    where
      go : (ended : Bool) (pieces : List (List ℕ)) → Reads remaining read_step ended reader pieces reader'
          → (left : Option (List ℕ)) → remaining reader' ≡ left → Consumes (Some input) left (concat pieces)
          → IsInput settings ended pieces (searched_bytes settings input)
      go ended pieces calls None is takes = absurd takes
      go false pieces calls (Some rest) is takes = (rest, (λ ended. absurd (cc)), ap (searched_bytes settings) takes)
      go true pieces calls (Some rest) is takes = (
        rest,
        (λ ended. subst IsAtEnd is calls.3),
        ap
            (searched_bytes settings) takes,
      )

  -- what is printed for each input that begins with what was taken is printed for the reader's whole input
  printed-whole : (contents : W → Option (List ℕ))
      → ((s t : W) (call : OutputCall) → write_step s call t → Appends (contents s) (contents t) (taken_by call))
      → (options : Options) (reader : R) (writer : W) (found : Bool) (reader' : R) (writer' : W)
      → IsPrintedAndFlushed remaining read_step write_step options reader writer found reader' writer'
      → IsPrintedWhole contents options (remaining reader) writer found writer'
  printed-whole contents grows options reader writer found reader' writer' flushed = go (remaining reader) refl
    where
      go : (left : Option (List ℕ)) → remaining reader ≡ left
          → IsPrintedWhole contents options left writer found writer'
      go None is = tt
      go (Some input) is =
          let bytes = searched_bytes (settings_of_options options) input in
          let whole = whole-input (settings_of_options options) input reader reader' is flushed.printed.taken in (
            subst (λ xs. Appends (contents writer) (contents writer') xs)
                (append-nil (whole_text options (calls_of options bytes)))
                (Appends-more (contents writer) (contents flushed.unflushed) (contents writer')
                (whole_text options (calls_of options bytes)) []
                (written-appends write_step contents grows writer flushed.unflushed
                (whole_text options (calls_of options bytes))
                (flushed.printed.written bytes whole))
                (grows flushed.unflushed writer' (flushes (Ok tt)) flushed.flushed)),
            flushed.printed.is_found bytes whole,
          )

  -- a run that wrote all, and then flushed the writer
  pub printed-run : (contents : W → Option (List ℕ))
      → ((s t : W) (call : OutputCall) → write_step s call t → Appends (contents s) (contents t) (taken_by call))
      → (options : Options) (reader : R) (writer : W) (found : Bool) (reader' : R) (writer' : W)
      → IsPrintedAndFlushed remaining read_step write_step options reader writer found reader' writer'
      → IsProgramRun remaining read_step write_step contents options reader writer (Ok found) reader' writer'
  printed-run contents grows options reader writer found reader' writer' flushed = record {
    printed = flushed;
    whole = printed-whole contents grows options reader writer found reader' writer' flushed;
    failed = tt;
  }

-- what a search leaves, of which nothing was pending at first
module _ {R W : Type 0} (remaining : R → Option (List ℕ)) (read_step : R → ReadResult → R → Type 0)
    (write_step : W → OutputCall → W → Type 0) (options : Options) (reader reader' : R) (old now : W)
    (printer : Printer StandardFormat) (found : Bool) where
  -- a run ends in an error, with the writer in this state
  abbrev pub Fails : SearchError Global → W → Type 0
  Fails e writer = IsFailure remaining read_step write_step options reader old e reader' writer

  -- how a run ends whose search ended well, by what writing the pending text returned
  abbrev pub EndsRun : Result (Unit {0}) Error → W → Type 0
  EndsRun (Ok u) writer = IsPrinted remaining read_step write_step options reader old found reader' writer
  EndsRun (Err error) writer = Fails (Io error) writer

  -- and one whose search ended in an error of reading: on `Ok` a flush follows
  abbrev pub EndsUnread : SearchError Global → Result (Unit {0}) Error → W → Type 0
  EndsUnread e (Ok u) writer = (flushed : Result (Unit {0}) Error) (last : W)
      → write_step writer (flushes flushed) last → Fails e last
  EndsUnread e (Err error) writer = Fails (Io error) writer

  -- what is pending is written
  abbrev pub Rest : Result (Unit {0}) Error → W → Type 0
  Rest result writer = Writes write_step now (pending_bytes printer.pending) result writer

  -- on an error the writer failed, or what is pending may still be written
  pub record IsSearched (result : Result (Unit {0}) (SearchError Global)) : Type 0 where
    pub printed : OnOk result ((written : Result (Unit {0}) Error) (writer : W) → Rest written writer
        → EndsRun written writer)
    pub of_writer : IfErr result (λ e. printer.has_failed ≡ true → Fails e now)
    pub of_reading : IfErr result (λ e. printer.has_failed ≡ false → (written : Result (Unit {0}) Error) (writer : W)
        → Rest written writer → EndsUnread e written writer)

module _ {R W M E : Type 0} (remaining : R → Option (List ℕ)) (read_step : R → ReadResult → R → Type 0)
    (write_step : W → OutputCall → W → Type 0) (output : E → Option (List ℕ)) (facts : M → MatcherFacts E)
    (first_at : M → List ℕ → ℕ → Option (ℕ × ℕ)) (options : Options) (uncounts : options.count ≡ false)
    (reader reader' : R) (begun ended : PrinterSink StandardFormat M W) (is : IsBegun begun)
    (known : (facts begun.matcher).meaning ≡ meaning_of options) (infallible : IsInfallible (facts begun.matcher).fails)
  where
    abbrev settings : Settings
    settings = settings_of_options options

    abbrev old : W
    old = begun.writer.now

    abbrev now : W
    now = ended.writer.now

    abbrev Put : List Planned → Type 0
    Put calls = ArePut output facts first_at write_step options begun is calls ended

    abbrev Cut : List Planned → SearchError Global → Type 0
    Cut calls e = IsCut output facts first_at write_step options begun is calls e ended

    abbrev pub HasSearched : Result (Unit {0}) (SearchError Global) → Type 0
    HasSearched result = IsSearched remaining read_step write_step options reader reader' old now ended.printer.now
        ended.format.progress.has_match result

    abbrev Left : Result (Unit {0}) Error → W → Type 0
    Left result writer = Writes write_step now (pending_bytes ended.printer.now.pending) result writer

    -- a text is written as far as what is pending is
    then_written : (calls : List Planned) → Put calls → (result : Result (Unit {0}) Error) (writer : W)
        → Left result writer → Writes write_step old (text calls) result writer
    then_written calls put result writer rest = Puts-written write_step old now writer (text calls)
        (pending_bytes ended.printer.now.pending) result put.put rest

    -- the writer failed, whatever follows what was taken
    cut : (e : SearchError Global) (taken : Taken remaining read_step reader reader')
        → ((bytes : List ℕ) → Input options taken bytes → Cut (calls_of options bytes) e) → HasSearched (Err e)
    cut e taken all =
        let first = all (bytes_of settings taken.pieces) (nothing-more settings taken.ended taken.pieces) in
        record {
          printed = tt;
          of_writer = λ failed. subst (λ x. IsFailure remaining read_step write_step options reader old x reader' now)
              (sym first.is_io) (of_write taken (λ bytes input. uncounted write_step options
              (count_text (calls_of options bytes)) (text (calls_of options bytes)) old (Err first.error) now uncounts
              (subst (λ error. Writes write_step old (text (calls_of options bytes)) (Err error) now)
              (same-error e (all bytes input).error first.error (all bytes input).is_io first.is_io)
              (all bytes input).put)));
          of_reading = λ ok. absurd (not-both ended.printer.now.has_failed first.has_failed ok);
        }

    -- the calls were made over the lines that were seen, and the input wasn't read to its end
    module _ (begins : Bool) (seen : List ℕ) (error : Error)
        (unread : IsUnread remaining read_step (numbering options false) (meaning_of options) reader begins seen error
        reader')
        (put : (result : Result (Unit {0}) Error) (writer : W) → Left result writer
        → Writes write_step old (text (calls_over options begins seen)) result writer) where
      its_unread : IsUnread remaining read_step (searcher_of options) (meaning_of options) reader begins seen error
          reader'
      its_unread = subst (λ b. IsUnread remaining read_step (numbering options b) (meaning_of options) reader begins
          seen error reader')
          (sym uncounts) unread

      its_text : (result : Result (Unit {0}) Error) (writer : W) → Left result writer
          → Writes write_step old (partial_text options (calls_over options begins seen)) result writer
      its_text result writer rest = uncounted write_step options [] (text (calls_over options begins seen)) old result
          writer uncounts (put result writer rest)

      its_end : (result : Result (Unit {0}) Error) (writer : W) → Left result writer
          → EndsUnread remaining read_step write_step options reader reader' old now ended.printer.now
          ended.format.progress.has_match (Io error) result writer
      its_end (Ok u) writer rest =
          λ flushed last flush. of_reader begins seen flushed its_unread (its_text (Ok u) writer rest) flush
      its_end (Err failed) writer rest = of_reader_and_write begins seen error its_unread
          (its_text (Err failed) writer rest)

      ends-unread : ended.printer.now.has_failed ≡ false → HasSearched (Err (Io error))
      ends-unread works = record {
        printed = tt;
        of_writer = λ failed. absurd (not-both ended.printer.now.has_failed failed works);
        of_reading = λ ok. its_end;
      }

    -- the calls of a whole search
    whole : (taken : Taken remaining read_step reader reader')
        → ((bytes : List ℕ) → Input options taken bytes → Put (calls_of options bytes)) → HasSearched (Ok tt)
    whole taken all = record { printed = end; of_writer = tt; of_reading = tt }
      where
        its_text : (result : Result (Unit {0}) Error) (writer : W) → Left result writer
            → (bytes : List ℕ) → Input options taken bytes
            → Writes write_step old (whole_text options (calls_of options bytes)) result writer
        its_text result writer rest bytes input = uncounted write_step options (count_text (calls_of options bytes))
            (text (calls_of options bytes)) old result writer uncounts
            (then_written (calls_of options bytes) (all bytes input) result writer rest)

        end : (result : Result (Unit {0}) Error) (writer : W) → Left result writer
            → EndsRun remaining read_step write_step options reader reader' old now ended.printer.now
            ended.format.progress.has_match result writer
        end (Ok u) writer rest = record {
          taken = taken;
          written = its_text (Ok u) writer rest;
          is_found = λ bytes input. (all bytes input).is_found;
        }
        end (Err error) writer rest = of_write taken (its_text (Err error) writer rest)

    -- nothing is pending at first, and then nothing is written
    nothing_written : ended ≡ begun → (result : Result (Unit {0}) Error) (writer : W) → Left result writer
        → Writes write_step old [] result writer
    nothing_written same result writer rest =
        subst (λ p. Writes write_step old p result writer) is.pending
        (subst (λ (sink : PrinterSink StandardFormat M W). Writes write_step sink.writer.now
        (pending_bytes sink.printer.now.pending) result writer) same rest)

    -- what a search of a source printed
    source-searched : (result : Result (Unit {0}) (SearchError Global))
        → IsSourcePrinted standard_rules output facts first_at write_step remaining read_step (numbering options false)
        reader begun result reader' ended
        → HasSearched result
    source-searched (Ok u) (of_input search plan printed) =
        whole search.taken (λ bytes input. input-put output facts first_at write_step options begun is known infallible bytes
        (length search.seen) (Ok u) ended (printed bytes input))
    source-searched (Err e) (of_input search plan printed) =
        cut e search.taken (λ bytes input. input-put output facts first_at write_step options begun is known infallible bytes
        (length search.seen) (Err e) ended (printed bytes input))
    source-searched (Err e) (of_reading taken true seen error cause (point, at, goes, calls)) =
        let put = goes-put output facts first_at write_step options begun is (calls_of options seen) ended
        (subst (λ meaning. PrintsCalls standard_rules output facts first_at write_step begun settings
        (search_plan settings meaning seen).calls ended) known
        (subst (λ (p : Option BinaryPoint). PrintsCalls standard_rules output facts first_at write_step begun
        settings (calls_with p (search_plan settings (facts begun.matcher).meaning seen).calls) ended)
        (at (bytes_of settings taken.pieces) (nothing-more settings taken.ended taken.pieces)) calls)) in
        ends-unread true seen error (
          _,
          taken,
          subst (λ meaning. Searches.IsCut remaining read_step
              (numbering options false) meaning reader _ reader' taken seen true error) known cause,
        )
        (then_written (calls_of options seen) put) put.has_failed
    source-searched (Err e) (of_reading taken false seen error cause same) =
        ends-unread false seen error (
          _,
          taken,
          subst (λ meaning. Searches.IsCut remaining read_step
              (numbering options false) meaning reader _ reader' taken seen false error) known cause,
        )
        (nothing_written same)
        (ap (λ (sink : PrinterSink StandardFormat M W). sink.printer.now.has_failed) same ∙ is.has_failed)

    -- no search with the matcher of a literal is refused, and it can be trusted
    searched : (state : SearcherState) (result : Result (Unit {0}) (SearchError Global))
        → state ≡ searcher_of options
        → ((terminator : LineTerminator) → (facts begun.matcher).is_lawful terminator)
        → IsSearchPrinted standard_rules output facts first_at write_step remaining read_step state reader begun
        result reader' ended
        → HasSearched result
    searched state result same trusted printed = source-searched result (unrefused (λ ahead. trusted _))
      where
        Refused : Option ConfigError → Type 0
        Refused = IsUnlessRefusedBy (search_errors output) (facts begun.matcher) (numbering options false).settings
            begun result ended (reader' ≡ reader)
            (IsSourcePrinted standard_rules output facts first_at write_step remaining read_step
            (numbering options false) reader begun result reader' ended)

        here : IsSearchPrinted standard_rules output facts first_at write_step remaining read_step
            (numbering options false) reader begun result reader' ended
        here = subst (λ s. IsSearchPrinted standard_rules output facts first_at write_step remaining read_step s reader
            begun result reader' ended) (same ∙ ap (numbering options) uncounts) printed

        unrefused : Refused None
        unrefused = subst (λ meaning. Refused (refusal_of (numbering options false).settings meaning)) known here

-- the search of a printer of lines alone that has printed nothing
pub printer-searched : {R W M E : Type 0} {remaining : R → Option (List ℕ)}
    {read_step : R → ReadResult → R → Type 0} {write_step : W → OutputCall → W → Type 0}
    {output : E → Option (List ℕ)} {facts : M → MatcherFacts E} {first_at : M → List ℕ → ℕ → Option (ℕ × ℕ)}
    {state : SearcherState} {matcher : M} {path : Option PrinterPath} {reader reader' : R} {writer writer' : W}
    {printer printer' : Printer StandardFormat} {search : Searched} (options : Options) → options.count ≡ false
    → state ≡ searcher_of options → (facts matcher).meaning ≡ meaning_of options
    → IsInfallible (facts matcher).fails
    → ((terminator : LineTerminator) → (facts matcher).is_lawful terminator)
    → path ≡ None → printer.format.config ≡ default_config → pending_bytes printer.pending ≡ []
    → printer.has_failed ≡ false
    → IsPrintedBy standard_rules output facts first_at write_step remaining read_step state matcher path reader writer
    printer search reader' writer' printer'
    → IsSearched remaining read_step write_step options reader reader' writer writer' printer' search.has_match
    search.result
printer-searched {remaining = remaining} {read_step = read_step} {write_step = write_step} {output = output}
    {facts = facts} {first_at = first_at} {state = state} {reader = reader} {reader' = reader'} {writer' = writer'}
    {printer' = printer'} {search = search} options uncounts is_state known infallible trusted unnamed plain pending
    works by =
    let own = by.begins.asks in
    let begun : IsBegun by.begun = record {
      path = by.begins.names ∙ unnamed;
      config = ap (λ (format : StandardFormat). format.config) by.begins.format ∙ plain;
      has_match = ap (λ (format : StandardFormat). format.progress.has_match) by.begins.format;
      pending = ap (λ (p : Printer StandardFormat). pending_bytes p.pending) by.begins.is_of ∙ pending;
      has_failed = ap (λ (p : Printer StandardFormat). p.has_failed) by.begins.is_of ∙ works;
    } in
    let here = searched remaining read_step write_step output facts first_at options uncounts reader reader' by.begun
    by.ended begun (ap (λ m. (facts m).meaning) own ∙ known)
    (subst (λ m. IsInfallible (facts m).fails) (sym own) infallible) state search.result is_state
    (subst (λ m. (terminator : LineTerminator) → (facts m).is_lawful terminator) (sym own) trusted)
    by.searches in
    subst (λ w. IsSearched remaining read_step write_step options reader reader' w writer' printer' search.has_match
    search.result) by.begins.writes_to
    (subst (λ w. IsSearched remaining read_step write_step options reader reader' by.begun.writer.now w printer'
    search.has_match search.result) by.wrote
    (subst (λ p. IsSearched remaining read_step write_step options reader reader' by.begun.writer.now
    by.ended.writer.now p search.has_match search.result) by.ends
    (subst (λ found. IsSearched remaining read_step write_step options reader reader' by.begun.writer.now
    by.ended.writer.now by.ended.printer.now found search.result) (sym by.has_match) here)))
