-- What a search writes with a printer of any format, and how its writer fails.
use Rattle.std.proofs.Common.{◌≡◌, ◌∙◌, ℕ, Bool, true, false, List, [], ◌++◌, Option, ap, length}
use Rattle.std.proofs.Common.{refl, subst, sym}
use Rattle.std.proofs.Common.{◌⊎◌, inl, inr, true≢false}
use Rattle.std.specs.Prelude.{◌||◌, MatchBool, None, Some, Result, Ok, Err, is_ok}
use Rattle.std.specs.Global.{Global}
use Rattle.std.specs.List.{concat}
use Rattle.std.specs.Io.KnownBytes.{Appends}
use Rattle.std.specs.declared.io.Error.{Error}
use Rattle.grep_output.specs.Outputs.{OutputCall, taken_by}
use Rattle.grep_output.specs.PendingTexts.{PutsAll, pending_bytes}
use Rattle.grep_printer.specs.Formats.{PrintedCall, Rules, is_text, printed_by}
use Rattle.grep_printer.specs.PrintedSearches.{IsInputPrinted, IsPlanPrinted, IsSearchPrinted, IsSinkFor}
use Rattle.grep_printer.specs.PrintedSearches.{PrintsFirst, PrintsPlan, of_input, of_matcher, of_plan, of_reading}
use Rattle.grep_printer.specs.PrintedSearches.{IsPointOfAll, IsSourcePrinted, search_errors}
use Rattle.grep_printer.specs.PrinterSteps.{IsCutShort, scene_of}
use Rattle.grep_printer.specs.declared.hyperlinks.PrinterPath.{PrinterPath}
use Rattle.grep_printer.specs.declared.printer.Printer.{Printer}
use Rattle.grep_printer.specs.declared.printer.PrinterSink.{PrinterSink}
use Rattle.grep_searcher.specs.Meanings.{MatcherFacts}
use Rattle.grep_searcher.specs.Plans.{IsLawful, Plan, Planned, SearcherState, Settings, refusal_of, search_plan}
use Rattle.grep_searcher.specs.Searches.{IsInputOf, IsUnlessRefusedBy, Points, Taken, look_of}
use Rattle.grep_searcher.specs.Searches.{searched_bytes}
use Rattle.grep_searcher.specs.Source.{ReadResult}
use Rattle.grep_searcher.specs.declared.ConfigError.{ConfigError}
use Rattle.grep_searcher.specs.declared.SearchError.{SearchError}
use Rattle.grep_searcher.specs.declared.SearchError.TheVariants.{Io}
use Rattle.linegrep_cli.proofs.OutputTextLemmas.{one-text, write-failed}
use Rattle.linegrep_cli.specs.SearchTexts.{IsTextOf}
use Rattle.linegrep_cli.specs.WrittenRuns.{HasFailedWith}

-- a failed result has one error
abbrev pub failing : SearchError Global → Result (Unit {0}) (SearchError Global)
failing e = Err e

pub one-error : (one other : SearchError Global) → failing one ≡ failing other → one ≡ other
one-error one other is = ap error-of is
  where
    error-of : Result (Unit {0}) (SearchError Global) → SearchError Global
    error-of (Ok u) = one
    error-of (Err e) = e

abbrev pub io-failing : Error → Result (Unit {0}) Error
io-failing e = Err e

pub one-io-error : (one other : Error) → io-failing one ≡ io-failing other → one ≡ other
one-io-error one other is = ap error-of is
  where
    error-of : Result (Unit {0}) Error → Error
    error-of (Ok u) = one
    error-of (Err e) = e

-- a result isn't both `Ok` and an error
pub not-both : {T E : Type 0} (result : Result T E) (value : T) (error : E) → result ≡ Ok value
    → result ≡ Err error → ⊥
not-both result value error ok failed = true≢false (sym (ap is_ok ok) ∙ ap is_ok failed)

module _ {W : Type 0} (write_step : W → OutputCall → W → Type 0) where
  -- a search that ends with the error of the writer's last call
  abbrev pub IsCutOff : Result (Unit {0}) (SearchError Global) → W → Type 0
  IsCutOff result writer = (error : Error) × (result ≡ Err (Io error)) × HasFailedWith write_step error writer

  -- after a search the writer hasn't failed, or its error ended the search
  abbrev pub IsAfter : Result (Unit {0}) (SearchError Global) → Bool → W → Type 0
  IsAfter result failed writer = (failed ≡ false) ⊎ IsCutOff result writer

module _ {F M W E : Type 0} (rules : Rules F) (output : E → Option (List ℕ)) (facts : M → MatcherFacts E)
    (first_at : M → List ℕ → ℕ → Option (ℕ × ℕ)) (write_step : W → OutputCall → W → Type 0)
    (contents : W → Option (List ℕ)) (grows : (old new : W) (call : OutputCall) → write_step old call new
    → Appends (contents old) (contents new) (taken_by call)) where
  -- the text of a plan's calls, by a sink
  record IsTextOfSink (settings : Settings) (bytes : List ℕ) (old new : PrinterSink F M W) (text : List ℕ)
      : Type 0 where
    pub of : IsTextOf rules facts first_at settings old.matcher old.path old.format bytes new.format text
    pub path : new.path ≡ old.path
    pub put : PutsAll write_step old.writer.now (pending_bytes old.printer.now.pending) text new.writer.now
        (pending_bytes new.printer.now.pending)
    pub format : new.printer.now.format ≡ old.printer.now.format
    pub has_written : new.printer.now.has_written ≡ (old.printer.now.has_written || is_text text)
    pub has_failed : new.printer.now.has_failed ≡ old.printer.now.has_failed

  sink-text : (settings : Settings) (bytes : List ℕ) (count : ℕ) (old new : PrinterSink F M W)
      → IsInputPrinted rules output facts first_at write_step settings
      (look_of settings (facts old.matcher).meaning false) bytes count old (Ok tt) new
      → (text : List ℕ) × IsTextOfSink settings bytes old new text
  sink-text settings bytes count old new (of_plan point at (printed, along, all, kept, known)) = (
    (printed_by rules (scene_of old settings) old.format printed).text,
    record {
      of = record {
        count = count;
        point = point;
        is_point = at;
        printed = printed;
        along = along;
        text_is = refl;
        last_is = all.format;
      };
      path = all.same.path;
      put = all.put;
      format = all.same.format;
      has_written = all.has_written;
      has_failed = all.has_failed;
    },
  )

  cut-after : (mid : PrinterSink F M W) (settings : Settings) (tried : PrintedCall) (e : SearchError Global)
      (new : PrinterSink F M W) → IsCutShort rules output facts first_at write_step mid settings tried e new
      → mid.printer.now.has_failed ≡ false → IsAfter write_step (Err e) new.printer.now.has_failed new.writer.now
  cut-after mid settings tried e new (inl (error, is, pending, format, failed, fails)) unfailed =
      inr (error, ap Err is, write-failed write_step mid.writer.now new.writer.now _ error fails)
  cut-after mid settings tried e new (inr (inl fails)) unfailed = inl (fails.has_failed ∙ unfailed)
  cut-after mid settings tried e new (inr (inr some)) unfailed = inl (some.has_failed ∙ unfailed)

  plan-after : (Known : Plan → List PrintedCall → Type 0) (old : PrinterSink F M W) (settings : Settings)
      (plan : Plan) (result : Result (Unit {0}) (SearchError Global)) (new : PrinterSink F M W)
      → PrintsPlan rules output facts first_at write_step Known old settings plan result new
      → old.printer.now.has_failed ≡ false → IsAfter write_step result new.printer.now.has_failed new.writer.now
  plan-after Known old settings plan (Ok u) new (printed, along, all, kept, known) unfailed =
      inl (all.has_failed ∙ unfailed)
  plan-after Known old settings plan (Err e) new fails unfailed =
      cut-after fails.mid settings fails.tried e new fails.cut (fails.printed.has_failed ∙ unfailed)

  first-after : (settings : Settings) (old : PrinterSink F M W) (IsAt : Points) (calls : List Planned)
      (new : PrinterSink F M W) → PrintsFirst rules output facts first_at write_step old settings IsAt calls new
      → old.printer.now.has_failed ≡ false → new.printer.now.has_failed ≡ false
  first-after settings old IsAt calls new (point, at, goes, (printed, on, all)) unfailed = all.has_failed ∙ unfailed

  along-after : (settings : Settings) (IsAt : Points) (IsAsked : List ℕ → List Planned → Type 0)
      (Known : Plan → List PrintedCall → Type 0) (plan : Plan) (old : PrinterSink F M W)
      (result : Result (Unit {0}) (SearchError Global)) (new : PrinterSink F M W)
      → IsPlanPrinted rules output facts first_at write_step settings IsAt IsAsked Known plan old result new
      → old.printer.now.has_failed ≡ false → IsAfter write_step result new.printer.now.has_failed new.writer.now
  along-after settings IsAt IsAsked Known plan old result new (of_plan point at prints) unfailed =
      plan-after Known old settings _ result new prints unfailed
  along-after settings IsAt IsAsked Known plan old result new
      (of_matcher haystack error calls asked fails message first) unfailed =
      inl (first-after settings old IsAt calls new first unfailed)

  module _ {R : Type 0} (remaining : R → Option (List ℕ)) (read_step : R → ReadResult → R → Type 0)
      (state : SearcherState) where
    source-after : (reader : R) (old : PrinterSink F M W) (result : Result (Unit {0}) (SearchError Global))
        (reader' : R) (new : PrinterSink F M W)
        → IsSourcePrinted rules output facts first_at write_step remaining read_step state reader old result reader' new
        → old.printer.now.has_failed ≡ false → IsAfter write_step result new.printer.now.has_failed new.writer.now
    source-after reader old result reader' new (of_input search printed each) unfailed =
        along-after state.settings _ _ _ _ old result new printed unfailed
    source-after reader old result reader' new (of_reading taken begun seen error cut printed) unfailed =
        inl (by begun printed)
      where
        IsAt : Points
        IsAt = IsPointOfAll rules output facts first_at write_step remaining read_step state taken old (length seen)

        calls : List Planned
        calls = (search_plan state.settings (facts old.matcher).meaning seen).calls

        by : (begun : Bool) → MatchBool begun
            (PrintsFirst rules output facts first_at write_step old state.settings IsAt
            calls new) (new ≡ old) → new.printer.now.has_failed ≡ false
        by true first = first-after state.settings old IsAt calls new first unfailed
        by false same = ap (λ sink. sink.printer.now.has_failed) same ∙ unfailed

    -- a search isn't refused if it ends in `Ok`
    unrefused : (lawful : MatcherFacts E) (old new : PrinterSink F M W) (Same Searched : Type 0)
        (refusal : Option ConfigError)
        → IsUnlessRefusedBy (search_errors output) lawful state.settings old (Ok tt) new Same Searched refusal
        → IsLawful lawful state.settings → Searched
    unrefused lawful old new Same Searched None searched law = searched law
    unrefused lawful old new Same Searched (Some refusal) (e, is, config, same, unread) law =
        absurd (not-both (Ok tt) tt e refl is)

    -- what was read of a reader, and the text of its search
    pub record IsTextPut (matcher : M) (path : Option PrinterPath) (reader : R) (writer : W) (old : Printer F)
        (last : F) (reader' : R) (writer' : W) (new : Printer F) : Type 0 where
      pub taken : Taken remaining read_step reader reader'
      pub text : List ℕ
      pub of : (bytes : List ℕ) → IsInputOf remaining read_step taken state.settings bytes
          → IsTextOf rules facts first_at state.settings matcher path (rules.begun old.format old.has_written)
          bytes last text
      pub put : PutsAll write_step writer (pending_bytes old.pending) text writer' (pending_bytes new.pending)
      pub format : new.format ≡ old.format
      pub has_written : new.has_written ≡ (old.has_written || is_text text)
      pub has_failed : new.has_failed ≡ old.has_failed

    source-text : (held : List ℕ) (reader : R) (old : PrinterSink F M W) (reader' : R) (new : PrinterSink F M W)
        → contents old.writer.now ≡ Some held
        → IsSourcePrinted rules output facts first_at write_step remaining read_step state reader old
        (Ok tt) reader' new
        → (taken : Taken remaining read_step reader reader') × (text : List ℕ)
        × ((bytes : List ℕ) → IsInputOf remaining read_step taken state.settings bytes
        → IsTextOfSink state.settings bytes old new text)
        × ((bytes : List ℕ) × IsInputOf remaining read_step taken state.settings bytes)
    source-text held reader old reader' new is (of_input search printed each) =
        let read = searched_bytes state.settings (concat search.taken.pieces ++ []) in
        let is-read : IsInputOf remaining read_step search.taken state.settings read = ([], λ ended. refl, refl) in
        let first = sink-text state.settings read _ old new (each read is-read) in (
          search.taken,
          first.0,
          (λ bytes input.
              let other = sink-text state.settings bytes _ old new (each bytes input) in
              subst (IsTextOfSink state.settings bytes old new) (one-text contents write_step grows old.writer.now
              new.writer.now held (pending_bytes old.printer.now.pending) other.0 first.0
              (pending_bytes new.printer.now.pending) is other.1.put first.1.put) other.1),
          (read, is-read),
        )

    module _ (matcher : M) (path : Option PrinterPath) (reader : R) (writer : W) (old : Printer F) (reader' : R)
        (begun ended : PrinterSink F M W) (begins : IsSinkFor rules old writer matcher path begun)
        (lawful : IsLawful (facts matcher) state.settings) where
      abbrev Sought : Result (Unit {0}) (SearchError Global) → Type 0
      Sought result =
          IsSearchPrinted rules output facts first_at write_step remaining read_step state reader begun result
          reader' ended

      law : IsLawful (facts begun.matcher) state.settings
      law = subst (λ m. IsLawful (facts m) state.settings) (sym begins.asks) lawful

      -- if a search ends in `Ok`, its text comes after what was pending
      pub text-of-sink : (held : List ℕ) → contents writer ≡ Some held → Sought (Ok tt)
          → IsTextPut matcher path reader writer old ended.format reader' ended.writer.now ended.printer.now
          × (ended.path ≡ path)
      text-of-sink held is searches =
          let (taken, text, each, (read, is_read)) = source-text held reader begun reader' ended
          (ap contents begins.writes_to ∙ is)
          (unrefused (facts begun.matcher) begun ended _ _ _ searches law) in
          let known = each read is_read in (
            record {
              taken = taken;
              text = text;
              of = λ bytes is_input.
                  subst (λ format. IsTextOf rules facts first_at state.settings matcher path format bytes
                  ended.format text)
                  begins.format
                  (subst (λ p. IsTextOf rules facts first_at state.settings matcher p begun.format bytes
                  ended.format text)
                  begins.names
                  (subst (λ m. IsTextOf rules facts first_at state.settings m begun.path begun.format bytes
                  ended.format text)
                  begins.asks (each bytes is_input).of));
              put =
                  subst (λ w. PutsAll write_step w (pending_bytes old.pending) text ended.writer.now
                  (pending_bytes ended.printer.now.pending)) begins.writes_to
                  (subst (λ p. PutsAll write_step begun.writer.now (pending_bytes p.pending) text ended.writer.now
                  (pending_bytes ended.printer.now.pending)) begins.is_of known.put);
              format = known.format ∙ ap (λ p. p.format) begins.is_of;
              has_written = known.has_written ∙ ap (λ p. p.has_written || is_text text) begins.is_of;
              has_failed = known.has_failed ∙ ap (λ p. p.has_failed) begins.is_of;
            },
            known.path ∙ begins.names,
          )

      -- if the writer hadn't failed before, its error ended the search, or it hasn't failed
      pub sink-after : (result : Result (Unit {0}) (SearchError Global)) → Sought result → old.has_failed ≡ false
          → IsAfter write_step result ended.printer.now.has_failed ended.writer.now
      sink-after result searches unfailed =
          by (refusal_of state.settings (facts begun.matcher).meaning) searches
        where
          begun-well : begun.printer.now.has_failed ≡ false
          begun-well = ap (λ p. p.has_failed) begins.is_of ∙ unfailed

          by : (refusal : Option ConfigError)
              → IsUnlessRefusedBy (search_errors output) (facts begun.matcher) state.settings begun result ended
              (reader' ≡ reader) (IsSourcePrinted rules output facts first_at write_step remaining read_step state
              reader
              begun result reader' ended) refusal
              → IsAfter write_step result ended.printer.now.has_failed ended.writer.now
          by None source = source-after reader begun result reader' ended (source law) begun-well
          by (Some refusal) (e, is, config, same, unread) =
              inl (ap (λ sink. sink.printer.now.has_failed) same ∙ begun-well)
