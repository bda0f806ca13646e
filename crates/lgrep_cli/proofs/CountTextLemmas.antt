-- What a search of a reader whose matches are counted has written.
use Rattle.std.proofs.Common.{◌≡◌, ℕ, List, [], ◌∷◌, ◌++◌, length, refl, sym, ap, ◌∙◌, subst, arith}
use Rattle.std.proofs.lemmas.Bool.{lt-ltb}
use Rattle.std.specs.Prelude.{Bool, true, false, not, ◌||◌, decimal, if◌then◌else◌, nat_lt, Option, None, Result, Ok}
use Rattle.std.specs.Prelude.{Err, IfOk, IfErr, MatchResult}
use Rattle.std.specs.Global.{Global}
use Rattle.std.specs.declared.io.Error.{Error}
use Rattle.grep_decode.specs.Source.{ReadResult}
use Rattle.grep_matcher.specs.Literals.{literal_meaning}
use Rattle.grep_searcher.specs.declared.SearchError.{SearchError}
use Rattle.grep_searcher.specs.declared.SearchError.TheVariants.{Io}
use Rattle.grep_searcher.specs.declared.BinaryDetection.TheVariants.{None as no_detection}
use Rattle.grep_searcher.specs.CountLaws.{NumbersChangeNoBytes, NumbersChangeNoCount}
use Rattle.grep_searcher.specs.CountSinks.{IsCountStep, RunsCountAll}
use Rattle.grep_searcher.specs.Plans.{search_plan, refusal_of, Planned, IsRun, SearcherState}
use Rattle.grep_searcher.specs.Searches.{IsInput, Taken, IsUnread}
use Rattle.grep_searcher.specs.SearchLaws.{is_match, match_calls}
use Rattle.lgrep_cli.specs.OptionSettings.{searched_settings, settings_of_options}
use Rattle.lgrep_cli.specs.ProgramRuns.{searcher_of, meaning_of, calls_of, calls_over, Input, IsPrinted, IsFailure}
use Rattle.lgrep_cli.specs.ProgramRuns.{of_reader, of_write}
use Rattle.lgrep_cli.specs.PrintedTexts.{count_text, has_match, match_count, text}
use Rattle.grep_output.specs.Outputs.{OutputCall, flushes, Writes}
use Rattle.lgrep_cli.specs.declared.options.Options.{Options}
use Rattle.grep_output.proofs.OutputLemmas.{Writes-none}

-- some call reports a match exactly if their count isn't 0
found-count : (calls : List Planned) → nat_lt 0 (match_count calls) ≡ has_match calls
found-count [] = refl
found-count (planned ∷ later) = go (is_match planned.call) (found-count later)
  where
    go : (b : Bool) → nat_lt 0 (match_count later) ≡ has_match later
        → nat_lt 0 (length (if b then planned.call ∷ match_calls later else match_calls later)) ≡ (b || has_match later)
    go true before = lt-ltb 0 _ (omega arith)
    go false before = before

-- the searcher looks for no binary bytes, and no search with the matcher of a literal is refused
pub undetected : (options : Options) (state : SearcherState) → state ≡ searcher_of options
    → state.settings.binary_detection ≡ no_detection
undetected options state same = ap (λ (s : SearcherState). s.settings.binary_detection) same

pub allowed : (options : Options) (state : SearcherState) (literal : List ℕ) → state ≡ searcher_of options
    → refusal_of state.settings (literal_meaning literal) ≡ None
allowed options state literal same = ap (λ (s : SearcherState). refusal_of s.settings (literal_meaning literal)) same

module _ {R W : Type 0} (remaining : R → Option (List ℕ)) (read_step : R → ReadResult → R → Type 0)
    (write_step : W → OutputCall → W → Type 0) (options : Options) (counts : options.count ≡ true) (reader reader' : R)
  where
    -- some text, if matches are counted
    counted-text : (lines counted : List ℕ) (old : W) (result : Result (Unit {0}) Error) (new : W)
        → Writes write_step old counted result new → Writes write_step old (if options.count then counted else lines)
        result new
    counted-text lines counted old result new written =
        subst (λ b. Writes write_step old (if b then counted else lines) result new) (sym counts) written

    -- a search counted the matches of its calls, whatever follows what was taken
    pub record IsCounted (n : ℕ) : Type 0 where
      pub taken : Taken remaining read_step reader reader'
      pub is : (bytes : List ℕ) → Input options taken bytes → n ≡ match_count (calls_of options bytes)

    pub counted : (state : SearcherState) (literal : List ℕ) (n : ℕ) (taken : Taken remaining read_step reader reader')
        (start : ℕ)
        → NumbersChangeNoCount → NumbersChangeNoBytes → RunsCountAll (SearchError Global)
        → state ≡ searcher_of options → literal_meaning literal ≡ meaning_of options → start ≡ 0
        → ((bytes : List ℕ) → IsInput state.settings taken.ended taken.pieces bytes
        → IsRun {E = SearchError Global} IsCountStep state.settings start
        (search_plan state.settings (literal_meaning literal) bytes) (Ok tt) n)
        → IsCounted n
    counted state literal n taken start no_count no_bytes count same_state same_meaning none run = record {
      taken = taken;
      is = λ bytes input.
          let seen : IsInput state.settings taken.ended taken.pieces bytes =
          subst (λ (s : SearcherState). IsInput s.settings taken.ended taken.pieces bytes) (sym same_state)
          (input.0, input.1, input.2 ∙ sym (no_bytes (settings_of_options options) (not options.count) _)) in
          count state.settings (literal_meaning literal) bytes start n none (run bytes seen)
          ∙ ap (λ (s : SearcherState). length (match_calls
          (search_plan s.settings (literal_meaning literal) bytes).calls)) same_state
          ∙ ap (λ m. length (match_calls (search_plan (searched_settings options) m bytes).calls)) same_meaning
          ∙ no_count (settings_of_options options) (not options.count) (meaning_of options) bytes;
    }

    -- the count is written
    count-printed : (n : ℕ) (found : Bool) (old new : W) → IsCounted n → found ≡ nat_lt 0 n
        → Writes write_step old (decimal n ++ 10 ∷ []) (Ok tt) new
        → IsPrinted remaining read_step write_step options reader old found reader' new
    count-printed n found old new count is written = record {
      taken = count.taken;
      written = λ bytes input. counted-text (text (calls_of options bytes)) (count_text (calls_of options bytes)) old
          (Ok tt) new
          (subst (λ m. Writes write_step old (decimal m ++ 10 ∷ []) (Ok tt) new) (count.is bytes input) written);
      is_found = λ bytes input. is ∙ ap (nat_lt 0) (count.is bytes input) ∙ found-count (calls_of options bytes);
    }

    -- or the writer failed
    count-cut : (n : ℕ) (e : SearchError Global) (error : Error) (old new : W) → IsCounted n → e ≡ Io error
        → Writes write_step old (decimal n ++ 10 ∷ []) (Err error) new
        → IsFailure remaining read_step write_step options reader old e reader' new
    count-cut n e error old new count is written =
        subst (λ x. IsFailure remaining read_step write_step options reader old x reader' new) (sym is)
        (of_write count.taken (λ bytes input.
        counted-text (text (calls_of options bytes)) (count_text (calls_of options bytes)) old (Err error) new
        (subst (λ m. Writes write_step old (decimal m ++ 10 ∷ []) (Err error) new) (count.is bytes input) written)))

    -- or the input wasn't read to its end, and nothing is written
    pub count-unread : (state : SearcherState) (literal : List ℕ) (begun : Bool) (seen : List ℕ)
        (e : SearchError Global) (error : Error)
        (old new : W) (flushed : Result (Unit {0}) Error) → state ≡ searcher_of options → literal_meaning literal
        ≡ meaning_of options
        → IsUnread remaining read_step state (literal_meaning literal) reader begun seen error reader' → e ≡ Io error
        → write_step old (flushes flushed) new → IsFailure remaining read_step write_step options reader old e reader'
        new
    count-unread state literal begun seen e error old new flushed same_state same_meaning unread is last =
        subst (λ x. IsFailure remaining read_step write_step options reader old x reader' new) (sym is)
        (of_reader begun seen flushed
        (subst (λ m. IsUnread remaining read_step (searcher_of options) m reader begun seen error reader') same_meaning
        (subst (λ s. IsUnread remaining read_step s (literal_meaning literal) reader begun seen error reader') same_state
        unread))
        (counted-text (text (calls_over options begun seen)) [] old (Ok tt) old (Writes-none write_step old)) last)

    -- what was written of a count, by what was returned
    abbrev pub IsWritten : ℕ → Result Bool (SearchError Global) → W → W → Type 0
    IsWritten n result old new = MatchResult result
        (λ found. (found ≡ nat_lt 0 n) × Writes write_step old (decimal n ++ 10 ∷ []) (Ok tt) new)
        (λ e. (error : Error) × (e ≡ Io error) × Writes write_step old (decimal n ++ 10 ∷ []) (Err error) new)

    pub written-printed : (n : ℕ) (result : Result Bool (SearchError Global)) (old new : W) → IsCounted n
        → IsWritten n result old new
        → IfOk result (λ found. IsPrinted remaining read_step write_step options reader old found reader' new)
    written-printed n (Ok found) old new count written = count-printed n found old new count written.0 written.1
    written-printed n (Err e) old new count written = tt

    pub written-failed : (n : ℕ) (result : Result Bool (SearchError Global)) (old new : W) → IsCounted n
        → IsWritten n result old new
        → IfErr result (λ e. IsFailure remaining read_step write_step options reader old e reader' new)
    written-failed n (Ok found) old new count written = tt
    written-failed n (Err e) old new count written = count-cut n e written.0 old new count written.1 written.2
