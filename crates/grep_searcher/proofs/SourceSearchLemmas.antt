-- A search of a reader with the searcher's buffers.
use Rattle.std.proofs.Common.{◌≡◌, ℕ, Bool, false, List, [], Option, Some, None, Result, Ok, Err}
use Rattle.std.proofs.Common.{inr, refl, sym, subst}
use Rattle.std.specs.Prelude.{IfErr}
use Rattle.std.specs.IoError.{error_kind}
use Rattle.std.specs.declared.io.Error.{Error}
use Rattle.std.specs.declared.io.ErrorKind.TheVariants.{OutOfMemory}
use Rattle.grep_decode.specs.Source.{ReadResult}
use Rattle.grep_report.specs.declared.config_error.ConfigError.{ConfigError}
use Rattle.grep_definitions.specs.Searches.{Look, look_of, IsRead, IsUnlessRefusedBy, IsUnread}
use Rattle.grep_definitions.specs.Searches.{Taken, of_buffers}
use Rattle.grep_report.specs.ErrorMakers.{ErrorMakers}
use Rattle.grep_matcher.specs.Meanings.{MatcherFacts}
use Rattle.grep_definitions.specs.Plans.{IsLawful, refusal_of, Steps, Settings, SearcherState}
use Rattle.std.proofs.KnownBytes.{Consumes-nil}

-- another claim of an error
pub if_err-each : {T E : Type 0} (P Q : E → Type 0) (result : Result T E) → ((e : E) → P e → Q e)
    → IfErr result P → IfErr result Q
if_err-each P Q (Ok u) each claim = tt
if_err-each P Q (Err e) each claim = each e claim

module _ {S E F : Type 0} (errors : ErrorMakers F E) (matcher : MatcherFacts F) (k : Settings) where
  -- a search that isn't refused
  pub not-refused : refusal_of k matcher.meaning ≡ None → (old : S) (result : Result (Unit {0}) E)
      (new : S) (IsSame IsSearched : Type 0) → (IsLawful matcher k → IsSearched)
      → IsUnlessRefusedBy errors matcher k old result new IsSame IsSearched
      (refusal_of k matcher.meaning)
  not-refused allowed old result new IsSame IsSearched searched =
      subst (IsUnlessRefusedBy errors matcher k old result new IsSame IsSearched) (sym allowed)
      searched

  -- and one that is
  pub refused : (refusal : ConfigError) → refusal_of k matcher.meaning ≡ Some refusal
      → (old : S) (e : E) (IsSame IsSearched : Type 0) → errors.is_config refusal e → IsSame
      → IsUnlessRefusedBy errors matcher k old (Err e) old IsSame IsSearched
      (refusal_of k matcher.meaning)
  refused refusal is old e IsSame IsSearched made same =
      subst (IsUnlessRefusedBy errors matcher k old (Err e) old IsSame IsSearched) (sym is)
      (e, refl, made, refl, same)

module _ {R : Type 0} (remaining : R → Option (List ℕ)) (read_step : R → ReadResult → R → Type 0)
  where
    -- nothing was taken
    abbrev taken-none : (reader : R) → Taken remaining read_step reader reader
    taken-none reader =
        record { ended = false; pieces = []; calls = refl; takes = Consumes-nil (remaining reader) }

    -- there are no buffers, and no memory for them
    pub unread-buffers : {F : Type 0} (matcher : MatcherFacts F) (state : SearcherState)
        (reader : R) (error : Error) → state.has_buffers ≡ false → error_kind error ≡ OutOfMemory
        → IsUnread remaining read_step state matcher.meaning reader false [] error reader
    unread-buffers matcher state reader error none memory =
        (reader, taken-none reader, of_buffers none memory refl)

    module _ {S E F : Type 0} (step : Steps S E) (errors : ErrorMakers F E)
        (matcher : MatcherFacts F)
      where
        pub fault-buffers : (state : SearcherState) (look : Look) (reader : R) (old : S)
            (error : Error) (e : E)
            → state.has_buffers ≡ false → error_kind error ≡ OutOfMemory → errors.is_io error e
            → IsRead remaining read_step step errors matcher state look reader old (Err e) reader
            old
        fault-buffers state look reader old error e none memory made = inr (record {
          mid = reader;
          taken = taken-none reader;
          seen = [];
          begun = false;
          error = error;
          cause = of_buffers none memory refl;
          made = made;
          calls = λ is. absurd (cc);
          none = λ is. refl;
        })

        -- why an input wasn't searched to its end, of a searcher with these settings
        pub unread-same : (k : Settings) (state : SearcherState) (reader : R)
            (result : Result (Unit {0}) E) (reader' : R)
            → k ≡ state.settings → IfErr result (λ e. (has_buffers : Bool) → (begun : Bool)
            × (seen : List ℕ) × (error : Error)
            × IsUnread remaining read_step (record { settings = k; has_buffers = has_buffers })
            matcher.meaning reader begun seen error reader' × errors.is_io error e)
            → IfErr result (λ e. (begun : Bool) × (seen : List ℕ) × (error : Error)
            × IsUnread remaining read_step state matcher.meaning reader begun seen error reader'
            × errors.is_io error e)
        unread-same k state reader result reader' same unread =
            subst (λ k. IfErr result (λ e. (begun : Bool) × (seen : List ℕ) × (error : Error)
            × IsUnread remaining read_step (record {
              settings = k;
              has_buffers = state.has_buffers;
            }) matcher.meaning reader begun seen error reader' × errors.is_io error e)) same
            (if_err-each _ _ result (λ e why. why state.has_buffers) unread)

        -- a search of a searcher with these settings
        pub searched-same : (k : Settings) (state : SearcherState) (reader : R) (old : S)
            (result : Result (Unit {0}) E) (reader' : R) (new : S) → k ≡ state.settings
            → ((has_buffers : Bool) → IsRead remaining read_step step errors matcher
            (record {
              settings = k;
              has_buffers = has_buffers;
            }) (look_of k matcher.meaning false) reader old result reader' new)
            → IsRead remaining read_step step errors matcher state
            (look_of state.settings matcher.meaning false) reader old result reader' new
        searched-same k state reader old result reader' new same searched =
            subst (λ k. IsRead remaining read_step step errors matcher
            (record {
              settings = k;
              has_buffers = state.has_buffers;
            }) (look_of k matcher.meaning false) reader old result reader' new) same
            (searched state.has_buffers)
