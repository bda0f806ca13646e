-- Why a search for a pattern fails.
use Rattle.std.specs.Prelude.{◌≡◌, ℕ, List, [], ◌∷◌}
use Rattle.std.specs.IoError.{error_kind}
use Rattle.std.specs.declared.alloc.AllocError.{AllocError}
use Rattle.std.specs.declared.io.Error.{Error as IoError}
use Rattle.grep_regex.specs.LinePatterns.{error_kind_of, line_meaning, line_options}
use Rattle.grep_regex.specs.Refusals.{IsRefusal}
use Rattle.grep_regex.specs.declared.Error.{Error}
use Rattle.grep_searcher.specs.Meanings.{MatcherFacts}
use Rattle.grep_searcher.specs.declared.SearchError.{SearchError}
use Rattle.grep_searcher.specs.declared.SearchError.TheVariants.{Io}

-- a matcher of a pattern for lines may fail at any question, and can be trusted
abbrev pub line_facts : List ℕ → MatcherFacts AllocError
line_facts pattern = record {
  meaning = line_meaning pattern;
  fails = λ _ _. Unit {0};
  is_lawful = λ _. Unit {0};
}

-- the pattern is refused, and the error is an `io::Error` of the kind of the refusal
abbrev pub IsPatternError : {A : Type 0} → List ℕ → SearchError A → Type 0
IsPatternError pattern e =
    (refusal : Error) × (error : IoError) × IsRefusal line_options (pattern ∷ []) refusal
    × (e ≡ Io error) × (error_kind error ≡ error_kind_of refusal)
