-- What a sink whose steps are functions makes of a run, and what a search without binary detection
-- comes to.
use Rattle.std.specs.Prelude.{◌≡◌, ◌⊎◌, ℕ, Bool, true, false, if◌then◌else◌, List, [], ◌∷◌, ◌++◌}
use Rattle.std.specs.Prelude.{length, Option, Result, Some, None, Ok, Err}
use Rattle.std.specs.List.{fold}
use Rattle.grep_decode.specs.Source.{ReadResult}
use Rattle.grep_matcher.specs.Meanings.{IsInfallible, MatcherFacts}
use Rattle.grep_report.specs.declared.binary_detection.BinaryDetection.TheVariants.{
  None as no_detection,
}
use Rattle.grep_definitions.specs.Plans.{search_plan, IsLawful, refusal_of, Call, matches, finishes}
use Rattle.grep_definitions.specs.Plans.{Finish, Planned, Plan, Steps, IsRun, Settings}
use Rattle.grep_definitions.specs.Plans.{SearcherState, IsAskedWith}
use Rattle.grep_definitions.specs.Searches.{nowhere, IsReaderSearched, IsReaderSearch, IsCutSearch}
use Rattle.grep_definitions.specs.Searches.{Look, IsInputOf, IsInput, searched_bytes, IsSearchOf}
use Rattle.grep_definitions.specs.Searches.{IsPoint, view_in, viewed_plan}
use Rattle.grep_report.specs.ErrorMakers.{ErrorMakers}
use Rattle.grep_definitions.specs.SliceSearches.{is_searched_unchanged, IsSliceRead}
use Rattle.grep_definitions.specs.SliceSearches.{IsSliceSearched}
use Rattle.grep_definitions.specs.SearchLaws.{calls_of, match_calls}

module _ {V : Type 0} (taken : V → Call → Bool → V → Type 0) where
  -- a call that succeeds, of a sink that takes matches alone: any other call goes on and leaves the
  -- state
  abbrev pub IsTakenOk : V → Call → Bool → V → Type 0
  IsTakenOk old (matches number offset line around) b new =
      taken old (matches number offset line around) b new
  IsTakenOk old _ b new = (b ≡ true) × (new ≡ old)

  -- some matches are taken in order, up to the first after which the sink doesn't go on
  abbrev pub AreTaken : V → List Call → V → Type 0
  AreTaken old [] new = new ≡ old
  AreTaken old (found ∷ later) new =
      ((mid : V) × taken old found true mid × AreTaken mid later new) ⊎ taken old found false new

module _ {S : Type 0} (goes : S → Call → Bool) (next : S → Call → S) where
  -- the state after some calls, up to the first after which the sink doesn't go on
  abbrev pub fold_while : S → List Call → S
  fold_while old [] = old
  fold_while old (call ∷ later) =
      if goes old call then fold_while (next old call) later else next old call

  -- if the state is a function of the calls so far, of none and after each call, and the sink
  -- always goes on, it is that function of all of them
  abbrev pub CallsReach : Type 0
  CallsReach =
      (state_after : List Call → S)
      → ((before : List Call) (call : Call) → (goes (state_after before) call ≡ true)
      × (next (state_after before) call ≡ state_after (before ++ call ∷ [])))
      → (old : S) (calls : List Call) → old ≡ state_after []
      → fold_while old calls ≡ state_after calls

  -- the state after a run along a plan: `finish` has what the plan has, or what it has after the
  -- call after which the sink doesn't go on
  abbrev pub run_fold : S → List Planned → Finish → S
  run_fold old [] finish = next old (finishes finish.count finish.binary)
  run_fold old (planned ∷ later) finish =
      if goes old planned.call
      then run_fold (next old planned.call) later finish
      else next (next old planned.call)
      (finishes planned.if_false.count planned.if_false.binary)

  -- a match after which the sink goes on, or not, and changes the state by these functions
  abbrev pub IsTakenBy : S → Call → Bool → S → Type 0
  IsTakenBy old call b new = (b ≡ goes old call) × (new ≡ next old call)

  -- a call that succeeds, of a sink that takes matches alone, by these functions
  abbrev pub IsMatchOk : S → Call → Bool → S → Type 0
  IsMatchOk old call b new = IsTakenOk IsTakenBy old call b new

module _ {S E : Type 0} (step : Steps S E) where
  -- each call that succeeds goes on and changes the state by these functions of the state and the
  -- call
  abbrev pub StepsBy : (S → Call → Bool) → (S → Call → S) → Type 0
  StepsBy goes next =
      (old : S) (settings : Settings) (call : Call) (b : Bool) (new : S)
      → step old settings call (Ok b) new → (b ≡ goes old call) × (new ≡ next old call)

  -- each call that succeeds is one of a sink that takes matches alone
  abbrev pub TakesMatches : (S → Call → Bool) → (S → Call → S) → Type 0
  TakesMatches goes next =
      (old : S) (settings : Settings) (call : Call) (b : Bool) (new : S)
      → step old settings call (Ok b) new → IsMatchOk goes next old call b new

  -- a run that ended in `Ok` is a fold over the planned calls
  abbrev pub RunsFold : Type 0
  RunsFold =
      (goes : S → Call → Bool) (next : S → Call → S) → StepsBy goes next
      → (settings : Settings) (old : S) (plan : Plan) (new : S)
      → IsRun step settings old plan (Ok tt) new
      → new ≡ run_fold goes next old plan.calls plan.finish

  -- if the sink always goes on, it is std's fold over all calls
  abbrev pub RunsFoldAll : Type 0
  RunsFoldAll =
      (next : S → Call → S) → StepsBy (λ old call. true) next
      → (settings : Settings) (old : S) (plan : Plan) (new : S)
      → IsRun step settings old plan (Ok tt) new
      → new
      ≡ next (fold next old (calls_of plan.calls)) (finishes plan.finish.count plan.finish.binary)

  -- if the sink takes matches alone, it is a fold over the matches
  abbrev pub RunsFoldMatches : Type 0
  RunsFoldMatches =
      (goes : S → Call → Bool) (next : S → Call → S) → TakesMatches goes next
      → (settings : Settings) (old : S) (plan : Plan) (new : S)
      → IsRun step settings old plan (Ok tt) new
      → new ≡ fold_while goes next old (match_calls plan.calls)

module _ {S E F : Type 0} (step : Steps S E) (errors : ErrorMakers F E)
    (matcher : MatcherFacts F) where
  -- an error is that of a step of the sink
  abbrev pub FailsAtStep : Settings → E → S → Type 0
  FailsAtStep settings e new = (mid : S) × (call : Call) × step mid settings call (Err e) new

  -- without binary detection, a search of a slice with a lawful matcher that ended in `Ok` is a run
  -- along the plan of its decoded bytes
  abbrev pub SearchesRun : Type 0
  SearchesRun =
      (state : SearcherState) (input : List ℕ) (old : S) (new : S)
      → state.settings.binary_detection ≡ no_detection
      → IsLawful matcher state.settings
      → IsSliceSearched step errors matcher state input old (Ok tt) new
      → IsRun step state.settings old
      (search_plan state.settings matcher.meaning (searched_bytes state.settings input)) (Ok tt) new

  -- without binary detection, if the matcher never fails and is lawful, and the search isn't
  -- refused, an error is that of a step of the sink, or the slice has to be decoded and wasn't to
  -- its end
  abbrev pub SearchesFail : Type 0
  SearchesFail =
      (state : SearcherState) (input : List ℕ) (old : S) (e : E) (new : S)
      → state.settings.binary_detection ≡ no_detection
      → IsInfallible matcher.fails → IsLawful matcher state.settings
      → refusal_of state.settings matcher.meaning ≡ None
      → IsSliceSearched step errors matcher state input old (Err e) new
      → FailsAtStep state.settings e new
      ⊎ ((is_searched_unchanged state.settings input ≡ false) × (rest : List ℕ)
      × IsCutSearch (λ all. Some all) IsSliceRead step errors matcher state nowhere input old e
      rest new)

module _ {S E F : Type 0} (step : Steps S E) (errors : ErrorMakers F E) (matcher : MatcherFacts F)
    {R : Type 0} (remaining : R → Option (List ℕ)) (read_step : R → ReadResult → R → Type 0) where
  -- a search of a reader that ended in `Ok` is a run along the plan, whatever follows what was
  -- taken
  abbrev pub ReaderSearchesRun : Type 0
  ReaderSearchesRun =
      (state : SearcherState) (reader : R) (old : S) (reader' : R) (new : S)
      → state.settings.binary_detection ≡ no_detection
      → IsLawful matcher state.settings
      → IsReaderSearched remaining read_step step errors matcher state reader old
      (Ok tt) reader' new
      → (search : IsReaderSearch remaining read_step step errors matcher state nowhere reader old
      (Ok tt) reader' new)
      × ((bytes : List ℕ)
      → IsInput state.settings search.taken.ended search.taken.pieces bytes
      → IsRun step state.settings old (search_plan state.settings matcher.meaning bytes)
      (Ok tt) new)

  -- so is an error that a search of a reader ended in, or it is one of reading
  abbrev pub ReaderSearchesFail : Type 0
  ReaderSearchesFail =
      (state : SearcherState) (reader : R) (old : S) (e : E) (reader' : R) (new : S)
      → state.settings.binary_detection ≡ no_detection
      → IsInfallible matcher.fails → IsLawful matcher state.settings
      → refusal_of state.settings matcher.meaning ≡ None
      → IsReaderSearched remaining read_step step errors matcher state reader old
      (Err e) reader' new
      → FailsAtStep step errors matcher state.settings e new
      ⊎ IsCutSearch remaining read_step step errors matcher state nowhere reader old e reader' new

  -- the search of the lines that were seen of a reader is one of each input that begins with what
  -- was taken: with the same `binary_data` and the same question, along the plan of that input
  abbrev pub InputsAreSearched : Type 0
  InputsAreSearched =
      (state : SearcherState) (look : Look) (reader : R) (old : S) (result : Result (Unit {0}) E)
      (reader' : R) (new : S)
      → (read : IsReaderSearch remaining read_step step errors matcher state look reader old result
      reader' new) (bytes : List ℕ)
      → IsInputOf remaining read_step read.taken state.settings bytes
      → IsSearchOf step errors matcher state.settings
      (IsPoint state.settings matcher.meaning bytes look (length read.seen))
      (IsAskedWith state.settings matcher.meaning (view_in state.settings look bytes))
      (λ plan outcome ended. Unit {0})
      (viewed_plan state.settings matcher.meaning look bytes) old result new

  -- without binary detection, a search of a reader that says which bytes remain, with a lawful
  -- matcher, if it ended in `Ok`, is a run along the plan of its decoded bytes
  abbrev pub KnownReadersRun : Type 0
  KnownReadersRun =
      (state : SearcherState) (reader : R) (input : List ℕ) (old : S) (reader' : R) (new : S)
      → state.settings.binary_detection ≡ no_detection
      → remaining reader ≡ Some input
      → IsLawful matcher state.settings
      → IsReaderSearched remaining read_step step errors matcher state reader old
      (Ok tt) reader' new
      → IsRun step state.settings old
      (search_plan state.settings matcher.meaning (searched_bytes state.settings input)) (Ok tt) new
