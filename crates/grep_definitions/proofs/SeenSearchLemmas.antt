-- The search of the lines that were seen is one of each input that begins with what was taken.
use Rattle.std.proofs.Common.{◌≡◌, ◌∙◌, ◌≤◌, ℕ, Bool, true, false, List, ◌∷◌, ◌++◌, Option, Some}
use Rattle.std.proofs.Common.{None, Result, Ok, Err, length, map, take, drop, refl, sym, ap, subst}
use Rattle.std.proofs.Common.{arith, append_assoc, inl, ⊎_elim, ◌⊎◌, length-append}
use Rattle.std.proofs.lemmas.List.{drop-append-le, map-append, take-append-le}
use Rattle.std.specs.Prelude.{IfSome, OnOk}
use Rattle.grep_decode.specs.Source.{ReadResult}
use Rattle.grep_matcher.specs.Meanings.{MatcherFacts, Meaning}
use Rattle.grep_report.specs.ErrorMakers.{ErrorMakers}
use Rattle.grep_report.specs.declared.binary_detection.BinaryDetection.{BinaryDetection}
use Rattle.grep_definitions.proofs.BoolLemmas.{clash}
use Rattle.grep_definitions.proofs.SinkRunLemmas.{AreMade-ended}
use Rattle.grep_definitions.specs.Plans.{all_true, search_plan}
use Rattle.grep_definitions.specs.Plans.{IsAskedWith, IsRun, Outcome, Plan, Planned}
use Rattle.grep_definitions.specs.Plans.{SearcherState, Settings, Steps}
use Rattle.grep_definitions.specs.Searches.{asked, calls_with, in_contents, nowhere, on_stream}
use Rattle.grep_definitions.specs.Searches.{plan_with, planned_binary, quits, ran, view_in}
use Rattle.grep_definitions.specs.Searches.{BinaryPoint, IsInputOf, IsPoint, IsReaderSearch}
use Rattle.grep_definitions.specs.Searches.{IsSearchOf, IsSeenOf, Look, Points}
use Rattle.grep_definitions.specs.SinkRuns.{after_binary}

-- what is said of a search that ended in `Ok`
pub on-ok : {X E : Type 0} {P : Type 0} (result : Result X E) → P → OnOk result P
on-ok (Ok u) p = p
on-ok (Err e) p = tt

pub on-ok-map : {X E : Type 0} {P Q : Type 0} (result : Result X E) → (P → Q) → OnOk result P
    → OnOk result Q
on-ok-map (Ok u) more p = more p
on-ok-map (Err e) more p = tt

module _ {S E F : Type 0} (step : Steps S E) (errors : ErrorMakers F E) (matcher : MatcherFacts F)
    {k : Settings} where
  -- a search of which less is said
  pub search-map : {IsAt IsAt2 : Points} {IsAsked IsAsked2 : List ℕ → List Planned → Type 0}
      {HasRead HasRead2 : Plan → Outcome E → Result (Unit {0}) E → Type 0} {plan : Plan} {old : S}
      → ((calls : List Planned) (point : Option BinaryPoint) → IsAt calls point → IsAt2 calls point)
      → ((haystack : List ℕ) (calls : List Planned) → IsAsked haystack calls
      → IsAsked2 haystack calls)
      → ((plan : Plan) (outcome : Outcome E) (result : Result (Unit {0}) E)
      → HasRead plan outcome result → HasRead2 plan outcome result)
      → (result : Result (Unit {0}) E) (new : S)
      → IsSearchOf step errors matcher k IsAt IsAsked HasRead plan old result new
      → IsSearchOf step errors matcher k IsAt2 IsAsked2 HasRead2 plan old result new
  search-map {plan} places asks reads result new (ran point at run read) =
      ran point (places plan.calls point at) run (reads _ run.outcome result read)
  search-map places asks reads (Err e) new (asked haystack error calls question fails message
      (point, at, goes, made)) =
      asked haystack error calls (asks haystack calls question) fails message
      (point, places calls point at, goes, made)

module _ {S E : Type 0} (step : Steps S E) (k : Settings) {old : S} {result : Result (Unit {0}) E}
    {new : S} where
  -- a run along a plan is one along a plan whose calls begin with its calls, or that is the same if
  -- all were made
  run-more : (front whole : Plan) (later : List Planned) → whole.calls ≡ front.calls ++ later
      → (run : IsRun step k old front result new) → (run.outcome ≡ all_true → whole ≡ front)
      → IsRun step k old whole result new
  run-more front whole later is run all = grind (arith, AreMade-ended)

  -- with `binary_data` among the first calls too
  pub along-more : (d : BinaryDetection) (point : Option BinaryPoint) (front whole : Plan)
      (later : List Planned)
      → whole.calls ≡ front.calls ++ later → IfSome point (λ p. p.position ≤ length front.calls)
      → front.finish.binary ≡ None → (run : IsRun step k old (plan_with d point front) result new)
      → (run.outcome ≡ all_true → (quits d ≡ true → (plan_with d point front).finish.binary ≡ None)
      → whole ≡ front) → IsRun step k old (plan_with d point whole) result new
  along-more d None front whole later is within none run all =
      run-more front whole later is run (λ made. all made (λ ends. none))
  along-more d (Some point) front whole later is within none run all = go (quits d) refl
    where
      taken : take point.position whole.calls ≡ take point.position front.calls
      taken = ap (take point.position) is ∙ take-append-le point.position front.calls later within

      dropped : drop point.position whole.calls ≡ drop point.position front.calls ++ later
      dropped = ap (drop point.position) is ∙ drop-append-le point.position front.calls later within

      go : (q : Bool) → quits d ≡ q → IsRun step k old (plan_with d (Some point) whole) result new
      go true ends =
          let same : plan_with d (Some point) whole ≡ plan_with d (Some point) front =
          rw (ends, taken) refl in
          subst (λ plan. IsRun step k old plan result new) (sym same) run
      go false goes_on = run-more (plan_with d (Some point) front) (plan_with d (Some point) whole)
          (map (after_binary point) later) more run
          (λ made. ap (plan_with d (Some point)) (all made (λ ends. absurd (clash ends goes_on))))
        where
          calls-more : calls_with (Some point) whole.calls
              ≡ calls_with (Some point) front.calls ++ map (after_binary point) later
          calls-more = rw (
            taken,
            dropped,
            map-append (after_binary point) (drop point.position front.calls) later,
          ) (sym (append_assoc (take point.position front.calls)
              (planned_binary point ∷ map (after_binary point) (drop point.position front.calls))
              (map (after_binary point) later)))

          more : (plan_with d (Some point) whole).calls
              ≡ (plan_with d (Some point) front).calls ++ map (after_binary point) later
          more = rw goes_on calls-more

-- where `binary_data` comes, if the calls go on
points-more : (k : Settings) (meaning : Meaning) (bytes : List ℕ) (look : Look) (n : ℕ)
    (seen : List ℕ) → IsSeenOf k look bytes seen → (later : List Planned)
    → (search_plan k meaning (view_in k look bytes)).calls ≡ (search_plan k meaning seen).calls
    ++ later → (point : Option BinaryPoint) → IsPoint k meaning bytes look n
    (search_plan k meaning seen).calls point
    → IsPoint k meaning bytes look n (search_plan k meaning (view_in k look bytes)).calls point
points-more k meaning bytes nowhere n seen front later is point at = at
points-more k meaning bytes (in_contents b) n seen front later is point at =
    subst (λ xs. IsPoint k meaning bytes (in_contents b) n (search_plan k meaning xs).calls point)
    front at
points-more k meaning bytes on_stream n seen front later is None at = at
points-more k meaning bytes on_stream n seen front later is (Some point) at = record {
  seen = at.seen;
  cut = at.cut;
  count = at.count;
  within = omega (arith, ap length is, length-append (search_plan k meaning seen).calls later);
  before = ap (take point.position) is
      ∙ (take-append-le point.position (search_plan k meaning seen).calls later at.within
      ∙ at.before);
}

-- it comes among the calls for the lines that were seen, unless they are all
points-within : (k : Settings) (meaning : Meaning) (bytes : List ℕ) (look : Look) (n : ℕ)
    (seen : List ℕ) → IsSeenOf k look bytes seen → (point : Option BinaryPoint)
    → IsPoint k meaning bytes look n (search_plan k meaning seen).calls point
    → IfSome point (λ p. p.position ≤ length (search_plan k meaning seen).calls)
    ⊎ (search_plan k meaning (view_in k look bytes) ≡ search_plan k meaning seen)
points-within k meaning bytes nowhere n seen front point at = grind arith
points-within k meaning bytes (in_contents b) n seen front point at = grind arith
points-within k meaning bytes on_stream n seen front None at = inl tt
points-within k meaning bytes on_stream n seen front (Some point) at = inl at.within

module _ {S E F : Type 0} (step : Steps S E) (errors : ErrorMakers F E) (matcher : MatcherFacts F)
    {k : Settings} where
  -- a search with a plan is one with a plan whose calls go on
  pub search-more : {IsAt IsAt2 : Points} {IsAsked IsAsked2 : List ℕ → List Planned → Type 0}
      {HasRead : Plan → Outcome E → Result (Unit {0}) E → Type 0} (front whole : Plan)
      (later : List Planned) → whole.calls ≡ front.calls ++ later → front.finish.binary ≡ None
      → ((point : Option BinaryPoint) → IsAt front.calls point
      → IsAt2 whole.calls point × (IfSome point (λ p. p.position ≤ length front.calls)
      ⊎ (whole ≡ front)))
      → ((calls : List Planned) (point : Option BinaryPoint) → IsAt calls point → IsAt2 calls point)
      → ((haystack : List ℕ) (calls : List Planned) → IsAsked haystack calls
      → IsAsked2 haystack calls)
      → ((point : Option BinaryPoint) (outcome : Outcome E) (result : Result (Unit {0}) E)
      → HasRead (plan_with k.binary_detection point front) outcome result → outcome ≡ all_true
      → (quits k.binary_detection ≡ true → (plan_with k.binary_detection point front).finish.binary
      ≡ None) → whole ≡ front) → {old : S} (result : Result (Unit {0}) E) (new : S)
      → IsSearchOf step errors matcher k IsAt IsAsked HasRead front old result new
      → IsSearchOf step errors matcher k IsAt2 IsAsked2 (λ plan outcome result. Unit {0}) whole old
      result new
  search-more front whole later is none first places asks all {old} result new
      (ran point at run read) =
      let there = first point at in
      ran point there.0 (⊎_elim
      (λ within. along-more step k k.binary_detection point front whole later is within none run
      (all point run.outcome result read))
      (λ same. subst (λ plan. IsRun step k old (plan_with k.binary_detection point plan) result new)
      (sym same) run) there.1) tt
  search-more front whole later is none first places asks all (Err e) new
      (asked haystack error calls question fails message (point, at, goes, made)) =
      asked haystack error calls (asks haystack calls question) fails message
      (point, places calls point at, goes, made)

module _ {R : Type 0} {remaining : R → Option (List ℕ)} {read_step : R → ReadResult → R → Type 0}
    {S E F : Type 0} (step : Steps S E) (errors : ErrorMakers F E) (matcher : MatcherFacts F)
    (state : SearcherState) (look : Look) {reader reader' : R} {old : S}
    {result : Result (Unit {0}) E} {new : S} where
  -- a search of each input
  pub input-search : (read : IsReaderSearch remaining read_step step errors matcher state look
      reader old result
      reader' new) (bytes : List ℕ) → IsInputOf remaining read_step read.taken state.settings bytes
      → IsSearchOf step errors matcher state.settings
      (IsPoint state.settings matcher.meaning bytes look (length read.seen))
      (IsAskedWith state.settings matcher.meaning (view_in state.settings look bytes))
      (λ plan outcome result. Unit {0})
      (search_plan state.settings matcher.meaning (view_in state.settings look bytes)) old result
      new
  input-search read bytes input =
      let k = state.settings in
      let here = read.each bytes input in
      search-more step errors matcher (search_plan k matcher.meaning read.seen) _ here.later
      here.calls refl
      (λ point at. (
        points-more k matcher.meaning bytes look (length read.seen) read.seen here.front here.later
            here.calls point (at bytes input),
        points-within k matcher.meaning bytes look (length read.seen) read.seen here.front point
            (at bytes input),
      )) (λ calls point at. at bytes input) (λ haystack calls asks. asks.1 bytes input)
      (λ point outcome result far made goes_on. (far.0 made goes_on bytes input).plan)
      result new read.over_seen
