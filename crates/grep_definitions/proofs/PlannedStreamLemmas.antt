-- Where a binary byte of a stream is reported, in the plan of a search by line, and a stream in
-- which none is looked for.
use Rattle.std.proofs.Common.{◌≡◌, ℕ, Bool, true, false, List, [], ◌∷◌, ◌++◌, Some, refl, ap, ◌∙◌}
use Rattle.std.proofs.Common.{arith, length, take, length-append, Option, None, Result}
use Rattle.std.proofs.Common.{Ok, Err, inl, inr, subst, ◌≤◌}
use Rattle.std.proofs.lemmas.Option.{none-some}
use Rattle.std.proofs.Math.Seq.{take-append_seam}
use Rattle.grep_decode.specs.Source.{ReadResult}
use Rattle.grep_matcher.specs.Lines.{byte_of}
use Rattle.grep_matcher.specs.Meanings.{MatcherFacts, Meaning}
use Rattle.grep_report.specs.ErrorMakers.{ErrorMakers}
use Rattle.grep_report.specs.declared.binary_detection.BinaryDetection.{BinaryDetection}
use Rattle.grep_report.specs.declared.binary_detection.BinaryDetection.TheVariants.{None as no_detection}
use Rattle.grep_definitions.specs.Plans.{search_plan, Steps, Planned, Plan, Outcome, all_true}
use Rattle.grep_definitions.specs.Plans.{is_across, line_count, selection_in, AreMade}
use Rattle.grep_definitions.specs.Plans.{SearcherState, Settings, IsAskedWith}
use Rattle.grep_definitions.specs.Searches.{BinaryPoint, quits, plan_with, planned_binary}
use Rattle.grep_definitions.specs.Searches.{nowhere, on_stream, stream_view}
use Rattle.grep_definitions.specs.Searches.{view_of, IsCutAt, IsCutSearch, IsFront, IsPoint, IsRead}
use Rattle.grep_definitions.specs.Searches.{IsReaderSearch, IsStreamPoint}
use Rattle.grep_definitions.proofs.BoolLemmas.{clash}
use Rattle.grep_definitions.proofs.SeenSearchLemmas.{search-map}
use Rattle.grep_definitions.proofs.SinkRunLemmas.{AreMade-append, AreMade-ended}

module _ {S E : Type 0} (step : Steps S E) (k : Settings) where
  -- calls that end with `binary_data`, along a plan that it ends or in which it doesn't return true
  pub binary-made : (d : BinaryDetection) (q : Bool) → quits d ≡ q
      → (point : BinaryPoint) (plan : Plan) (front : List Planned)
      → take point.position plan.calls ≡ front → (old mid : S) (outcome : Outcome E) (last : S)
      → AreMade step k old front all_true mid → AreMade step k mid (planned_binary point ∷ [])
      outcome last → (outcome ≡ all_true → q ≡ true)
      → AreMade step k old (plan_with d (Some point) plan).calls outcome last
  binary-made d true is point plan front same old mid outcome last made called ends =
      grind (arith, AreMade-append)
  binary-made d false is point plan front same old mid outcome last made called ends =
      grind (arith, AreMade-append, AreMade-ended, clash)

-- where `binary_data` comes, if these calls come first
abbrev pub stream-point : (k : Settings) (meaning : Meaning) (bytes seen : List ℕ) (offset : ℕ)
    → IsCutAt k meaning bytes seen offset
    → (calls later : List Planned) → calls ≡ (search_plan k meaning seen).calls ++ later
    → IsStreamPoint k meaning bytes calls
    (record {
      position = length (search_plan k meaning seen).calls;
      offset = offset;
      count = length seen;
    })
stream-point k meaning bytes seen offset cut calls later begin =
    let front : List Planned = (search_plan k meaning seen).calls in
    record {
      seen = seen;
      cut = cut;
      count = refl;
      within = omega (arith, ap length begin, length-append front later);
      before = ap (λ cs. take (length front) cs) begin ∙ take-append_seam front later;
    }

-- without detection a search on a stream is one that looks nowhere
module _ {R : Type 0} (remaining : R → Option (List ℕ)) (read_step : R → ReadResult → R → Type 0)
    {S E F : Type 0} (step : Steps S E) (errors : ErrorMakers F E) (matcher : MatcherFacts F)
    (state : SearcherState)
    (none : state.settings.binary_detection ≡ no_detection) where
  abbrev k : Settings
  k = state.settings

  view-is : {bytes : List ℕ} → view_of k bytes ≡ bytes
  view-is {bytes} = ap (λ d. stream_view d (byte_of k.line_terminator) bytes) none

  -- there is no first binary byte
  no-point : (bytes : List ℕ) (n : ℕ) (calls : List Planned) (point : Option BinaryPoint)
      → IsPoint k matcher.meaning bytes on_stream n calls point → point ≡ None
  no-point bytes n calls None at = refl
  no-point bytes n calls (Some point) at = grind (arith, none-some)

  search-undetected : (reader : R) (old : S) (result : Result (Unit {0}) E) (reader' : R) (new : S)
      → IsReaderSearch remaining read_step step errors matcher state on_stream reader old result
      reader' new
      → IsReaderSearch remaining read_step step errors matcher state nowhere reader old result
      reader' new
  search-undetected reader old result reader' new read = record {
    taken = read.taken;
    seen = read.seen;
    each = λ bytes input.
        let here = read.each bytes input in
        record {
          front = subst (λ xs. IsFront k xs read.seen) view-is here.front;
          later = here.later;
          calls = subst (λ xs. (search_plan k matcher.meaning xs).calls
              ≡ (search_plan k matcher.meaning read.seen).calls ++ here.later) view-is here.calls;
        };
    over_seen = search-map step errors matcher
        (λ calls point at bytes input. no-point bytes _ calls _ (at bytes input))
        (λ haystack calls asks. (
          asks.0,
          λ bytes input. subst (λ xs. IsAskedWith k matcher.meaning xs haystack calls) view-is
              (asks.1 bytes input),
        ))
        (λ plan outcome ended far. (
          (λ all goes_on bytes input.
              let seen = far.0 all goes_on bytes input in
              record {
                few = subst (λ xs. (selection_in k matcher.meaning xs
                    (is_across k matcher.meaning)).end ≤ line_count k read.seen) view-is seen.few;
                plan = subst (λ xs. search_plan k matcher.meaning xs
                    ≡ search_plan k matcher.meaning read.seen) view-is seen.plan;
              }),
          far.1,
        )) result new read.over_seen;
    whole = read.whole;
  }

  cut-undetected : {reader : R} {old : S} {e : E} {reader' : R} {new : S}
      → IsCutSearch remaining read_step step errors matcher state on_stream reader old e reader' new
      → IsCutSearch remaining read_step step errors matcher state nowhere reader old e reader' new
  cut-undetected search = record {
    mid = search.mid;
    taken = search.taken;
    seen = search.seen;
    begun = search.begun;
    error = search.error;
    cause = search.cause;
    made = search.made;
    calls = λ begun.
        let there = search.calls begun in (
          there.0,
          (λ bytes input. no-point bytes _ _ _ (there.1 bytes input)),
          there.2,
          there.3,
        );
    none = search.none;
  }

  pub undetected-read : (reader : R) (old : S) (result : Result (Unit {0}) E) (reader' : R)
      (new : S)
      → IsRead remaining read_step step errors matcher state on_stream reader old result reader' new
      → IsRead remaining read_step step errors matcher state nowhere reader old result reader' new
  undetected-read reader old (Ok u) reader' new search = search-undetected _ old _ _ new search
  undetected-read reader old (Err e) reader' new (inl search) =
      inl (search-undetected _ old _ _ new search)
  undetected-read reader old (Err e) reader' new (inr search) = inr (cut-undetected search)
