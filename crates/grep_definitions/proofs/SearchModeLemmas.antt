-- The plan of a search in the mode that it runs in, and where it looks for a binary byte.
use Rattle.std.proofs.Common.{◌≡◌, ℕ, true, false, List, Option, None, Some, refl, sym, subst, ap}
use Rattle.std.proofs.lemmas.Option.{none-some, same_Some}
use Rattle.grep_matcher.specs.Meanings.{Meaning}
use Rattle.grep_report.specs.BinaryDetections.{quit_byte_of}
use Rattle.grep_report.specs.declared.binary_detection.BinaryDetection.{BinaryDetection}
use Rattle.grep_report.specs.declared.binary_detection.BinaryDetection.TheVariants.{None as no_detection}
use Rattle.grep_report.specs.declared.binary_detection.BinaryDetection.TheVariants.{Quit, Convert}
use Rattle.grep_definitions.specs.Plans.{line_plan, counted, is_across, reports_plan, search_plan}
use Rattle.grep_definitions.specs.Plans.{selection_in, IsAskedWith, Plan, Planned, Settings}
use Rattle.grep_definitions.specs.Plans.{IsAskedIn}
use Rattle.grep_definitions.specs.Searches.{calls_with, in_contents, is_detecting, look_at, nowhere}
use Rattle.grep_definitions.specs.Searches.{plan_with, quits, with_offset, BinaryPoint}

module _ (k : Settings) (meaning : Meaning) (bytes : List ℕ) where
  pub plan-by_line : is_across k meaning ≡ false → search_plan k meaning bytes
      ≡ line_plan k meaning bytes
  plan-by_line by_line = ap (λ b. reports_plan k bytes (selection_in k meaning bytes b)) by_line

pub calls-are : (k : Settings) (meaning : Meaning) → is_across k meaning ≡ false → (bytes : List ℕ)
    → (search_plan k meaning bytes).calls ≡ (line_plan k meaning bytes).calls
calls-are k meaning by_line bytes = ap (λ (p : Plan). p.calls)
    (plan-by_line k meaning bytes by_line)

pub finish-is : (k : Settings) (meaning : Meaning) → is_across k meaning ≡ false → (bytes : List ℕ)
    → (search_plan k meaning bytes).finish ≡ counted (line_plan k meaning bytes).finish.count
finish-is k meaning by_line bytes = ap (λ (p : Plan). p.finish)
    (plan-by_line k meaning bytes by_line)

-- the calls of a plan with the one in between, if the search goes on
pub with-calls : (d : BinaryDetection) → quits d ≡ false
    → (point : Option BinaryPoint) (plan : Plan)
    → (plan_with d point plan).calls ≡ calls_with point plan.calls
with-calls d is None plan = refl
with-calls d is (Some point) plan = rw is refl

pub with-finish : (d : BinaryDetection) → quits d ≡ false → (point : BinaryPoint) (plan : Plan)
    → (plan_with d (Some point) plan).finish ≡ with_offset point.offset plan.finish
with-finish d is point plan = rw is refl

-- what a matcher is asked by line
pub asked-with : (k : Settings) (meaning : Meaning) {bytes haystack : List ℕ} {made : List Planned}
    → is_across k meaning ≡ false → IsAskedIn k meaning bytes false haystack made
    → IsAskedWith k meaning bytes haystack made
asked-with k meaning {bytes} {haystack} {made} by_line query =
    subst (λ across. IsAskedIn k meaning bytes across haystack made) (sym by_line) query

-- a search across lines looks nowhere, if no byte ends it
pub look-plain : (d : BinaryDetection) → ((b : ℕ) → quit_byte_of d ≡ Some b → ⊥) → look_at d false
    ≡ nowhere
look-plain no_detection none = refl
look-plain (Quit b) none = absurd (none b refl)
look-plain (Convert b) none = refl

-- in whole contents, if a byte does
pub look-quit : (d : BinaryDetection) (b : ℕ) → quit_byte_of d ≡ Some b → look_at d false
    ≡ in_contents b
look-quit no_detection b is = absurd (none-some b is)
look-quit (Quit c) b is = ap (λ n. in_contents n) (same_Some c b is)
look-quit (Convert c) b is = absurd (none-some b is)

-- then it is the byte that ends the search
pub quit-is : (d : BinaryDetection) (b : ℕ) → quit_byte_of d ≡ Some b → d ≡ Quit b
quit-is no_detection b is = absurd (none-some b is)
quit-is (Quit c) b is = ap (λ n. Quit n) (same_Some c b is)
quit-is (Convert c) b is = absurd (none-some b is)

-- and a byte is looked for
pub look-detects : (d : BinaryDetection) (b : ℕ) → quit_byte_of d ≡ Some b → is_detecting d ≡ true
look-detects no_detection b is = absurd (none-some b is)
look-detects (Quit c) b is = refl
look-detects (Convert c) b is = absurd (none-some b is)
