-- What the result of a read says, whichever it is, and in which modes a decoder begins.
use Rattle.std.proofs.Common.{◌≡◌, ℕ, ◌<◌, ◌≤◌, Bool, true, false, List, [], ◌∷◌, ◌++◌, Option}
use Rattle.std.proofs.Common.{Some, None, Result, Ok, Err, IfSome, IfOk, IfErr, OnErr, OnOk, take}
use Rattle.std.proofs.Common.{◌+◌, refl, sym, subst, ap, ◌∙◌, arith, length, length-append}
use Rattle.std.proofs.Common.{length-take, min, ◌⊎◌, inl, inr, is_some, ◌||◌}
use Rattle.std.proofs.lemmas.Bool.{false≢true}
use Rattle.std.proofs.KnownBytes.{Consumes-nil, Consumes-trans}
use Rattle.std.specs.Io.{ReadsAtMost}
use Rattle.std.specs.Io.KnownBytes.{Consumes, Keeps, IsAtEnd}
use Rattle.std.specs.declared.io.Error.{Error}
use Rattle.grep_decode.specs.declared.label.Label.{Label}
use Rattle.grep_decode.specs.declared.mode.Mode.{Mode}
use Rattle.grep_decode.specs.declared.mode.Mode.TheVariants.{Fresh, Passing, Decoding}
use Rattle.grep_decode.specs.Decoded.{found_mark}
use Rattle.grep_decode.specs.Source.{ReadResult}
use Rattle.grep_decode.specs.Reading.{FailsWith}
use Rattle.grep_decode.specs.DecoderStates.{DecoderState, Decodes, FailsToDecode, FitsMode, IsDone}
use Rattle.grep_decode.specs.DecoderStates.{IsSettled, LooksForMark, TakesAtMost, mode_after}
use Rattle.grep_decode.specs.DecoderStates.{still_to_give, HasWaited, IsWaiting, yet}
use Rattle.grep_decode.proofs.DecoderLemmas.{Decodes-append, Decodes-yet, FailsToDecode-after}
use Rattle.grep_decode.proofs.DecoderLemmas.{FailsToDecode-reader, FailsToDecode-yet, IsDone-yet}
use Rattle.grep_decode.proofs.DecoderLemmas.{nothing-left, waited-after, waited-some, waited-then}

-- what is held while a mark is looked for
pub fits-fresh : (mode : Mode) (ready held : List ℕ) (label : Option Label) (sniff : Bool)
    → FitsMode mode ready held → mode ≡ Fresh label sniff → (ready ≡ []) × (length held ≤ 3)
fits-fresh mode ready held label sniff fits fresh = subst (λ m. FitsMode m ready held) fresh fits

module _ {R : Type 0} (remaining : R → Option (List ℕ)) (step : R → ReadResult → R → Type 0) where
  -- ---- a read that returned a result, whichever

  pub result-decodes : (d d1 d2 : DecoderState) (r r1 r2 : R) (result : Result ℕ Error)
      (buffer : List ℕ) → Decodes remaining step d r [] d1 r1
      → IfOk result (λ n. Decodes remaining step d1 r1 (take n buffer) d2 r2)
      → IfOk result (λ n. Decodes remaining step d r (take n buffer) d2 r2)
  result-decodes d d1 d2 r r1 r2 (Ok n) buffer first later = Decodes-append remaining step d d1 d2 r
      r1 r2 [] (take n buffer) first later
  result-decodes d d1 d2 r r1 r2 (Err e) buffer first later = tt

  pub result-fails : (d d1 d2 : DecoderState) (r r1 r2 : R) (result : Result ℕ Error)
      → Decodes remaining step d r [] d1 r1
      → IfErr result (λ e. FailsToDecode remaining step d1 r1 e d2 r2)
      → IfErr result (λ e. FailsToDecode remaining step d r e d2 r2)
  result-fails d d1 d2 r r1 r2 (Ok n) first later = tt
  result-fails d d1 d2 r r1 r2 (Err e) first later = FailsToDecode-after remaining step d d1 d2 r r1
      r2 e first later

  pub result-waited : (d d1 : DecoderState) (r r1 r2 : R) (result : Result ℕ Error)
      → Decodes remaining step d r [] d1 r1 → (r1 ≡ r) ⊎ HasWaited remaining step d r r1
      → OnOk result ((r2 ≡ r1) ⊎ HasWaited remaining step d1 r1 r2)
      → OnOk result ((r2 ≡ r) ⊎ HasWaited remaining step d r r2)
  result-waited d d1 r r1 r2 (Ok n) first before later = waited-after remaining step d d1 r r1 r2
      first before later
  result-waited d d1 r r1 r2 (Err e) first before later = tt

  pub result-begins : (d d1 : DecoderState) (r r1 r2 : R) (result : Result ℕ Error)
      → Decodes remaining step d r [] d1 r1
      → HasWaited remaining step d r r1 ⊎ OnOk result (HasWaited remaining step d1 r1 r2)
      → OnOk result ((r2 ≡ r1) ⊎ HasWaited remaining step d1 r1 r2)
      → OnOk result (HasWaited remaining step d r r2)
  result-begins d d1 r r1 r2 (Ok n) first (inl waited) later = waited-some remaining step d d1 r r1
      r2 first waited later
  result-begins d d1 r r1 r2 (Ok n) first (inr waited) later = waited-then remaining step d d1 r r1
      r2 first waited
  result-begins d d1 r r1 r2 (Err e) first before later = tt

  pub result-gives : (d d1 : DecoderState) (r r1 : R) (result : Result ℕ Error) (buffer : List ℕ)
      → IfOk result (λ n. Decodes remaining step d r (take n buffer) d1 r1)
      → IfOk result (λ n. Consumes (yet d (remaining r)) (yet d1 (remaining r1)) (take n buffer))
  result-gives d d1 r r1 (Ok n) buffer run = Decodes-yet remaining step d d1 r r1 (take n buffer)
      run
  result-gives d d1 r r1 (Err e) buffer run = tt

  pub result-ends : (d : DecoderState) (r : R) (result : Result ℕ Error) (buffer : List ℕ)
      → IfOk result (λ n. n ≡ 0 → 0 < length buffer → IsDone d)
      → IfOk result (λ n. n ≡ 0 → 0 < length buffer → IsAtEnd (yet d (remaining r)))
  result-ends d r (Ok n) buffer done = λ none room. IsDone-yet remaining step d (remaining r)
      (done none room)
  result-ends d r (Err e) buffer done = tt

  pub result-fault : (d d1 : DecoderState) (r r1 : R) (result : Result ℕ Error)
      → IfErr result (λ e. FailsToDecode remaining step d r e d1 r1)
      → IfErr result (λ e. FailsWith step r e r1)
  result-fault d d1 r r1 (Ok n) fails = tt
  result-fault d d1 r r1 (Err e) fails = FailsToDecode-reader remaining step d d1 r r1 e fails

  pub result-keeps : (d d1 : DecoderState) (r r1 : R) (result : Result ℕ Error)
      → ((old new : R) (error : Error) → step old (Err error) new
      → Keeps (remaining old) (remaining new))
      → IfErr result (λ e. FailsToDecode remaining step d r e d1 r1)
      → OnErr result (Keeps (yet d (remaining r)) (yet d1 (remaining r1)))
  result-keeps d d1 r r1 (Ok n) keeps fails = tt
  result-keeps d d1 r r1 (Err e) keeps fails = FailsToDecode-yet remaining step d d1 r r1 e fails
      keeps

  none-given : (d d1 : DecoderState) (known after : Option (List ℕ)) (given : List ℕ) → d.ready ≡ []
      → d.held ≡ [] → known ≡ Some []
      → Consumes (yet d known) (yet d1 after) given → length given ≡ 0
  none-given d d1 known None given ready held none takes =
      absurd (subst (λ k. Consumes (yet d k) (yet d1 None) given) none takes)
  none-given d d1 known (Some rest) given ready held none takes =
      let all : still_to_give d [] ≡ given ++ still_to_give d1 rest =
      subst (λ k. Consumes (yet d k) (yet d1 (Some rest)) given) none takes in
      let nothing : still_to_give d [] ≡ [] = nothing-left d ready held in
      let long : length (given ++ still_to_give d1 rest) ≡ 0 = ap length (sym all ∙ nothing) in
      omega (arith, long, length-append given (still_to_give d1 rest))

  first-count : (d d1 : DecoderState) (r r1 : R) (n : ℕ) (buffer ready : List ℕ)
      (known : Option (List ℕ)) (M : List ℕ → Type 0) (P S : Type 0)
      → known ≡ remaining r → d.ready ≡ [] → d.held ≡ [] → (n ≤ length buffer)
      × (n ≡ length (take n buffer))
      → Consumes (yet d known) (yet d1 (remaining r1)) (take n buffer)
      → (0 < length ready → (n ≡ min (length ready) (length buffer)) × S)
      → IfSome known (λ input. M input → P → ready ≡ take 3 input)
      → IfSome known (λ input. M input → P → n ≡ min (length buffer) (min 3 (length input)))
  first-count d d1 r r1 n buffer ready None M P S is none empty bound takes given made = tt
  first-count d d1 r r1 n buffer ready (Some []) M P S is none empty bound takes given made = λ m p.
      let zero : n ≡ 0 = bound.1 ∙ none-given d d1 (Some []) (remaining r1) (take n buffer) none
      empty refl takes in
      omega (arith, zero)
  first-count d d1 r r1 n buffer ready (Some (x ∷ input)) M P S is none empty bound takes given
      made = λ m p.
      let long : length ready ≡ min 3 (length (x ∷ input)) = ap length (made m p)
      ∙ length-take 3 (x ∷ input) in
      let count : n ≡ min (length ready) (length buffer) = (given (omega (arith, long))).0 in
      omega (arith, long, count)

  pub result-first : (d d1 : DecoderState) (r r1 : R) (result : Result ℕ Error)
      (buffer ready : List ℕ) (M : List ℕ → Type 0) (P S : Type 0)
      → d.ready ≡ [] → d.held ≡ [] → ReadsAtMost result buffer
      → IfOk result (λ n. Decodes remaining step d r (take n buffer) d1 r1)
      → (0 < length ready → IfOk result (λ n. (n ≡ min (length ready) (length buffer)) × S))
      → IfSome (remaining r) (λ input. M input → P → ready ≡ take 3 input)
      → IfOk result (λ n. IfSome (remaining r) (λ input. M input → P → n
      ≡ min (length buffer) (min 3 (length input))))
  result-first d d1 r r1 (Ok n) buffer ready M P S none empty bound run given made =
      first-count d d1 r r1 n buffer ready (remaining r) M P S refl none empty bound
      (Decodes-yet remaining step d d1 r r1 (take n buffer) run) given made
  result-first d d1 r r1 (Err e) buffer ready M P S none empty bound run given made = tt

-- what was taken at first, and then what was taken
pub result-ahead : (P : Type 0) (before mid after : Option (List ℕ)) (most : ℕ)
    (result : Result ℕ Error) → TakesAtMost before mid most
    → IfOk result (λ n. P → TakesAtMost mid after n)
    → IfOk result (λ n. P → TakesAtMost before after (n + most))
result-ahead P before mid after most (Ok n) first later = λ p.
    let more = later p in (
      first.0 ++ more.0,
      omega (arith, first.1, more.1, length-append first.0 more.0),
      Consumes-trans before mid after first.0 more.0 first.2 more.2,
    )
result-ahead P before mid after most (Err e) first later = tt

pub takes-none : (known : Option (List ℕ)) (most : ℕ) → TakesAtMost known known most
takes-none known most = ([], omega arith, Consumes-nil known)

-- what is first ready, in another state that has the same bytes ready
pub first-passes : (M : List ℕ → Type 0) (P Q : Type 0) (known : Option (List ℕ))
    (ready same : List ℕ) → (P → Q) → same ≡ ready
    → IfSome known (λ input. M input → Q → ready ≡ take 3 input)
    → IfSome known (λ input. M input → P → same ≡ take 3 input)
first-passes M P Q None ready same given is made = tt
first-passes M P Q (Some input) ready same given is made = λ m p. is ∙ made m (given p)

-- few bytes wait while a mark is looked for
pub few-wait : (mode : Mode) (held : List ℕ) → LooksForMark mode → length held < 3
    → IsWaiting mode held
few-wait (Fresh label sniff) held looks few = (looks, few)
few-wait Passing held looks few = absurd looks
few-wait (Decoding label) held looks few = absurd looks

-- whether a mark is looked for
pub looks-or : (mode : Mode) → LooksForMark mode ⊎ (LooksForMark mode → ⊥)
looks-or (Fresh label sniff) = true-or (sniff || is_some label)
  where
    true-or : (b : Bool) → (b ≡ true) ⊎ (b ≡ true → ⊥)
    true-or true = inl refl
    true-or false = inr (λ is. false≢true is)
looks-or Passing = inr (λ looks. looks)
looks-or (Decoding label) = inr (λ looks. looks)

-- without a mark that is looked for the bytes pass
pub mode-unlooked : (label : Option Label) (sniff : Bool) (input : List ℕ)
    → (LooksForMark (Fresh label sniff) → ⊥)
    → (found_mark label sniff input ≡ None) × (mode_after (Fresh label sniff) input ≡ Passing)
mode-unlooked None false input unlooked = (refl, refl)
mode-unlooked None true input unlooked = absurd (unlooked refl)
mode-unlooked (Some label) true input unlooked = absurd (unlooked refl)
mode-unlooked (Some label) false input unlooked = absurd (unlooked refl)

pub mode-settled : (mode : Mode) (input : List ℕ) → IsSettled mode → mode_after mode input ≡ mode
mode-settled (Fresh label sniff) input settled = absurd settled
mode-settled Passing input settled = refl
mode-settled (Decoding label) input settled = refl

-- a decoder that hasn't settled was started
pub unsettled-fresh : (mode : Mode) → (IsSettled mode → ⊥) → (label : Option Label) × (sniff : Bool)
    × (mode ≡ Fresh label sniff)
unsettled-fresh (Fresh label sniff) fresh = (label, sniff, refl)
unsettled-fresh Passing fresh = absurd (fresh tt)
unsettled-fresh (Decoding label) fresh = absurd (fresh tt)

-- only a decoder that has read nothing looks for a mark
pub looks-fresh : (mode : Mode) → LooksForMark mode → (label : Option Label) × (sniff : Bool)
    × (mode ≡ Fresh label sniff)
looks-fresh (Fresh label sniff) looks = (label, sniff, refl)
looks-fresh Passing looks = absurd looks
looks-fresh (Decoding label) looks = absurd looks
