-- What some reads of a decoder gave, and what a read that failed left.
use Rattle.std.proofs.Common.{◌≡◌, ◌⊎◌, inl, inr, ℕ, ◌+◌, ◌≤◌, List, [], ◌++◌, length, Option}
use Rattle.std.proofs.Common.{sym, ap, subst, ◌∙◌, arith, append-nil, length-append}
use Rattle.std.proofs.KnownBytes.{Consumes-trans, Consumes-kept}
use Rattle.std.specs.Io.KnownBytes.{Consumes}
use Rattle.std.specs.declared.io.Error.{Error}
use Rattle.grep_decode.proofs.DecoderLemmas.{Decodes-append}
use Rattle.grep_decode.specs.declared.mode.Mode.TheVariants.{Passing}
use Rattle.grep_decode.specs.DecoderStates.{DecoderState, Decodes, IsSettled, TakesAtMost}
use Rattle.grep_decode.specs.DecoderStates.{runs_ahead, yet}
use Rattle.grep_decode.specs.Source.{ReadResult}
use Rattle.grep_line_buffer.specs.Appends.{FailsToRead, Reads}
use Rattle.grep_line_buffer.specs.Contents.{FailsAfter}

-- what was taken by some reads and by some more
TakesAtMost-append : (a b c : Option (List ℕ)) (first second most : ℕ) → TakesAtMost a b first
    → TakesAtMost b c second → first + second ≤ most → TakesAtMost a c most
TakesAtMost-append a b c first second most p q within = grind (arith, length-append, Consumes-trans)

module _ {R : Type 0} (remaining : R → Option (List ℕ)) (step : R → ReadResult → R → Type 0) where
  -- Reads of a decoder, none or some, gave these bytes.
  pub record HasRead (d : DecoderState) (r : R) (given : List ℕ) (d' : DecoderState) (r' : R) : Type
      0 where
    pub decodes : Decodes remaining step d r given d' r'
    pub gives : Consumes (yet d (remaining r)) (yet d' (remaining r')) given
    pub begins : IsSettled d'.mode ⊎ ((d' ≡ d) × (r' ≡ r) × (given ≡ []))
    pub stays : IsSettled d.mode → d'.mode ≡ d.mode
    pub ahead : d'.mode ≡ Passing → TakesAtMost (remaining r) (remaining r') (length given
        + runs_ahead d.mode)
    pub capacity : d'.capacity ≡ d.capacity

  pub HasRead-none : (d : DecoderState) (r : R) → Decodes remaining step d r [] d r
      → HasRead d r [] d r
  HasRead-none d r none = grind arith

  ahead-more : (d d1 d2 : DecoderState) (r r1 r2 : R) (given came : List ℕ)
      → HasRead d r given d1 r1 → Reads remaining step d1 r1 came d2 r2
      → IsSettled d1.mode ⊎ ((d1 ≡ d) × (r1 ≡ r) × (given ≡ []))
      → d2.mode ≡ Passing → TakesAtMost (remaining r) (remaining r2) (length (given ++ came)
      + runs_ahead d.mode)
  ahead-more d d1 d2 r r1 r2 given came before read (inl settled) passing =
      let same : d1.mode ≡ Passing = sym (read.stays settled) ∙ passing in
      let none : runs_ahead d1.mode ≡ 0 = ap runs_ahead same in
      TakesAtMost-append _ _ _ _ _ _ (before.ahead same) (read.ahead passing)
      (rw length-append (omega (arith, none)))
  ahead-more d d1 d2 r r1 r2 given came before read (inr first) passing =
      let most : length came + runs_ahead d1.mode ≡ length (given ++ came) + runs_ahead d.mode =
      ap (λ x. length came + runs_ahead x.mode) first.0
      ∙ ap (λ l. length (l ++ came) + runs_ahead d.mode) (sym first.2) in
      subst (λ x. TakesAtMost (remaining x) (remaining r2) (length (given ++ came)
      + runs_ahead d.mode)) first.1
      (subst (TakesAtMost (remaining r1) (remaining r2)) most (read.ahead passing))

  -- and then one more
  pub HasRead-more : (d d1 d2 : DecoderState) (r r1 r2 : R) (given came : List ℕ)
      → HasRead d r given d1 r1 → Reads remaining step d1 r1 came d2 r2 → d2.capacity ≡ d1.capacity
      → HasRead d r (given ++ came) d2 r2
  HasRead-more d d1 d2 r r1 r2 given came before read capacity = record {
    decodes = Decodes-append remaining step d d1 d2 r r1 r2 given came before.decodes read.decodes;
    gives = Consumes-trans _ _ _ given came before.gives read.gives;
    begins = inl read.settled.settled;
    stays = λ settled. read.stays (subst (λ m. IsSettled m) (sym (before.stays settled)) settled)
        ∙ before.stays settled;
    ahead = ahead-more d d1 d2 r r1 r2 given came before read before.begins;
    capacity = capacity ∙ before.capacity;
  }

  -- Reads of a decoder, none or some, gave these bytes, and then one failed.
  pub record HasFailed (d : DecoderState) (r : R) (given : List ℕ) (e : Error) (d' : DecoderState)
      (r' : R) : Type 0
    where
      pub after : FailsAfter remaining step e d r given d' r'
      pub gives : Consumes (yet d (remaining r)) (yet d' (remaining r')) given
      pub stays : IsSettled d.mode → d'.mode ≡ d.mode
      pub capacity : d'.capacity ≡ d.capacity

  pub HasRead-failed : (d d1 d2 : DecoderState) (r r1 r2 : R) (given : List ℕ) (e : Error)
      → HasRead d r given d1 r1
      → FailsToRead remaining step d1 r1 e d2 r2 → d2.capacity ≡ d1.capacity
      → HasFailed d r given e d2 r2
  HasRead-failed d d1 d2 r r1 r2 given e before failed capacity = record {
    after = record {
      mid = failed.failed.mid;
      decodes = subst (λ l. Decodes remaining step d r l d2 failed.failed.mid) (append-nil given)
          (Decodes-append remaining step d d1 d2 r r1 failed.failed.mid given [] before.decodes
          failed.failed.decodes);
      unended = failed.failed.unended;
      failed = failed.failed.failed;
    };
    gives = Consumes-kept _ _ _ given before.gives failed.keeps;
    stays = λ settled. failed.stays (subst (λ m. IsSettled m) (sym (before.stays settled)) settled)
        ∙ before.stays settled;
    capacity = capacity ∙ before.capacity;
  }
