-- What reads of a decoder do, one after the other.
use Rattle.std.proofs.Common.{◌≡◌, ℕ, suc, ◌-◌, ◌<◌, ◌≤◌, ◌==◌, Bool, true, false, List, [], ◌∷◌}
use Rattle.std.proofs.Common.{◌++◌, Option, Some, None, Ok, Err, IfSome, ◌+◌, refl, sym, subst, ap}
use Rattle.std.proofs.Common.{◌∙◌, append-nil, append_assoc, arith, length, length-append, ◌⊎◌}
use Rattle.std.proofs.Common.{⊎_elim, inl, inr}
use Rattle.std.proofs.lemmas.Bool.{false≢true}
use Rattle.std.proofs.lemmas.Bool.Decides.{nat_tests}
use Rattle.std.proofs.lemmas.List.Folds.{concat-append}
use Rattle.std.proofs.KnownBytes.{Consumes-nil, Consumes-trans}
use Rattle.std.specs.List.{concat}
use Rattle.std.specs.Io.KnownBytes.{Consumes, Keeps, IsAtEnd}
use Rattle.std.specs.declared.io.Error.{Error}
use Rattle.std.specs.Str.Lossy.{utf8_lossy}
use Rattle.grep_decode.specs.declared.label.Label.{Label}
use Rattle.grep_decode.specs.declared.label.Label.TheVariants.{Utf8, Utf16Le, Utf16Be}
use Rattle.grep_decode.specs.declared.mode.Mode.{Mode}
use Rattle.grep_decode.specs.declared.mode.Mode.TheVariants.{Fresh, Passing, Decoding}
use Rattle.grep_decode.specs.Decoded.{decoded, units_of, has_odd_byte, scalars_of, utf16_text}
use Rattle.grep_decode.specs.UndecodedBytes.{UndecodedBytes, Grows, holding}
use Rattle.grep_decode.specs.Source.{ReadResult, Pulls}
use Rattle.grep_decode.specs.Reading.{FailsWith}
use Rattle.grep_decode.specs.DecoderStates.{DecoderState, ReadsSince, Decodes, FailsToDecode, IsDecoded}
use Rattle.grep_decode.specs.DecoderStates.{IsDone, IsSettled, LooksForMark, decode_by, mode_after}
use Rattle.grep_decode.specs.DecoderStates.{still_to_give, HasWaited, IsWaiting, next_mode, started}
use Rattle.grep_decode.specs.DecoderStates.{unread, yet}
use Rattle.grep_decode.proofs.SourceRunLemmas.{ReadsSince-none, ReadsSince-append, ReadsSince-ended, ReadsSince-nothing}
use Rattle.grep_decode.proofs.SourceRunLemmas.{FailsWith-after}

-- at most so many calls are left, until the reader has ended
abbrev pub calls_left : Bool → ℕ → ℕ
calls_left true missing = 0
calls_left false missing = suc missing

-- no bytes become none in each mode
decode-nothing : (mode : Mode) → decode_by mode [] ≡ []
unfolding units_of has_odd_byte scalars_of utf16_text utf8_lossy
decode-nothing (Fresh None true) = refl
decode-nothing (Fresh None false) = refl
decode-nothing (Fresh (Some Utf8) true) = refl
decode-nothing (Fresh (Some Utf16Le) true) = refl
decode-nothing (Fresh (Some Utf16Be) true) = refl
decode-nothing (Fresh (Some Utf8) false) = refl
decode-nothing (Fresh (Some Utf16Le) false) = refl
decode-nothing (Fresh (Some Utf16Be) false) = refl
decode-nothing Passing = refl
decode-nothing (Decoding Utf8) = refl
decode-nothing (Decoding Utf16Le) = refl
decode-nothing (Decoding Utf16Be) = refl

pub unread-none : (ended : Bool) → unread ended [] ≡ []
unread-none true = refl
unread-none false = refl

-- what is left to give once nothing is held
pub nothing-left : (d : DecoderState) → d.ready ≡ [] → d.held ≡ [] → still_to_give d [] ≡ []
nothing-left d ready held = rw (ready, held, unread-none d.has_ended) (decode-nothing d.mode)

pub done-gives : (d : DecoderState) (rest : List ℕ) → IsDone d → still_to_give d rest ≡ []
done-gives d rest done = rw (done.ended, done.ready, done.held) (decode-nothing d.mode)

-- a decoder that looks for a mark hasn't settled
pub looks-unsettled : (mode : Mode) → LooksForMark mode → IsSettled mode → ⊥
looks-unsettled (Fresh label sniff) looks settled = settled
looks-unsettled Passing looks settled = looks
looks-unsettled (Decoding label) looks settled = looks

-- what waits in a mode that isn't settled are few bytes in which a mark is looked for
pub waits-few : (mode : Mode) (held : List ℕ) → IsWaiting mode held → IsSettled mode
    ⊎ LooksForMark mode × (length held ≤ 2)
waits-few (Fresh label sniff) held waits = inr (waits.0, omega (arith, waits.1))
waits-few Passing held waits = inl tt
waits-few (Decoding label) held waits = inl tt

decoding-passes : (label : Label) → Decoding label ≡ Passing → ⊥
decoding-passes label same = cc

settled-or : (mode : Mode) → IsSettled mode ⊎ (IsSettled mode → ⊥)
settled-or (Fresh label sniff) = inr (λ settled. settled)
settled-or Passing = inl tt
settled-or (Decoding label) = inl tt

module _ {R : Type 0} (remaining : R → Option (List ℕ)) (step : R → ReadResult → R → Type 0) where
  pub Decodes-none : (d : DecoderState) (r : R) → Decodes remaining step d r [] d r
  Decodes-none d r = record {
    pieces = [];
    calls = ReadsSince-none remaining step d.has_ended r;
    last = ([], append-nil d.held);
    takes = Consumes-nil (remaining r);
    gives = λ more end. refl;
    settles = λ more end. refl;
    stays = λ settled. refl;
    unsettled = λ fresh. (refl, refl, sym (append-nil d.held));
    enough = λ looks settled. absurd (looks-unsettled d.mode looks settled);
    passes = λ passing. omega arith;
    ahead = λ passing. omega arith;
  }

  joined : (first second : List (List ℕ)) (more : List ℕ) → concat (first ++ second) ++ more
      ≡ concat first ++ (concat second ++ more)
  joined first second more = ap (λ l. l ++ more) (concat-append first second)
      ∙ append_assoc (concat first) (concat second) more

  pub Decodes-append : (d d1 d2 : DecoderState) (r r1 r2 : R) (given later : List ℕ)
      → Decodes remaining step d r given d1 r1
      → Decodes remaining step d1 r1 later d2 r2 → Decodes remaining step d r (given ++ later) d2 r2
  Decodes-append d d1 d2 r r1 r2 given later first second = record {
    pieces = first.pieces ++ second.pieces;
    calls = ReadsSince-append remaining step d.has_ended d1.has_ended d2.has_ended r r1 r2 first.pieces
        second.pieces first.calls second.calls;
    last = (
      first.last.0 ++ second.last.0,
      ap (λ xs. d.held ++ xs) (concat-append first.pieces second.pieces)
          ∙ (sym (append_assoc d.held (concat first.pieces) (concat second.pieces))
          ∙ (ap (λ xs. xs ++ concat second.pieces) first.last.1
          ∙ (append_assoc first.last.0 d1.held (concat second.pieces)
          ∙ (ap (λ xs. first.last.0 ++ xs) second.last.1
          ∙ sym (append_assoc first.last.0 second.last.0 d2.held))))),
    );
    takes = subst (λ bytes. Consumes (remaining r) (remaining r2) bytes)
        (sym (concat-append first.pieces second.pieces))
        (Consumes-trans (remaining r) (remaining r1) (remaining r2) (concat first.pieces)
        (concat second.pieces) first.takes second.takes);
    gives = λ more end. ap (still_to_give d) (joined first.pieces second.pieces more)
        ∙ (first.gives (concat second.pieces ++ more)
        (ReadsSince-nothing remaining step d1.has_ended d2.has_ended r1 r2 second.pieces more
        second.calls end) ∙ (ap (λ l. given ++ l) (second.gives more end)
        ∙ sym (append_assoc given later (still_to_give d2 more))));
    settles = λ more end. ap (next_mode d) (joined first.pieces second.pieces more)
        ∙ (first.settles (concat second.pieces ++ more)
        (ReadsSince-nothing remaining step d1.has_ended d2.has_ended r1 r2 second.pieces more
        second.calls end) ∙ second.settles more end);
    stays = λ settled. second.stays (subst IsSettled (sym (first.stays settled)) settled)
        ∙ first.stays settled;
    unsettled = λ fresh.
        let later_held = second.unsettled fresh in
        let first_held = first.unsettled
        (λ settled. fresh (subst IsSettled (sym (second.stays settled)) settled)) in (
          later_held.0 ∙ first_held.0,
          ap (λ xs. xs ++ later) first_held.1 ∙ later_held.1,
          later_held.2 ∙ (ap (λ xs. xs ++ concat second.pieces) first_held.2
              ∙ (append_assoc d.held (concat first.pieces) (concat second.pieces)
              ∙ ap (λ xs. d.held ++ xs) (sym (concat-append first.pieces second.pieces)))),
        );
    enough = λ looks settled. ⊎_elim (λ was. ⊎_elim (λ long. inl (omega (arith, long, taken)))
        (λ ended. inr (ReadsSince-ended remaining step d2.has_ended r1 r2 second.pieces
        (subst (λ b. ReadsSince remaining step b d2.has_ended r1 second.pieces r2) ended second.calls)))
        (first.enough looks was)) (λ fresh.
        let waits = first.unsettled fresh in
        ⊎_elim
        (λ long. inl (omega (
          arith,
          long,
          taken,
          ap length waits.2,
          length-append d.held (concat first.pieces),
        ))) (λ ended. inr ended) (second.enough (subst LooksForMark (sym waits.0) looks) settled))
        (settled-or d1.mode);
    passes = λ passing.
        let mid : d1.mode ≡ Passing = first.stays (subst IsSettled (sym passing) tt) ∙ passing in
        omega (arith, first.passes passing, second.passes mid, taken, length-append given later);
    ahead = λ passing. ⊎_elim
        (λ settled. omega (
          arith,
          first.ahead (sym (second.stays settled) ∙ passing),
          second.passes (sym (second.stays settled) ∙ passing),
          taken,
          length-append given later,
        ))
        (λ fresh. omega (
          arith,
          ap length (first.unsettled fresh).2,
          length-append d.held (concat first.pieces),
          second.ahead passing,
          taken,
          length-append given later,
        )) (settled-or d1.mode);
  }
    where
      taken : length (concat (first.pieces ++ second.pieces))
          ≡ length (concat first.pieces) + length (concat second.pieces)
      taken = ap length (concat-append first.pieces second.pieces)
          ∙ length-append (concat first.pieces) (concat second.pieces)

  -- without a call of the reader
  pub Decodes-within : (d d1 : DecoderState) (r : R) (given : List ℕ) → d1.has_ended ≡ d.has_ended
      → ((rest : List ℕ) → still_to_give d rest ≡ given ++ still_to_give d1 rest)
      → ((rest : List ℕ) → next_mode d rest ≡ next_mode d1 rest)
      → IsSettled d1.mode → (IsSettled d.mode → (d1.mode ≡ d.mode)
      × (length d.held ≤ length given + length d1.held))
      → (d1.mode ≡ Passing → length d.held ≤ length given + length d1.held + 3)
      → (LooksForMark d.mode → (3 ≤ length d.held) ⊎ (d1.has_ended ≡ true))
      → (front : List ℕ) × (d.held ≡ front ++ d1.held) → Decodes remaining step d r given d1 r
  Decodes-within d d1 r given ended same next settled kept few enough last = record {
    pieces = [];
    calls = subst (λ b. ReadsSince remaining step d.has_ended b r [] r) (sym ended)
        (ReadsSince-none remaining step d.has_ended r);
    last = (last.0, append-nil d.held ∙ last.1);
    takes = Consumes-nil (remaining r);
    gives = λ more end. same more;
    settles = λ more end. next more;
    stays = λ was. (kept was).0;
    unsettled = λ fresh. absurd (fresh settled);
    enough = λ looks now. ⊎_elim (λ long. inl (omega (arith, long))) (λ all. inr all)
        (enough looks);
    passes = λ passing. omega (arith, (kept (subst IsSettled (sym passing) tt)).1);
    ahead = λ passing. omega (arith, few passing);
  }

  same-unread : (is : Bool) (more : List ℕ) → (is ≡ true → more ≡ []) → unread is more ≡ more
  same-unread true more end = sym (end refl)
  same-unread false more end = refl

  call-by : (d d1 : DecoderState) (r r1 : R) (given piece : List ℕ) (is : Bool) → d1.has_ended ≡ is
      → d.has_ended ≡ false
      → (is ≡ true → (piece ≡ []) × IsAtEnd (remaining r1)) → (is ≡ false → 0 < length piece)
      → step r (Ok piece) r1 → Consumes (remaining r) (remaining r1) piece
      → ((more : List ℕ) → (d1.has_ended ≡ true → more ≡ []) → still_to_give d (piece ++ more)
      ≡ given ++ still_to_give d1 more)
      → ((more : List ℕ) → (d1.has_ended ≡ true → more ≡ []) → next_mode d (piece ++ more)
      ≡ next_mode d1 more)
      → d1.mode ≡ d.mode → ((IsSettled d1.mode → ⊥) → (given ≡ []) × (d1.held ≡ d.held ++ piece))
      → length d.held + length piece ≤ length given + length d1.held
      → (front : List ℕ) × (d.held ++ piece ≡ front ++ d1.held)
      → Decodes remaining step d r given d1 r1
  call-by d d1 r r1 given piece true ended was last some called takes gives settles stays fresh few
      holds =
      let none : piece ≡ [] = (last refl).0 in
      record {
        pieces = [];
        calls = rw (was, ended) (r, refl, subst (λ p. step r (Ok p) r1) none called, (last refl).1);
        last = (holds.0, ap (λ p. d.held ++ p) (sym none) ∙ holds.1);
        takes = subst (λ p. Consumes (remaining r) (remaining r1) p) none takes;
        gives = λ more end. ap (λ p. still_to_give d (p ++ more)) (sym none) ∙ gives more end;
        settles = λ more end. ap (λ p. next_mode d (p ++ more)) (sym none) ∙ settles more end;
        stays = λ settled. stays;
        unsettled = λ is. (stays, (fresh is).0, (fresh is).1 ∙ ap (λ p. d.held ++ p) none);
        enough = λ looks settled. absurd
            (looks-unsettled d.mode looks (subst IsSettled stays settled));
        passes = λ passing. omega (arith, few, ap length none);
        ahead = λ passing. omega (arith, few, ap length none);
      }
  call-by d d1 r r1 given piece false ended was last some called takes gives settles stays fresh few
      holds = record {
        pieces = piece ∷ [];
        calls = rw (was, ended) (some refl, (r1, called, refl));
        last = (holds.0, ap (λ p. d.held ++ p) (append-nil piece) ∙ holds.1);
        takes = subst (λ p. Consumes (remaining r) (remaining r1) p) (sym (append-nil piece)) takes;
        gives = λ more end. ap (λ p. still_to_give d (p ++ more)) (append-nil piece)
            ∙ gives more end;
        settles = λ more end. ap (λ p. next_mode d (p ++ more)) (append-nil piece)
            ∙ settles more end;
        stays = λ settled. stays;
        unsettled = λ is. (
          stays,
          (fresh is).0,
          (fresh is).1 ∙ ap (λ p. d.held ++ p) (sym (append-nil piece)),
        );
        enough = λ looks settled. absurd
            (looks-unsettled d.mode looks (subst IsSettled stays settled));
        passes = λ passing. omega (arith, few, ap length (append-nil piece));
        ahead = λ passing. omega (arith, few, ap length (append-nil piece));
      }

  is-zero : (count : ℕ) → (count == 0) ≡ true → count ≡ 0
  is-zero count none = grind (arith, nat_tests)

  is-none : (count : ℕ) (piece : List ℕ) → length piece ≡ count → (count == 0) ≡ true → piece ≡ []
  is-none count [] counted none = refl
  is-none count (x ∷ piece) counted none = absurd (omega (arith, counted, is-zero count none))

  is-some : (count : ℕ) (piece : List ℕ) → length piece ≡ count → (count == 0) ≡ false → 0
      < length piece
  is-some count piece counted some = grind (arith, nat_tests)

  -- a call of the reader, whose bytes are held
  pub Decodes-hold : (mode : Mode) (old new : UndecodedBytes) (r r1 : R) (count : ℕ) → old.has_ended
      ≡ false
      → Grows remaining step old r count new r1 → Decodes remaining step (holding mode old) r []
      (holding mode new) r1
  Decodes-hold mode old new r r1 count was grows =
      let input : (more : List ℕ) → (new.has_ended ≡ true → more ≡ []) → old.bytes
      ++ unread old.has_ended (grows.piece ++ more)
      ≡ new.bytes ++ unread new.has_ended more =
      λ more end. ap (λ b. old.bytes ++ unread b (grows.piece ++ more)) was
      ∙ (sym (append_assoc old.bytes grows.piece more)
      ∙ (ap (λ l. l ++ more) (sym grows.appended) ∙ ap (λ l. new.bytes ++ l)
      (sym (same-unread new.has_ended more end)))) in
      call-by (holding mode old) (holding mode new) r r1 [] grows.piece (count == 0) grows.has_ended
      was (λ none. (is-none count grows.piece grows.counted none, grows.ended (is-zero count none)))
      (λ some. is-some count grows.piece grows.counted some) grows.called grows.takes
      (λ more end. ap (decode_by mode) (input more end))
      (λ more end. ap (mode_after mode) (input more end))
      refl (λ fresh. (refl, grows.appended)) (omega (
        arith,
        ap length grows.appended,
        length-append old.bytes grows.piece,
      )) ([], sym grows.appended)

  grown : (b : Bool) (old new : UndecodedBytes) (r r1 : R) (count most : ℕ) → new.has_ended ≡ b
      → length old.bytes < most
      → Grows remaining step old r count new r1 → calls_left b (most - length new.bytes)
      < suc (most - length old.bytes)
  grown true old new r r1 count most ended few grows = omega arith
  grown false old new r r1 count most ended few grows =
      let some : 0 < length grows.piece = is-some count grows.piece grows.counted
      (sym grows.has_ended ∙ ended) in
      omega (arith, some, few, ap length grows.appended ∙ length-append old.bytes grows.piece)

  -- each call brings bytes, or is the last
  pub Grows-smaller : (old new : UndecodedBytes) (r r1 : R) (count most : ℕ) → old.has_ended ≡ false
      → length old.bytes < most → Grows remaining step old r count new r1
      → calls_left new.has_ended (most - length new.bytes)
      < calls_left old.has_ended (most - length old.bytes)
  Grows-smaller old new r r1 count most was few grows =
      subst (λ b. calls_left new.has_ended (most - length new.bytes)
      < calls_left b (most - length old.bytes)) (sym was)
      (grown new.has_ended old new r r1 count most refl few grows)

  -- one call more, after others
  pub hold-more : (mode : Mode) (first old new : UndecodedBytes) (r r1 r2 : R) (count : ℕ)
      → old.has_ended ≡ false
      → Decodes remaining step (holding mode first) r [] (holding mode old) r1
      → Grows remaining step old r1 count new r2
      → Decodes remaining step (holding mode first) r [] (holding mode new) r2
  hold-more mode first old new r r1 r2 count was run grows =
      Decodes-append (holding mode first) (holding mode old) (holding mode new) r r1 r2 [] [] run
      (Decodes-hold mode old new r1 r2 count was grows)

  -- bytes that are held are decoded, without a call of the reader
  pub Decodes-text : (label : Label) (old new : UndecodedBytes) (r : R) (given : List ℕ)
      → new.has_ended ≡ old.has_ended
      → ((rest : List ℕ) → still_to_give (holding (Decoding label) old) rest ≡ given
      ++ still_to_give (holding (Decoding label) new) rest)
      → (front : List ℕ) × (old.bytes ≡ front ++ new.bytes)
      → Decodes remaining step (holding (Decoding label) old) r given (holding (Decoding label) new)
      r
  Decodes-text label old new r given ended same last = record {
    pieces = [];
    calls = subst (λ b. ReadsSince remaining step old.has_ended b r [] r) (sym ended)
        (ReadsSince-none remaining step old.has_ended r);
    last = (last.0, append-nil old.bytes ∙ last.1);
    takes = Consumes-nil (remaining r);
    gives = λ more end. same more;
    settles = λ more end. refl;
    stays = λ settled. refl;
    unsettled = λ fresh. absurd (fresh tt);
    enough = λ looks. absurd looks;
    passes = λ passing. absurd (decoding-passes label passing);
    ahead = λ passing. absurd (decoding-passes label passing);
  }

  -- a call of the reader, whose bytes pass unchanged
  pub Decodes-pass : (old new : UndecodedBytes) (r r1 : R) (count : ℕ) (piece : List ℕ) → old.bytes
      ≡ [] → new.bytes ≡ []
      → old.has_ended ≡ false → new.has_ended ≡ (count == 0) → length piece ≡ count
      → step r (Ok piece) r1
      → Consumes (remaining r) (remaining r1) piece → (count ≡ 0 → IsAtEnd (remaining r1))
      → Decodes remaining step (holding Passing old) r piece (holding Passing new) r1
  Decodes-pass old new r r1 count piece empty none was ended counted called takes last =
      let before : (rest : List ℕ) → still_to_give (holding Passing old) rest ≡ rest =
      λ rest. rw (empty, was) refl in
      let after : (rest : List ℕ) → still_to_give (holding Passing new) rest
      ≡ unread new.has_ended rest = λ rest. rw none refl in
      call-by (holding Passing old) (holding Passing new) r r1 piece piece (count == 0) ended was
      (λ zero. (is-none count piece counted zero, last (is-zero count zero)))
      (λ some. is-some count piece counted some) called takes
      (λ more end. before (piece ++ more) ∙ ap (λ l. piece ++ l)
      (sym (after more ∙ same-unread new.has_ended more end)))
      (λ more end. refl) refl (λ fresh. absurd (fresh tt)) (omega (arith, ap length empty))
      (piece, ap (λ l. l ++ piece) empty ∙ sym (ap (λ l. piece ++ l) none ∙ append-nil piece))

  -- a call of the reader failed
  pub FailsToDecode-now : (d : DecoderState) (r r1 : R) (e : Error) → d.has_ended ≡ false
      → step r (Err e) r1 → FailsToDecode remaining step d r e d r1
  FailsToDecode-now d r r1 e was failed = record {
    mid = r;
    decodes = Decodes-none d r;
    unended = was;
    failed = failed;
  }

  -- bytes that were ready are given
  pub Decodes-ready : (ready given later held : List ℕ) (mode : Mode) (ended : Bool) (capacity : ℕ)
      (r : R) → IsSettled mode → ready ≡ given ++ later → Decodes remaining step
      (record {
        ready = ready;
        held = held;
        mode = mode;
        has_ended = ended;
        capacity = capacity;
      }) r given
      (record { ready = later; held = held; mode = mode; has_ended = ended; capacity = capacity }) r
  Decodes-ready ready given later held mode ended capacity r settled same =
      let before : DecoderState = record {
        ready = ready;
        held = held;
        mode = mode;
        has_ended = ended;
        capacity =
            capacity;
      } in
      let after : DecoderState = record {
        ready = later;
        held = held;
        mode = mode;
        has_ended = ended;
        capacity =
            capacity;
      } in
      Decodes-within before after r given refl
      (λ rest. let text = decode_by mode (held ++ unread ended rest) in ap (λ l. l ++ text) same
      ∙ append_assoc given later text)
      (λ rest. refl) settled (λ was. (refl, omega arith)) (λ passing. omega arith)
      (λ looks. absurd (looks-unsettled mode looks settled)) ([], refl)

  -- a decoder that has nothing ready decodes as it does with no bytes ready
  pub Decodes-held : (ready : List ℕ) (mode : Mode) (old new : UndecodedBytes) (r r1 : R)
      (given : List ℕ) → ready ≡ []
      → Decodes remaining step (holding mode old) r given (holding mode new) r1
      → Decodes remaining step
      (record {
        ready = ready;
        held = old.bytes;
        mode = mode;
        has_ended = old.has_ended;
        capacity = old.capacity;
      }) r given
      (record {
        ready = ready;
        held = new.bytes;
        mode = mode;
        has_ended = new.has_ended;
        capacity = new.capacity;
      }) r1
  Decodes-held ready mode old new r r1 given none run =
      subst (λ l. Decodes remaining step
      (record {
        ready = l;
        held = old.bytes;
        mode = mode;
        has_ended = old.has_ended;
        capacity = old.capacity;
      }) r given
      (record {
        ready = l;
        held = new.bytes;
        mode = mode;
        has_ended = new.has_ended;
        capacity = new.capacity;
      }) r1) (sym none) run

  -- a read that failed, after others
  pub FailsToDecode-after : (d d1 d2 : DecoderState) (r r1 r2 : R) (e : Error)
      → Decodes remaining step d r [] d1 r1
      → FailsToDecode remaining step d1 r1 e d2 r2 → FailsToDecode remaining step d r e d2 r2
  FailsToDecode-after d d1 d2 r r1 r2 e first later = record {
    mid = later.mid;
    decodes = Decodes-append d d1 d2 r r1 later.mid [] [] first later.decodes;
    unended = later.unended;
    failed = later.failed;
  }

  -- reads that gave nothing, and others
  pub waited-then : (d d1 : DecoderState) (r r1 r2 : R) → Decodes remaining step d r [] d1 r1
      → HasWaited remaining step d1 r1 r2 → HasWaited remaining step d r r2
  waited-then d d1 r r1 r2 first waited = record {
    waiting = waited.waiting;
    mid = waited.mid;
    decodes = Decodes-append d d1 waited.waiting r r1 waited.mid [] [] first waited.decodes;
    unended = waited.unended;
    empty = waited.empty;
    waits = waited.waits;
    piece = waited.piece;
    called = waited.called;
  }

  pub waited-some : (d d1 : DecoderState) (r r1 r2 : R) → Decodes remaining step d r [] d1 r1
      → HasWaited remaining step d r r1 → (r2 ≡ r1) ⊎ HasWaited remaining step d1 r1 r2
      → HasWaited remaining step d r r2
  waited-some d d1 r r1 r2 first waited (inl kept) = subst (HasWaited remaining step d r) (sym kept)
      waited
  waited-some d d1 r r1 r2 first waited (inr last) = waited-then d d1 r r1 r2 first last

  pub waited-after : (d d1 : DecoderState) (r r1 r2 : R) → Decodes remaining step d r [] d1 r1
      → (r1 ≡ r) ⊎ HasWaited remaining step d r r1 → (r2 ≡ r1) ⊎ HasWaited remaining step d1 r1 r2
      → (r2 ≡ r) ⊎ HasWaited remaining step d r r2
  waited-after d d1 r r1 r2 first (inl same) (inl kept) = inl (kept ∙ same)
  waited-after d d1 r r1 r2 first (inr waited) later =
      inr (waited-some d d1 r r1 r2 first waited later)
  waited-after d d1 r r1 r2 first before (inr waited) = inr (waited-then d d1 r r1 r2 first waited)

  ReadsSince-pulls : (was is : Bool) (old new : R) (pieces : List (List ℕ))
      → ReadsSince remaining step was is old pieces new → is ≡ false → Pulls step old pieces new
  ReadsSince-pulls false false old new pieces calls unended = calls
  ReadsSince-pulls false true old new pieces calls unended = absurd (false≢true (sym unended))
  ReadsSince-pulls true is old new pieces calls unended = absurd (false≢true (sym unended ∙ calls.0))

  pub FailsToDecode-reader : (d d1 : DecoderState) (r r1 : R) (e : Error)
      → FailsToDecode remaining step d r e d1 r1 → FailsWith step r e r1
  FailsToDecode-reader d d1 r r1 e fails = (
    fails.decodes.pieces,
    fails.mid,
    ReadsSince-pulls d.has_ended d1.has_ended r fails.mid fails.decodes.pieces fails.decodes.calls
        fails.unended,
    fails.failed,
  )

  ReadsSince-unended : (was is : Bool) (old new : R) (pieces : List (List ℕ))
      → ReadsSince remaining step was is old pieces new → is ≡ false → was ≡ false
  ReadsSince-unended false is old new pieces calls unended = refl
  ReadsSince-unended true is old new pieces calls unended = absurd (false≢true (sym unended ∙ calls.0))

  pub reads-fail : (d d1 d2 : DecoderState) (r r1 r2 : R) (given : List ℕ) (e : Error)
      → Decodes remaining step d r given d1 r1
      → FailsToDecode remaining step d1 r1 e d2 r2 → FailsWith step r e r2
  reads-fail d d1 d2 r r1 r2 given e first fails =
      let unended : d1.has_ended ≡ false =
      ReadsSince-unended d1.has_ended d2.has_ended r1 fails.mid fails.decodes.pieces fails.decodes.calls
      fails.unended in
      FailsWith-after step first.pieces r r1 r2 e
      (ReadsSince-pulls d.has_ended d1.has_ended r r1 first.pieces first.calls unended)
      (FailsToDecode-reader d1 d2 r1 r2 e fails)

  -- ---- a reader that says which bytes remain

  ended-gives : (d : DecoderState) (xs ys : List ℕ) → d.has_ended ≡ true → still_to_give d xs
      ≡ still_to_give d ys
  ended-gives d xs ys ended = rw ended refl

  yet-from : (d d1 : DecoderState) (was is : Bool) (old new : R) (before after : Option (List ℕ))
      (pieces : List (List ℕ)) (given : List ℕ) → d.has_ended ≡ was → d1.has_ended ≡ is
      → ReadsSince remaining step was is old pieces new → before ≡ remaining old → after ≡ remaining new
      → Consumes before after (concat pieces) → ((more : List ℕ) → (d1.has_ended ≡ true → more ≡ [])
      → still_to_give d (concat pieces ++ more) ≡ given ++ still_to_give d1 more)
      → Consumes (yet d before) (yet d1 after) given
  yet-from d d1 was is old new None after pieces given wasn't isn't calls first last takes gives =
      tt
  yet-from d d1 was is old new (Some xs) None pieces given wasn't isn't calls first last takes
      gives = absurd takes
  yet-from d d1 false false old new (Some xs) (Some ys) pieces given wasn't isn't calls first last
      takes gives =
      ap (still_to_give d) takes ∙ gives ys (λ ended. absurd (false≢true (sym isn't ∙ ended)))
  yet-from d d1 false true old new (Some xs) (Some ys) pieces given wasn't isn't calls first last
      takes gives =
      let end : IsAtEnd (Some ys) = subst IsAtEnd (sym last) calls.3 in
      ap (still_to_give d) takes ∙ gives ys (λ ended. end)
  yet-from d d1 true is old new (Some xs) (Some ys) pieces given wasn't isn't calls first last takes
      gives =
      ended-gives d xs (concat pieces ++ []) wasn't ∙ (gives [] (λ ended. refl)
      ∙ ap (λ l. given ++ l) (ended-gives d1 [] ys (isn't ∙ calls.0)))

  pub Decodes-yet : (d d1 : DecoderState) (r r1 : R) (given : List ℕ)
      → Decodes remaining step d r given d1 r1
      → Consumes (yet d (remaining r)) (yet d1 (remaining r1)) given
  Decodes-yet d d1 r r1 given run =
      yet-from d d1 d.has_ended d1.has_ended r r1 (remaining r) (remaining r1) run.pieces given refl
      refl run.calls refl refl run.takes run.gives

  yet-kept : (d : DecoderState) (a b : Option (List ℕ)) → Keeps a b → Keeps (yet d a) (yet d b)
  yet-kept d None b keeps = tt
  yet-kept d (Some xs) None keeps = absurd keeps
  yet-kept d (Some xs) (Some ys) keeps = ap (still_to_give d) keeps

  keeps-then : (a b c : Option (List ℕ)) → Consumes a b [] → Keeps b c → Keeps a c
  keeps-then None b c takes keeps = tt
  keeps-then (Some xs) None c takes keeps = absurd takes
  keeps-then (Some xs) (Some ys) None takes keeps = absurd keeps
  keeps-then (Some xs) (Some ys) (Some zs) takes keeps = keeps ∙ sym takes

  pub FailsToDecode-yet : (d d1 : DecoderState) (r r1 : R) (e : Error)
      → FailsToDecode remaining step d r e d1 r1
      → ((old new : R) (error : Error) → step old (Err error) new
      → Keeps (remaining old) (remaining new)) → Keeps (yet d (remaining r)) (yet d1 (remaining r1))
  FailsToDecode-yet d d1 r r1 e fails keeps =
      keeps-then (yet d (remaining r)) (yet d1 (remaining fails.mid)) (yet d1 (remaining r1))
      (Decodes-yet d d1 r fails.mid [] fails.decodes)
      (yet-kept d1 (remaining fails.mid) (remaining r1) (keeps fails.mid r1 e fails.failed))

  -- ---- the end

  pub IsDone-yet : (d : DecoderState) (known : Option (List ℕ)) → IsDone d → IsAtEnd (yet d known)
  IsDone-yet d None done = tt
  IsDone-yet d (Some rest) done = done-gives d rest done

  whole : (a b : Option (List ℕ)) (bytes : List ℕ) → Consumes a b bytes → IsAtEnd b
      → IfSome a (λ all. all ≡ bytes)
  whole None b bytes takes ended = tt
  whole (Some all) None bytes takes ended = absurd takes
  whole (Some all) (Some rest) bytes takes ended = takes
      ∙ (ap (λ xs. bytes ++ xs) ended ∙ append-nil bytes)

  all-given : (label : Option Label) (sniff : Bool) (capacity : ℕ) (d : DecoderState) (is : Bool)
      (r r1 : R) (given : List ℕ)
      (pieces : List (List ℕ)) → is ≡ true → ReadsSince remaining step false is r pieces r1
      → Consumes (remaining r) (remaining r1) (concat pieces)
      → still_to_give (started capacity label sniff) (concat pieces ++ []) ≡ given
      ++ still_to_give d [] → IsDone d → IsDecoded remaining step label sniff r given r1
  all-given label sniff capacity d false r r1 given pieces ended calls takes gives done =
      absurd (false≢true ended)
  all-given label sniff capacity d true r r1 given pieces ended (last, pulled, called, end) takes
      gives done = record {
        pieces = pieces;
        mid = last;
        pulled = pulled;
        ended = called;
        text = sym (append-nil given) ∙ (ap (λ l. given ++ l) (sym (done-gives d [] done))
            ∙ (sym gives ∙ ap (decoded label sniff) (append-nil (concat pieces))));
        whole = whole (remaining r) (remaining r1) (concat pieces) takes end;
      }

  pub reads-give-all : (capacity : ℕ) (label : Option Label) (sniff : Bool) (d : DecoderState)
      (r r1 : R) (given : List ℕ)
      → Decodes remaining step (started capacity label sniff) r given d r1 → IsDone d
      → IsDecoded remaining step label sniff r given r1
  reads-give-all capacity label sniff d r r1 given run done =
      all-given label sniff capacity d d.has_ended r r1 given run.pieces done.ended run.calls
      run.takes (run.gives [] (λ ended. refl)) done
