-- The mark of an input is found in its first bytes.
use Rattle.std.proofs.Common.{◌≡◌, ◌⊎◌, ◌||◌, ℕ, ◌≤◌, Bool, true, false, cond, List, [], ◌++◌}
use Rattle.std.proofs.Common.{length, take, drop, Option, None, Some, IfSome, is_some, refl, sym}
use Rattle.std.proofs.Common.{ap, subst, ◌∙◌, inl, inr, append-nil, nat_eq, arith}
use Rattle.std.proofs.lemmas.List.{take-append-le, drop-append-le, take_all, take_at}
use Rattle.std.specs.Cmp.Lexicographic.{pointwise}
use Rattle.grep_decode.specs.declared.label.Label.{Label}
use Rattle.grep_decode.specs.declared.label.Label.TheVariants.{Utf8, Utf16Le, Utf16Be}
use Rattle.grep_decode.specs.declared.mode.Mode.{Mode}
use Rattle.grep_decode.specs.declared.mode.Mode.TheVariants.{Fresh, Passing, Decoding}
use Rattle.grep_decode.specs.Decoded.{mark_of, begins_with_mark, marked, by_mark, decoded}
use Rattle.grep_decode.specs.Decoded.{found_mark}
use Rattle.grep_decode.specs.DecoderStates.{mark_length, DecoderState, HasNoMark, IsSettled}
use Rattle.grep_decode.specs.DecoderStates.{LooksForMark, decode_by, mode_after, mode_of, next_mode}
use Rattle.grep_decode.specs.DecoderStates.{still_to_give, unread, yet}
use Rattle.grep_decode.specs.UndecodedBytes.{UndecodedBytes, holding}
use Rattle.std.specs.Io.KnownBytes.{Consumes}

begins-append : (label : Label) (head ys : List ℕ) → 3 ≤ length head
    → begins_with_mark label (head ++ ys) ≡ begins_with_mark label head
begins-append Utf8 head ys long = ap (pointwise nat_eq (mark_of Utf8))
    (take-append-le 3 head ys long)
begins-append Utf16Le head ys long = ap (pointwise nat_eq (mark_of Utf16Le))
    (take-append-le 2 head ys (omega (arith, long)))
begins-append Utf16Be head ys long = ap (pointwise nat_eq (mark_of Utf16Be))
    (take-append-le 2 head ys (omega (arith, long)))

marked-append : (head ys : List ℕ) → 3 ≤ length head → marked (head ++ ys) ≡ marked head
marked-append head ys long =
    rw (
      begins-append Utf8 head ys long,
      begins-append Utf16Le head ys long,
      begins-append Utf16Be head ys long,
    ) refl

found-long : (label : Option Label) (sniff : Bool) (looks : Bool) (head ys : List ℕ)
    → (looks ≡ true → (3 ≤ length head) ⊎ (ys ≡ []))
    → cond looks (marked (head ++ ys)) None ≡ cond looks (marked head) None
found-long label sniff false head ys enough = refl
found-long label sniff true head ys enough =
    elim (enough refl) [
      | inl long ↦ marked-append head ys long
      | inr none ↦ ap (λ l. marked (head ++ l)) none ∙ ap marked (append-nil head)
    ]

-- the first three bytes, or all of a shorter input, decide
pub found-append : (label : Option Label) (sniff : Bool) (head ys : List ℕ)
    → ((sniff || is_some label) ≡ true → (3 ≤ length head) ⊎ (ys ≡ []))
    → found_mark label sniff (head ++ ys) ≡ found_mark label sniff head
found-append label sniff head ys enough = found-long label sniff (sniff || is_some label) head ys
    enough

by-found : (mark label : Option Label) (head ys : List ℕ) → mark_length mark ≤ length head
    → by_mark mark label (head ++ ys) ≡ decode_by (mode_of mark label) (drop (mark_length mark) head
    ++ ys)
by-found None None head ys long = refl
by-found None (Some label) head ys long = refl
by-found (Some Utf8) label head ys long = drop-append-le 3 head ys long
by-found (Some Utf16Le) label head ys long = ap (decode_by (Decoding Utf16Le))
    (drop-append-le 2 head ys long)
by-found (Some Utf16Be) label head ys long = ap (decode_by (Decoding Utf16Be))
    (drop-append-le 2 head ys long)

-- the input after its mark
pub decoded-append : (label : Option Label) (sniff : Bool) (mark : Option Label) (head ys : List ℕ)
    → mark ≡ found_mark label sniff head
    → mark_length mark ≤ length head → ((sniff || is_some label) ≡ true → (3 ≤ length head)
    ⊎ (ys ≡ [])) → decoded label sniff (head ++ ys) ≡ decode_by (mode_of mark label)
    (drop (mark_length mark) head ++ ys)
decoded-append label sniff mark head ys found long enough =
    ap (λ m. by_mark m label (head ++ ys)) (found-append label sniff head ys enough ∙ sym found)
    ∙ by-found mark label head ys long

-- the mode is settled
pub mode-settled : (mark label : Option Label) → IsSettled (mode_of mark label)
mode-settled None None = tt
mode-settled None (Some label) = tt
mode-settled (Some Utf8) label = tt
mode-settled (Some Utf16Le) label = tt
mode-settled (Some Utf16Be) label = tt

pub mode-stays : (mark label : Option Label) (input : List ℕ)
    → mode_after (mode_of mark label) input ≡ mode_of mark label
mode-stays None None input = refl
mode-stays None (Some label) input = refl
mode-stays (Some Utf8) label input = refl
mode-stays (Some Utf16Le) label input = refl
mode-stays (Some Utf16Be) label input = refl

-- a decoder that settled on a mode by the bytes that it holds
abbrev pub Chosen : DecoderState → DecoderState → Type 0
Chosen d d1 = ((rest : List ℕ) → still_to_give d rest ≡ still_to_give d1 rest)
    × ((rest : List ℕ) → next_mode d rest ≡ next_mode d1 rest) × IsSettled d1.mode

unread-enough : (label : Option Label) (sniff : Bool) (mode : Mode) (head : List ℕ) (ended : Bool)
    (rest : List ℕ) → mode ≡ Fresh label sniff
    → (LooksForMark mode → (3 ≤ length head) ⊎ (ended ≡ true)) → (sniff || is_some label) ≡ true
    → (3 ≤ length head) ⊎ (unread ended rest ≡ [])
unread-enough label sniff mode head ended rest fresh enough looks =
    elim (enough (subst LooksForMark (sym fresh) looks))
    [ inl long ↦ inl long | inr is ↦ inr (ap (λ b. unread b rest) is) ]

pub chosen : (d d1 : DecoderState) (label : Option Label) (sniff : Bool) (mark : Option Label)
    → d.mode ≡ Fresh label sniff → d.ready ≡ []
    → mark ≡ found_mark label sniff d.held → mark_length mark ≤ length d.held → d1.mode
    ≡ mode_of mark label → d1.has_ended ≡ d.has_ended
    → (LooksForMark d.mode → (3 ≤ length d.held) ⊎ (d.has_ended ≡ true))
    → ((ys : List ℕ) → d1.ready ++ decode_by d1.mode (d1.held ++ ys)
    ≡ decode_by d1.mode (drop (mark_length mark) d.held ++ ys)) → Chosen d d1
chosen d d1 label sniff mark fresh none found long mode ended enough text =
    let near : (rest : List ℕ) → (sniff || is_some label) ≡ true → (3 ≤ length d.held)
    ⊎ (unread d.has_ended rest ≡ []) =
    λ rest. unread-enough label sniff d.mode d.held d.has_ended rest fresh enough in (
      λ rest. let ys = unread d.has_ended rest in
          ap (λ l. l ++ decode_by d.mode (d.held ++ ys)) none
          ∙ (ap (λ m. decode_by m (d.held ++ ys)) fresh
          ∙ (decoded-append label sniff mark d.held ys found long (near rest)
          ∙ (ap (λ m. decode_by m (drop (mark_length mark) d.held ++ ys)) (sym mode)
          ∙ (sym (text ys)
          ∙ ap (λ b. d1.ready ++ decode_by d1.mode (d1.held ++ unread b rest)) (sym ended))))),
      λ rest. let ys = unread d.has_ended rest in
          ap (λ m. mode_after m (d.held ++ ys)) fresh
          ∙ (ap (λ m. mode_of m label) (found-append label sniff d.held ys (near rest) ∙ sym found)
          ∙ (sym (mode-stays mark label (d1.held ++ unread d1.has_ended rest))
          ∙ ap (λ m. mode_after m (d1.held ++ unread d1.has_ended rest)) (sym mode))),
      subst IsSettled (sym mode) (mode-settled mark label),
    )

-- the bytes that were read ahead
ahead-ready : (input rest head ready : List ℕ) (ended : Bool) → input ≡ head ++ unread ended rest
    → length head ≤ 3 → (3 ≤ length head) ⊎ (ended ≡ true) → ready ≡ head → ready ≡ take 3 input
ahead-ready input rest head ready ended whole few enough same =
    elim enough [
      | inl long ↦ same ∙ (sym (take_at head (unread ended rest) 3 (omega (arith, long, few)))
          ∙ ap (take 3) (sym whole))
      | inr is ↦
          let all : input ≡ head = whole ∙ (ap (λ b. head ++ unread b rest) is ∙ append-nil head) in
          same ∙ (sym (take_all 3 head few) ∙ ap (take 3) (sym all))
    ]

pub first-ready : (label : Option Label) (sniff : Bool) (old new : UndecodedBytes)
    (before after : Option (List ℕ)) (ready : List ℕ)
    → Consumes (yet (holding Passing old) before) (yet (holding Passing new) after) [] → old.bytes
    ≡ [] → old.has_ended ≡ false
    → length new.bytes ≤ 3 → (3 ≤ length new.bytes) ⊎ (new.has_ended ≡ true)
    → (found_mark label sniff new.bytes ≡ None → ready ≡ new.bytes)
    → IfSome before (λ input. found_mark label sniff input ≡ None → ready ≡ take 3 input)
first-ready label sniff old new None after ready takes none unended few enough same = tt
first-ready label sniff old new (Some input) None ready takes none unended few enough same =
    absurd takes
first-ready label sniff old new (Some input) (Some rest) ready takes none unended few enough same =
    λ unmarked.
    let was : old.bytes ++ unread old.has_ended input ≡ input = rw (none, unended) refl in
    let whole : input ≡ new.bytes ++ unread new.has_ended rest = sym was ∙ takes in
    let near : (3 ≤ length new.bytes) ⊎ (unread new.has_ended rest ≡ []) =
    elim enough [ inl long ↦ inl long | inr is ↦ inr (ap (λ b. unread b rest) is) ] in
    let head : found_mark label sniff new.bytes ≡ None =
    sym (found-append label sniff new.bytes (unread new.has_ended rest) (λ looks. near))
    ∙ (ap (found_mark label sniff) (sym whole) ∙ unmarked) in
    ahead-ready input rest new.bytes ready new.has_ended whole few enough (same head)

-- the same by the mode
pub first-by : (mode : Mode) (label : Option Label) (sniff : Bool) (P : Type 0)
    (known : Option (List ℕ)) (ready : List ℕ) → mode ≡ Fresh label sniff
    → (P → IfSome known (λ input. found_mark label sniff input ≡ None → ready ≡ take 3 input))
    → IfSome known (λ input. HasNoMark mode input → P → ready ≡ take 3 input)
first-by mode label sniff P None ready fresh made = tt
first-by mode label sniff P (Some input) ready fresh made =
    subst (λ m. HasNoMark m input → P → ready ≡ take 3 input) (sym fresh)
    (λ unmarked passing. made passing unmarked)
