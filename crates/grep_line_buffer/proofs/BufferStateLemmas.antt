-- What a line buffer shows, by the positions of its bytes, and after a fill.
use Rattle.std.proofs.Common.{◌≡◌, ℕ, ◌+◌, ◌-◌, ◌<◌, ◌≤◌, Bool, List, ◌++◌, length, drop, Option}
use Rattle.std.proofs.Common.{slice_index, sym, ap, subst, ◌∙◌, arith, ◌⊎◌, inl, inr, refl, false}
use Rattle.std.proofs.Common.{length-append, ◌≢◌, true, [], get_or, append-nil, append_assoc}
use Rattle.std.proofs.lemmas.Bool.{false≢true}
use Rattle.std.proofs.lemmas.List.{append_cancel_left, drop_at, get_or-append-add}
use Rattle.std.proofs.lemmas.List.Elements.{All-append, All-get_or}
use Rattle.grep_line_buffer.specs.declared.detection.Detection.{Detection}
use Rattle.std.specs.Prelude.{slice_range}
use Rattle.grep_line_buffer.specs.BufferStates.{BufferState, EndsAtEnd, EndsAtLine, EndsWith}
use Rattle.grep_line_buffer.specs.BufferStates.{GrowsIfFull, IsFilled, HasNoLine, IsSameBuffer}
use Rattle.grep_line_buffer.specs.BufferStates.{Lacks, held_bytes, has_quit}
use Rattle.grep_line_buffer.proofs.SliceLemmas.{drop-slice, slice-join, length-slice}
use Rattle.grep_line_buffer.proofs.SliceLemmas.{slice_index-slice}

-- two windows that differ in what is shown, in what follows it, and in sizes
pub window-same : (shown shown' rest rest' : List ℕ) (offset size size' free free' : ℕ)
    (limit : Option ℕ)
    (terminator : ℕ) (detection : Detection) (binary : Option ℕ) (has_ended : Bool)
    → shown ≡ shown' → rest ≡ rest' → size ≡ size' → free ≡ free'
    → let old : BufferState = record {
      shown = shown;
      rest = rest;
      offset = offset;
      size = size;
      limit = limit;
      free = free;
      terminator = terminator;
      detection = detection;
      binary = binary;
      has_ended = has_ended;
    } in
    let new : BufferState = record {
      shown = shown';
      rest = rest';
      offset = offset;
      size = size';
      limit = limit;
      free = free';
      terminator = terminator;
      detection = detection;
      binary = binary;
      has_ended = has_ended;
    } in old ≡ new
window-same shown shown' rest rest' offset size size' free free' limit terminator detection binary has_ended p q r s = grind arith

module _ (start line_end end count found t : ℕ) (bytes : List ℕ) (low : start ≤ line_end)
    (high : line_end ≤ end)
    (within : end ≤ length bytes) (read : count ≤ end - line_end) where
  -- the bytes that were read last
  abbrev pub last_read : List ℕ
  last_read = slice_range bytes (end - count) end

  pub length-last_read : length last_read ≡ count
  length-last_read = length-slice bytes (end - count) end within ∙ omega arith

  -- they are the last ones that aren't shown
  pub drop-last_read : drop ((end - line_end) - count) (slice_range bytes line_end end) ≡ last_read
  drop-last_read = grind (arith, drop-slice)

  -- all that is held, however much of it is shown
  pub held-same : found ≤ count → slice_range bytes start ((end - count) + found)
      ++ slice_range bytes ((end - count) + found) end
      ≡ slice_range bytes start line_end ++ slice_range bytes line_end end
  held-same part = grind (arith, slice-join)

  -- the last byte shown is the terminator
  pub EndsWith-shown : 0 < found → found ≤ count → slice_index last_read (found - 1) ≡ t
      → EndsWith t (slice_range bytes start ((end - count) + found))
  EndsWith-shown some part is = grind (arith, length-slice, slice_index-slice)

  -- what follows the shown bytes has no terminator
  pub Lacks-rest : found ≤ count → Lacks t (drop found last_read)
      → Lacks t (slice_range bytes ((end - count) + found) end)
  Lacks-rest part none =
      let P : List ℕ → Type 0 =
      Lacks t in subst P (drop-slice bytes (end - count) end found (omega arith)) none

-- a buffer is like itself
pub same-buffer : {buffer : BufferState} → IsSameBuffer buffer buffer
same-buffer = record { offset = refl; limit = refl; terminator = refl; detection = refl }

-- a fill leaves a buffer at least as large
pub grown : {least : ℕ} (old new : BufferState) → GrowsIfFull old new → least ≤ old.size → least
    ≤ new.size
grown old new (inl same) low = omega (arith, same, low)
grown old new (inr (more, full, few)) low = omega (arith, more, low)

-- a fill that no byte cut shows whole lines, or all that is left
abbrev pub IsUncut : BufferState → BufferState → Type 0
IsUncut old new = EndsAtLine old new ⊎ EndsAtEnd old new

pub uncut-filled : {old new : BufferState} → has_quit new ≡ false → IsFilled old new
    → IsUncut old new
uncut-filled uncut (inl line) = inl line
uncut-filled uncut (inr (inl end)) = inr end
uncut-filled uncut (inr (inr byte)) = absurd (false≢true (sym uncut ∙ byte.cut))

-- a fill shows at least what was shown
pub long-shown : {old new : BufferState} (given : List ℕ) → held_bytes new ≡ held_bytes old ++ given
    → IsUncut old new → length old.shown ≤ length new.shown
long-shown {old} given whole (inl line) = omega (arith, line.came, length-append old.shown old.rest)
long-shown {old} {new} given whole (inr end) = omega (
  arith,
  ap length whole,
  ap length end.all,
  length-append new.shown new.rest,
  length-append (held_bytes old) given,
  length-append old.shown old.rest,
)

-- bytes that are empty or end with the byte t
abbrev pub IsEnded : ℕ → List ℕ → Type 0
IsEnded t bytes = 0 < length bytes → slice_index bytes (length bytes - 1) ≡ t

module _ {t : ℕ} {old new : BufferState} (ends_at : old.terminator ≡ t) where
  -- what a fill shows are whole lines, unless nothing follows
  pub closed-filled : (later : List ℕ) → IsUncut old new → (new.has_ended ≡ true → later ≡ [])
      → 0 < length (new.rest ++ later) → IsEnded t new.shown
  closed-filled later (inl line) done some = λ _. line.ends.last ∙ ends_at
  closed-filled later (inr end) done some = grind (arith, length-append)

  -- nothing follows if it shows no more lines, or an unterminated one
  pub last-filled : (later : List ℕ) → IsUncut old new → (new.has_ended ≡ true → later ≡ [])
      → (length old.shown ≡ length new.shown) ⊎ (IsEnded t new.shown → ⊥) → new.rest ++ later ≡ []
  last-filled later (inl line) done (inl same) = grind (arith, length-append)
  last-filled later (inl line) done (inr broken) = grind arith
  last-filled later (inr end) done last = grind arith

  -- if it shows whole lines, and more than before, the end wasn't seen
  pub unended-filled : (given : List ℕ) → held_bytes new ≡ held_bytes old ++ given
      → Lacks t old.rest → IsUncut old new
      → length old.shown < length new.shown → IsEnded t new.shown → (new.has_ended ≡ false)
      × Lacks t new.rest
  unended-filled given whole lacks (inl line) more closed =
      (line.unended, subst (λ c. Lacks c new.rest) ends_at line.none)
  unended-filled given whole lacks (inr end) more closed =
      let all : new.shown ≡ held_bytes old ++ given = sym (append-nil new.shown)
      ∙ (ap (λ xs. new.shown ++ xs) (sym end.all) ∙ whole) in
      let tail : List ℕ = old.rest ++ given in
      let shown : new.shown ≡ old.shown ++ tail = all ∙ append_assoc old.shown old.rest given in
      let given_lacks = subst (λ c. Lacks c given) ends_at (subst (Lacks old.terminator)
      (ap (drop (length (held_bytes old))) all ∙ drop_at (held_bytes old) given
      (length (held_bytes old)) refl) end.none) in
      let tail_lacks = All-append (λ b. b ≢ t) old.rest given lacks given_lacks in
      let size : length new.shown ≡ length old.shown + length tail = ap length shown
      ∙ length-append old.shown tail in
      let last : length old.shown + (length tail - 1) ≡ length new.shown - 1 =
      omega (arith, size, more) in
      absurd (All-get_or (λ b. b ≢ t) tail (length tail - 1) 0 (omega (arith, size, more))
      tail_lacks (sym (get_or-append-add old.shown tail (length tail - 1) 0)
      ∙ (ap (λ i. get_or (old.shown ++ tail) i 0) last
      ∙ (ap (λ xs. slice_index xs (length new.shown - 1)) (sym shown)
      ∙ closed (omega (arith, more))))))

-- after a fill that failed, what is held and isn't shown lacks the byte that ends a line
pub unended-rest : {t : ℕ} {old new : BufferState} (given : List ℕ) → old.terminator ≡ t
    → held_bytes new ≡ held_bytes old ++ given → Lacks t old.rest → HasNoLine old new
    → Lacks t (old.rest ++ given)
unended-rest {t} {old} {new} given ends_at whole lacks no_line =
    let tail : given ≡ new.rest = append_cancel_left (held_bytes old) given new.rest
    (sym whole ∙ ap (λ xs. xs ++ new.rest) no_line.shown) in
    All-append (λ b. b ≢ t) old.rest given lacks
    (subst (Lacks t) (sym tail) (subst (λ c. Lacks c new.rest) ends_at no_line.none))
