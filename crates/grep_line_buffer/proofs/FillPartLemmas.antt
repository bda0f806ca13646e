-- The parts of a line buffer that a fill keeps, moves and lets grow.
use Rattle.std.proofs.Common.{◌≡◌, ◌≢◌, inl, inr, ℕ, ◌+◌, ◌-◌, ◌^◌, ◌<◌, ◌≤◌, List, []}
use Rattle.std.proofs.Common.{◌++◌, length, drop, Bool, true, false, if◌then◌else◌, Option, None}
use Rattle.std.proofs.Common.{Some, Result, Ok, Err, IfErr, OnOk, refl, sym, ap, subst, ◌∙◌, arith}
use Rattle.std.proofs.Common.{append_assoc, append-nil, length-append, length-drop}
use Rattle.std.proofs.lemmas.Bool.{false≢true}
use Rattle.std.proofs.lemmas.List.{drop_at}
use Rattle.std.proofs.lemmas.List.Elements.{All-append}
use Rattle.std.specs.Io.KnownBytes.{Consumes, Keeps, prepend_known}
use Rattle.std.specs.declared.io.Error.{Error}
use Rattle.grep_line_buffer.specs.declared.detection.Detection.{Detection}
use Rattle.grep_line_buffer.specs.declared.fill_error.FillError.{FillError}
use Rattle.grep_line_buffer.specs.declared.fill_error.FillError.TheVariants.{Read, HeapLimit}
use Rattle.grep_line_buffer.specs.declared.fill_error.FillError.TheVariants.{Offset, Memory}
use Rattle.std.specs.Option.{option_map}
use Rattle.grep_line_buffer.specs.Detections.{detected_bytes, found_in, first_of, is_quit}
use Rattle.grep_line_buffer.proofs.DetectionLemmas.{detected_bytes-append, detected_bytes-cut}
use Rattle.grep_line_buffer.specs.BufferStates.{BufferState, held_bytes, Lacks, GrowsIfFull}
use Rattle.grep_line_buffer.specs.BufferStates.{IsFilled, HasNoLine}
use Rattle.grep_line_buffer.specs.Fills.{IfRead, UnlessRead, FillFails, IsAtLimit}
use Rattle.grep_line_buffer.specs.Room.{IsFullFault}

-- parts of a window
abbrev pub rest_of : BufferState → List ℕ
rest_of w = w.rest

abbrev pub free_of : BufferState → ℕ
free_of w = w.free

abbrev pub offset_of : BufferState → ℕ
offset_of w = w.offset

abbrev pub limit_of : BufferState → Option ℕ
limit_of w = w.limit

abbrev pub size_of : BufferState → ℕ
size_of w = w.size

abbrev pub terminator_of : BufferState → ℕ
terminator_of w = w.terminator

abbrev pub shown_of : BufferState → List ℕ
shown_of w = w.shown

abbrev pub binary_of : BufferState → Option ℕ
binary_of w = w.binary

abbrev pub detection_of : BufferState → Detection
detection_of w = w.detection

abbrev pub ended_of : BufferState → Bool
ended_of w = w.has_ended

-- a fact that holds of each result holds unless it is the reader's error
pub unless-read : (X : Type 0) (e : FillError) {P : Type 0} → P → UnlessRead {X = X} (Err e) P
unless-read X (Read e) p = tt
unless-read X HeapLimit p = p
unless-read X Offset p = p
unless-read X Memory p = p

-- a full buffer is no error of the reader's
pub if-read-full : (X : Type 0) (limit : Option ℕ) (size : ℕ) (e : FillError) (P : Error → Type 0)
    → IsFullFault limit size e → IfRead {X = X} (Err e) P
if-read-full X limit size (Read e) P fault = absurd fault
if-read-full X limit size HeapLimit P fault = tt
if-read-full X limit size Offset P fault = tt
if-read-full X limit size Memory P fault = tt

-- what a buffer shows that had seen the end
pub filled-before : (w : BufferState) → w.has_ended ≡ true → w.rest ≡ [] → length w.shown < w.size
    → IsFilled w w
filled-before w ended all room = grind (arith, length-drop, length-append)

-- a full buffer at its limit without the end of a line is an error of its own, and no other
pub only-limit : (old new : BufferState) (result : Result Bool FillError)
    → IfErr result (FillFails old new) → OnOk result (IsFilled old new)
    → HasNoLine old new → IsAtLimit new → new.offset + length (held_bytes new) < 2 ^ 64 → result
    ≡ Err HeapLimit
only-limit old new (Ok some) failed (inl line) none full fits = grind arith
only-limit old new (Ok some) failed (inr (inl end)) none full fits = grind (arith, false≢true)
only-limit old new (Ok some) failed (inr (inr cut)) none full fits = grind (arith, false≢true)
only-limit old new (Err (Read e)) failed filled none full fits = grind arith
only-limit old new (Err HeapLimit) failed filled none full fits = refl
only-limit old new (Err Offset) failed filled none full fits = grind arith
only-limit old new (Err Memory) failed filled none full fits = absurd (failed.1.limit full.limit)

-- bytes move from those to come to those that are held, as detection makes them
pub stream-moved : (detection : Detection) (t : ℕ) (before after : Option (List ℕ))
    (old raw now : List ℕ) (cut : Bool) → now ≡ old ++ detected_bytes detection t raw
    → (cut ≡ false → is_quit detection ≡ true → found_in detection t raw ≡ None)
    → (cut ≡ true → (is_quit detection ≡ true) × ((n : ℕ) × (found_in detection t raw ≡ Some n)))
    → Consumes before after raw
    → Keeps (prepend_known old (option_map (detected_bytes detection t) before))
    (prepend_known now (if cut then Some [] else option_map (detected_bytes detection t) after))
stream-moved detection t None after old raw now cut is going ended moved = tt
stream-moved detection t (Some x) None old raw now cut is going ended moved = absurd moved
stream-moved detection t (Some x) (Some y) old raw now true is going ended moved =
    grind (arith, append-nil, detected_bytes-cut)
stream-moved detection t (Some x) (Some y) old raw now false is going ended moved =
    grind (arith, append_assoc, detected_bytes-append)

-- what is known stays
pub Keeps-same : (known : Option (List ℕ)) → Keeps known known
Keeps-same None = tt
Keeps-same (Some x) = refl

-- the first of them that is there isn't
pub first-missing : (before later : Option ℕ) (f : ℕ → ℕ) → first_of before (option_map f later)
    ≡ None
    → later ≡ None
first-missing (Some n) later f none = absurd (cc)
first-missing None None f none = refl
first-missing None (Some n) f none = absurd (cc)

-- bytes that were appended have no terminator, so none that aren't shown has
pub Lacks-more : (t count : ℕ) (before given now : List ℕ) → now ≡ before ++ given → length given
    ≡ count → Lacks t before → Lacks t (drop (length now - count) now) → Lacks t now
Lacks-more t count before given now is len none more =
    let at : length now - count ≡ length before = rw (is, length-append before given, len)
    (omega arith) in
    let last : drop (length now - count) now ≡ given = ap (λ k. drop k now) at
    ∙ ap (drop (length before)) is ∙ drop_at before given _ refl in
    let P : List ℕ → Type 0 = Lacks t in
    subst P (sym is) (All-append (λ b. b ≢ t) before given none (subst P last more))

-- bytes that are held now don't leave
pub grows-held : (old now new : BufferState) → GrowsIfFull old now → new.size ≡ now.size
    → length (held_bytes now) ≤ length (held_bytes new) → GrowsIfFull old new
grows-held old now new (inl same) size more = inl (size ∙ same)
grows-held old now new (inr grew) size more = grind arith

-- what a buffer found, if reads gave these bytes after those that it held
abbrev pub found_after : BufferState → List ℕ → Option ℕ
found_after old raw = first_of old.binary (option_map (λ i. old.offset + length (held_bytes old)
    + i) (found_in old.detection old.terminator raw))
