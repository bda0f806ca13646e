-- A search by line of bytes that have no NUL: no byte is found to be binary, and they are searched
-- as they are.
use Rattle.std.proofs.Common.{◌≡◌, ◌≢◌, ◌∙◌, ℕ, Bool, true, false, List, [], ◌∷◌, Option, None, Some}
use Rattle.std.proofs.Common.{ap, if◌then◌else◌, map, refl, sym}
use Rattle.std.proofs.lemmas.Bool.{eqb-true, ne_eqb}
use Rattle.std.proofs.lemmas.List.Elements.{All-get_or, All-head, All-tail}
use Rattle.std.proofs.lemmas.List.Quantifiers.{position-Some}
use Rattle.std.specs.Prelude.{◌&&◌, ◌==◌, All, get_or, not}
use Rattle.grep_matcher.specs.Lines.{byte_of}
use Rattle.grep_searcher.specs.Meanings.{Meaning}
use Rattle.grep_searcher.specs.Plans.{Planned, Settings, is_across, search_plan}
use Rattle.grep_searcher.specs.Searches.{BinaryPoint, IsPoint, Look, binary_position}
use Rattle.grep_searcher.specs.Searches.{in_contents, look_at, look_of, nowhere, on_stream}
use Rattle.grep_searcher.specs.Searches.{position_of, stream_view, view_in, viewed_plan}
use Rattle.grep_searcher.specs.declared.BinaryDetection.{BinaryDetection}
use Rattle.grep_searcher.specs.declared.BinaryDetection.TheVariants.{None as no_detection, Quit}
use Rattle.grep_searcher.specs.declared.BinaryDetection.TheVariants.{Convert}

-- a NUL is looked for, or nothing
abbrev pub LooksForNul : BinaryDetection → Type 0
LooksForNul no_detection = Unit {0}
LooksForNul (Quit byte) = byte ≡ 0
LooksForNul (Convert byte) = byte ≡ 0

-- bytes without a NUL
abbrev pub HasNoNul : List ℕ → Type 0
HasNoNul bytes = All (λ byte. byte ≢ 0) bytes

no-position : (byte : ℕ) (bytes : List ℕ) → byte ≡ 0 → HasNoNul bytes
    → position_of byte bytes ≡ None
no-position byte bytes is none = go (position_of byte bytes) refl
  where
    go : (found : Option ℕ) → position_of byte bytes ≡ found → found ≡ None
    go None same = refl
    go (Some i) same =
        let at = position-Some (λ x. x == byte) bytes i 0 same in
        absurd (All-get_or (λ x. x ≢ 0) bytes i 0 at.0 none
        (eqb-true (get_or bytes i 0) byte at.1 ∙ is))

unless : (b : Bool) (found : Option ℕ) → found ≡ None → (if b then None else found) ≡ None
unless true found none = refl
unless false found none = none

no-binary : (detection : BinaryDetection) (t : ℕ) (bytes : List ℕ) → LooksForNul detection
    → HasNoNul bytes → binary_position detection t bytes ≡ None
no-binary no_detection t bytes looks none = refl
no-binary (Quit byte) t bytes looks none = no-position byte bytes looks none
no-binary (Convert byte) t bytes looks none =
    unless (byte == t) (position_of byte bytes) (no-position byte bytes looks none)

same-bytes : (byte t : ℕ) (bytes : List ℕ) → byte ≡ 0 → HasNoNul bytes
    → map (λ x. if x == byte then t else x) bytes ≡ bytes
same-bytes byte t [] is none = refl
same-bytes byte t (x ∷ bytes) is none =
    let other : (x == byte) ≡ false = ne_eqb x byte
    (λ same. All-head (λ y. y ≢ 0) x bytes none (same ∙ is)) in
    rw other (ap (λ ys. x ∷ ys) (same-bytes byte t bytes is (All-tail (λ y. y ≢ 0) x bytes none)))

same-view : (detection : BinaryDetection) (t : ℕ) (bytes : List ℕ) → LooksForNul detection
    → HasNoNul bytes → stream_view detection t bytes ≡ bytes
same-view no_detection t bytes looks none = refl
same-view (Quit byte) t bytes looks none = refl
same-view (Convert byte) t bytes looks none = same-bytes byte t bytes looks none

module _ (k : Settings) (meaning : Meaning) (bytes : List ℕ) (looks : LooksForNul k.binary_detection)
    (none : HasNoNul bytes) where
  viewed : (look : Look) → view_in k look bytes ≡ bytes
  viewed nowhere = refl
  viewed (in_contents byte) = refl
  viewed on_stream = same-view k.binary_detection (byte_of k.line_terminator) bytes looks none

  -- the plan is that of the bytes
  pub same-plan : (look : Look) → viewed_plan k meaning look bytes ≡ search_plan k meaning bytes
  same-plan look = ap (search_plan k meaning) (viewed look)

  unpointed : (look : Look) (count : ℕ) (calls : List Planned) (point : Option BinaryPoint)
      → ((byte : ℕ) → look ≡ in_contents byte → ⊥) → IsPoint k meaning bytes look count calls point
      → point ≡ None
  unpointed nowhere count calls point reads is = is
  unpointed (in_contents byte) count calls point reads is = absurd (reads byte refl)
  unpointed on_stream count calls None reads is = refl
  unpointed on_stream count calls (Some point) reads is =
      let never : None ≡ Some point.offset =
      sym (no-binary k.binary_detection (byte_of k.line_terminator) bytes looks none)
      ∙ is.cut.first in
      absurd cc

  reads-stream : (detection : BinaryDetection) (byte : ℕ)
      → look_at detection true ≡ in_contents byte → ⊥
  reads-stream no_detection byte is = cc
  reads-stream (Quit b) byte is = cc
  reads-stream (Convert b) byte is = cc

  -- no byte is reported in a search by line
  pub no-point : is_across k meaning ≡ false → (count : ℕ) (calls : List Planned)
      (point : Option BinaryPoint)
      → IsPoint k meaning bytes (look_of k meaning false) count calls point → point ≡ None
  no-point by_line count calls point is =
      let reads : look_of k meaning false ≡ look_at k.binary_detection true =
      ap (λ b. look_at k.binary_detection (not false && not b)) by_line in
      unpointed (look_of k meaning false) count calls point
      (λ byte same. reads-stream k.binary_detection byte (sym reads ∙ same)) is
