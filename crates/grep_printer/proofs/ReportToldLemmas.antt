-- What the message of a report tells of it.
use Rattle.std.proofs.Common.{◌≡◌, ◌≢◌, ◌∙◌, ℕ, ◌<◌, ◌^◌, List, [], ◌∷◌, Bool, true, false, Option, None, Some, ap}
use Rattle.std.proofs.Common.{ap₂, arith, length, refl, subst, sym}
use Rattle.std.proofs.lemmas.Fmt.{decimal_injective}
use Rattle.std.proofs.lemmas.List.Elements.{All-cons, All-head, All-nil, All-tail}
use Rattle.std.specs.Borrow.{Bor}
use Rattle.std.specs.Option.{IfSome}
use Rattle.std.specs.Prelude.{All, codes, decimal, if◌then◌else◌}
use Rattle.std.specs.Str.{is_utf8}
use Rattle.base64.proofs.EngineFacts.{decode_of-encode_of}
use Rattle.base64.specs.Engines.{standard}
use Rattle.base64.specs.GeneralPurpose.{IsBytes, decode_of, encode_of}
use Rattle.json.specs.Json.{Json, Members, member, no_members}
use Rattle.grep_printer.specs.JsonLaws.{AreSameTexts, BeginsTell, IsWordRange, MessagesTell, Reported}
use Rattle.grep_printer.specs.JsonLaws.{message_of_report}
use Rattle.grep_printer.specs.JsonLaws.{path_text}
use Rattle.grep_printer.specs.JsonMessages.{base64_json, begin_json, bytes_json, number_json, optional_json, path_json}
use Rattle.grep_printer.specs.JsonMessages.{report_json, submatch_items, submatch_json, text_json}

path-told : (a b : Option (Bor (List ℕ))) → path_json a ≡ path_json b → path_text a ≡ path_text b
path-told None None same = refl
path-told None (Some b) same = absurd cc
path-told (Some a) None same = absurd cc
path-told (Some a) (Some b) same = cc

number-told : (a b : Option ℕ) → IfSome a (λ n. n < 2 ^ 64) → IfSome b (λ n. n < 2 ^ 64)
    → optional_json a ≡ optional_json b → a ≡ b
number-told None None first later same = refl
number-told None (Some b) first later same = absurd cc
number-told (Some a) None first later same = absurd cc
number-told (Some a) (Some b) first later same =
    let digits : decimal a ≡ decimal b = cc in ap Some (decimal_injective a b first later digits)

-- a text has another key than base64
text-other : (a b : List ℕ) → text_json a ≡ base64_json b → ⊥
text-other a b same = let key : codes "text" ≡ codes "bytes" = cc in let sizes = ap length key in omega (arith, sizes)

bytes-told : (a b : List ℕ) → IsBytes a → IsBytes b → bytes_json a ≡ bytes_json b → a ≡ b
unfolding bytes_json
bytes-told a b first later same = go (is_utf8 a) (is_utf8 b) same
  where
    go : (s t : Bool) → (if s then text_json a else base64_json (encode_of standard a))
        ≡ (if t then text_json b else base64_json (encode_of standard b)) → a ≡ b
    go true true same = cc
    go true false same = absurd (text-other a (encode_of standard b) same)
    go false true same = absurd (text-other b (encode_of standard a) (sym same))
    go false false same =
        let encoded : encode_of standard a ≡ encode_of standard b = cc in
        let decoded = sym (decode_of-encode_of standard a refl first) ∙ (ap (decode_of standard) encoded
        ∙ decode_of-encode_of standard b refl later) in
        cc

-- the last members of a match
abbrev positions_json : ℕ × ℕ → Members
positions_json range =
    member (codes "start") (number_json range.0) (member (codes "end") (number_json range.1) no_members)

-- a text in place of a match has another key than its start
place-other : (text : List ℕ) (later rest : Members) (start : Json)
    → member (codes "replacement") (bytes_json text) later ≡ member (codes "start") start rest → ⊥
place-other text later rest start same =
    let key : codes "replacement" ≡ codes "start" = cc in
    let sizes = ap length key in
    omega (arith, sizes)

-- the positions of a match
places-told : (a b : ℕ × ℕ) → IsWordRange a → IsWordRange b → decimal a.0 ≡ decimal b.0
    → decimal a.1 ≡ decimal b.1 → a ≡ b
places-told a b first later starts ends =
    ap₂ (λ (m n : ℕ). (m, n)) (decimal_injective a.0 b.0 first.0 later.0 starts)
    (decimal_injective a.1 b.1 first.1 later.1 ends)

range-told : (bytes others : List ℕ) (text other : Option (List ℕ)) (a b : ℕ × ℕ) → IsWordRange a → IsWordRange b
    → submatch_json bytes text a ≡ submatch_json others other b → AreSameTexts text other × (a ≡ b)
unfolding submatch_json
range-told bytes others None None a b first later same =
    let starts : decimal a.0 ≡ decimal b.0 = cc in
    let ends : decimal a.1 ≡ decimal b.1 = cc in
    (tt, places-told a b first later starts ends)
range-told bytes others (Some text) None a b first later same =
    let members : member (codes "replacement") (bytes_json text) (positions_json a) ≡ positions_json b = cc in
    absurd (place-other text _ _ (number_json b.0) members)
range-told bytes others None (Some other) a b first later same =
    let members : member (codes "replacement") (bytes_json other) (positions_json b) ≡ positions_json a = cc in
    absurd (place-other other _ _ (number_json a.0) members)
range-told bytes others (Some text) (Some other) a b first later same =
    let texts : bytes_json text ≡ bytes_json other = cc in
    let starts : decimal a.0 ≡ decimal b.0 = cc in
    let ends : decimal a.1 ≡ decimal b.1 = cc in
    (λ is also. bytes-told text other is also texts, places-told a b first later starts ends)

ranges-told : (bytes others : List ℕ) (text_at other_at : ℕ → Option (List ℕ)) (a b : List (ℕ × ℕ))
    → All IsWordRange a → All IsWordRange b → submatch_items bytes text_at a ≡ submatch_items others other_at b
    → All (λ range. AreSameTexts (text_at range.0) (other_at range.0)) a × (a ≡ b)
ranges-told bytes others text_at other_at [] [] first later same = (All-nil _, refl)
ranges-told bytes others text_at other_at [] (y ∷ b) first later same = absurd cc
ranges-told bytes others text_at other_at (x ∷ a) [] first later same = absurd cc
ranges-told bytes others text_at other_at (x ∷ a) (y ∷ b) first later same =
    let one : submatch_json bytes (text_at x.0) x ≡ submatch_json others (other_at y.0) y = cc in
    let more : submatch_items bytes text_at a ≡ submatch_items others other_at b = cc in
    let here = range-told bytes others (text_at x.0) (other_at y.0) x y (All-head IsWordRange x a first)
    (All-head IsWordRange y b later) one in
    let rest = ranges-told bytes others text_at other_at a b (All-tail IsWordRange x a first)
    (All-tail IsWordRange y b later) more in (
      All-cons (λ range. AreSameTexts (text_at range.0) (other_at range.0)) x a
          (subst (λ range. AreSameTexts (text_at x.0) (other_at range.0)) (sym here.1) here.0) rest.0,
      ap₂ (λ (z : ℕ × ℕ) (c : List (ℕ × ℕ)). z ∷ c) here.1 rest.1,
    )

-- all of a report
pub messages-tell : MessagesTell
unfolding report_json
messages-tell a b first later same =
    let path : path_json a.path ≡ path_json b.path = cc in
    let bytes : bytes_json a.bytes ≡ bytes_json b.bytes = cc in
    let number : optional_json a.number ≡ optional_json b.number = cc in
    let offset : decimal a.offset ≡ decimal b.offset = cc in
    let items : submatch_items a.bytes a.text_at a.ranges ≡ submatch_items b.bytes b.text_at b.ranges = cc in
    let ranges = ranges-told a.bytes b.bytes a.text_at b.text_at a.ranges b.ranges first.ranges
    later.ranges items in
    record {
      type = cc;
      path = path-told a.path b.path path;
      bytes = bytes-told a.bytes b.bytes first.bytes later.bytes bytes;
      number = number-told a.number b.number first.number later.number number;
      offset = decimal_injective a.offset b.offset first.offset later.offset offset;
      texts = ranges.0;
      ranges = ranges.1;
    }

-- the message that begins a search has no bytes
pub begin-other : (path : Option (Bor (List ℕ))) (report : Reported) → begin_json path ≢ message_of_report report
unfolding begin_json report_json
begin-other path report same = absurd cc

-- all of it
pub begins-tell : BeginsTell
unfolding begin_json
begins-tell = record {
  path = λ a b same. let path : path_json a ≡ path_json b = cc in path-told a b path;
  other = begin-other;
}
