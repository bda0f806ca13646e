-- Where the bytes of two lists of vectors, such as those of lines, first differ.
use Rattle.std.proofs.Common.{◌≡◌, ℕ, ◌+◌, ◌<◌, List, [], length, take, min, Some, ap, sym, refl}
use Rattle.std.proofs.Common.{arith, ◌∙◌, ⊎_elim}
use Rattle.std.proofs.lemmas.Bool.{cases_lt}
use Rattle.std.proofs.lemmas.List.{length-map, take_more_same}
use Rattle.std.proofs.lemmas.Option.{get_or_from_slice_get, slice_get-get_or, slice_get-map}
use Rattle.std.proofs.lemmas.Option.{slice_get_past, slice_get_read}
use Rattle.std.specs.Prelude.{◌≢◌, get_or, slice_get, Vec}
use Rattle.std.specs.Option.{option_map}
use Rattle.grep_searcher.specs.MatchHandlers.{bytes_of_each}

length-bytes : {A : Type 0} (vectors : List (Vec ℕ A))
    → length (bytes_of_each vectors) ≡ length vectors
length-bytes {A} vectors = length-map vectors (λ (v : Vec ℕ A). v.items)

bytes-at : {A : Type 0} (vectors : List (Vec ℕ A)) (i : ℕ) (vector : Vec ℕ A)
    → i < length vectors → vector ≡ get_or vectors i vector
    → slice_get (bytes_of_each vectors) i ≡ Some vector.items
bytes-at {A} vectors i vector inside is =
    slice_get-map (λ (v : Vec ℕ A). v.items) vectors i
    ∙ ap (option_map (λ (v : Vec ℕ A). v.items))
    (slice_get_read vectors (length vectors) i vector refl inside is)

module _ {A B : Type 0} (left : List (Vec ℕ A)) (right : List (Vec ℕ B)) where
  module _ (i : ℕ) (x : Vec ℕ A) (y : Vec ℕ B) (one other : List ℕ) (x_is : x ≡ get_or left i x)
      (y_is : y ≡ get_or right i y) (one_is : one ≡ x.items) (other_is : other ≡ y.items)
      (in_left : i < length left) (in_right : i < length right) where
    in_one : slice_get (bytes_of_each left) i ≡ Some one
    in_one = bytes-at left i x in_left x_is ∙ ap Some (sym one_is)

    in_other : slice_get (bytes_of_each right) i ≡ Some other
    in_other = bytes-at right i y in_right y_is ∙ ap Some (sym other_is)

    -- if the first ones are the same, and the next one too, so are one more
    pub bytes-same : one ≡ other → take i (bytes_of_each left) ≡ take i (bytes_of_each right)
        → take (i + 1) (bytes_of_each left) ≡ take (i + 1) (bytes_of_each right)
    bytes-same same first =
        take_more_same (bytes_of_each left) (bytes_of_each right) i []
        (omega (arith, length-bytes left)) (omega (arith, length-bytes right)) first
        (get_or_from_slice_get _ i _ [] in_one ∙ (same
        ∙ sym (get_or_from_slice_get _ i _ [] in_other)))

    pub bytes-differ : one ≢ other
        → slice_get (bytes_of_each left) i ≢ slice_get (bytes_of_each right) i
    bytes-differ differ same = let here = in_one in let there = in_other in differ cc

  -- where one of the lists ends and the other doesn't
  pub ends-differ : (end : ℕ) → end ≡ min (length left) (length right)
      → length left ≢ length right
      → slice_get (bytes_of_each left) end ≢ slice_get (bytes_of_each right) end
  ends-differ end is differ same =
      let one = length-bytes left in let other = length-bytes right in
      ⊎_elim
      (λ less.
      let past = slice_get_past (bytes_of_each left) end (omega arith) in
      let item = slice_get-get_or (bytes_of_each right) end [] (omega arith) in
      absurd (cc))
      (λ more.
      let past = slice_get_past (bytes_of_each right) end (omega arith) in
      let item = slice_get-get_or (bytes_of_each left) end [] (omega arith) in
      absurd (cc))
      (cases_lt (length left) (length right))
