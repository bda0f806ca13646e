-- Numbers of texts by their first bytes, and texts that names of paths begin with.
use Rattle.std.proofs.Common.{◌≡◌, ℕ, ◌+◌, ◌-◌, ◌<◌, ◌≤◌, ◌==◌, ◌||◌, ◌∙◌}
use Rattle.std.proofs.Common.{Bool, true, false, List, [], ◌∷◌, ◌++◌, ap, refl}
use Rattle.std.proofs.Common.{subst, sym, inl, inr, arith, length, take, drop, get_or, length-append, append_assoc}
use Rattle.std.specs.Prelude.{◌≢◌, ◌⊎◌}
use Rattle.std.proofs.Common.{length-drop}
use Rattle.std.proofs.Math.Seq.{drop-append_seam, get_or-append_seam}
use Rattle.std.proofs.lemmas.Bool.{cases_eq, eq-eqb}
use Rattle.std.proofs.lemmas.List.{get_or-drop, get_or_append_left, take_more}
use Rattle.grep_ignore.specs.Endings.{AreNumbered, EndsIn, HasStart, IsNumberFor}
use Rattle.grep_ignore.specs.Endings.{IsNumberIn, begins_at, mixed, number_after, number_of}

-- the number of a text with a byte after it
pub number-more : (number : ℕ) (text : List ℕ) (byte : ℕ)
    → number_after number (text ++ byte ∷ []) ≡ mixed byte (number_after number text)
number-more number [] byte = refl
number-more number (first ∷ rest) byte = number-more (mixed first number) rest byte

-- of some first bytes of a text, and one more
pub number-next : (number : ℕ) (text : List ℕ) (count : ℕ) → count < length text
    → number_after number (take (count + 1) text) ≡ mixed (get_or text count 0) (number_after number (take count text))
number-next number text count below =
    ap (number_after number) (take_more text count 0 below)
    ∙ number-more number (take count text) (get_or text count 0)

-- what is between two others
between : (before text after : List ℕ)
    → take (length text) (drop (length before) (before ++ text ++ after)) ≡ text
between before text after =
    ap (λ l. take (length text) (drop (length before) l)) (append_assoc before text after)
    ∙ ap (take (length text)) (drop-append_seam before (text ++ after)) ∙ taken text after
  where
    taken : (xs ys : List ℕ) → take (length xs) (xs ++ ys) ≡ xs
    taken [] [] = refl
    taken [] (y ∷ ys) = refl
    taken (x ∷ xs) ys = ap (λ l. x ∷ l) (taken xs ys)

-- a name begins where a text does
start-begins : (path before text after : List ℕ) → path ≡ before ++ text ++ after
    → (before ≡ []) ⊎ ((front : List ℕ) × (before ≡ front ++ 47 ∷ []))
    → begins_at path (length before) ≡ true
start-begins path before text after is (inl none) = rw none refl
start-begins path before text after is (inr (front, ends)) =
    let long : length before ≡ length front + 1 = ap length ends ∙ length-append front (47 ∷ []) in
    ends-so (length before) (length front) long
    (ap (λ l. get_or l (length before - 1) 0) (is ∙ append_assoc before text after ∙ ap (λ l. l ++ (text ++ after)) ends)
    ∙ ap (λ n. get_or ((front ++ 47 ∷ []) ++ (text ++ after)) n 0) (less (length before) (length front) long)
    ∙ seam front (text ++ after))
  where
    seam : (xs ys : List ℕ) → get_or ((xs ++ 47 ∷ []) ++ ys) (length xs) 0 ≡ 47
    seam [] ys = refl
    seam (x ∷ xs) ys = seam xs ys

    less : (n m : ℕ) → n ≡ m + 1 → n - 1 ≡ m
    less n m e = omega arith

    or-right : (a b : Bool) → b ≡ true → (a || b) ≡ true
    or-right true b e = refl
    or-right false b e = e

    ends-so : (n m : ℕ) → n ≡ m + 1 → get_or path (n - 1) 0 ≡ 47 → begins_at path n ≡ true
    ends-so n m e there = or-right (n == 0) (get_or path (n - 1) 0 == 47) (eq-eqb _ 47 there)

-- the number for an ending or a start is one of what has these
pub number-in : (path ending start : List ℕ) (number longest : ℕ) (is_start has_starts : Bool)
    → length ending ≤ longest → length start ≤ longest
    → EndsIn path ending → HasStart path start → IsNumberFor ending start number is_start
    → IsNumberIn (has_starts || is_start) longest path number
number-in path ending start number longest is_start has_starts most most' ends begins (inl (none, is)) =
    inl (ends.0, ends.1, omega (arith, most, ap length ends.2, length-drop ends.0 path), is ∙ ap number_of (sym ends.2))
number-in path ending start number longest is_start has_starts most most' ends (before, after, cut, at) (inr (some, full, is)) =
    inr (
      or-true has_starts is_start some,
      (
        length before,
        length before + length start,
        omega (arith, longer start full),
        omega (arith, ap length cut, length-append (before ++ start) after, length-append before start),
        omega (arith, most'),
        start-begins path before start after cut at,
        is ∙ ap (number_after 1) (sym (ap (λ n. take n (drop (length before) path)) (gone (length before) (length start))
            ∙ ap (λ l. take (length start) (drop (length before) l)) cut ∙ between before start after)),
      ),
    )
  where
    or-true : (a b : Bool) → b ≡ true → (a || b) ≡ true
    or-true true b e = refl
    or-true false b e = e

    gone : (n m : ℕ) → (n + m) - n ≡ m
    gone n m = omega arith

    longer : (xs : List ℕ) → xs ≢ [] → 0 < length xs
    longer [] full = absurd (full refl)
    longer (x ∷ xs) full = omega arith

-- and stays one of those that are looked for
pub number-still : (path : List ℕ) (number longest longest' : ℕ) (has_starts is_start : Bool) → longest ≤ longest'
    → IsNumberIn has_starts longest path number → IsNumberIn (has_starts || is_start) longest' path number
number-still path number longest longest' has_starts is_start more (inl (start, within, fits, is)) =
    inl (start, within, omega (arith, more, fits), is)
number-still path number longest longest' has_starts is_start more
    (inr (some, (start, stop, less, within, fits, begins, is))) =
    inr (rw some refl, (start, stop, less, within, omega (arith, more, fits), begins, is))

-- one value more
pub numbered-more : {T : Type 0} (about : T → List ℕ → Bool → Type 0) (items : List T) (numbers : List ℕ)
    (has_starts : Bool) (longest longest' : ℕ) (item : T) (number : ℕ) (is_start : Bool) → longest ≤ longest'
    → AreNumbered about items numbers has_starts longest
    → ((path : List ℕ) (is_folder : Bool) → about item path is_folder
    → IsNumberIn (has_starts || is_start) longest' path number)
    → AreNumbered about (items ++ item ∷ []) (numbers ++ number ∷ []) (has_starts || is_start) longest'
numbered-more about items numbers has_starts longest longest' item number is_start more are said = record {
  same = omega (arith, are.same, length-append items (item ∷ []), length-append numbers (number ∷ []));
  ends = λ k d path is_folder below is. elim (cases_eq k (length items)) [
    | inl here ↦
        let there : get_or (items ++ item ∷ []) k d ≡ item =
        ap (λ n. get_or (items ++ item ∷ []) n d) here ∙ get_or-append_seam items item [] d in
        let same : get_or (numbers ++ number ∷ []) k 0 ≡ number =
        ap (λ n. get_or (numbers ++ number ∷ []) n 0) (here ∙ sym are.same) ∙ get_or-append_seam numbers number [] 0 in
        rw same (said path is_folder (subst (λ i. about i path is_folder) there is))
    | inr apart ↦
        let before : k < length items = omega (arith, apart, below, length-append items (item ∷ [])) in
        let there : get_or (items ++ item ∷ []) k d ≡ get_or items k d = get_or_append_left items (item ∷ []) d k before in
        let same : get_or (numbers ++ number ∷ []) k 0 ≡ get_or numbers k 0 =
        get_or_append_left numbers (number ∷ []) 0 k (omega (arith, before, are.same)) in
        rw same (number-still path (get_or numbers k 0) longest longest' has_starts is_start more
        (are.ends k d path is_folder before (subst (λ i. about i path is_folder) there is)))
  ];
}

-- the number of a part of a path that is one byte longer
pub number-step : (path : List ℕ) (start stop : ℕ) → start ≤ stop → stop < length path
    → number_after 1 (take ((stop + 1) - start) (drop start path))
    ≡ mixed (get_or path stop 0) (number_after 1 (take (stop - start) (drop start path)))
number-step path start stop after below =
    ap (λ n. number_after 1 (take n (drop start path))) (later start stop after)
    ∙ number-next 1 (drop start path) (stop - start) (omega (arith, length-drop start path))
    ∙ ap (λ byte. mixed byte (number_after 1 (take (stop - start) (drop start path))))
    (get_or-drop start path (stop - start) 0 ∙ ap (λ n. get_or path n 0) (back start stop after))
  where
    later : (a b : ℕ) → a ≤ b → (b + 1) - a ≡ (b - a) + 1
    later a b fits = omega arith

    back : (a b : ℕ) → a ≤ b → a + (b - a) ≡ b
    back a b fits = omega arith
