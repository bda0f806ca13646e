-- The lines of some bytes, from one byte to the next and over two parts; they have the four
-- properties of lines.
use Rattle.std.proofs.Common.{◌≡◌, ◌≢◌, ℕ, zero, suc, ◌+◌, ◌-◌, ◌<◌, ◌≤◌, ◌==◌, List, [], ◌∷◌, ◌++◌}
use Rattle.std.proofs.Common.{length, slice_index, subst, count_by, refl, ap, sym, ◌∙◌, arith, cond}
use Rattle.std.proofs.Common.{⊎_elim}
use Rattle.std.proofs.lemmas.Bool.{cases_eq, eq-eqb, ne_eqb}
use Rattle.std.proofs.lemmas.List.Elements.{All-nil, All-cons, All-head, All-tail}
use Rattle.std.proofs.lemmas.List.Sums.{sum_by-cons}
use Rattle.std.specs.List.{concat}
use Rattle.grep_matcher.specs.AreLines.{IsUnbroken, AreEnded, AreLines}
use Rattle.grep_matcher.specs.Lines.{lines, onto_first}
use native.Mathlib.Numerals.{unary_clauses}

-- a byte onto the first of some lines leaves as many
length-onto : (b : ℕ) (ls : List (List ℕ)) → 0 < length ls → length (onto_first b ls) ≡ length ls
length-onto b [] some = absurd (omega arith)
length-onto b (line ∷ more) some = refl

module _ (t : ℕ) where
  -- a byte t in front is a line of its own
  pub lines-end : (b : ℕ) (bytes : List ℕ) → b ≡ t → lines t (b ∷ bytes) ≡ (b ∷ []) ∷ lines t bytes
  lines-end b bytes same = let yes = eq-eqb b t same in rw yes refl

  -- another byte in front belongs to the first line
  pub lines-inner : (b : ℕ) (bytes : List ℕ) → b ≢ t → lines t (b ∷ bytes)
      ≡ onto_first b (lines t bytes)
  lines-inner b bytes other = let no = ne_eqb b t other in rw no refl

  -- how many t there are
  abbrev pub count : List ℕ → ℕ
  count bytes = count_by (λ b. b == t) bytes

  -- a byte t counts
  pub count-end : (b : ℕ) (bytes : List ℕ) → b ≡ t → count (b ∷ bytes) ≡ 1 + count bytes
  count-end b bytes same = let yes =
      eq-eqb b t same in rw (sum_by-cons (λ x. cond (x == t) 1 0) b bytes, yes) refl

  -- another byte doesn't
  pub count-inner : (b : ℕ) (bytes : List ℕ) → b ≢ t → count (b ∷ bytes) ≡ count bytes
  count-inner b bytes other = let no =
      ne_eqb b t other in rw (sum_by-cons (λ x. cond (x == t) 1 0) b bytes, no) (omega arith)

  -- some bytes have a line
  lines-some : (b : ℕ) (bytes : List ℕ) → 0 < length (lines t (b ∷ bytes))
  lines-some b bytes = ⊎_elim (λ same. rw (lines-end b bytes same) (omega arith)) (λ other.
      rw (lines-inner b bytes other) (onto (lines t bytes))) (cases_eq b t)
    where
      onto : (rest : List (List ℕ)) → 0 < length (onto_first b rest)
      onto [] = omega arith
      onto (line ∷ more) = omega arith

  -- bytes that are empty or end in t
  abbrev pub IsClosed : List ℕ → Type 0
  IsClosed bytes = 0 < length bytes → slice_index bytes (length bytes - 1) ≡ t

  -- then so do the bytes after the first one
  IsClosed-tail : (b c : ℕ) (bytes : List ℕ) → IsClosed (b ∷ c ∷ bytes) → IsClosed (c ∷ bytes)
  IsClosed-tail b c bytes closed = λ some. simp unary_clauses
      (simp unary_clauses at (closed (omega arith)))

  -- after such bytes the lines begin anew
  pub lines-append : (front back : List ℕ) → IsClosed front → lines t (front ++ back)
      ≡ lines t front ++ lines t back
  lines-append [] back closed = refl
  lines-append (b ∷ []) back closed = let same : b ≡ t = closed (omega arith) in
      lines-end b back same ∙ ap (λ ls. ls ++ lines t back) (sym (lines-end b [] same))
  lines-append (b ∷ c ∷ front) back closed =
      let later = lines-append (c ∷ front) back (IsClosed-tail b c front closed) in
      ⊎_elim (λ same. lines-end b (c ∷ (front ++ back)) same
      ∙ (ap (λ ls. (b ∷ []) ∷ ls) later ∙ ap (λ ls. ls ++ lines t back)
      (sym (lines-end b (c ∷ front) same)))) (λ other. lines-inner b (c ∷ (front ++ back)) other
      ∙ (ap (onto_first b) later ∙ (onto (lines t (c ∷ front)) (lines-some c front)
      ∙ ap (λ ls. ls ++ lines t back) (sym (lines-inner b (c ∷ front) other))))) (cases_eq b t)
    where
      onto : (first : List (List ℕ)) → 0 < length first → onto_first b (first ++ lines t back)
          ≡ onto_first b first ++ lines t back
      onto [] some = absurd (omega arith)
      onto (line ∷ more) some = refl

  -- such bytes have as many lines as they have t
  pub lines-closed : (bytes : List ℕ) → IsClosed bytes → length (lines t bytes) ≡ count bytes
  lines-closed [] closed = refl
  lines-closed (b ∷ []) closed = let same : b ≡ t = closed (omega arith) in ap length
      (lines-end b [] same) ∙ sym (count-end b [] same)
  lines-closed (b ∷ c ∷ bytes) closed =
      let later = lines-closed (c ∷ bytes) (IsClosed-tail b c bytes closed) in
      ⊎_elim
      (λ same. omega (
        arith,
        ap length (lines-end b (c ∷ bytes) same),
        count-end b (c ∷ bytes) same,
      ))
      (λ other. ap length (lines-inner b (c ∷ bytes) other) ∙ (length-onto b _ (lines-some c bytes)
      ∙ (later ∙ sym (count-inner b (c ∷ bytes) other)))) (cases_eq b t)

  -- any other bytes have one line more
  pub lines-unclosed : (bytes : List ℕ) → 0 < length bytes → slice_index bytes (length bytes - 1)
      ≢ t → length (lines t bytes) ≡ count bytes + 1
  lines-unclosed [] some last = absurd (omega arith)
  lines-unclosed (b ∷ []) some last = omega (
    arith,
    ap length (lines-inner b [] last),
    count-inner b [] last,
  )
  lines-unclosed (b ∷ c ∷ bytes) some last =
      let later = lines-unclosed (c ∷ bytes) (omega arith)
      (λ is. last (simp unary_clauses (simp unary_clauses at is))) in
      ⊎_elim
      (λ same. omega (
        arith,
        ap length (lines-end b (c ∷ bytes) same),
        count-end b (c ∷ bytes) same,
      ))
      (λ other. ap length (lines-inner b (c ∷ bytes) other) ∙ (length-onto b _ (lines-some c bytes)
      ∙ (later ∙ ap (λ n. n + 1) (sym (count-inner b (c ∷ bytes) other))))) (cases_eq b t)

  -- any bytes have at most one line more than they have t
  pub lines-few : (bytes : List ℕ) → length (lines t bytes) ≤ count bytes + 1
  lines-few [] = omega arith
  lines-few (b ∷ bytes) =
      let later = lines-few bytes in
      ⊎_elim (λ same. omega (arith, ap length (lines-end b bytes same), count-end b bytes same))
      (λ other. omega (
        arith,
        ap length (lines-inner b bytes other),
        onto (lines t bytes) later,
        count-inner b bytes other,
      )) (cases_eq b t)
    where
      onto : (rest : List (List ℕ)) → length rest ≤ count bytes + 1 → length (onto_first b rest)
          ≤ count bytes + 1
      onto [] few = omega arith
      onto (line ∷ more) few = few

  -- the lines hold every byte
  pub lines-joined : (bytes : List ℕ) → concat (lines t bytes) ≡ bytes
  lines-joined [] = refl
  lines-joined (b ∷ bytes) =
      let later = lines-joined bytes in
      ⊎_elim (λ same. ap concat (lines-end b bytes same) ∙ ap (λ l. b ∷ l) later)
      (λ other. ap concat (lines-inner b bytes other)
      ∙ (onto (lines t bytes) ∙ ap (λ l. b ∷ l) later)) (cases_eq b t)
    where
      onto : (rest : List (List ℕ)) → concat (onto_first b rest) ≡ b ∷ concat rest
      onto [] = refl
      onto (line ∷ more) = refl

-- a byte t in front, as a line of its own
AreLines-end : (t b : ℕ) (bytes : List ℕ) (ls : List (List ℕ)) → b ≡ t → AreLines t bytes ls
    → AreLines t (b ∷ bytes) ((b ∷ []) ∷ ls)
AreLines-end t b bytes ls same later = record {
  joined = ap (λ l. b ∷ l) later.joined;
  filled = All-cons (λ piece. 0 < length piece) (b ∷ []) ls (omega arith) later.filled;
  unbroken = All-cons (IsUnbroken t) (b ∷ []) ls (λ k below. absurd (omega arith)) later.unbroken;
  ended = end ls later.ended;
}
  where
    end : (rest : List (List ℕ)) → AreEnded t rest → AreEnded t ((b ∷ []) ∷ rest)
    end [] is = tt
    end (next ∷ rest) is = (same, is)

-- another byte in front of the first line
AreLines-inner : (t b : ℕ) (bytes : List ℕ) (ls : List (List ℕ)) → b ≢ t → AreLines t bytes ls
    → AreLines t (b ∷ bytes) (onto_first b ls)
AreLines-inner t b bytes [] other later = record {
  joined = ap (λ l. b ∷ l) later.joined;
  filled = All-cons (λ piece. 0 < length piece) (b ∷ []) [] (omega arith) later.filled;
  unbroken = All-cons (IsUnbroken t) (b ∷ []) [] (λ k below. absurd (omega arith)) later.unbroken;
  ended = tt;
}
AreLines-inner t b bytes (line ∷ ls) other later = record {
  joined = ap (λ l. b ∷ l) later.joined;
  filled = All-cons (λ piece. 0 < length piece) (b ∷ line) ls (omega arith)
      (All-tail (λ piece. 0 < length piece) line ls later.filled);
  unbroken = All-cons (IsUnbroken t) (b ∷ line) ls
      (longer line (All-head (IsUnbroken t) line ls later.unbroken))
      (All-tail (IsUnbroken t) line ls later.unbroken);
  ended = end line ls (All-head (λ piece. 0 < length piece) line ls later.filled) later.ended;
}
  where
    longer : (l : List ℕ) → IsUnbroken t l → IsUnbroken t (b ∷ l)
    longer l is zero below = other
    longer l is (suc k) below = is k (omega arith)

    end : (l : List ℕ) (rest : List (List ℕ)) → 0 < length l → AreEnded t (l ∷ rest)
        → AreEnded t ((b ∷ l) ∷ rest)
    end l [] some is = tt
    end [] (next ∷ rest) some is = absurd (omega arith)
    end (c ∷ l) (next ∷ rest) some is = (simp unary_clauses (simp unary_clauses at is.0), is.1)

-- the lines have the four properties
pub AreLines-lines : (t : ℕ) (bytes : List ℕ) → AreLines t bytes (lines t bytes)
AreLines-lines t [] = record {
  joined = refl;
  filled = All-nil (λ piece. 0 < length piece);
  unbroken = All-nil (IsUnbroken t);
  ended = tt;
}
AreLines-lines t (b ∷ bytes) =
    let later = AreLines-lines t bytes in
    ⊎_elim (λ same. subst (AreLines t (b ∷ bytes)) (sym (lines-end t b bytes same))
    (AreLines-end t b bytes (lines t bytes) same later))
    (λ other. subst (AreLines t (b ∷ bytes)) (sym (lines-inner t b bytes other))
    (AreLines-inner t b bytes (lines t bytes) other later)) (cases_eq b t)
