-- Where the lines of some bytes occur in them, and a line without its terminator in the line.
use Rattle.std.proofs.Common.{◌≡◌, ℕ, zero, suc, ◌+◌, ◌-◌, ◌<◌, List, [], ◌∷◌, length, take}
use Rattle.std.proofs.Common.{slice_index, slice_index_or, add-one, refl, ap, sym, subst, inl, inr}
use Rattle.std.proofs.Common.{arith, ⊎_elim, ◌++◌, ◌⊎◌, length-append}
use Rattle.std.proofs.lemmas.Bool.{cases_eq, cases_Bool, eq-eqb, ne_eqb}
use Rattle.std.proofs.lemmas.Bool.Decides.{Decides-eqb}
use Rattle.std.proofs.lemmas.List.{get_or_append_left}
use Rattle.std.proofs.lemmas.Slice.Eq.{ends_is}
use Rattle.std.specs.List.{concat, ends_with}
use Rattle.std.specs.Prelude.{nat_eq}
use Rattle.memchr.specs.Find.{OccursAt}
use Rattle.grep_matcher.specs.declared.line_terminator.LineTerminator.{LineTerminator}
use Rattle.grep_matcher.specs.Lines.{lines, line_start, onto_first, strip, bytes_of}

-- a line of the bytes from one position up to another: it has bytes, and each line but the last
-- ends in t
pub record IsLine (t : ℕ) (bytes line : List ℕ) (start end : ℕ) : Type 0 where
  pub occurs : OccursAt bytes line start
  pub ends : start + length line ≡ end
  pub filled : 0 < length line
  pub closed : end < length bytes → slice_index bytes (end - 1) ≡ t

-- a line after a byte in front of the bytes
IsLine-later : (t b : ℕ) (bytes line : List ℕ) (start end : ℕ) → IsLine t bytes line start end
    → IsLine t (b ∷ bytes) line (suc start) (suc end)
IsLine-later t b bytes line start end is = record {
  occurs = record {
    fits = omega (arith, is.occurs.fits);
    reads = λ j below. let next : suc start + j ≡ suc (start + j) =
        omega arith in rw next (is.occurs.reads j below);
  };
  ends = omega (arith, is.ends);
  filled = is.filled;
  closed = λ more. let next : suc end - 1 ≡ suc (end - 1) = omega (arith, is.ends, is.filled) in rw
      next (is.closed (omega arith));
}

-- a first line, with a byte in front of it
IsLine-longer : (t b : ℕ) (bytes line : List ℕ) (end : ℕ) → IsLine t bytes line 0 end
    → IsLine t (b ∷ bytes) (b ∷ line) 0 (suc end)
IsLine-longer t b bytes line end is = record {
  occurs = record { fits = omega (arith, is.occurs.fits); reads = reads };
  ends = omega (arith, is.ends);
  filled = omega arith;
  closed = λ more. let next : suc end - 1 ≡ suc (end - 1) = omega (arith, is.ends, is.filled) in rw
      next (is.closed (omega arith));
}
  where
    reads : (j : ℕ) → j < length (b ∷ line) → slice_index (b ∷ bytes) (0 + j)
        ≡ slice_index (b ∷ line) j
    reads zero below = refl
    reads (suc j) below = let next : 0 + suc j ≡ suc (0 + j) =
        omega arith in rw next (is.occurs.reads j (omega arith))

-- a first line of one byte
IsLine-byte : (t b : ℕ) (bytes : List ℕ) → (0 < length bytes → b ≡ t)
    → IsLine t (b ∷ bytes) (b ∷ []) 0 1
IsLine-byte t b bytes closed = record {
  occurs = record { fits = omega arith; reads = reads };
  ends = omega arith;
  filled = omega arith;
  closed = λ more. closed (omega arith);
}
  where
    reads : (j : ℕ) → j < 1 → slice_index (b ∷ bytes) (0 + j) ≡ slice_index (b ∷ []) j
    reads zero below = refl
    reads (suc j) below = absurd (omega arith)

-- the line at i of a list is a line of the bytes
abbrev IsLineAt : ℕ → List ℕ → List (List ℕ) → ℕ → Type 0
IsLineAt t bytes ls i = IsLine t bytes (slice_index_or ls i []) (length (concat (take i ls)))
    (length (concat (take (suc i) ls)))

-- each line of a list is one of the bytes, and together they have as many bytes
record AreEach (t : ℕ) (bytes : List ℕ) (ls : List (List ℕ)) : Type 0 where
  whole : length (concat ls) ≡ length bytes
  each : (i : ℕ) → i < length ls → IsLineAt t bytes ls i

-- a byte t in front is a line of its own
AreEach-end : (t b : ℕ) (bytes : List ℕ) (ls : List (List ℕ)) → b ≡ t → AreEach t bytes ls
    → AreEach t (b ∷ bytes) ((b ∷ []) ∷ ls)
AreEach-end t b bytes ls same later = record { whole = ap suc later.whole; each = each }
  where
    each : (i : ℕ) → i < suc (length ls) → IsLineAt t (b ∷ bytes) ((b ∷ []) ∷ ls) i
    each zero below = IsLine-byte t b bytes (λ some. same)
    each (suc i) below = IsLine-later t b bytes (slice_index_or ls i []) _ _
        (later.each i (omega arith))

-- another byte belongs to the first line
AreEach-inner : (t b : ℕ) (bytes : List ℕ) (ls : List (List ℕ)) → AreEach t bytes ls
    → AreEach t (b ∷ bytes) (onto_first b ls)
AreEach-inner t b bytes [] later = record { whole = ap suc later.whole; each = each }
  where
    each : (i : ℕ) → i < 1 → IsLineAt t (b ∷ bytes) ((b ∷ []) ∷ []) i
    each zero below = IsLine-byte t b bytes (λ some. absurd (omega (arith, later.whole)))
    each (suc i) below = absurd (omega arith)
AreEach-inner t b bytes (line ∷ ls) later = record { whole = ap suc later.whole; each = each }
  where
    each : (i : ℕ) → i < suc (length ls) → IsLineAt t (b ∷ bytes) ((b ∷ line) ∷ ls) i
    each zero below = IsLine-longer t b bytes line _ (later.each 0 below)
    each (suc i) below = IsLine-later t b bytes (slice_index_or ls i []) _ _
        (later.each (suc i) below)

AreEach-lines : (t : ℕ) (bytes : List ℕ) → AreEach t bytes (lines t bytes)
AreEach-lines t [] = record { whole = refl; each = λ i below. absurd (omega arith) }
AreEach-lines t (b ∷ bytes) =
    let later = AreEach-lines t bytes in
    ⊎_elim
    (λ same. let yes = eq-eqb b t same in rw yes (AreEach-end t b bytes (lines t bytes) same later))
    (λ other. let no = ne_eqb b t other in rw no (AreEach-inner t b bytes (lines t bytes) later))
    (cases_eq b t)

-- line i extends from its start up to the start of the next one
pub line-is : (t : ℕ) (bytes : List ℕ) (i : ℕ) → i < length (lines t bytes)
    → IsLine t bytes (slice_index_or (lines t bytes) i []) (line_start t bytes i)
    (line_start t bytes (i + 1))
line-is t bytes i below = rw add-one ((AreEach-lines t bytes).each i below)

-- a line is itself without its terminator and then the terminator, unless it doesn't end with it
pub strip-joined : (terminator : LineTerminator) (line : List ℕ)
    → (line ≡ strip terminator line ++ bytes_of terminator) ⊎ (strip terminator line ≡ line)
strip-joined terminator line = ⊎_elim
    (λ yes. inl (rw yes ((ends_is Decides-eqb line (bytes_of terminator) _ refl).0 yes)))
    (λ no. inr (rw no refl)) (cases_Bool (ends_with nat_eq line (bytes_of terminator)))

-- a line without its terminator is the first bytes of the line
pub strip-occurs : (terminator : LineTerminator) (line : List ℕ)
    → OccursAt line (strip terminator line) 0
strip-occurs terminator line = ⊎_elim
    (λ joined. subst (λ l. OccursAt l (strip terminator line) 0) (sym joined)
    (front (strip terminator line)))
    (λ same. subst (λ l. OccursAt line l 0) (sym same) (whole line)) (strip-joined terminator line)
  where
    front : (kept : List ℕ) → OccursAt (kept ++ bytes_of terminator) kept 0
    front kept = record {
      fits = omega (arith, length-append kept (bytes_of terminator));
      reads = λ j below. let sum : 0 + j ≡ j = omega arith in rw sum
          (get_or_append_left kept (bytes_of terminator) 0 j below);
    }

    whole : (l : List ℕ) → OccursAt l l 0
    whole l = record {
      fits = omega arith;
      reads = λ j below. let sum : 0 + j ≡ j = omega arith in rw sum refl;
    }
