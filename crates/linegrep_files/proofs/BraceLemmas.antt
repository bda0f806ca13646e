-- What a text with braces stands for, as far as it is read.
use Rattle.std.proofs.Common.{◌≡◌, ℕ, ◌+◌, Bool, true, false, List, [], ◌∷◌, ◌++◌, ◌∙◌, inl, inr}
use Rattle.std.proofs.Common.{◌-◌, ◌<◌, ◌≤◌, ◌≢◌, ap, append-nil, append_assoc, arith, drop, get_or}
use Rattle.std.proofs.Common.{length, length-append, refl, subst, sym, take}
use Rattle.std.proofs.Math.ListN.{set}
use Rattle.std.proofs.Math.Seq.{take-append_seam}
use Rattle.std.proofs.lemmas.List.{get_or-map, length-map, map-append, map-set, map_push, take_more}
use Rattle.std.proofs.lemmas.List.Edits.{map_over_more}
use Rattle.std.specs.Borrow.{Bor}
use Rattle.std.specs.Prelude.{◌&&◌, Err, IfOk, Ok, Result, map, Vec}
use Rattle.std.specs.Global.{Global}
use Rattle.std.proofs.lemmas.Bool.{eqb-true, false≢true}
use Rattle.grep_ignore.specs.Classes.{begins_with, is_empty}
use Rattle.grep_ignore.proofs.ClassLemmas.{begins-is}
use Rattle.linegrep_files.specs.ClassTexts.{IsClassBefore}
use Rattle.linegrep_files.specs.Braces.{AreChoices, AreClosed, AreOpen, BeginsPart, HasPart, IsPart}
use Rattle.linegrep_files.specs.Braces.{IsPartBefore, IsRead}
use Rattle.linegrep_files.specs.Braces.{StandsFor, bytes_of, of_byte, of_class, of_escape}
use Rattle.linegrep_files.specs.Braces.{each_with, first_choice, is_inside, next_choice, no_part, none_open, of_braces}
use Rattle.linegrep_files.specs.Braces.{of_part, one_open}
use Rattle.linegrep_files.specs.declared.braces.Brace.{Brace}
use Rattle.linegrep_files.specs.declared.braces.TheConstants.{MOST_TEXTS}

-- two lists that are equal with a last element each
nothing-last : {A : Type 0} (front : List A) (last : A) → [] ≡ front ++ last ∷ [] → ⊥
nothing-last front last is =
    let none : 0 ≡ length (front ++ last ∷ []) = ap length is in
    absurd (omega (arith, length-append front (last ∷ [])))

abbrev tail-of : {A : Type 0} → List A → List A
tail-of [] = []
tail-of (x ∷ xs) = xs

abbrev head-of : {A : Type 0} → A → List A → A
head-of d [] = d
head-of d (x ∷ xs) = x

last-same : {A : Type 0} (xs ys : List A) (x y : A) → xs ++ x ∷ [] ≡ ys ++ y ∷ [] → (xs ≡ ys) × (x ≡ y)
last-same [] [] x y is = (refl, ap (head-of x) is)
last-same [] (z ∷ ys) x y is = absurd (nothing-last ys y (ap tail-of is))
last-same (z ∷ xs) [] x y is = absurd (nothing-last xs x (sym (ap tail-of is)))
last-same (w ∷ xs) (z ∷ ys) x y is =
    let later : (xs ≡ ys) × (x ≡ y) = last-same xs ys x y (ap tail-of is) in
    (ap (λ h. h ∷ xs) (ap (head-of w) is) ∙ ap (λ t. z ∷ t) later.0, later.1)

-- the innermost open brace: what is before it, and its choices at their ends
record IsInnermost (braces : List Brace) (brace : Brace) (done : List ℕ) : Type 0 where
  outer : List ℕ
  text : List ℕ
  closed : List ℕ
  is_open : AreOpen braces outer
  stands : StandsFor (is_inside braces) text (bytes_of brace.before.items)
  choices : AreClosed closed (bytes_of brace.choices.items)
  is : done ≡ outer ++ (text ++ 123 ∷ closed)

innermost : (all braces : List Brace) (brace : Brace) (done : List ℕ) → AreOpen all done
    → all ≡ braces ++ brace ∷ [] → IsInnermost braces brace done
innermost all braces brace done none_open is = absurd (nothing-last braces brace is)
innermost all braces brace done (one_open {braces = others} {outer = outer} {text = text} {closed = closed} last opened stands choices before is) same =
    let both : (others ≡ braces) × (last ≡ brace) = last-same others braces last brace (sym before ∙ same) in
    record {
      outer = outer;
      text = text;
      closed = closed;
      is_open = subst (λ b. AreOpen b outer) both.0 opened;
      stands = subst (λ b. StandsFor (is_inside b) text (bytes_of brace.before.items)) both.0
          (subst (λ b. StandsFor (is_inside others) text (bytes_of b.before.items)) both.1 stands);
      choices = subst (λ b. AreClosed closed (bytes_of b.choices.items)) both.1 choices;
      is = is;
    }

-- nothing is read
pub read-none : (braces : List Brace) (texts : List (List ℕ)) → braces ≡ [] → texts ≡ [] ∷ []
    → IsRead braces texts []
read-none braces texts none empty = record {
  outer = [];
  text = [];
  is = refl;
  is_open = subst (λ b. AreOpen b []) (sym none) none_open;
  stands = subst (λ t. StandsFor (is_inside braces) [] t) (sym empty) (no_part _);
}

-- a part without braces is read
pub read-part : (braces new : List Brace) (texts others : List (List ℕ)) (part done : List ℕ)
    → IsPart (is_inside braces) part → new ≡ braces → others ≡ map (λ one. one ++ part) texts
    → IsRead braces texts done → IsRead new others (done ++ part)
read-part braces new texts others part done of same are read = record {
  outer = read.outer;
  text = read.text ++ part;
  is = ap (λ l. l ++ part) read.is ∙ append_assoc read.outer read.text part;
  is_open = subst (λ b. AreOpen b read.outer) (sym same) read.is_open;
  stands = subst (λ b. StandsFor (is_inside b) (read.text ++ part) others) (sym same)
      (subst (λ t. StandsFor (is_inside braces) (read.text ++ part) t) (sym are) (of_part part read.stands of));
}

-- a brace is opened
pub read-open : (braces new : List Brace) (texts others : List (List ℕ)) (brace : Brace) (done : List ℕ)
    → new ≡ braces ++ brace ∷ [] → bytes_of brace.before.items ≡ texts → bytes_of brace.choices.items ≡ []
    → others ≡ [] ∷ [] → IsRead braces texts done → IsRead new others (done ++ 123 ∷ [])
read-open braces new texts others brace done is before none empty read = record {
  outer = done ++ 123 ∷ [];
  text = [];
  is = sym (append-nil (done ++ 123 ∷ []));
  is_open = one_open brace read.is_open
      (subst (λ t. StandsFor (is_inside braces) read.text t) (sym before) read.stands)
      (inl (refl, none)) is
      (ap (λ l. l ++ 123 ∷ []) read.is ∙ append_assoc read.outer read.text (123 ∷ []));
  stands = subst (λ t. StandsFor (is_inside new) [] t) (sym empty) (no_part _);
}

-- choices at their ends and one more
choice-end : (closed text : List ℕ) (choices texts : List (List ℕ)) → AreClosed closed choices
    → StandsFor true text texts → AreChoices (closed ++ text) (choices ++ texts)
choice-end closed text choices texts (inl (none, empty)) stands =
    subst (λ l. AreChoices (l ++ text) (choices ++ texts)) (sym none)
    (subst (λ c. AreChoices text (c ++ texts)) (sym empty) (first_choice stands))
choice-end closed text choices texts (inr (inner, is, are)) stands =
    subst (λ l. AreChoices l (choices ++ texts))
    (sym (append_assoc inner (44 ∷ []) text) ∙ ap (λ l. l ++ text) (sym is))
    (next_choice are stands)

pub inside-some : (braces : List Brace) (brace : Brace) → is_inside (braces ++ brace ∷ []) ≡ true
inside-some [] brace = refl
inside-some (first ∷ later) brace = refl

-- what is read after the innermost brace, and of it a text before a mark
split-done : (outer text closed last done mark all : List ℕ) → all ≡ outer ++ (text ++ 123 ∷ closed)
    → done ≡ all ++ last → done ++ mark ≡ outer ++ (text ++ 123 ∷ ((closed ++ last) ++ mark))
split-done outer text closed last done mark all is read =
    ap (λ l. l ++ mark) (read ∙ ap (λ l. l ++ last) is) ∙ simp append_assoc

-- a choice of the innermost brace is at its end
pub read-choice : (front all new : List Brace) (old brace : Brace) (texts others : List (List ℕ))
    (done : List ℕ) → all ≡ front ++ old ∷ [] → new ≡ front ++ brace ∷ []
    → bytes_of brace.before.items ≡ bytes_of old.before.items
    → bytes_of brace.choices.items ≡ bytes_of old.choices.items ++ texts → others ≡ [] ∷ []
    → IsRead all texts done → IsRead new others (done ++ 44 ∷ [])
read-choice front all new old brace texts others done are is before choices empty read =
    let inner = innermost all front old read.outer read.is_open are in
    let stands : StandsFor true read.text texts = subst (λ b. StandsFor b read.text texts)
    (ap is_inside are ∙ inside-some front old) read.stands in
    record {
      outer = done ++ 44 ∷ [];
      text = [];
      is = sym (append-nil (done ++ 44 ∷ []));
      is_open = one_open brace inner.is_open
          (subst (λ t. StandsFor (is_inside front) inner.text t) (sym before) inner.stands)
          (inr (
            inner.closed ++ read.text,
            refl,
            subst (λ c. AreChoices (inner.closed ++ read.text) c) (sym choices)
                (choice-end inner.closed read.text _ texts inner.choices stands),
          ))
          is
          (split-done inner.outer inner.text inner.closed read.text done (44 ∷ []) read.outer inner.is read.is);
      stands = subst (λ t. StandsFor (is_inside new) [] t) (sym empty) (no_part _);
    }

-- the innermost brace is closed
pub read-close : (all new : List Brace) (brace : Brace) (texts others : List (List ℕ)) (done : List ℕ)
    → all ≡ new ++ brace ∷ []
    → others ≡ each_with (bytes_of brace.before.items) (bytes_of brace.choices.items ++ texts)
    → IsRead all texts done → IsRead new others (done ++ 125 ∷ [])
read-close all new brace texts others done are is read =
    let inner = innermost all new brace read.outer read.is_open are in
    let stands : StandsFor true read.text texts = subst (λ b. StandsFor b read.text texts)
    (ap is_inside are ∙ inside-some new brace) read.stands in
    record {
      outer = inner.outer;
      text = inner.text ++ 123 ∷ ((inner.closed ++ read.text) ++ 125 ∷ []);
      is = split-done inner.outer inner.text inner.closed read.text done (125 ∷ []) read.outer inner.is read.is;
      is_open = inner.is_open;
      stands = subst (λ t. StandsFor (is_inside new) (inner.text ++ 123 ∷ ((inner.closed ++ read.text) ++ 125 ∷ [])) t)
          (sym is)
          (of_braces inner.stands (choice-end inner.closed read.text _ texts inner.choices stands));
    }

-- each text before a brace with each of its choices
pub each-more : (texts : List (List ℕ)) (text : List ℕ) (choices : List (List ℕ))
    → each_with (texts ++ text ∷ []) choices ≡ each_with texts choices ++ map (λ choice. text ++ choice) choices
each-more [] text choices = append-nil (map (λ choice. text ++ choice) choices)
each-more (first ∷ later) text choices =
    ap (λ l. map (λ choice. first ++ choice) choices ++ l) (each-more later text choices)
    ∙ sym (append_assoc (map (λ choice. first ++ choice) choices) (each_with later choices)
    (map (λ choice. text ++ choice) choices))

-- one text more that some choices follow
pub joined-next : (before choices : List (Vec ℕ Global)) (at : ℕ) (text : Vec ℕ Global)
    (old new : List (Vec ℕ Global)) → at < length before → text ≡ get_or before at text
    → bytes_of old ≡ each_with (bytes_of (take at before)) (bytes_of choices)
    → bytes_of new ≡ bytes_of old ++ map (λ choice. text.items ++ choice) (bytes_of choices)
    → bytes_of new ≡ each_with (bytes_of (take (at + 1) before)) (bytes_of choices)
joined-next before choices at text old new below is are more =
    let taken : take (at + 1) before ≡ take at before ++ text ∷ [] =
    take_more before at text below ∙ ap (λ t. take at before ++ t ∷ []) (sym is) in
    more ∙ ap (λ l. l ++ map (λ choice. text.items ++ choice) (bytes_of choices)) are
    ∙ sym (each-more (bytes_of (take at before)) text.items (bytes_of choices))
    ∙ ap (λ l. each_with l (bytes_of choices))
    (sym (ap bytes_of taken ∙ map_push (λ (t : Vec ℕ Global). t.items) (take at before) text))

-- one text more that bytes are added to
pub extended-more : (old now : List (Vec ℕ Global)) (bytes : List ℕ) (at : ℕ) (item new : Vec ℕ Global)
    → at < length old → at < length now
    → bytes_of now ≡ map (λ text. text ++ bytes) (take at (bytes_of old)) ++ drop at (bytes_of old)
    → new.items ≡ (get_or now at item).items ++ bytes
    → bytes_of (set now at new)
    ≡ map (λ text. text ++ bytes) (take (at + 1) (bytes_of old)) ++ drop (at + 1) (bytes_of old)
extended-more old now bytes at item new below within are grown =
    map-set (λ (t : Vec ℕ Global). t.items) now at new ∙ ap (λ t. set (bytes_of now) at t) grown
    ∙ map_over_more (λ text. text ++ bytes) (bytes_of old) (bytes_of now) at (get_or now at item).items
    (omega (arith, length-map old (λ (t : Vec ℕ Global). t.items))) are
    (sym (get_or-map (λ (t : Vec ℕ Global). t.items) now at item (get_or now at item).items within))

-- a part is what is taken of a text before a rest
part-taken : (text part rest : List ℕ) → text ≡ part ++ rest → take (length text - length rest) text ≡ part
part-taken text part rest is =
    rw is (ap (λ n. take n (part ++ rest)) (omega (arith, length-append part rest)) ∙ take-append_seam part rest)

-- the parts of a glob without braces
pub class-part : (is_choice : Bool) (glob rest : List ℕ) → begins_with 91 glob ≡ true
    → IsClassBefore (drop 1 glob) rest → HasPart is_choice glob (length glob - length rest)
class-part is_choice glob rest begins (class, is, closes) =
    let whole : glob ≡ (91 ∷ (class ++ 93 ∷ [])) ++ rest =
    begins-is 91 glob begins ∙ ap (λ l. 91 ∷ l) (is ∙ sym (append_assoc class (93 ∷ []) rest)) in
    let size : length glob ≡ length (91 ∷ (class ++ 93 ∷ [])) + length rest =
    ap length whole ∙ length-append (91 ∷ (class ++ 93 ∷ [])) rest in (
      omega (arith, size),
      omega (arith, size),
      subst (λ l. IsPart is_choice l) (sym (part-taken glob _ rest whole)) (of_class class closes),
    )

pub escape-part : (is_choice : Bool) (glob : List ℕ) → begins_with 92 glob ≡ true
    → is_empty (drop 1 glob) ≡ false → HasPart is_choice glob 2
escape-part is_choice [] begins some = absurd (false≢true begins)
escape-part is_choice (mark ∷ []) begins some = absurd (false≢true (sym some))
escape-part is_choice (mark ∷ byte ∷ later) begins some = (
  omega arith,
  omega arith,
  rw (eqb-true mark 92 begins) (of_escape byte),
)

pub byte-part : (is_choice : Bool) (glob : List ℕ) → glob ≢ [] → begins_with 91 glob ≡ false
    → begins_with 92 glob ≡ false → BeginsPart is_choice glob → HasPart is_choice glob 1
byte-part is_choice [] some class escape begins = absurd (some refl)
byte-part is_choice (byte ∷ later) some class escape (opens, closes, ends) = (
  omega arith,
  omega arith,
  of_byte byte (rw (opens, closes, class, escape, ends) refl),
)

-- a comma ends a choice
pub choice-begins : (inside : Bool) (glob : List ℕ) → (inside && begins_with 44 glob) ≡ true
    → begins_with 44 glob ≡ true
choice-begins true glob ends = ends
choice-begins false glob ends = absurd (false≢true ends)

-- a part that was read
pub part-read : {E : Type 0} (result : Result (Bor (List ℕ)) E) (braces new : List Brace)
    (texts others : List (List ℕ)) (glob : List ℕ) → new ≡ braces
    → IfOk result (λ rest. IsPartBefore (is_inside braces) glob texts rest.now others)
    → IfOk result (λ rest. (part : List ℕ) × (glob ≡ part ++ rest.now)
    × ((done : List ℕ) → IsRead braces texts done → IsRead new others (done ++ part)))
part-read (Ok rest) braces new texts others glob same (part, is, some, of, are) =
    (part, is, λ done. read-part braces new texts others part done of same are)
part-read (Err error) braces new texts others glob same read = tt

-- choices by their bytes
pub choices-with : (new old texts : List (Vec ℕ Global)) → new ≡ old ++ texts
    → bytes_of new ≡ bytes_of old ++ bytes_of texts
choices-with new old texts is = ap bytes_of is ∙ map-append (λ (t : Vec ℕ Global). t.items) old texts

-- the texts of choices that are closed
pub closed-texts : (before choices more new closed : List (Vec ℕ Global)) → new ≡ choices ++ more
    → bytes_of closed ≡ each_with (bytes_of before) (bytes_of new)
    → bytes_of closed ≡ each_with (bytes_of before) (bytes_of choices ++ bytes_of more)
closed-texts before choices more new closed is are =
    are ∙ ap (each_with (bytes_of before)) (choices-with new choices more is)

-- one text isn't too many, and neither are as many as before
pub one-text : (texts : List (List ℕ)) → texts ≡ [] ∷ [] → length texts ≤ MOST_TEXTS
one-text texts is = subst (λ l. length l ≤ MOST_TEXTS) (sym is) (omega arith)

pub few-still : {A E : Type 0} (result : Result A E) (old new : List (List ℕ))
    → IfOk result (λ _. length new ≡ length old)
    → IfOk result (λ _. length old ≤ MOST_TEXTS → length new ≤ MOST_TEXTS)
few-still (Ok a) old new same = λ within. subst (λ n. n ≤ MOST_TEXTS) (sym same) within
few-still (Err e) old new same = tt
