-- Where the braces of a glob can't be read.
use Rattle.std.proofs.Common.{◌≡◌, ℕ, ◌+◌, ◌<◌, ◌≤◌, Bool, true, false, List, [], ◌∷◌, ◌++◌, ◌∙◌, inl, inr}
use Rattle.std.proofs.Common.{ap, append-nil, append_assoc, arith, drop, get_or}
use Rattle.std.proofs.Common.{length, length-append, refl, subst, sym, take}
use Rattle.std.proofs.lemmas.List.{drop_more, length-map, map-append, take-append-drop}
use Rattle.std.specs.Borrow.{Bor}
use Rattle.std.specs.Global.{Global}
use Rattle.std.specs.Prelude.{◌⊎◌, Err, IfErr, MatchBool, Ok, Result, Vec, map}
use Rattle.grep_ignore.specs.Classes.{begins_with, is_empty}
use Rattle.grep_ignore.specs.Globs.{OnMalformed}
use Rattle.grep_ignore.specs.declared.glob.GlobError.{GlobError}
use Rattle.grep_ignore.specs.declared.glob.GlobError.TheVariants.{Malformed, OutOfMemory}
use Rattle.grep_ignore.proofs.ClassLemmas.{begins-is}
use Rattle.std.proofs.lemmas.Bool.{eqb-true, false≢true}
use Rattle.linegrep_files.specs.Braces.{AreOpen, IsRead, StandsFor, bytes_of, each_with, has_braces, is_inside}
use Rattle.linegrep_files.specs.Braces.{none_open, one_open}
use Rattle.linegrep_files.specs.MalformedGlobs.{AreMalformed, EndsOpen, IsFault, IsMalformedGlob}
use Rattle.linegrep_files.specs.MalformedGlobs.{IsReadTo, inner, of_part, outermost}
use Rattle.linegrep_files.specs.MalformedGlobs.{too_many, unclosed, unopened}
use Rattle.linegrep_files.specs.declared.braces.Brace.{Brace}
use Rattle.linegrep_files.specs.declared.braces.TheConstants.{MOST_TEXTS}
use Rattle.linegrep_files.proofs.BraceLemmas.{choices-with, inside-some, read-close}

-- a text in which braces are open ends where a choice of the innermost begins
ends-open : (braces : List Brace) (outer : List ℕ) → AreOpen braces outer
    → MatchBool (is_inside braces) (EndsOpen outer) (outer ≡ [])
ends-open braces outer none_open = refl
ends-open braces outer (one_open {braces = front} {outer = before} {text = text} {closed = closed} brace opened stands choices is same) =
    rw (is, inside-some front brace, same) (by (is_inside front) (ends-open front before opened) stands)
  where
    by : (b : Bool) → MatchBool b (EndsOpen before) (before ≡ []) → StandsFor b text (bytes_of brace.before.items)
        → EndsOpen (before ++ (text ++ 123 ∷ closed))
    by true ends stands = inner ends stands choices
    by false none stands = rw none (outermost stands choices)

-- what is read of a glob, and what isn't
read-to : (braces : List Brace) (texts : List (List ℕ)) (done rest : List ℕ) → IsRead braces texts done
    → IsReadTo (is_inside braces) texts (done ++ rest) rest
read-to braces texts done rest read = record {
  outer = read.outer;
  text = read.text;
  is = ap (λ l. l ++ rest) read.is ∙ append_assoc read.outer read.text rest;
  is_open = ends-open braces read.outer read.is_open;
  stands = read.stands;
}

-- a brace is closed that isn't open
pub unopened-at : (braces : List Brace) (texts : List (List ℕ)) (done glob : List ℕ) → begins_with 125 glob ≡ true
    → braces ≡ [] → IsRead braces texts done → AreMalformed (done ++ glob)
unopened-at braces texts done glob begins none read =
    let is : glob ≡ 125 ∷ drop 1 glob = begins-is 125 glob begins in
    unopened (subst (λ g. IsReadTo false texts (done ++ glob) g) is
    (subst (λ b. IsReadTo (is_inside b) texts (done ++ glob) glob) none (read-to braces texts done glob read)))

-- a brace is closed, and there are too many texts
pub too-many-at : (all outer : List Brace) (brace : Brace) (texts : List (List ℕ)) (done glob : List ℕ)
    → begins_with 125 glob ≡ true → all ≡ outer ++ brace ∷ []
    → MOST_TEXTS < length (each_with (bytes_of brace.before.items) (bytes_of brace.choices.items ++ texts))
    → IsRead all texts done → AreMalformed (done ++ glob)
too-many-at all outer brace texts done glob begins are many read =
    let is : glob ≡ 125 ∷ drop 1 glob = begins-is 125 glob begins in
    let joined : List (List ℕ) = each_with (bytes_of brace.before.items) (bytes_of brace.choices.items ++ texts) in
    let closed = read-close all outer brace texts joined done are refl read in
    too_many (subst (λ g. IsReadTo (is_inside outer) joined g (drop 1 glob))
    (append_assoc done (125 ∷ []) (drop 1 glob) ∙ ap (λ l. done ++ l) (sym is))
    (read-to outer joined (done ++ 125 ∷ []) (drop 1 glob) closed)) many

-- a part can't be read
pub part-at : (braces : List Brace) (texts : List (List ℕ)) (done glob : List ℕ) → IsFault glob
    → IsRead braces texts done → AreMalformed (done ++ glob)
part-at braces texts done glob fault read = of_part (read-to braces texts done glob read) fault

-- at its end a brace is open
pub unclosed-at : (braces : List Brace) (texts : List (List ℕ)) (glob : List ℕ) → is_inside braces ≡ true
    → IsRead braces texts glob → AreMalformed glob
unclosed-at braces texts glob inside read =
    unclosed (subst (λ g. IsReadTo true texts g []) (append-nil glob)
    (subst (λ b. IsReadTo b texts (glob ++ []) []) inside (read-to braces texts glob [] read)))

-- a closing brace that can't be read
pub close-at : (e : GlobError) (all : List Brace) (texts : List (List ℕ)) (glob : List ℕ)
    → begins_with 125 glob ≡ true
    → OnMalformed e ((all ≡ []) ⊎ ((outer : List Brace) × (brace : Brace) × (all ≡ outer ++ brace ∷ [])
    × (MOST_TEXTS < length (each_with (bytes_of brace.before.items) (bytes_of brace.choices.items ++ texts)))))
    → OnMalformed e ((done : List ℕ) → IsRead all texts done → AreMalformed (done ++ glob))
close-at (Malformed cause) all texts glob begins (inl none) =
    λ done read. unopened-at all texts done glob begins none read
close-at (Malformed cause) all texts glob begins (inr (outer, brace, are, many)) =
    λ done read. too-many-at all outer brace texts done glob begins are many read
close-at OutOfMemory all texts glob begins why = tt

-- nor can a part
pub parts-at : {X : Type 0} (result : Result X GlobError) (all : List Brace) (texts : List (List ℕ)) (glob : List ℕ)
    → IfErr result (λ e. OnMalformed e (IsFault glob))
    → IfErr result (λ e. OnMalformed e ((done : List ℕ) → IsRead all texts done → AreMalformed (done ++ glob)))
parts-at (Ok value) all texts glob fault = tt
parts-at (Err (Malformed cause)) all texts glob fault = λ done read. part-at all texts done glob fault read
parts-at (Err OutOfMemory) all texts glob fault = tt

-- a backslash at the end
pub escape-fault : (glob : List ℕ) → begins_with 92 glob ≡ true → is_empty (drop 1 glob) ≡ true → IsFault glob
escape-fault [] begins empty = absurd (false≢true begins)
escape-fault (mark ∷ []) begins empty = inl (ap (λ m. m ∷ []) (eqb-true mark 92 begins))
escape-fault (mark ∷ byte ∷ later) begins empty = absurd (false≢true empty)

each-append : (xs ys choices : List (List ℕ))
    → each_with (xs ++ ys) choices ≡ each_with xs choices ++ each_with ys choices
each-append [] ys choices = refl
each-append (x ∷ xs) ys choices = ap (λ l. map (λ choice. x ++ choice) choices ++ l) (each-append xs ys choices)
    ∙ sym (append_assoc (map (λ choice. x ++ choice) choices) (each_with xs choices) (each_with ys choices))

each-some : (text : List ℕ) (later choices : List (List ℕ))
    → length choices ≤ length (each_with (text ∷ later) choices)
each-some text later choices = omega (
  arith,
  length-append (map (λ choice. text ++ choice) choices)
      (each_with later choices),
  length-map choices (λ choice. text ++ choice),
)

-- so are those after all of them
pub joined-many : (before choices old : List (Vec ℕ Global)) (at : ℕ) (text : Vec ℕ Global) → at < length before
    → bytes_of old ≡ each_with (bytes_of (take at before)) (bytes_of choices)
    → MOST_TEXTS < length old + length choices
    → MOST_TEXTS < length (each_with (bytes_of before) (bytes_of choices))
joined-many before choices old at text below are many =
    let split : bytes_of before ≡ bytes_of (take at before) ++ bytes_of (get_or before at text ∷ drop (at + 1) before) =
    ap bytes_of (sym (take-append-drop at before) ∙ ap (λ l. take at before ++ l) (drop_more before at text below))
    ∙ map-append (λ (t : Vec ℕ Global). t.items) (take at before) _ in
    let whole = ap length (ap (λ l. each_with l (bytes_of choices)) split
    ∙ each-append (bytes_of (take at before)) (bytes_of (get_or before at text ∷ drop (at + 1) before)) (bytes_of choices)) in
    let parts = length-append (each_with (bytes_of (take at before)) (bytes_of choices))
    (each_with (bytes_of (get_or before at text ∷ drop (at + 1) before)) (bytes_of choices)) in
    let some = each-some (get_or before at text).items (bytes_of (drop (at + 1) before)) (bytes_of choices) in
    omega (
      arith,
      whole,
      parts,
      some,
      ap length are,
      length-map old (λ (t : Vec ℕ Global). t.items),
      length-map choices (λ (t : Vec ℕ Global). t.items),
    )

-- a weaker fact of the text
pub malformed-weaker : (e : GlobError) {P Q : Type 0} → (P → Q) → OnMalformed e P → OnMalformed e Q
malformed-weaker (Malformed cause) weaker holds = weaker holds
malformed-weaker OutOfMemory weaker holds = tt

-- a glob of which a rest can't be read, after what is read of it
pub rest-malformed : (e : GlobError) (braces : List Brace) (texts : List (List ℕ)) (glob done rest : List ℕ)
    → glob ≡ done ++ rest → IsRead braces texts done
    → OnMalformed e ((done : List ℕ) → IsRead braces texts done → AreMalformed (done ++ rest))
    → OnMalformed e (AreMalformed glob)
rest-malformed e braces texts glob done rest is read =
    malformed-weaker e (λ all. subst AreMalformed (sym is) (all done read))

-- at the end of a glob a brace is open
pub end-malformed : {X : Type 0} (result : Result X GlobError) (braces : List Brace) (texts : List (List ℕ))
    (glob done : List ℕ) → glob ≡ done ++ [] → IsRead braces texts done
    → IfErr result (λ _. is_inside braces ≡ true) → IfErr result (λ e. OnMalformed e (AreMalformed glob))
end-malformed (Ok value) braces texts glob done is read inside = tt
end-malformed (Err (Malformed cause)) braces texts glob done is read inside =
    subst AreMalformed (sym (is ∙ append-nil done)) (unclosed-at braces texts done inside read)
end-malformed (Err OutOfMemory) braces texts glob done is read inside = tt

-- the choices of a brace that is closed are too many, by their bytes
pub close-malformed : (e : GlobError) (all outer : List Brace) (brace : Brace) (more new : List (Vec ℕ Global))
    → all ≡ outer ++ brace ∷ [] → new ≡ brace.choices.items ++ more
    → OnMalformed e (MOST_TEXTS < length (each_with (bytes_of brace.before.items) (bytes_of new)))
    → OnMalformed e ((all ≡ []) ⊎ ((outer : List Brace) × (brace : Brace) × (all ≡ outer ++ brace ∷ [])
    × (MOST_TEXTS < length (each_with (bytes_of brace.before.items) (bytes_of brace.choices.items ++ bytes_of more)))))
close-malformed (Malformed cause) all outer brace more new are is many = inr (
  outer,
  brace,
  are,
  subst (λ c. MOST_TEXTS < length (each_with (bytes_of brace.before.items) c))
      (choices-with new brace.choices.items more is) many,
)
close-malformed OutOfMemory all outer brace more new are is many = tt

-- braces of a glob that can't be read
pub braces-malformed : (e : GlobError) (ignores : Bool) (glob : List ℕ) → has_braces glob ≡ true
    → OnMalformed e (AreMalformed glob) → OnMalformed e (IsMalformedGlob ignores glob)
braces-malformed e ignores glob has = malformed-weaker e (λ are. rw has (inl are))

-- an error that says why
pub malformed-at : (e : GlobError) (cause : Bor (List ℕ)) {P : Type 0} → e ≡ Malformed cause → OnMalformed e P → P
malformed-at e cause {P} is holds = subst (λ e. OnMalformed e P) is holds
