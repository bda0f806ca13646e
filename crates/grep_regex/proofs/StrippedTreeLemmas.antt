-- `IsStripped` of trees, by their forms.
use Rattle.std.proofs.Common.{◌≡◌, ℕ, ◌+◌, ◌<◌, ◌||◌, ◌&&◌, not, Bool, true, false, List, [], ◌∷◌, ◌++◌}
use Rattle.std.proofs.Common.{length, map, take, get_or}
use Rattle.std.proofs.Common.{◌==◌, Option, sym, ap, ap₂, ◌∙◌, subst, Vec, Box, Global}
use Rattle.std.proofs.lemmas.List.{take_more, map-append}
use Rattle.std.proofs.lemmas.List.Folds.{list_any_more}
use Rattle.std.proofs.Math.Seq.{take-length}
use Rattle.std.specs.List.{list_any}
use Rattle.regex_class.specs.declared.Class.{Class}
use Rattle.regex_class.specs.Ranges.{in_ranges, HasExactly}
use Rattle.regex_class.proofs.RangesLemmas.{in_ranges-append}
use Rattle.regex_hir.specs.Meaning.{meaning}
use Rattle.regex_hir.specs.Re.{literal}
use Rattle.regex_hir.specs.declared.look.Look as look_type
use Rattle.regex_hir.specs.declared.hir.Hir.{Hir}
use Rattle.regex_hir.specs.declared.hir.Hir.TheVariants.{Empty, Literal, Bytes, Chars, Look}
use Rattle.regex_hir.specs.declared.hir.Hir.TheVariants.{Repetition, Capture, Concat}
use Rattle.regex_hir.specs.declared.hir.Hir.TheVariants.{Alternation}
use Rattle.regex_hir.proofs.MeaningLemmas.{meaning-Empty, meaning-Literal, meaning-Bytes}
use Rattle.regex_hir.proofs.MeaningLemmas.{meaning-Chars, meaning-Look}
use Rattle.regex_hir.proofs.MeaningLemmas.{meaning-Repetition, meaning-Capture, meaning-Concat}
use Rattle.regex_hir.proofs.MeaningLemmas.{meaning-Alternation}
use Rattle.regex_syntax.proofs.SameLemmas.{in_ranges_single}
use Rattle.grep_regex.specs.Clear.{is_among}
use Rattle.grep_regex.specs.Stripped.{IsStripped, AreStripped, AreAscii, IsClassOf, IsThinned}
use Rattle.grep_regex.proofs.StrippedLemmas.{stripped-empty, stripped-look, stripped-literal, stripped-lost}
use Rattle.grep_regex.proofs.StrippedLemmas.{stripped-byte_in}
use Rattle.grep_regex.proofs.StrippedLemmas.{stripped-char_in, stripped-repeat, stripped-group}
use Rattle.grep_regex.proofs.StrippedLemmas.{stripped-cat_all}
use Rattle.grep_regex.proofs.StrippedLemmas.{stripped-alt_all, stripped-more}

-- the trees stand for patterns of which one is the other without the bytes
abbrev AreTrees : List ℕ → Hir → Hir → Type 0
AreTrees bytes h g = IsStripped bytes (meaning h) (meaning g)

pub tree-Empty : (bytes : List ℕ) (h : Hir) → h ≡ Empty → IsStripped bytes (meaning h) (meaning Empty)
tree-Empty bytes h is = subst (λ x. AreTrees bytes x Empty) (sym is)
    (subst (λ x. IsStripped bytes x x) (sym meaning-Empty) (stripped-empty bytes))

pub tree-Look : (bytes : List ℕ) (h : Hir) (l : look_type.Look) → h ≡ Look l
    → IsStripped bytes (meaning h) (meaning (Look l))
tree-Look bytes h l is =
    subst (λ x. AreTrees bytes x (Look l)) (sym is)
    (subst (λ x. IsStripped bytes x x) (sym (meaning-Look l)) (stripped-look bytes l))

-- what a literal becomes: itself, or a class without members
pub literal-kept : (bytes text : List ℕ) (copy : Vec ℕ Global) → copy.items ≡ text
    → list_any (is_among bytes) text ≡ false → IsStripped bytes (literal text) (meaning (Literal copy))
literal-kept bytes text copy same none = rw (meaning-Literal copy, same) (stripped-literal bytes text none)

pub literal-lost : (bytes text : List ℕ) (byte : ℕ) (nothing : Class) → nothing.ranges.items ≡ []
    → is_among bytes byte ≡ true → is_among text byte ≡ true
    → IsStripped bytes (literal text) (meaning (Bytes nothing))
literal-lost bytes text byte nothing none among has = rw (meaning-Bytes nothing, none)
    (stripped-lost bytes text byte among has)

-- a class from which that of the bytes is taken
pub class-thinned : (bytes : List ℕ) (members class left : List (ℕ × ℕ)) → IsClassOf bytes class
    → HasExactly left (λ x. in_ranges members x && not (in_ranges class x)) → IsThinned bytes members left
class-thinned bytes members class left full thin x small =
    thin x small ∙ ap (λ b. in_ranges members x && not b) (full x small)

pub tree-Bytes : (bytes : List ℕ) (h : Hir) (a b : Class) → h ≡ Bytes a
    → IsThinned bytes a.ranges.items b.ranges.items →
    IsStripped bytes (meaning h) (meaning (Bytes b))
tree-Bytes bytes h a b is thin = rw (is, meaning-Bytes a, meaning-Bytes b)
    (stripped-byte_in bytes a.ranges.items b.ranges.items thin)

pub tree-Chars : (bytes : List ℕ) → AreAscii bytes → (h : Hir) (a b : Class) → h ≡ Chars a
    → IsThinned bytes a.ranges.items b.ranges.items →
    IsStripped bytes (meaning h) (meaning (Chars b))
tree-Chars bytes ascii h a b is thin =
    rw (is, meaning-Chars a, meaning-Chars b) (stripped-char_in bytes ascii a.ranges.items b.ranges.items thin)

pub tree-Repetition : (bytes : List ℕ) (h : Hir) (least : ℕ) (most : Option ℕ) (greedy : Bool) (a b : Box Hir Global) →
    h ≡ Repetition least most greedy a → IsStripped bytes (meaning a.value) (meaning b.value) →
    IsStripped bytes (meaning h) (meaning (Repetition least most greedy b))
tree-Repetition bytes h least most greedy a b is p =
    rw (is, meaning-Repetition least most greedy a, meaning-Repetition least most greedy b)
    (stripped-repeat bytes least most greedy (meaning a.value) (meaning b.value) p)

pub tree-Capture : (bytes : List ℕ) (h : Hir) (index : ℕ) (a b : Box Hir Global) → h ≡ Capture index a →
    IsStripped bytes (meaning a.value) (meaning b.value) → IsStripped bytes (meaning h) (meaning (Capture index b))
tree-Capture bytes h index a b is p = rw (is, meaning-Capture index a, meaning-Capture index b)
    (stripped-group bytes index p)

pub tree-Concat : (bytes : List ℕ) (h : Hir) (a b : Vec Hir Global) → h ≡ Concat a →
    AreStripped bytes (map meaning a.items) (map meaning b.items) → IsStripped bytes (meaning h) (meaning (Concat b))
tree-Concat bytes h a b is p =
    rw (is, meaning-Concat a, meaning-Concat b) (stripped-cat_all bytes (map meaning a.items) (map meaning b.items) p)

pub tree-Alternation : (bytes : List ℕ) (h : Hir) (a b : Vec Hir Global) → h ≡ Alternation a →
    AreStripped bytes (map meaning a.items) (map meaning b.items)
    → IsStripped bytes (meaning h) (meaning (Alternation b))
tree-Alternation bytes h a b is p =
    rw (is, meaning-Alternation a, meaning-Alternation b)
    (stripped-alt_all bytes (map meaning a.items) (map meaning b.items) p)

-- the same of equal trees
pub along : (bytes : List ℕ) (h h2 g g2 : Hir) → h ≡ h2 → g2 ≡ g → IsStripped bytes (meaning h) (meaning g) →
    IsStripped bytes (meaning h2) (meaning g2)
along bytes h h2 g g2 p q s = subst (λ x. AreTrees bytes x g2) p (subst (λ x. AreTrees bytes h x) (sym q) s)

pub all-along : (bytes : List ℕ) (xs ys zs : List Hir) → xs ≡ ys → AreStripped bytes (map meaning xs) (map meaning zs) →
    AreStripped bytes (map meaning ys) (map meaning zs)
all-along bytes xs ys zs e p = subst (λ l. AreStripped bytes (map meaning l) (map meaning zs)) e p

-- ---- steps of loops

pub trees-more : (bytes : List ℕ) (subs all after : List Hir) (i : ℕ) (d g : Hir) → i < length subs →
    AreStripped bytes (map meaning (take i subs)) (map meaning all)
    → IsStripped bytes (meaning (get_or subs i d)) (meaning g) →
    after ≡ all ++ g ∷ [] → AreStripped bytes (map meaning (take (i + 1) subs)) (map meaning after)
trees-more bytes subs all after i d g inside p q is =
    subst (λ x. AreStripped bytes x (map meaning after))
    (sym (ap (map meaning) (take_more subs i d inside) ∙ map-append meaning (take i subs) (get_or subs i d ∷ [])))
    (subst (λ x. AreStripped bytes (map meaning (take i subs) ++ meaning (get_or subs i d) ∷ []) x)
    (sym (ap (map meaning) is ∙ map-append meaning all (g ∷ [])))
    (stripped-more bytes (map meaning (take i subs)) (map meaning all) (meaning (get_or subs i d)) (meaning g) p q))

-- a class that has the first bytes gets one more
pub class-more : (bytes : List ℕ) (ranges after : List (ℕ × ℕ)) (i : ℕ) → i < length bytes →
    ((x : ℕ) → in_ranges ranges x ≡ is_among (take i bytes) x) → after ≡ ranges ++ (get_or bytes i 0, get_or bytes i 0)
    ∷ [] →
    (x : ℕ) → in_ranges after x ≡ is_among (take (i + 1) bytes) x
class-more bytes ranges after i inside p is x =
    ap (λ r. in_ranges r x) is ∙ (in_ranges-append ranges ((get_or bytes i 0, get_or bytes i 0) ∷ []) x
    ∙ (ap₂ (λ a b. a || b) (p x) (in_ranges_single (get_or bytes i 0) x)
    ∙ sym (list_any_more (λ b. x == b) bytes i 0 inside)))

-- and the class that has all of them is the class of the bytes
pub class-full : (bytes : List ℕ) (ranges after : List (ℕ × ℕ)) (i : ℕ) → i ≡ length bytes →
    ((x : ℕ) → in_ranges ranges x ≡ is_among (take i bytes) x) → HasExactly after (in_ranges ranges)
    → IsClassOf bytes after
class-full bytes ranges after i whole p same x small =
    same x small ∙ (p x ∙ ap (λ l. is_among l x) (ap (λ n. take n bytes) whole ∙ take-length bytes))
