-- The texts without braces that the text of a glob stands for.
use Rattle.std.specs.Prelude.{◌≡◌, ℕ, ◌⊎◌, Bool, true, false, not, ◌&&◌, ◌||◌, ◌==◌, List, [], ◌∷◌}
use Rattle.std.specs.Prelude.{◌++◌}
use Rattle.std.specs.Prelude.{◌<◌, ◌≤◌, length, map, take, MatchBool, Vec}
use Rattle.std.specs.Global.{Global}
use Rattle.std.specs.List.{list_any}
use Rattle.grep_ignore.specs.Classes.{begins_with}
use Rattle.linegrep_files.specs.ClassTexts.{is_class}
use Rattle.linegrep_files.specs.declared.braces.Brace.{Brace}
use Rattle.linegrep_files.specs.declared.braces.TheConstants.{MOST_TEXTS}

-- a brace, which opens or closes some choices
abbrev pub is_brace : ℕ → Bool
is_brace byte = (byte == 123) || (byte == 125)

abbrev pub has_braces : List ℕ → Bool
has_braces text = list_any is_brace text

-- a byte that stands for nothing but itself. Inside braces a comma doesn't: it comes between two
-- choices
abbrev pub is_plain : Bool → ℕ → Bool
is_plain is_choice byte = not (is_brace byte) && not ((byte == 91) || (byte == 92))
    && not (is_choice && (byte == 44))

-- a part without braces: a byte, a backslash and a byte, or a class
pub data IsPart (is_choice : Bool) : List ℕ → Type 0 where
  of_byte : (byte : ℕ) → is_plain is_choice byte ≡ true → IsPart is_choice (byte ∷ [])
  of_escape : (byte : ℕ) → IsPart is_choice (92 ∷ byte ∷ [])
  of_class : (class : List ℕ) → is_class class ≡ true → IsPart is_choice (91 ∷ (class ++ 93 ∷ []))

-- some texts, each of them with each of some choices after it
abbrev pub each_with : List (List ℕ) → List (List ℕ) → List (List ℕ)
each_with [] choices = []
each_with (text ∷ later) choices = map (λ choice. text ++ choice) choices ++ each_with later choices

mutual
  -- a text stands for some texts, one part after another. A part without braces is in each of them,
  -- and of a part in braces each has one of the choices
  pub data StandsFor : Bool → List ℕ → List (List ℕ) → Type 0 where
    no_part : (is_choice : Bool) → StandsFor is_choice [] ([] ∷ [])
    of_part : {is_choice : Bool} {text : List ℕ} {texts : List (List ℕ)} (part : List ℕ)
        → StandsFor is_choice text texts → IsPart is_choice part
        → StandsFor is_choice (text ++ part) (map (λ one. one ++ part) texts)
    of_braces : {is_choice : Bool} {text inner : List ℕ} {texts choices : List (List ℕ)}
        → StandsFor is_choice text texts → AreChoices inner choices
        → StandsFor is_choice (text ++ 123 ∷ (inner ++ 125 ∷ [])) (each_with texts choices)

  -- choices, with a comma between two, stand for all texts that one of them stands for
  pub data AreChoices : List ℕ → List (List ℕ) → Type 0 where
    first_choice : {text : List ℕ} {texts : List (List ℕ)} → StandsFor true text texts
        → AreChoices text texts
    next_choice : {before text : List ℕ} {choices texts : List (List ℕ)} → AreChoices before choices
        → StandsFor true text texts → AreChoices (before ++ 44 ∷ text) (choices ++ texts)

-- the texts that a glob stands for, which aren't too many. A glob without braces stands for its own
-- text
abbrev pub AreTextsOf : List ℕ → List (List ℕ) → Type 0
AreTextsOf glob texts = MatchBool (has_braces glob)
    (StandsFor false glob texts × (length texts ≤ MOST_TEXTS)) (texts ≡ glob ∷ [])

-- the bytes of some texts
abbrev pub bytes_of : List (Vec ℕ Global) → List (List ℕ)
bytes_of texts = map (λ text. text.items) texts

-- a brace is open
abbrev pub is_inside : List Brace → Bool
is_inside [] = false
is_inside (brace ∷ later) = true

-- choices, each with a comma after it
abbrev pub AreClosed : List ℕ → List (List ℕ) → Type 0
AreClosed text choices = ((text ≡ []) × (choices ≡ []))
    ⊎ ((inner : List ℕ) × (text ≡ inner ++ 44 ∷ []) × AreChoices inner choices)

-- a text ends where a choice of the innermost open brace begins
pub data AreOpen : List Brace → List ℕ → Type 0 where
  none_open : AreOpen [] []
  one_open : {braces all : List Brace} {outer text closed done : List ℕ} (brace : Brace)
      → AreOpen braces outer → StandsFor (is_inside braces) text (bytes_of brace.before.items)
      → AreClosed closed (bytes_of brace.choices.items) → all ≡ braces ++ brace ∷ []
      → done ≡ outer ++ (text ++ 123 ∷ closed) → AreOpen all done

-- a glob begins with nothing that opens, closes or ends a choice
abbrev pub BeginsPart : Bool → List ℕ → Type 0
BeginsPart is_choice glob = (begins_with 123 glob ≡ false) × (begins_with 125 glob ≡ false)
    × ((is_choice && begins_with 44 glob) ≡ false)

-- the first bytes of a glob, as many as are given, are a part without braces
abbrev pub HasPart : Bool → List ℕ → ℕ → Type 0
HasPart is_choice glob count = (0 < count) × (count ≤ length glob)
    × IsPart is_choice (take count glob)

-- a glob begins with a part without braces, before a rest, and the part is added to each of some
-- texts
abbrev pub IsPartBefore : Bool → List ℕ → List (List ℕ) → List ℕ → List (List ℕ) → Type 0
IsPartBefore is_choice glob old rest new = (part : List ℕ) × (glob ≡ part ++ rest)
    × (0 < length part) × IsPart is_choice part × (new ≡ map (λ one. one ++ part) old)

-- a text is read so far: what comes before the innermost open brace, and then what stands for some
-- texts
pub record IsRead (braces : List Brace) (texts : List (List ℕ)) (done : List ℕ) : Type 0 where
  pub outer : List ℕ
  pub text : List ℕ
  pub is : done ≡ outer ++ text
  pub is_open : AreOpen braces outer
  pub stands : StandsFor (is_inside braces) text texts
