-- The rules of the lines of a file, one line after another.
use Rattle.std.proofs.Common.{◌≡◌, ℕ, ◌+◌, Bool, List, [], ◌∷◌, ◌++◌, refl, sym, ap, ◌∙◌, subst, append_assoc}
use Rattle.std.proofs.lemmas.List.{append-nil}
use Rattle.grep_ignore.specs.Lines.{AreOfLine, AreOfLines}
use Rattle.grep_ignore.specs.declared.rules.Misread.{Misread}
use Rattle.grep_ignore.specs.declared.rules.Rule.{Rule}

-- The rules and the faults of the lines up to some are followed by those of the lines after these.
abbrev pub GoOn : Bool → List (List ℕ) → ℕ → List (List ℕ) → List Rule → List Misread → Type 0
GoOn ignores lines number left rules faults = (later : List Rule) (more : List Misread)
    → AreOfLines ignores number left later more
    → AreOfLines ignores 1 lines (rules ++ later) (faults ++ more)

-- and of one line more
pub goes-on : (ignores : Bool) (lines : List (List ℕ)) (number : ℕ) (left later : List (List ℕ))
    (line : List ℕ) (rules first : List Rule) (faults fault : List Misread)
    → left ≡ line ∷ later → AreOfLine ignores number line first fault
    → GoOn ignores lines number left rules faults
    → GoOn ignores lines (number + 1) later (rules ++ first) (faults ++ fault)
goes-on ignores lines number left later line rules first faults fault is one on others more are =
    subst (λ r. AreOfLines ignores 1 lines r ((faults ++ fault) ++ more))
    (sym (append_assoc rules first others))
    (subst (λ f. AreOfLines ignores 1 lines (rules ++ (first ++ others)) f)
    (sym (append_assoc faults fault more))
    (on (first ++ others) (fault ++ more)
    (subst (λ l. AreOfLines ignores number l (first ++ others) (fault ++ more)) (sym is)
    (first, others, refl, (fault, more, refl, one, are)))))

-- the last line
pub ends-on : (ignores : Bool) (lines : List (List ℕ)) (number : ℕ) (left : List (List ℕ))
    (line : List ℕ) (rules first : List Rule) (faults fault : List Misread)
    → left ≡ line ∷ [] → AreOfLine ignores number line first fault
    → GoOn ignores lines number left rules faults
    → AreOfLines ignores 1 lines (rules ++ first) (faults ++ fault)
ends-on ignores lines number left line rules first faults fault is one on =
    subst (λ r. AreOfLines ignores 1 lines (rules ++ r) (faults ++ fault)) (append-nil first)
    (subst (λ f. AreOfLines ignores 1 lines (rules ++ (first ++ [])) (faults ++ f)) (append-nil fault)
    (on (first ++ []) (fault ++ [])
    (subst (λ l. AreOfLines ignores number l (first ++ []) (fault ++ [])) (sym is)
    (first, [], refl, (fault, [], refl, one, (refl, refl))))))

-- at the start nothing is read
pub starts-on : (ignores : Bool) (lines left : List (List ℕ)) → left ≡ lines
    → GoOn ignores lines 1 left [] []
starts-on ignores lines left is later more are =
    subst (λ l. AreOfLines ignores 1 l later more) is are

-- a list to which two are added, one after the other
pub joins : {X : Type 0} (new mid old first more : List X) → mid ≡ old ++ first → new ≡ mid ++ more
    → new ≡ old ++ (first ++ more)
joins new mid old first more before after =
    after ∙ ap (λ l. l ++ more) before ∙ append_assoc old first more
