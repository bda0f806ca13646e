-- The globs of texts, one after another.
use Rattle.std.proofs.Common.{◌≡◌, ℕ, Bool, true, false, List, [], ◌∷◌, ◌++◌, refl, ap, sym, ◌∙◌}
use Rattle.std.proofs.Common.{inl, inr}
use Rattle.std.proofs.Common.{◌+◌, ◌<◌, take, append_assoc, get_or, length, subst}
use Rattle.std.proofs.lemmas.Bool.{MatchBool-at_false, MatchBool-at_true, cases_Bool}
use Rattle.std.proofs.lemmas.List.{take_more}
use Rattle.std.specs.Borrow.{Bor}
use Rattle.grep_ignore.specs.Classes.{is_empty}
use Rattle.linegrep_files.specs.Globs.{AreAdded, AreRules, IsAdded, IsGlobRule}
use Rattle.linegrep_files.specs.declared.globs.GlobRule.{GlobRule}

-- an empty text has none
rules-skip : (ignores : Bool) (texts : List (Bor (List ℕ))) (rules : List GlobRule) (text : Bor (List ℕ))
    → is_empty text.now ≡ true → AreRules ignores texts rules → AreRules ignores (texts ++ text ∷ []) rules
rules-skip ignores [] rules text empty are = rw empty are
rules-skip ignores (first ∷ later) rules text empty are = elim (cases_Bool (is_empty first.now)) [
  | inl none ↦ rw none (rules-skip ignores later rules text empty (MatchBool-at_true _ _ none are))
  | inr some ↦
      let (rule, others, is, one, more) = MatchBool-at_false _ _ some are in
      rw some (rule, others, is, one, rules-skip ignores later others text empty more)
]

-- any other has one
rules-push : (ignores : Bool) (texts : List (Bor (List ℕ))) (rules : List GlobRule) (text : Bor (List ℕ))
    (rule : GlobRule) → is_empty text.now ≡ false → IsGlobRule ignores text.now rule
    → AreRules ignores texts rules → AreRules ignores (texts ++ text ∷ []) (rules ++ rule ∷ [])
rules-push ignores [] rules text rule full is are =
    rw (full, are) (rule, [], refl, is, refl)
rules-push ignores (first ∷ later) rules text rule full is are = elim (cases_Bool (is_empty first.now)) [
  | inl none ↦ rw none (rules-push ignores later rules text rule full is (MatchBool-at_true _ _ none are))
  | inr some ↦
      let (one, others, same, of, more) = MatchBool-at_false _ _ some are in
      rw some (
        one,
        others ++ rule ∷ [],
        ap (λ l. l ++ rule ∷ []) same,
        of,
        rules-push ignores later others text rule full is more,
      )
]

pub added-more : (ignores : Bool) (texts : List (Bor (List ℕ))) (text : Bor (List ℕ)) (old mid new : List GlobRule)
    → AreAdded ignores texts old mid → IsAdded ignores text.now mid new
    → AreAdded ignores (texts ++ text ∷ []) old new
added-more ignores texts text old mid new (rules, is, are) added = elim (cases_Bool (is_empty text.now)) [
  | inl empty ↦ (rules, MatchBool-at_true _ _ empty added ∙ is, rules-skip ignores texts rules text empty are)
  | inr full ↦
      let (rule, same, of) = MatchBool-at_false _ _ full added in (
        rules ++ rule ∷ [],
        same ∙ ap (λ l. l ++ rule ∷ []) is ∙ append_assoc old rules (rule ∷ []),
        rules-push ignores texts rules text rule full of are,
      )
]

pub added-one : (ignores : Bool) (text bytes : List ℕ) (old new : List GlobRule) (rule : GlobRule)
    → bytes ≡ text → is_empty text ≡ false → new ≡ old ++ rule ∷ [] → IsGlobRule ignores bytes rule
    → IsAdded ignores text old new
added-one ignores text bytes old new rule same full is of =
    rw full (rule, is, subst (λ t. IsGlobRule ignores t rule) same of)

-- one text more
pub added-next : (ignores : Bool) (texts : List (Bor (List ℕ))) (at : ℕ) (d : Bor (List ℕ))
    (old mid new : List GlobRule) → at < length texts → AreAdded ignores (take at texts) old mid
    → IsAdded ignores (get_or texts at d).now mid new → AreAdded ignores (take (at + 1) texts) old new
added-next ignores texts at d old mid new below are added =
    subst (λ l. AreAdded ignores l old new) (sym (take_more texts at d below))
    (added-more ignores (take at texts) (get_or texts at d) old mid new are added)
