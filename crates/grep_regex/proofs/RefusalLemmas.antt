-- The errors of patterns.
use Rattle.std.proofs.Common.{◌≡◌, ◌≢◌, ℕ, ◌+◌, ◌<◌, ◌≤◌, ◌++◌, ◌∷◌, List, [], length, map, get_or, slice_get}
use Rattle.std.proofs.Common.{Some, sym, ap, ap₂}
use Rattle.std.proofs.Common.{Option, None, IsSomeAnd, All, take, max, chars, Bool, true, false, refl, ⊎_elim}
use Rattle.std.proofs.Common.{◌∙◌, subst, Bor, arith}
use Rattle.std.proofs.lemmas.List.{get_or-map, length-map, map-append, take-map, take_more}
use Rattle.std.proofs.lemmas.List.Elements.{All-append}
use Rattle.std.proofs.lemmas.List.Folds.{list_any_at}
use Rattle.std.proofs.Math.Seq.{take-length}
use Rattle.std.specs.List.{list_any}
use Rattle.std.specs.Prelude.{IfSome}
use Rattle.std.proofs.lemmas.Option.{slice_get-get_or}
use Rattle.std.specs.Str.{IsUtf8, IsCharBoundary}
use Rattle.std.proofs.lemmas.Str.{IsCharBoundary-start, IsCharBoundary-end}
use Rattle.regex_hir.specs.Meaning.{meaning}
use Rattle.regex_hir.specs.Re.{Re}
use Rattle.regex_hir.specs.declared.hir.Hir.{Hir}
use Rattle.regex_syntax.specs.Brackets.{Nested}
use Rattle.regex_syntax.specs.Captures.{SameCaptures}
use Rattle.regex_syntax.specs.Grammar.{Names, group_count, read}
use Rattle.regex_syntax.specs.Verdict.{Reads, Refuses}
use Rattle.regex_syntax.specs.declared.Config.{Config}
use Rattle.regex_syntax.specs.declared.error.Error as parser
use Rattle.regex_syntax.specs.declared.error.ErrorKind.{ErrorKind}
use Rattle.regex_syntax.specs.declared.error.ErrorKind.TheVariants.{OutOfMemory}
use Rattle.grep_regex.specs.Patterns.{config_of, text_of, escape_of, IsPattern, ArePatterns, groups_in, groups_of}
use Rattle.grep_regex.specs.Patterns.{most_groups}
use Rattle.grep_regex.specs.Refusals.{IsTextError, IsTextsError, IsOfParser, IsSyntax}
use Rattle.grep_regex.specs.declared.error.Error.{Error}
use Rattle.grep_regex.specs.declared.error.Error.TheVariants.{Syntax, NotAllowed}
use Rattle.grep_regex.specs.declared.error.Error.TheVariants.{InvalidLineTerminator, TooBig, Memory}
use Rattle.grep_regex.specs.declared.options.Options.{Options}

-- ---- what is a pattern, and what isn't

module _ (config : Config) (text : List ℕ) where
  -- what the grammar reads, as a contract of the parser says of it
  abbrev found : Option (Nested Re × Names)
  found = read config (chars text)

  is-read : (o : Option (Nested Re × Names)) (most : ℕ) (a : Re) (m : Names)
      → IsSomeAnd o (λ (re, names). (re.depth ≤ most) × SameCaptures a re.value × (m ≡ names)
      × (group_count a ≤ length m))
      → IsSomeAnd o (λ (re, names). re.depth ≤ most) × (length m ≡ groups_in o)
  is-read None most a m p = absurd p
  is-read (Some it) most a m p = (p.0, ap (λ (l : Names). length l) p.2)

  pub reads-pattern : (hir : Hir) (names : Names) → Reads config text hir names → IsPattern config text
  unfolding Reads
  reads-pattern hir names p = (is-read found config.nest_limit (meaning hir) names p).0

  reads-groups : (hir : Hir) (names : Names) → Reads config text hir names → length names ≡ groups_in found
  unfolding Reads
  reads-groups hir names p = (is-read found config.nest_limit (meaning hir) names p).1

  too-deep : (o : Option (Nested Re × Names)) (most : ℕ) → IfSome o (λ (re, names). most < re.depth)
      → IsSomeAnd o (λ (re, names). re.depth ≤ most) → ⊥
  too-deep None most deep p = p
  too-deep (Some it) most deep p = omega (arith, deep, p)

  pub refused-wrong : (kind : ErrorKind) → Refuses config text kind → kind ≢ OutOfMemory → IsPattern config text → ⊥
  unfolding Refuses
  refused-wrong kind refused other p = ⊎_elim other
      (λ rest. ⊎_elim
      (λ none. subst (λ o. IsSomeAnd o (λ (re, names). re.depth ≤ config.nest_limit)) none p)
      (λ deep. too-deep found config.nest_limit deep.1 p)
      rest) refused

-- a pattern that isn't a literal is read as it is
pub own-text : (o : Options) (pattern : List ℕ) → o.fixed_strings ≡ false → text_of o pattern ≡ pattern
own-text o pattern other = rw other refl

-- ---- texts, one after another

module _ (patterns : List (Bor (List ℕ))) (i : ℕ) where
  abbrev texts : List (Bor (List ℕ)) → List (List ℕ)
  texts ps = map (λ (p : Bor (List ℕ)). p.now) ps

  pub all-texts : (P : List ℕ → Type 0) → i ≡ length patterns → All P (texts (take i patterns)) → All P (texts patterns)
  all-texts P end = subst (λ ps. All P (texts ps)) (ap (λ n. take n patterns) end ∙ take-length patterns)

  module _ (d : Bor (List ℕ)) (inside : i < length patterns) where
    texts-more : texts (take (i + 1) patterns) ≡ texts (take i patterns) ++ (get_or patterns i d).now ∷ []
    texts-more = ap texts (take_more patterns i d inside)
        ∙ map-append (λ (p : Bor (List ℕ)). p.now) (take i patterns) (get_or patterns i d ∷ [])

    only : (P : List ℕ → Type 0) (x : List ℕ) → P x → All P (x ∷ [])
    only P x p = λ k other low. let first : k ≡ 0 = omega arith in
        subst (λ j. P (get_or (x ∷ []) j other)) (sym first) p

    pub all-texts-more : (P : List ℕ → Type 0) → All P (texts (take i patterns)) → P (get_or patterns i d).now
        → All P (texts (take (i + 1) patterns))
    all-texts-more P front here = subst (All P) (sym texts-more)
        (All-append P (texts (take i patterns)) ((get_or patterns i d).now ∷ []) front
        (only P (get_or patterns i d).now here))

    pub any-text : (p : List ℕ → Bool) → p (get_or patterns i d).now ≡ true → list_any p (texts patterns) ≡ true
    any-text p has =
        let size : i < length (texts patterns) = omega (arith, length-map patterns (λ (p : Bor (List ℕ)). p.now)) in
        list_any_at p (texts patterns) i [] size
        (ap p (get_or-map (λ (p : Bor (List ℕ)). p.now) patterns i d [] inside) ∙ has)

module _ (o : Options) (patterns : List (Bor (List ℕ))) (i : ℕ) (d : Bor (List ℕ)) (inside : i < length patterns) where
  pub patterns-more : ArePatterns o (texts patterns i (take i patterns))
      → IsPattern (config_of o) (text_of o (get_or patterns i d).now)
      → ArePatterns o (texts patterns i (take (i + 1) patterns))
  patterns-more = all-texts-more patterns i d inside (λ p. IsPattern (config_of o) (text_of o p))

  most-push : (xs : List (List ℕ)) (x : List ℕ) → most_groups o (xs ++ x ∷ []) ≡ max (most_groups o xs) (groups_of o x)
  most-push [] x = omega arith
  most-push (y ∷ xs) x = omega (arith, most-push xs x)

  pub groups-more : (hir : Hir) (names : Names) (groups : ℕ)
      → Reads (config_of o) (text_of o (get_or patterns i d).now) hir names
      → groups ≡ most_groups o (texts patterns i (take i patterns))
      → max groups (length names) ≡ most_groups o (texts patterns i (take (i + 1) patterns))
  groups-more hir names groups read front =
      ap₂ max front (reads-groups (config_of o) (text_of o (get_or patterns i d).now) hir names read)
      ∙ (sym (most-push (texts patterns i (take i patterns)) (get_or patterns i d).now)
      ∙ ap (most_groups o) (sym (texts-more patterns i d inside)))

-- the error of one of the texts is one of the texts
pub texts-error : (o : Options) (patterns : List (Bor (List ℕ))) (i : ℕ) (d : Bor (List ℕ)) (error : Error)
    → i < length patterns → ArePatterns o (map (λ p. p.now) (take i patterns)) →
    IsTextError (config_of o) i (text_of o (get_or patterns i d).now) (get_or patterns i d).now error
    → IsTextsError o (map (λ p. p.now) patterns) error
texts-error o patterns i d (Syntax pattern error) inside front p =
    let texts : List (List ℕ) = map (λ p. p.now) patterns in
    let size : i < length texts = omega (arith, length-map patterns (λ (p : Bor (List ℕ)). p.now)) in (
      (get_or patterns i d).now,
      subst (λ k. slice_get texts k ≡ Some (get_or patterns i d).now) (sym p.0)
          (slice_get-get_or texts i [] size ∙ ap Some (get_or-map (λ (p : Bor (List ℕ)). p.now) patterns i d []
          inside)),
      subst (λ k. ArePatterns o (take k texts)) (sym p.0)
          (subst (ArePatterns o) (sym (take-map (λ (p : Bor (List ℕ)). p.now) i patterns)) front),
      p.1,
    )
texts-error o patterns i d (NotAllowed byte) inside front p = absurd p
texts-error o patterns i d (InvalidLineTerminator byte) inside front p = absurd p
texts-error o patterns i d TooBig inside front p = absurd p
texts-error o patterns i d Memory inside front p = tt

-- the error for one of the parser at a pattern
pub pattern-error : (config : Config) (index : ℕ) (pattern : List ℕ) (given : parser.Error) (error : Error)
    → Refuses config pattern given.kind
    → (given.span.start ≤ given.span.end) × IsCharBoundary pattern given.span.start
    × IsCharBoundary pattern given.span.end
    → IsOfParser index given error → IsTextError config index pattern pattern error
pattern-error config index pattern given (Syntax of error) refused span p = (
  p.0,
  subst (IsSyntax config pattern pattern) (sym p.1) (record {
    wrong = refused-wrong config pattern given.kind refused p.2;
    refused = refused;
    kind = p.2;
    ordered = span.0;
    start = span.1;
    end = span.2;
  }),
)
pattern-error config index pattern given (NotAllowed byte) refused span p = absurd p
pattern-error config index pattern given (InvalidLineTerminator byte) refused span p = absurd p
pattern-error config index pattern given TooBig refused span p = absurd p
pattern-error config index pattern given Memory refused span p = tt

-- the error for one of the parser at a literal, which the literal is as a whole
abbrev pub whole-error : ErrorKind → List ℕ → parser.Error
whole-error kind literal = record { kind = kind; span = record { start = 0; end = length literal } }

pub literal-error : (config : Config) (index : ℕ) (literal text : List ℕ) (kind : ErrorKind) (error : Error)
    → IsUtf8 literal → text ≡ escape_of literal → Refuses config text kind
    → IsOfParser index (whole-error kind literal) error → IsTextError config index (escape_of literal) literal error
literal-error config index literal text kind (Syntax pattern error) utf8 is refused p = (
  p.0,
  subst (IsSyntax config (escape_of literal) literal) (sym p.1) (record {
    wrong = refused-wrong config (escape_of literal) kind (subst (λ t. Refuses config t kind) is refused) p.2;
    refused = subst (λ t. Refuses config t kind) is refused;
    kind = p.2;
    ordered = omega arith;
    start = IsCharBoundary-start literal utf8;
    end = IsCharBoundary-end literal;
  }),
)
literal-error config index literal text kind (NotAllowed byte) utf8 is refused p = absurd p
literal-error config index literal text kind (InvalidLineTerminator byte) utf8 is refused p = absurd p
literal-error config index literal text kind TooBig utf8 is refused p = absurd p
literal-error config index literal text kind Memory utf8 is refused p = tt
