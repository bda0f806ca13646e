-- What is compiled matches as the texts of the patterns say.
use Rattle.std.proofs.Common.{◌≡◌, ℕ, ◌+◌, ◌<◌, ◌≤◌, Bool, true, false, cond, List, [], ◌∷◌, ◌++◌}
use Rattle.std.proofs.Common.{length, map, get_or}
use Rattle.std.proofs.Common.{Option, Some, None, IsSomeAnd, refl, sym, ap, ◌∙◌, subst, arith}
use Rattle.std.proofs.Common.{chars}
use Rattle.std.proofs.Common.{length-append, slice_get, take, Bor}
use Rattle.std.proofs.lemmas.List.{take_more, map-append}
use Rattle.std.specs.Option.{option_or}
use Rattle.regex_class.specs.Ranges.{in_ranges}
use Rattle.regex_hir.specs.Meaning.{meaning, alt_all}
use Rattle.regex_hir.specs.Re.{Re, Trace, byte_in, alt, attempt}
use Rattle.regex_hir.specs.Text.{is_some_and}
use Rattle.regex_hir.specs.declared.hir.Hir.{Hir}
use Rattle.regex_hir.specs.declared.look.Look.{Look}
use Rattle.regex_hir.specs.declared.look.Look.TheVariants.{StartLf, EndLf, StartCrlf, EndCrlf}
use Rattle.regex_hir.specs.declared.look.Look.TheVariants.{WordStartHalfAscii, WordEndHalfAscii}
use Rattle.regex_hir.specs.declared.look.Look.TheVariants.{WordStartHalfUnicode, WordEndHalfUnicode}
use Rattle.regex_hir.proofs.OptionLemmas.{option_or-None}
use Rattle.regex_syntax.specs.Brackets.{Nested}
use Rattle.regex_syntax.specs.Captures.{outcome, SameCaptures}
use Rattle.regex_syntax.specs.Grammar.{Names, group_count, read}
use Rattle.regex_syntax.specs.Verdict.{Reads}
use Rattle.regex_syntax.specs.declared.Config.{Config}
use Rattle.regex_syntax.proofs.CapturesLemmas.{alike_refl, alike_of_eq, alike_cat, alike_alt}
use Rattle.regex_syntax.proofs.CapturesLemmas.{◌also◌}
use Rattle.grep_regex.specs.Alike.{AreAlike}
use Rattle.grep_regex.specs.Patterns.{config_of, text_of, framed, between, re_of, read_re}
use Rattle.grep_regex.specs.Patterns.{written_re, excluded_bytes, FindsAs}
use Rattle.grep_regex.specs.Stripped.{IsStripped}
use Rattle.grep_regex.specs.declared.options.Options.{Options}
use Rattle.grep_regex.proofs.FindLemmas.{captures-stripped, find-stripped}

read-alike : (o : Option (Nested Re × Names)) (most : ℕ) (a : Re) (m : Names) →
    IsSomeAnd o (λ (re, found). (re.depth ≤ most) × SameCaptures a re.value × (m ≡ found) × (group_count a ≤ length m))
    →
    SameCaptures a (re_of o)
read-alike None most a m p = absurd p
read-alike (Some found) most a m p = p.1

-- what was read in a text matches as the grammar reads it
pub reads-alike : (config : Config) (text : List ℕ) (hir : Hir) (names : Names) → Reads config text hir names →
    SameCaptures (meaning hir) (re_of (read config (chars text)))
unfolding Reads
reads-alike config text hir names p = read-alike (read config (chars text)) config.nest_limit (meaning hir) names p

between-alike : (before after : Look) {a b : Re} → SameCaptures a b
    → SameCaptures (between before after a) (between before after b)
between-alike before after p = alike_cat (alike_refl _) (alike_cat p (alike_refl _))

pub framed-alike : (o : Options) {a b : Re} → SameCaptures a b → SameCaptures (framed o a) (framed o b)
framed-alike o {a} {b} p = by-cases o.whole_line o.crlf o.word o.unicode
  where
    by-cases : (w r x u : Bool) → SameCaptures
        (cond w (cond r (between StartCrlf EndCrlf a) (between StartLf EndLf a))
        (cond x (cond u (between WordStartHalfUnicode WordEndHalfUnicode a)
        (between WordStartHalfAscii WordEndHalfAscii a)) a))
        (cond w (cond r (between StartCrlf EndCrlf b) (between StartLf EndLf b))
        (cond x (cond u (between WordStartHalfUnicode WordEndHalfUnicode b)
        (between WordStartHalfAscii WordEndHalfAscii b)) b))
    by-cases true true x u = between-alike _ _ p
    by-cases true false x u = between-alike _ _ p
    by-cases false r true true = between-alike _ _ p
    by-cases false r true false = between-alike _ _ p
    by-cases false r false u = p

-- ---- choices

pub alike-alt_all : (xs ys : List Re) → AreAlike xs ys → SameCaptures (alt_all xs) (alt_all ys)
alike-alt_all [] [] p = alike_refl _
alike-alt_all [] (y ∷ ys) p = absurd p
alike-alt_all (x ∷ xs) [] p = absurd p
alike-alt_all (x ∷ xs) (y ∷ ys) p = alike_alt p.0 (alike-alt_all xs ys p.1)

pub alike-more : (xs ys : List Re) (a b : Re) → AreAlike xs ys → SameCaptures a b
    → AreAlike (xs ++ a ∷ []) (ys ++ b ∷ [])
alike-more [] [] a b p q = (q, tt)
alike-more [] (y ∷ ys) a b p q = absurd p
alike-more (x ∷ xs) [] a b p q = absurd p
alike-more (x ∷ xs) (y ∷ ys) a b p q = (p.0, alike-more xs ys a b p.1 q)

-- what was read of the first texts matches alike, and so does what is read of the next
pub reads-more : (o : Options) (patterns : List (Bor (List ℕ))) (hirs after : List Hir) (i : ℕ) (d : Bor (List ℕ))
    (hir : Hir) (names : Names) →
    i < length patterns → AreAlike (map meaning hirs) (map (read_re o) (map (λ p. p.now) (take i patterns))) →
    Reads (config_of o) (text_of o (get_or patterns i d).now) hir names → after ≡ hirs ++ hir ∷ [] →
    AreAlike (map meaning after) (map (read_re o) (map (λ p. p.now) (take (i + 1) patterns)))
reads-more o patterns hirs after i d hir names inside p read is =
    subst (λ x. AreAlike x (map (read_re o) (map (λ p. p.now) (take (i + 1) patterns))))
    (sym (ap (map meaning) is ∙ map-append meaning hirs (hir ∷ [])))
    (subst (λ x. AreAlike (map meaning hirs ++ meaning hir ∷ []) x)
    (sym (ap (λ l. map (read_re o) (map (λ (p : Bor (List ℕ)). p.now) l)) (take_more patterns i d inside)
    ∙ (ap (map (read_re o)) (map-append (λ (p : Bor (List ℕ)). p.now) (take i patterns) (get_or patterns i d ∷ []))
    ∙ map-append (read_re o) (map (λ (p : Bor (List ℕ)). p.now) (take i patterns)) ((get_or patterns i d).now ∷ []))))
    (alike-more (map meaning hirs) (map (read_re o) (map (λ p. p.now) (take i patterns))) (meaning hir)
    (read_re o (get_or patterns i d).now) p (reads-alike (config_of o) (text_of o (get_or patterns i d).now) hir names
    read)))

-- a choice of one is that one
nothing-in : (o : Option ℕ) (t : Option Trace) → cond (is_some_and o (in_ranges [])) t None ≡ None
unfolding in_ranges
nothing-in None t = refl
nothing-in (Some x) t = refl

alike-single : (a : Re) → SameCaptures a (alt a (byte_in []))
unfolding attempt
alike-single a = record {
  at = λ hay small k i. ap outcome (sym (option_or-None (attempt hay a k i))
      ∙ ap (option_or (attempt hay a k i)) (sym (nothing-in (slice_get hay i) (k (i + 1)))));
}

-- the last of some trees, which are one, is their choice
pub alike-only : (front : List Hir) (only : Hir) (hirs : List Hir) → hirs ≡ front ++ only ∷ [] → length hirs ≡ 1 →
    SameCaptures (meaning only) (alt_all (map meaning hirs))
alike-only [] only hirs e one = alike-single (meaning only) also alike_of_eq (ap (λ l. alt_all (map meaning l)) (sym e))
alike-only (x ∷ front) only hirs e one = absurd (omega (arith, ap length e, length-append front (only ∷ []), one))

-- ---- what is compiled

-- the pattern that was read, in its frame, matches as the texts say
pub written-alike : (o : Options) (patterns : List (List ℕ)) (hir whole : Re)
    → SameCaptures hir (alt_all (map (read_re o) patterns)) → whole ≡ framed o hir
    → SameCaptures whole (written_re o patterns)
written-alike o patterns hir whole read is = alike_of_eq is also framed-alike o read

-- and without the bytes it finds what they say
pub finds-as : (o : Options) (patterns : List (List ℕ)) (whole stripped : Re)
    → SameCaptures whole (written_re o patterns)
    → IsStripped (excluded_bytes o.line_terminator) whole stripped → FindsAs o patterns stripped
finds-as o patterns whole stripped reads thin = record {
  at = λ haystack start small from. find-stripped (excluded_bytes o.line_terminator) whole stripped
      (written_re o patterns) thin reads haystack start small from;
  captures = λ count haystack start small from. captures-stripped count (excluded_bytes o.line_terminator) whole
      stripped (written_re o patterns) thin reads haystack start small from;
}
