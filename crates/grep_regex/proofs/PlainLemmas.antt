-- What is read in a pattern without a meaning of its own: its text.
use Rattle.std.proofs.Common.{◌≡◌, ℕ, ◌≤◌, true, false, cond, List, [], ◌∷◌, not, refl, sym, ap}
use Rattle.std.proofs.Common.{◌∙◌, subst}
use Rattle.std.proofs.Common.{⊎_elim, Option, Some, None, IsSomeAnd, chars, IsUtf8, encode_utf8_all}
use Rattle.std.proofs.lemmas.Bool.{and_parts, or_parts, cases_Bool, cond-true, cond-false, not-true}
use Rattle.std.proofs.lemmas.Str.{encodes-chars}
use Rattle.std.specs.List.{list_any}
use Rattle.regex_hir.specs.Re.{Re, literal}
use Rattle.regex_syntax.specs.Brackets.{Nested}
use Rattle.regex_syntax.specs.Captures.{SameCaptures}
use Rattle.regex_syntax.specs.Grammar.{Names, read}
use Rattle.regex_syntax.specs.Verdict.{is_meta, escaped_text, ReadsAsText}
use Rattle.regex_syntax.proofs.EscapeLemmas.{escaped_reads}
use Rattle.grep_regex.specs.AbsentBytes.{is_plain}
use Rattle.grep_regex.specs.Patterns.{config_of, text_of, escape_of, re_of, read_re}
use Rattle.grep_regex.specs.declared.options.Options.{Options}

-- a text without a character that is escaped is its own escape
escaped-same : (cs : List ℕ) → list_any is_meta cs ≡ false → escaped_text cs ≡ cs
escaped-same [] none = refl
escaped-same (c ∷ cs) none =
    let parts = or_parts (is_meta c) (list_any is_meta cs) none in
    rw parts.0 (ap (λ l. c ∷ l) (escaped-same cs parts.1))

read-some : (o : Option (Nested Re × Names)) (text : List ℕ)
    → IsSomeAnd o (λ (re, names). (re.depth ≤ 1) × SameCaptures re.value (literal text) × (names ≡ None ∷ []))
    → SameCaptures (re_of o) (literal text)
read-some None text p = absurd p
read-some (Some found) text p = p.1

module _ (o : Options) (pattern : List ℕ) (utf8 : IsUtf8 pattern) (plain : is_plain o pattern ≡ true) where
  -- what is read is the escape of the text
  text-is : text_of o pattern ≡ escape_of pattern
  text-is = ⊎_elim
      (λ fixed. cond-true o.fixed_strings (escape_of pattern) pattern fixed)
      (λ free.
      let own = and_parts (not o.ignore_whitespace) _ (rw free at plain) in
      cond-false o.fixed_strings (escape_of pattern) pattern free
      ∙ sym (ap encode_utf8_all (escaped-same (chars pattern) (not-true _ own.1)) ∙ encodes-chars pattern utf8))
      (cases_Bool o.fixed_strings)

  dense : cond o.fixed_strings false o.ignore_whitespace ≡ false
  dense = ⊎_elim
      (λ fixed. cond-true o.fixed_strings false o.ignore_whitespace fixed)
      (λ free.
      let own = and_parts (not o.ignore_whitespace) _ (rw free at plain) in
      cond-false o.fixed_strings false o.ignore_whitespace free ∙ not-true _ own.0)
      (cases_Bool o.fixed_strings)

  -- so it matches as its own text does
  pub reads-plain : o.case_insensitive ≡ false → SameCaptures (read_re o pattern) (literal pattern)
  unfolding ReadsAsText
  reads-plain exact = subst (λ text. SameCaptures (re_of (read (config_of o) (chars text))) (literal pattern))
      (sym text-is)
      (read-some (read (config_of o) (chars (escape_of pattern))) pattern
      (escaped_reads pattern utf8 (config_of o) exact dense))
