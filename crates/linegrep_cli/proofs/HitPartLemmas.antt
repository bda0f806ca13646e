-- The matches that are the lines that hit, as the texts of their parts.
use Rattle.std.proofs.Common.{◌≡◌, ◌∙◌, ℕ, ◌-◌, true, false, List, [], ◌∷◌}
use Rattle.std.proofs.Common.{arith}
use Rattle.std.proofs.Common.{Option, ap, if◌then◌else◌, length, refl, subst, sym}
use Rattle.std.proofs.lemmas.List.Elements.{All-weaker}
use Rattle.std.proofs.lemmas.List.Folds.{flat_map-map}
use Rattle.std.specs.List.{flat_map}
use Rattle.std.specs.Prelude.{◌==◌, All}
use Rattle.grep_matcher.specs.Lines.{byte_of, lines}
use Rattle.grep_matcher.specs.Meanings.{Meaning}
use Rattle.grep_printer.specs.CallParts.{parts_of_call}
use Rattle.grep_printer.specs.Formats.{Scene}
use Rattle.grep_printer.specs.LineTexts.{plain_line, plain_part}
use Rattle.grep_replace.specs.MatchedParts.{first_from, parts_in}
use Rattle.grep_printer.specs.StandardTexts.{layout_of, report_text}
use Rattle.grep_printer.specs.declared.config.Config.{Config}
use Rattle.grep_regex.specs.PatternFirstMatches.{first-matches}
use Rattle.grep_regex.specs.Views.{regex_first_at, regex_options, regex_patterns}
use Rattle.grep_regex.specs.declared.regex.Regex.{Regex}
use Rattle.grep_searcher.specs.HitLines.{hit_lines, hit_matches}
use Rattle.grep_searcher.specs.Lines.{strip}
use Rattle.grep_searcher.specs.Plans.{Call, Settings, is_across, start}
use Rattle.grep_searcher.specs.SearchLaws.{number_of}
use Rattle.grep_searcher.specs.declared.LineTerminator.{LineTerminator}
use Rattle.grep_searcher.specs.declared.LineTerminator.TheVariants.{Byte}
use Rattle.linegrep_cli.proofs.HitTextLemmas.{all-alone, call-of, flat_map-agree, hits-are}
use Rattle.linegrep_cli.proofs.HitTextLemmas.{hits-placed, hits-unplaced}
use Rattle.grep_printer.proofs.PartLineLemmas.{Lies, from-first, parts-lie, parts-plain}
use Rattle.linegrep_cli.proofs.PlainTextLemmas.{WritesLines}
use Rattle.linegrep_cli.specs.Corollaries.{lines_of_matches}

module _ (k : Settings) (meaning : Meaning) (bytes : List ℕ) (regex : Regex)
    (first_at : List ℕ → ℕ → Option (ℕ × ℕ)) (first-is : first_at ≡ regex_first_at regex)
    (by-line : is_across k meaning ≡ false) (feeds : k.line_terminator ≡ Byte 10)
    (unnumbered : k.line_number ≡ false) (scene : Scene) (same : scene.settings ≡ k)
    (config : Config) (writes : WritesLines config scene) (only : config.only_matching ≡ true) where
  -- the successive matches in a line, by its terminator
  abbrev places : LineTerminator → List ℕ → List (ℕ × ℕ)
  places terminator line = parts_in (first_from (regex_first_at regex (strip terminator line)) 0)
      (length (strip terminator line)) (length line)

  abbrev parts-of : Call → List (ℕ × ℕ)
  parts-of call = parts_of_call k meaning call first_at

  places-are : (one : ℕ × List ℕ) → parts-of (call-of k meaning bytes one) ≡ places k.line_terminator one.1
  places-are one = rw (by-line, first-is) (ap
      (λ size. parts_in (first_from (regex_first_at regex (strip k.line_terminator one.1)) 0) size
      (length one.1)) (none-less (length (strip k.line_terminator one.1))))
    where
      none-less : (n : ℕ) → n - 0 ≡ n
      none-less n = omega arith

  places-lie : (line : List ℕ)
      → All (Lies (length (strip k.line_terminator line)) (length line)) (places k.line_terminator line)
  places-lie line =
      let seen = strip k.line_terminator line in
      parts-lie (first_from (regex_first_at regex seen) 0) (length seen) (length line)
      (from-first seen (regex_first_at regex seen)
      (λ position low. (first-matches (regex_options regex) (regex_patterns regex) seen).within position low))

  -- the text of a line, by its terminator, its number and its parts
  abbrev text-by : LineTerminator → Option ℕ → List ℕ → List (ℕ × ℕ) → List ℕ
  text-by terminator number line parts = if length parts == 0
      then plain_line (byte_of terminator) 58 number line
      else flat_map (plain_part (byte_of terminator) 58 number line) parts

  abbrev shown : Call → List ℕ
  shown call = report_text (layout_of config scene) call (parts-of call)

  line-shown : (one : ℕ × List ℕ) → lines (byte_of k.line_terminator) one.1 ≡ one.1 ∷ []
      → shown (call-of k meaning bytes one) ≡ lines_of_matches regex one.1
  line-shown one alone =
      let terminator : scene.settings.line_terminator ≡ k.line_terminator =
      ap (λ (s : Settings). s.line_terminator) same in
      ap (report_text (layout_of config scene) (call-of k meaning bytes one)) (places-are one)
      ∙ (parts-plain (layout_of config scene) writes.plain (number_of k one.0) (start k bytes one.0) one.1
      only (subst (λ (t : LineTerminator). lines (byte_of t) one.1 ≡ one.1 ∷ []) (sym terminator) alone)
      (places k.line_terminator one.1)
      (subst (λ (t : LineTerminator). All (Lies (length (strip t one.1)) (length one.1))
      (places k.line_terminator one.1)) (sym terminator) (places-lie one.1))
      ∙ (ap (λ (t : LineTerminator). text-by t (number_of k one.0) one.1 (places k.line_terminator one.1))
      terminator
      ∙ (ap (λ (t : LineTerminator). text-by t (number_of k one.0) one.1 (places t one.1)) feeds
      ∙ rw unnumbered refl)))

  -- without numbers the texts are those of the lines alone
  pub parts-texts : flat_map shown (hit_matches k meaning bytes)
      ≡ flat_map (lines_of_matches regex) (hit_lines k meaning bytes)
  parts-texts =
      ap (flat_map shown) (hits-are k meaning bytes)
      ∙ (flat_map-map shown (call-of k meaning bytes) (hits-placed k meaning bytes)
      ∙ (flat_map-agree (λ one. shown (call-of k meaning bytes one)) (λ one. lines_of_matches regex one.1)
      (hits-placed k meaning bytes)
      (All-weaker (λ (one : ℕ × List ℕ). lines (byte_of k.line_terminator) one.1 ≡ one.1 ∷ [])
      (λ one. shown (call-of k meaning bytes one) ≡ lines_of_matches regex one.1) line-shown
      (hits-placed k meaning bytes) (all-alone k meaning bytes))
      ∙ (sym (flat_map-map (lines_of_matches regex) (λ (one : ℕ × List ℕ). one.1)
      (hits-placed k meaning bytes))
      ∙ ap (flat_map (lines_of_matches regex)) (hits-unplaced k meaning bytes))))
