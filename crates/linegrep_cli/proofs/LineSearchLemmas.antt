-- What a search of bytes without a NUL prints that reports matches alone: with a printer of lines,
-- the texts of the lines that hit.
use Rattle.std.proofs.Common.{◌≡◌, ◌∙◌, ℕ, ◌+◌, Bool, true, false, List, [], ◌++◌}
use Rattle.std.proofs.Common.{Option, None, ap, ap₂, arith, if◌then◌else◌, length, refl, subst, sym}
use Rattle.std.proofs.Math.Bool.{or-true}
use Rattle.std.proofs.lemmas.List.{append-nil}
use Rattle.std.specs.List.{flat_map}
use Rattle.std.specs.Prelude.{◌&&◌, ◌||◌, nat_lt, not}
use Rattle.grep_matcher.specs.Lines.{byte_of}
use Rattle.grep_printer.specs.CountedTexts.{counted_rules}
use Rattle.grep_printer.specs.Formats.{AreAlong, Printed, PrintedCall, Rules, Scene}
use Rattle.grep_printer.specs.CallParts.{has_match, parts_of_call}
use Rattle.grep_printer.specs.StandardTexts.{asks_for_parts, call_text, layout_of, progress_after}
use Rattle.grep_printer.specs.StandardTexts.{report_text, standard_rules}
use Rattle.grep_printer.specs.declared.config.Config.{Config}
use Rattle.grep_printer.specs.declared.counted.CountedFormat.{CountedFormat}
use Rattle.grep_printer.specs.declared.hyperlinks.PrinterPath.{PrinterPath}
use Rattle.grep_printer.specs.declared.standard.StandardFormat.{StandardFormat}
use Rattle.grep_searcher.specs.HitLines.{hit_matches}
use Rattle.grep_searcher.specs.Meanings.{MatcherFacts}
use Rattle.grep_searcher.specs.Plans.{Call, Plan, Settings, begins, binary_data, breaks, context}
use Rattle.grep_searcher.specs.Plans.{finishes, is_across, matches, search_plan}
use Rattle.grep_searcher.specs.Searches.{BinaryPoint, look_of, plan_with, viewed_plan}
use Rattle.grep_searcher.specs.SearchLaws.{is_match}
use Rattle.linegrep_cli.proofs.MatchPlanLemmas.{match-plan}
use Rattle.linegrep_cli.proofs.MatchWalkLemmas.{AreSteps, IsMade, match-walk, printed_of}
use Rattle.linegrep_cli.proofs.PlainSettingLemmas.{ArePlainSettings}
use Rattle.linegrep_cli.proofs.PlainTextLemmas.{IsPartFormat, IsPlainFormat, WritesLines, end-none}
use Rattle.linegrep_cli.proofs.PlainTextLemmas.{part-steps, plain-text, standard-steps}
use Rattle.linegrep_cli.proofs.TextSearchLemmas.{HasNoNul, no-point, same-plan}
use Rattle.linegrep_cli.specs.SearchTexts.{Findings, HasAsked, IsCountedText, IsTextOf}

abbrev made-of : {F : Type 0} → F → List ℕ → Printed F
made-of format text = record { format = format; text = text }

module _ {M E : Type 0} (facts : M → MatcherFacts E) (first_at : M → List ℕ → ℕ → Option (ℕ × ℕ))
    (k : Settings) (matcher : M) (path : Option PrinterPath) (text : List ℕ)
    (plain : ArePlainSettings k) (none : HasNoNul text) where
  abbrev scene : Scene
  scene = record { path = path; settings = k }

  abbrev found : List Call
  found = hit_matches k (facts matcher).meaning text

  abbrev plan : Plan
  plan = search_plan k (facts matcher).meaning text

  pub by-line : is_across k (facts matcher).meaning ≡ false
  by-line = rw plain.single refl

  -- what is made of the matches, by any rules under which a search goes on after each, or ends at
  -- the first
  pub search-made : {F : Type 0} (rules : Rules F) (Good : ℕ → F → Type 0) (text-of : Call → List ℕ)
      (on : Bool) (begun last : F) (written : List ℕ)
      → AreSteps rules scene (HasAsked rules facts first_at k matcher path) Good text-of on
      → Good 0 begun → IsTextOf rules facts first_at k matcher path begun text last written
      → IsMade rules scene (HasAsked rules facts first_at k matcher path) Good text-of
      (record { format = begun; text = [] }) 0 (printed_of found on)
      (record { format = last; text = written })
  search-made {F} rules Good text-of on begun last written steps good of =
      let look = look_of k (facts matcher).meaning false in
      let unpointed : of.point ≡ None =
      no-point k (facts matcher).meaning text plain.looks none by-line of.count
      (viewed_plan k (facts matcher).meaning look text).calls of.point of.is_point in
      let same : plan_with k.binary_detection of.point (viewed_plan k (facts matcher).meaning look text)
      ≡ plan =
      ap (λ (p : Option BinaryPoint). plan_with k.binary_detection p
      (viewed_plan k (facts matcher).meaning look text)) unpointed
      ∙ same-plan k (facts matcher).meaning text plain.looks none look in
      subst (IsMade rules scene (HasAsked rules facts first_at k matcher path) Good text-of
      (record { format = begun; text = [] }) 0 (printed_of found on))
      (sym (ap₂ made-of of.last_is of.text_is))
      (match-walk rules scene (HasAsked rules facts first_at k matcher path) Good text-of on steps plan
      found begun of.printed (match-plan k (facts matcher).meaning text plain.reports by-line) good
      (subst (λ (p : Plan). AreAlong rules scene (HasAsked rules facts first_at k matcher path) begun
      p.calls p.finish of.printed) same of.along))

  -- a printer of lines writes the texts of the matches, and has found something if there is one
  pub lines-searched : (format : CountedFormat StandardFormat) (findings : Findings)
      → WritesLines format.format.config scene → format.format.config.only_matching ≡ false
      → IsCountedText facts first_at k matcher path text standard_rules format false findings
      → (findings.text ≡ flat_map (plain-text (byte_of k.line_terminator)) found)
      × (findings.found ≡ nat_lt 0 (length found))
  lines-searched format findings writes whole counted =
      let rules = counted_rules standard_rules in
      let texts = flat_map (plain-text (byte_of k.line_terminator)) found in
      let made = search-made rules (IsPlainFormat scene) (plain-text (byte_of k.line_terminator)) true
      (rules.begun format false) counted.last findings.text
      (standard-steps scene (HasAsked rules facts first_at k matcher path))
      (record {
        writes = writes;
        whole = whole;
        progress = record { first = refl; no_binary = refl; found = refl };
      }) counted.of in
      let config = made.before.format.config in
      let progress = made.before.format.progress in
      let at-end : call_text config progress scene made.last.call made.last.parts ≡ [] =
      ap (λ (call : Call). call_text config progress scene call made.last.parts) made.last_is
      ∙ end-none config progress scene made.bytes made.last.parts in
      let sum : 0 + length found ≡ length found = omega arith in (
        made.text_is ∙ (ap (λ (t : List ℕ). texts ++ t) at-end ∙ append-nil texts),
        counted.found_is
            ∙ (ap (λ (f : CountedFormat StandardFormat). f.format.progress.has_match) made.format_is
            ∙ (ap (λ (call : Call). (progress_after progress call).has_match) made.last_is
            ∙ (made.good.progress.found ∙ ap (λ n. nat_lt 0 n) sum))),
      )

  -- the parts of a match that are written in place of its lines
  abbrev pub parts-of : Call → List (ℕ × ℕ)
  parts-of call = parts_of_call k (facts matcher).meaning call (first_at matcher)

  asked-parts : k.invert_match ≡ false → (config : Config) → config.only_matching ≡ true
      → (counted : CountedFormat StandardFormat) (printed : PrintedCall)
      → counted.format.config ≡ config → is_match printed.call ≡ true
      → HasAsked (counted_rules standard_rules) facts first_at k matcher path counted printed
      → printed.parts ≡ parts-of printed.call
  asked-parts plainly config only counted printed same hit asked =
      asked ∙ ap (λ (b : Bool). if b then parts-of printed.call else [])
      (ap₂ (λ (a b : Bool). a && (counted.is_counting || b)) (matched printed.call hit)
      (ap asks_for_parts same ∙ rw only refl) ∙ or-true counted.is_counting)
    where
      matched : (call : Call) → is_match call ≡ true → has_match k call ≡ true
      matched begins hit = absurd cc
      matched (matches number offset bytes around) hit = ap not plainly
      matched (context kind number offset line) hit = absurd cc
      matched breaks hit = absurd cc
      matched (binary_data offset) hit = absurd cc
      matched (finishes bytes binary) hit = absurd cc

  -- a printer of parts writes the texts of the matches by their parts, and has found something if
  -- there is one
  pub parts-searched : (format : CountedFormat StandardFormat) (findings : Findings)
      → WritesLines format.format.config scene → format.format.config.only_matching ≡ true
      → k.invert_match ≡ false
      → IsCountedText facts first_at k matcher path text standard_rules format false findings
      → (findings.text
      ≡ flat_map (λ call. report_text (layout_of format.format.config scene) call (parts-of call)) found)
      × (findings.found ≡ nat_lt 0 (length found))
  parts-searched format findings writes only plainly counted =
      let rules = counted_rules standard_rules in
      let config = format.format.config in
      let text-of : Call → List ℕ = λ call. report_text (layout_of config scene) call (parts-of call) in
      let made = search-made rules (IsPartFormat config scene parts-of) text-of true
      (rules.begun format false) counted.last findings.text
      (part-steps config scene parts-of (HasAsked rules facts first_at k matcher path) writes
      (asked-parts plainly config only))
      (record {
        config_is = refl;
        progress = record { first = refl; no_binary = refl; found = refl };
      }) counted.of in
      let last = made.before.format.config in
      let progress = made.before.format.progress in
      let at-end : call_text last progress scene made.last.call made.last.parts ≡ [] =
      ap (λ (call : Call). call_text last progress scene call made.last.parts) made.last_is
      ∙ end-none last progress scene made.bytes made.last.parts in
      let sum : 0 + length found ≡ length found = omega arith in (
        made.text_is ∙ (ap (λ (t : List ℕ). flat_map text-of found ++ t) at-end
            ∙ append-nil (flat_map text-of found)),
        counted.found_is
            ∙ (ap (λ (f : CountedFormat StandardFormat). f.format.progress.has_match) made.format_is
            ∙ (ap (λ (call : Call). (progress_after progress call).has_match) made.last_is
            ∙ (made.good.progress.found ∙ ap (λ n. nat_lt 0 n) sum))),
      )
