-- What a search prints that reports matches alone, with a printer of summaries.
use Rattle.std.proofs.Common.{◌≡◌, ◌∙◌, ℕ, suc, ◌+◌, Bool, true, false, List, [], ◌∷◌, ◌++◌}
use Rattle.std.proofs.Common.{Option, ap, arith, length, refl}
use Rattle.std.specs.List.{flat_map}
use Rattle.std.specs.Prelude.{◌||◌}
use Rattle.grep_matcher.specs.Lines.{byte_of}
use Rattle.grep_printer.proofs.PlanCountLemmas.{capped-more}
use Rattle.grep_printer.specs.CountedTexts.{counted_rules}
use Rattle.grep_printer.specs.Formats.{PrintedCall, Scene}
use Rattle.grep_printer.specs.StatsSums.{capped, capped_sum}
use Rattle.grep_printer.specs.SummaryTexts.{counts_after, counts_on, finish_text, has_found}
use Rattle.grep_printer.specs.SummaryTexts.{summary_rules, summary_text, sums_on}
use Rattle.grep_printer.specs.declared.counted.CountedFormat.{CountedFormat}
use Rattle.grep_printer.specs.declared.hyperlinks.PrinterPath.{PrinterPath}
use Rattle.grep_printer.specs.declared.summary.Counts.{Counts}
use Rattle.grep_printer.specs.declared.summary.SummaryFormat.{SummaryFormat}
use Rattle.grep_printer.specs.declared.summary_builder.SummaryConfig.{SummaryConfig}
use Rattle.grep_searcher.specs.HitLines.{hit_matches}
use Rattle.grep_searcher.specs.Meanings.{MatcherFacts}
use Rattle.grep_searcher.specs.Plans.{Call, Settings, begins, binary_data, breaks, context}
use Rattle.grep_searcher.specs.Plans.{finishes, matches}
use Rattle.grep_searcher.specs.SearchLaws.{is_match}
use Rattle.linegrep_cli.proofs.LineSearchLemmas.{search-made}
use Rattle.linegrep_cli.proofs.MatchWalkLemmas.{AreSteps, IsStep, printed_of}
use Rattle.linegrep_cli.proofs.PlainSettingLemmas.{ArePlainSettings}
use Rattle.linegrep_cli.proofs.TextSearchLemmas.{HasNoNul}
use Rattle.linegrep_cli.specs.SearchTexts.{Findings, HasAsked, IsCountedText}

abbrev pub no_bytes : List ℕ
no_bytes = []

-- whether a search goes on after a match
abbrev pub goes_on : SummaryConfig → Bool
goes_on config = counts_on config.kind || config.counts_all

module _ (config : SummaryConfig) (scene : Scene) where
  -- what is kept after so many matches
  pub record IsCountAfter (count : ℕ) (counted : CountedFormat SummaryFormat) : Type 0 where
    pub config_is : counted.format.config ≡ config
    pub count_is : counted.format.counts.match_count ≡ capped count

  pub summary-steps : (HasParts : CountedFormat SummaryFormat → PrintedCall → Type 0)
      → AreSteps (counted_rules summary_rules) scene HasParts IsCountAfter (λ call. []) (goes_on config)
  summary-steps HasParts = record {
    begin = λ counted printed good is. record {
      goes = ap (sums_on counted.format.config.counts_all counted.format.config.kind) is;
      good = record {
        config_is = good.config_is;
        count_is = ap (λ call. (counts_after counted.format.counts scene.settings.binary_detection call
            (length printed.parts)).match_count) is ∙ good.count_is;
      };
      text_is = ap (summary_text counted.format.config counted.format.counts scene) is;
    };
    match = λ count counted printed good asked hit. step count counted printed good printed.call refl hit;
  }
    where
      step : (count : ℕ) (counted : CountedFormat SummaryFormat) (printed : PrintedCall)
          → IsCountAfter count counted → (call : Call) → printed.call ≡ call
          → is_match call ≡ true
          → IsStep (counted_rules summary_rules) scene HasParts IsCountAfter (λ call. []) (goes_on config)
          (suc count) counted printed []
      step count counted printed good begins is hit = absurd cc
      step count counted printed good (matches number offset bytes around) is hit =
          let next : count + 1 ≡ suc count = omega arith in record {
            goes = ap (sums_on counted.format.config.counts_all counted.format.config.kind) is
                ∙ ap goes_on good.config_is;
            good = record {
              config_is = good.config_is;
              count_is = ap (λ call. (counts_after counted.format.counts
                  scene.settings.binary_detection call (length printed.parts)).match_count) is
                  ∙ (ap (λ n. capped_sum n 1) good.count_is ∙ (capped-more count 1 ∙ ap capped next));
            };
            text_is = ap (summary_text counted.format.config counted.format.counts scene) is;
          }
      step count counted printed good (context kind number offset line) is hit = absurd cc
      step count counted printed good breaks is hit = absurd cc
      step count counted printed good (binary_data offset) is hit = absurd cc
      step count counted printed good (finishes bytes binary) is hit = absurd cc

-- ---- a search that counts, or that looks for a match

no-texts : (calls : List Call) → flat_map (λ (call : Call). no_bytes) calls ≡ []
no-texts [] = refl
no-texts (call ∷ later) = no-texts later

module _ {M E : Type 0} (facts : M → MatcherFacts E) (first_at : M → List ℕ → ℕ → Option (ℕ × ℕ))
    (k : Settings) (matcher : M) (path : Option PrinterPath) (text : List ℕ)
    (plain : ArePlainSettings k) (none : HasNoNul text) (format : CountedFormat SummaryFormat)
    (findings : Findings) where
  abbrev pub config : SummaryConfig
  config = format.format.config

  -- the matches that are printed
  abbrev pub printed : List Call
  printed = printed_of (hit_matches k (facts matcher).meaning text) (goes_on config)

  -- so many matches are counted, and what is said of their count is written at the end
  pub record AreCounted : Type 0 where
    pub counts : Counts
    pub count_is : counts.match_count ≡ capped (length printed)
    pub text_is : findings.text
        ≡ finish_text config.kind config path (byte_of k.line_terminator) counts
    pub found_is : findings.found ≡ has_found config.kind (capped (length printed))

  pub matches-counted : IsCountedText facts first_at k matcher path text summary_rules format false
      findings
      → AreCounted
  matches-counted counted =
      let rules = counted_rules summary_rules in
      let here : Scene = record { path = path; settings = k } in
      let made = search-made facts first_at k matcher path text plain none rules
      (IsCountAfter config here) (λ call. []) (goes_on config) (rules.begun format false)
      counted.last findings.text
      (summary-steps config here (HasAsked rules facts first_at k matcher path))
      (record { config_is = refl; count_is = refl }) counted.of in
      let before = made.before.format in
      let sum : 0 + length printed ≡ length printed = omega arith in
      let total = made.good.count_is ∙ ap capped sum in
      let at-end : summary_text before.config before.counts here made.last.call
      ≡ finish_text config.kind config path (byte_of k.line_terminator) before.counts =
      ap (summary_text before.config before.counts here) made.last_is
      ∙ ap (λ (c : SummaryConfig). finish_text c.kind c path (byte_of k.line_terminator)
      before.counts) made.good.config_is in
      record {
        counts = before.counts;
        count_is = total;
        text_is = made.text_is
            ∙ (ap (λ (t : List ℕ). t ++ summary_text before.config before.counts here made.last.call)
            (no-texts printed) ∙ at-end);
        found_is = counted.found_is
            ∙ (ap (λ (f : CountedFormat SummaryFormat). has_found f.format.config.kind
            f.format.counts.match_count) made.format_is
            ∙ (ap (λ (call : Call). has_found before.config.kind (counts_after before.counts
            k.binary_detection call (length made.last.parts)).match_count) made.last_is
            ∙ (ap (λ (c : SummaryConfig). has_found c.kind before.counts.match_count)
            made.good.config_is
            ∙ ap (λ n. has_found config.kind n) total)));
      }
