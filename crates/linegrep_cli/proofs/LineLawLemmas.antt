-- The laws of runs that write lines of one input.
use Rattle.std.proofs.Common.{◌≡◌, ◌∙◌, ℕ, Bool, true, false, List, [], ◌∷◌, ◌++◌, Option, None}
use Rattle.std.proofs.Common.{Some, ap, if◌then◌else◌, length, refl}
use Rattle.std.specs.List.{flat_map}
use Rattle.std.specs.Prelude.{filter, nat_lt, not}
use Rattle.std.specs.declared.alloc.AllocError.{AllocError}
use Rattle.grep_printer.specs.StatsSums.{capped}
use Rattle.grep_regex.specs.Views.{regex_meaning}
use Rattle.grep_regex.specs.declared.regex.Regex.{Regex}
use Rattle.grep_searcher.specs.BuiltSettings.{built}
use Rattle.grep_searcher.specs.HitLines.{hit_lines, items_up_to}
use Rattle.grep_searcher.specs.Lines.{lines}
use Rattle.grep_searcher.specs.Meanings.{MatcherFacts}
use Rattle.grep_searcher.specs.Plans.{Settings}
use Rattle.linegrep_cli.proofs.CorollaryLemmas.{count-written, hit-matches, hit-misses, hits-known, lines-numbered}
use Rattle.linegrep_cli.proofs.CorollaryLemmas.{lines-unnumbered, lines-written, nothing-written}
use Rattle.linegrep_cli.proofs.CorollaryLemmas.{matches-written, path-written}
use Rattle.linegrep_cli.proofs.HitTextLemmas.{some-pass}
use Rattle.linegrep_cli.proofs.PlainRunLemmas.{KeepText, no-terminal, text_options}
use Rattle.linegrep_cli.proofs.PlainSettingLemmas.{KeepLines, asked, plain-settings}
use Rattle.linegrep_cli.proofs.UnusedOptionLemmas.{IsRefused, has-none, not-used, number-none, others}
use Rattle.linegrep_cli.specs.Corollaries.{Claim, EachRunWith, TellsMatching, UseOnly, WritesFirst}
use Rattle.linegrep_cli.specs.Corollaries.{WritesCount, WritesMatching, WritesNumbered, WritesOthers, line_of_count}
use Rattle.linegrep_cli.specs.Corollaries.{WritesMatches, WritesNothing, WritesPath, has_matching}
use Rattle.linegrep_cli.specs.Corollaries.{is_among, is_matched_by, line_with_end, lines_of_matches}
use Rattle.linegrep_cli.specs.OptionUses.{has}
use Rattle.linegrep_cli.specs.SearchTexts.{settings_for}
use Rattle.linegrep_cli.specs.SearcherOptions.{asked_settings, searcher_settings}
use Rattle.linegrep_cli.specs.Worlds.{World}
use Rattle.linegrep_cli.specs.declared.options.Options.{Options}
use Rattle.linegrep_options.specs.declared.option_id.OptionId.{OptionId}
use Rattle.linegrep_options.specs.declared.option_id.OptionId.TheVariants.{Column, Count, FilesWithMatches}
use Rattle.linegrep_options.specs.declared.option_id.OptionId.TheVariants.{InvertMatch}
use Rattle.linegrep_options.specs.declared.option_id.OptionId.TheVariants.{Json, LineNumber}
use Rattle.linegrep_options.specs.declared.option_id.OptionId.TheVariants.{MaxCount, NoLineNumber}
use Rattle.linegrep_options.specs.declared.option_id.OptionId.TheVariants.{OnlyMatching, Pretty, Quiet}
use Rattle.linegrep_options.specs.declared.option_id.OptionId.TheVariants.{Vimgrep}

-- what the settings of a search say of lines that are looked for, and of their numbers
module _ (allowed : List OptionId) (options : Options) (only : UseOnly allowed options)
    (keep : KeepLines allowed) (keeps : KeepText allowed) (quits : Bool) where
  none : (option : OptionId) → IsRefused allowed option → has options option ≡ false
  none option refused = has-none allowed options only option refused

  text-none : (option : OptionId) → is_among text_options option ≡ true → has options option ≡ false
  text-none = not-used allowed options only text_options keeps

  from-asked : {X : Type 0} (field : Settings → X)
      → field (settings_for (searcher_settings options) quits)
      ≡ field (settings_for (built (asked_settings options)) quits)
  from-asked field = ap (λ (s : Settings). field (settings_for s quits))
      (asked allowed options only keep quits)

  pub no-inversion : IsRefused allowed InvertMatch
      → (settings_for (searcher_settings options) quits).invert_match ≡ false
  no-inversion refused = from-asked (λ s. s.invert_match) ∙ none InvertMatch refused

  pub no-numbers : IsRefused allowed LineNumber → IsRefused allowed NoLineNumber
      → (settings_for (searcher_settings options) quits).line_number ≡ false
  no-numbers refused also = from-asked (λ s. s.line_number)
      ∙ rw (
        none NoLineNumber also,
        none LineNumber refused,
        text-none Pretty refl,
        text-none Column refl,
        text-none Vimgrep refl,
        text-none Json refl,
        no-terminal allowed options only keeps,
      ) refl

  pub some-numbers : has options LineNumber ≡ true → IsRefused allowed NoLineNumber
      → (settings_for (searcher_settings options) quits).line_number ≡ true
  some-numbers has also = from-asked (λ s. s.line_number) ∙ rw (none NoLineNumber also, has) refl

  pub some-inversion : has options InvertMatch ≡ true
      → (settings_for (searcher_settings options) quits).invert_match ≡ true
  some-inversion has = from-asked (λ s. s.invert_match) ∙ has

  pub limit-is : (settings_for (searcher_settings options) quits).max_matches ≡ options.max_count
  limit-is = from-asked (λ s. s.max_matches)

  pub no-limit : IsRefused allowed MaxCount
      → (settings_for (searcher_settings options) quits).max_matches ≡ None
  no-limit refused = limit-is ∙ (only.are_options.max_count
      ∙ number-none only.uses.now MaxCount (others allowed options only MaxCount refused))

-- ---- the laws, with a matcher of any kind

module _ {S F R W X M : Type 0} (world : World S F R W X) (facts : M → MatcherFacts AllocError)
    (first_at : M → List ℕ → ℕ → Option (ℕ × ℕ))
    (groups_at : M → List ℕ → ℕ → List (Option (ℕ × ℕ))) (regex : Regex) where
  abbrev Each : List OptionId → Claim → Type 0
  Each = EachRunWith world facts first_at groups_at regex

  pub each-matching : Each [] WritesMatching
  each-matching system before options input ended one text run only single of nameless =
      let k = settings_for (searcher_settings options) one.quits in
      let plain = plain-settings [] options only refl one.quits in
      lines-unnumbered world system before facts first_at groups_at options regex input ended run
      [] only refl one single text of refl refl nameless refl
      (is_matched_by regex)
      (no-numbers [] options only refl refl one.quits refl refl)
      (hit-matches k (facts run.matcher).meaning regex plain.by_feeds run.is_matcher.meaning
      (no-inversion [] options only refl refl one.quits refl))
      ∙ ap (λ (most : Option ℕ). Some (before ++ flat_map line_with_end (items_up_to most
      (filter (is_matched_by regex) (lines 10 text)))))
      (no-limit [] options only refl refl one.quits refl)

  pub each-other : Each (InvertMatch ∷ []) WritesOthers
  each-other system before options input ended one text run only single of nameless inverts =
      let allowed = InvertMatch ∷ [] in
      let k = settings_for (searcher_settings options) one.quits in
      let plain = plain-settings allowed options only refl one.quits in
      lines-unnumbered world system before facts first_at groups_at options regex input ended run
      allowed only refl one single text of refl refl
      nameless refl (λ line. not (is_matched_by regex line))
      (no-numbers allowed options only refl refl one.quits refl refl)
      (hit-misses k (facts run.matcher).meaning regex plain.by_feeds run.is_matcher.meaning
      (some-inversion allowed options only refl refl one.quits inverts))
      ∙ ap (λ (most : Option ℕ). Some (before ++ flat_map line_with_end (items_up_to most
      (filter (λ line. not (is_matched_by regex line)) (lines 10 text)))))
      (no-limit allowed options only refl refl one.quits refl)

  pub each-numbered : Each (LineNumber ∷ []) WritesNumbered
  each-numbered system before options input ended one text run only single of nameless numbers =
      let allowed = LineNumber ∷ [] in
      let k = settings_for (searcher_settings options) one.quits in
      let plain = plain-settings allowed options only refl one.quits in
      lines-numbered world system before facts first_at groups_at options regex input ended run
      allowed only refl one single text of refl refl
      nameless refl (is_matched_by regex)
      (some-numbers allowed options only refl refl one.quits numbers refl)
      (no-limit allowed options only refl refl one.quits refl)
      (hit-matches k (facts run.matcher).meaning regex plain.by_feeds run.is_matcher.meaning
      (no-inversion allowed options only refl refl one.quits refl))

  pub each-first : Each (MaxCount ∷ []) WritesFirst
  each-first system before options input ended one text run only single of nameless most limit =
      let allowed = MaxCount ∷ [] in
      let k = settings_for (searcher_settings options) one.quits in
      let plain = plain-settings allowed options only refl one.quits in
      lines-unnumbered world system before facts first_at groups_at options regex input ended run
      allowed only refl one single text of refl refl
      nameless refl (is_matched_by regex)
      (no-numbers allowed options only refl refl one.quits refl refl)
      (hit-matches k (facts run.matcher).meaning regex plain.by_feeds run.is_matcher.meaning
      (no-inversion allowed options only refl refl one.quits refl))
      ∙ ap (λ (most : Option ℕ). Some (before ++ flat_map line_with_end (items_up_to most
      (filter (is_matched_by regex) (lines 10 text)))))
      (limit-is allowed options only refl refl one.quits ∙ limit)

  -- whether a line hits, if no option changes which do
  some-hit : (options : Options) (allowed : List OptionId) (only : UseOnly allowed options)
      (lines-kept : KeepLines allowed) (text-kept : KeepText allowed) → IsRefused allowed InvertMatch
      → IsRefused allowed MaxCount → (quits : Bool) (matcher : M) (text : List ℕ)
      → (facts matcher).meaning ≡ regex_meaning regex
      → nat_lt 0 (length (hit_lines (settings_for (searcher_settings options) quits)
      (facts matcher).meaning text)) ≡ has_matching regex text
  some-hit options allowed only lines-kept text-kept plainly limitless quits matcher text means =
      let k = settings_for (searcher_settings options) quits in
      let plain = plain-settings allowed options only lines-kept quits in
      ap (λ (lines : List (List ℕ)). nat_lt 0 (length lines))
      (hits-known k (facts matcher).meaning text (is_matched_by regex) plain.by_feeds
      (hit-matches k (facts matcher).meaning regex plain.by_feeds means
      (no-inversion allowed options only lines-kept text-kept quits plainly)))
      ∙ (ap (λ (most : Option ℕ). nat_lt 0 (length (items_up_to most
      (filter (is_matched_by regex) (lines 10 text)))))
      (no-limit allowed options only lines-kept text-kept quits limitless)
      ∙ some-pass (is_matched_by regex) (lines 10 text))

  pub each-told : Each (LineNumber ∷ []) TellsMatching
  each-told system before options input ended one text run only single of nameless =
      let allowed = LineNumber ∷ [] in
      (lines-written world system before facts first_at groups_at options regex input ended run
      allowed only refl one single text of refl refl nameless refl).1
      ∙ ap (λ b. if b then 0 else 1) (some-hit options allowed only refl refl refl refl one.quits
      run.matcher text run.is_matcher.meaning)

  pub each-counted : Each (Count ∷ []) WritesCount
  each-counted system before options input ended one text run only single of nameless counts =
      let allowed = Count ∷ [] in
      let k = settings_for (searcher_settings options) one.quits in
      let meaning = (facts run.matcher).meaning in
      let plain = plain-settings allowed options only refl one.quits in
      let known = hits-known k meaning text (is_matched_by regex) plain.by_feeds
      (hit-matches k meaning regex plain.by_feeds run.is_matcher.meaning
      (no-inversion allowed options only refl refl one.quits refl))
      ∙ ap (λ (most : Option ℕ). items_up_to most (filter (is_matched_by regex) (lines 10 text)))
      (no-limit allowed options only refl refl one.quits refl) in
      let result = count-written world system before facts first_at groups_at options regex input ended run
      allowed only refl one single text of refl refl counts nameless in (
        result.0 ∙ ap (λ (found : List (List ℕ)). Some (before ++ line_of_count (capped (length found)))) known,
        result.1 ∙ ap (λ b. if b then 0 else 1)
            (ap (λ (found : List (List ℕ)). nat_lt 0 (length found)) known
            ∙ some-pass (is_matched_by regex) (lines 10 text)),
      )

  pub each-match : Each (OnlyMatching ∷ []) WritesMatches
  each-match system before options input ended one text run only single of nameless parts =
      let allowed = OnlyMatching ∷ [] in
      let k = settings_for (searcher_settings options) one.quits in
      let plain = plain-settings allowed options only refl one.quits in
      matches-written world system before facts first_at groups_at options regex input ended run
      allowed only refl one single text of refl refl nameless parts
      (no-inversion allowed options only refl refl one.quits refl)
      (no-numbers allowed options only refl refl one.quits refl refl)
      ∙ ap (λ (hits : List (List ℕ)). Some (before ++ flat_map (lines_of_matches regex) hits))
      (hits-known k (facts run.matcher).meaning text (is_matched_by regex) plain.by_feeds
      (hit-matches k (facts run.matcher).meaning regex plain.by_feeds run.is_matcher.meaning
      (no-inversion allowed options only refl refl one.quits refl))
      ∙ ap (λ (most : Option ℕ). items_up_to most (filter (is_matched_by regex) (lines 10 text)))
      (no-limit allowed options only refl refl one.quits refl))

  pub each-path : Each (FilesWithMatches ∷ []) WritesPath
  each-path system before options input ended one text run only single of lists shown named unlinked =
      let allowed = FilesWithMatches ∷ [] in
      let found = some-hit options allowed only refl refl refl refl one.quits run.matcher text
      run.is_matcher.meaning in
      let result = path-written world system before facts first_at groups_at options regex input ended run
      allowed only refl one single text of refl refl lists shown named unlinked in (
        result.0 ∙ ap (λ (b : Bool). Some (before ++ (if b then shown.text.now ++ 10 ∷ [] else []))) found,
        result.1 ∙ ap (λ (b : Bool). if b then 0 else 1) found,
      )

  pub each-quiet : Each (Quiet ∷ []) WritesNothing
  each-quiet system before options input ended one text run only single of quiet =
      let allowed = Quiet ∷ [] in
      let found = some-hit options allowed only refl refl refl refl one.quits run.matcher text
      run.is_matcher.meaning in
      let result = nothing-written world system before facts first_at groups_at options regex input ended run
      allowed only refl one single text of refl quiet in
      (result.0, result.1 ∙ ap (λ (b : Bool). if b then 0 else 1) found)
