-- What the counts of a printer come to after the calls of a search, one after another.
use Rattle.std.proofs.Common.{◌≡◌, ◌∙◌, ℕ, suc, ◌+◌, List, [], ◌∷◌, ◌++◌, Bool, true, false, ap, arith}
use Rattle.std.proofs.Common.{length, Option, refl, sym, subst}
use Rattle.std.proofs.lemmas.Bool.{ne_eqb}
use Rattle.std.proofs.lemmas.List.{append-nil, length-append}
use Rattle.std.proofs.lemmas.List.Elements.{All-head, All-tail}
use Rattle.std.proofs.lemmas.List.Sums.{sum_by-cons}
use Rattle.std.specs.List.{fold, sum_by}
use Rattle.std.specs.Prelude.{All, max, not, ◌==◌, if◌then◌else◌}
use Rattle.grep_matcher.specs.Lines.{byte_of}
use Rattle.grep_searcher.specs.Plans.{Call, begins, matches, context, breaks, binary_data, finishes}
use Rattle.grep_searcher.specs.SearchLaws.{is_match}
use Rattle.json.specs.Json.{Json}
use Rattle.json.specs.Print.{print}
use Rattle.json.specs.Tree.{json_tokens}
use Rattle.grep_printer.proofs.SomeTextLemmas.{text-after, text-ended}
use Rattle.grep_printer.specs.Formats.{Printed, PrintedCall, Scene, is_text, printed_with}
use Rattle.grep_printer.specs.Hyperlinks.{shown_path}
use Rattle.grep_printer.specs.JsonMessages.{begin_json, json_line}
use Rattle.grep_printer.specs.JsonTexts.{is_opened, json_progress, json_rules}
use Rattle.grep_printer.specs.JsonTexts.{json_text, new_json_format, new_json_progress}
use Rattle.grep_printer.specs.JsonTexts.{opening_line, with_end, with_match, with_text}
use Rattle.grep_printer.specs.PlanCounts.{JsonCounts, SummariesCount, is_inner, json_counts}
use Rattle.grep_printer.specs.PlanCounts.{line_count_of, matched, part_count_of}
use Rattle.grep_printer.specs.PlanCounts.{summary_counts, times_counted}
use Rattle.grep_printer.specs.StatsSums.{capped, capped_sum}
use Rattle.grep_printer.specs.SummaryTexts.{counts_after, summary_rules, summary_text}
use Rattle.grep_printer.specs.ReplacerTexts.{TextAt}
use Rattle.grep_printer.specs.declared.json_printer.JsonFormat.{JsonFormat}
use Rattle.grep_printer.specs.declared.json_printer.JsonProgress.{JsonProgress}
use Rattle.grep_printer.specs.declared.summary.Counts.{Counts}
use Rattle.grep_printer.specs.declared.summary.SummaryFormat.{SummaryFormat}
use Rattle.grep_printer.specs.declared.summary_builder.SummaryConfig.{SummaryConfig}

-- a sum that is capped at each step
pub capped-more : (a b : ℕ) → capped_sum (capped a) b ≡ capped (a + b)
capped-more a b = omega arith

-- the line of a message
text-line : (j : Json) → is_text (json_line j) ≡ true
unfolding json_line
text-line j = text-ended (print (json_tokens j)) 10

-- what is made of calls that come after others
pub fold-push : {X Y : Type 0} (f : Y → X → Y) (xs : List X) (last : X) (y : Y)
    → fold f y (xs ++ last ∷ []) ≡ f (fold f y xs) last
fold-push f [] last y = refl
fold-push f (x ∷ xs) last y = fold-push f xs last (f y x)

-- what is counted after so many matches, with so many lines and parts in them, and a text
record IsCounted (found lines parts : ℕ) (progress : JsonProgress) (made : List ℕ) : Type 0 where
  begun : progress.is_begun ≡ is_text made
  has_match : progress.has_match ≡ not (found == 0)
  bytes : progress.bytes_printed ≡ capped (length made)
  line_sum : progress.matched_lines ≡ capped lines
  match_sum : progress.matches ≡ capped parts

-- so many bytes, with a text
pub bytes-more : (count : ℕ) (text more : List ℕ) → count ≡ capped (length text)
    → capped_sum count (length more) ≡ capped (length (text ++ more))
bytes-more count text more is =
    ap (λ n. capped_sum n (length more)) is ∙ (capped-more (length text) (length more)
    ∙ ap capped (sym (length-append text more)))

-- with a call that writes nothing
counted-same : (found lines parts : ℕ) (progress : JsonProgress) (made : List ℕ)
    → IsCounted found lines parts progress made → IsCounted found lines parts progress (made ++ [])
counted-same found lines parts progress made is = subst (IsCounted found lines parts progress) (sym (append-nil made)) is

-- with a text that isn't a match
counted-text : (found lines parts : ℕ) (progress : JsonProgress) (made text : List ℕ) → is_text text ≡ true
    → IsCounted found lines parts progress made → IsCounted found lines parts (with_text progress text) (made ++ text)
counted-text found lines parts progress made text some is = record {
  begun = sym (text-after made text some);
  has_match = is.has_match;
  bytes = bytes-more progress.bytes_printed made text is.bytes;
  line_sum = is.line_sum;
  match_sum = is.match_sum;
}

-- with a match
counted-match : (found lines parts more others : ℕ) (progress : JsonProgress) (made text : List ℕ)
    → is_text text ≡ true → IsCounted found lines parts progress made
    → IsCounted (suc found) (lines + more) (parts + others) (with_match (with_text progress text) more others)
    (made ++ text)
counted-match found lines parts more others progress made text some is = record {
  begun = sym (text-after made text some);
  has_match = sym (ap not (ne_eqb (suc found) 0 (λ e. omega arith)));
  bytes = bytes-more progress.bytes_printed made text is.bytes;
  line_sum = ap (λ n. capped_sum n more) is.line_sum ∙ capped-more lines more;
  match_sum = ap (λ n. capped_sum n others) is.match_sum ∙ capped-more parts others;
}

-- counts that are equal
counted-as : (found found' lines lines' parts parts' : ℕ) (progress : JsonProgress) (made : List ℕ) → found ≡ found'
    → lines ≡ lines' → parts ≡ parts' → IsCounted found lines parts progress made
    → IsCounted found' lines' parts' progress made
counted-as found found' lines lines' parts parts' progress made one two three is =
    subst (λ n. IsCounted n lines' parts' progress made) one
    (subst (λ n. IsCounted found n parts' progress made) two
    (subst (λ n. IsCounted found lines n progress made) three is))

-- what is counted, by the matches among some calls
abbrev AreCounted : ℕ → List PrintedCall → ℕ → ℕ → ℕ → JsonProgress → List ℕ → Type 0
AreCounted terminator calls found lines parts progress made =
    IsCounted (found + length (matched calls)) (lines + sum_by (line_count_of terminator) (matched calls))
    (parts + sum_by part_count_of (matched calls)) progress made

module _ {R : Type 0} (text_at : R → TextAt) (always : Bool) (replacer : R) (scene : Scene) where
  abbrev terminator : ℕ
  terminator = byte_of scene.settings.line_terminator

  abbrev format-with : JsonProgress → JsonFormat R
  format-with progress = record { always_begin_end = always; replacer = replacer; progress = progress }

  -- the text of a report
  report-some : (progress : JsonProgress) (j : Json)
      → is_text (opening_line (shown_path scene.path) progress.is_begun ++ json_line j) ≡ true
  report-some progress j = text-after (opening_line (shown_path scene.path) progress.is_begun) (json_line j) (text-line j)

  -- a call that isn't a match
  counted-other : (here : ℕ → Option (List ℕ)) (found lines parts : ℕ) (progress : JsonProgress) (made : List ℕ)
      (call : Call) (ranges : List (ℕ × ℕ))
      → is_match call ≡ false → IsCounted found lines parts progress made
      → IsCounted found lines parts (json_progress always scene here progress call ranges)
      (made ++ json_text always scene here progress call ranges)
  counted-other here found lines parts progress made begins ranges other is = go (is_opened always progress)
    where
      go : (b : Bool) → IsCounted found lines parts
          (if b then with_text progress (if b then json_line (begin_json (shown_path scene.path)) else []) else progress)
          (made ++ (if b then json_line (begin_json (shown_path scene.path)) else []))
      go true = counted-text found lines parts progress made (json_line (begin_json (shown_path scene.path)))
          (text-line (begin_json (shown_path scene.path))) is
      go false = counted-same found lines parts progress made is
  counted-other here found lines parts progress made (matches number offset bytes around) ranges other is = absurd cc
  counted-other here found lines parts progress made (context kind number offset bytes) ranges other is =
      counted-text found lines parts progress made
      (json_text always scene here progress (context kind number offset bytes) ranges) (report-some progress _) is
  counted-other here found lines parts progress made breaks ranges other is =
      counted-same found lines parts progress made is
  counted-other here found lines parts progress made (binary_data offset) ranges other is =
      counted-same found lines parts progress made is
  counted-other here found lines parts progress made (finishes count binary) ranges other is =
      let same = counted-same found lines parts progress made is in record {
        begun = same.begun;
        has_match = same.has_match;
        bytes = same.bytes;
        line_sum = same.line_sum;
        match_sum = same.match_sum;
      }

  -- all calls
  counted-all : (calls : List PrintedCall) (found lines parts : ℕ) (progress : JsonProgress) (made : List ℕ)
      → IsCounted found lines parts progress made
      → AreCounted terminator calls found lines parts
      (fold (printed_with (json_rules text_at) scene)
      (record { format = format-with progress; text = made }) calls).format.progress
      (fold (printed_with (json_rules text_at) scene)
      (record { format = format-with progress; text = made }) calls).text
  counted-all [] found lines parts progress made is =
      let one : found ≡ found + 0 = omega arith in
      let two : lines ≡ lines + 0 = omega arith in
      let three : parts ≡ parts + 0 = omega arith in
      rw (← one, ← two, ← three) is
  counted-all (printed ∷ later) found lines parts progress made is =
      go printed.call printed.parts refl (λ found lines parts progress made. counted-all later found lines parts progress made)
    where
      go : (call : Call) (ranges : List (ℕ × ℕ)) → is_match call ≡ is_match call
          → ((found lines parts : ℕ) (progress : JsonProgress) (made : List ℕ)
          → IsCounted found lines parts progress made
          → AreCounted terminator later found lines parts
          (fold (printed_with (json_rules text_at) scene)
          (record { format = format-with progress; text = made }) later).format.progress
          (fold (printed_with (json_rules text_at) scene)
          (record { format = format-with progress; text = made }) later).text)
          → AreCounted terminator (record { call = call; parts = ranges } ∷ later) found lines parts
          (fold (printed_with (json_rules text_at) scene) (record {
            format = format-with (json_progress always scene (text_at replacer scene.settings call)
                progress call ranges);
            text = made ++ json_text always scene (text_at replacer scene.settings call) progress call ranges;
          }) later).format.progress
          (fold (printed_with (json_rules text_at) scene) (record {
            format = format-with (json_progress always scene (text_at replacer scene.settings call)
                progress call ranges);
            text = made ++ json_text always scene (text_at replacer scene.settings call) progress call ranges;
          }) later).text
      go begins ranges same others =
          others found lines parts _ _
          (counted-other (text_at replacer scene.settings begins)
          found lines parts progress made begins ranges refl is)
      go (matches number offset bytes around) ranges same others =
          let one_call : PrintedCall =
          record { call = matches number offset bytes around; parts = ranges } in
          let more = line_count_of terminator one_call in
          let count = length ranges in
          let end = others (suc found) (lines + more) (parts + count) _ _
          (counted-match found lines parts more count progress made
          (json_text always scene
          (text_at replacer scene.settings (matches number offset bytes around)) progress
          (matches number offset bytes around) ranges) (report-some progress _) is) in
          let first = sum_by-cons (line_count_of terminator) one_call (matched later) in
          let second = sum_by-cons part_count_of one_call (matched later) in
          counted-as (suc found + length (matched later)) (found + length (one_call ∷ matched later))
          ((lines + more) + sum_by (line_count_of terminator) (matched later))
          (lines + sum_by (line_count_of terminator) (one_call ∷ matched later))
          ((parts + count) + sum_by part_count_of (matched later)) (parts + sum_by part_count_of (one_call ∷ matched later))
          _ _ (omega arith) (omega (arith, first)) (omega (arith, second)) end
      go (context kind number offset bytes) ranges same others =
          others found lines parts _ _
          (counted-other (text_at replacer scene.settings (context kind number offset bytes))
          found lines parts progress made (context kind number offset bytes) ranges refl is)
      go breaks ranges same others =
          others found lines parts _ _
          (counted-other (text_at replacer scene.settings breaks)
          found lines parts progress made breaks ranges refl is)
      go (binary_data offset) ranges same others =
          others found lines parts _ _
          (counted-other (text_at replacer scene.settings (binary_data offset))
          found lines parts progress made (binary_data offset) ranges refl is)
      go (finishes count binary) ranges same others =
          others found lines parts _ _
          (counted-other (text_at replacer scene.settings (finishes count binary))
          found lines parts progress made (finishes count binary) ranges refl is)

-- a search
pub json-counts : {R : Type 0} (text_at : R → TextAt) → JsonCounts text_at
json-counts {R} text_at always replacer scene calls last count binary ends =
    let terminator = byte_of scene.settings.line_terminator in
    let start : Printed (JsonFormat R) = record { format = new_json_format always replacer; text = [] } in
    let here : Printed (JsonFormat R) → Call → ℕ → Option (List ℕ) =
    λ before call. text_at before.format.replacer scene.settings call in
    let before = fold (printed_with (json_rules text_at) scene) start calls in
    let all : fold (printed_with (json_rules text_at) scene) start (calls ++ last ∷ [])
    ≡ printed_with (json_rules text_at) scene before last = fold-push (printed_with (json_rules text_at) scene) calls last start in
    ap (λ made. made.format.progress) all
    ∙ (subst (λ call. json_progress before.format.always_begin_end scene (here before call) before.format.progress call last.parts
    ≡ json_counts terminator (matched calls)
    (before.text ++ json_text before.format.always_begin_end scene (here before call) before.format.progress call last.parts) count binary)
    (sym ends) (at-end before
    (counted-all text_at always replacer scene calls 0 0 0 new_json_progress []
    (record { begun = refl; has_match = refl; bytes = refl; line_sum = refl; match_sum = refl })))
    ∙ sym (ap (λ made. json_counts terminator (matched calls) made.text count binary) all))
  where
    at-end : (before : Printed (JsonFormat R))
        → AreCounted (byte_of scene.settings.line_terminator) calls 0 0 0 before.format.progress before.text
        → with_end before.format.progress count binary
        ≡ json_counts (byte_of scene.settings.line_terminator) (matched calls) (before.text ++ []) count binary
    at-end before is =
        let found = matched calls in
        let lines = sum_by (line_count_of (byte_of scene.settings.line_terminator)) found in
        let parts = sum_by part_count_of found in
        let none : 0 + length found ≡ length found = omega arith in
        let no_lines : 0 + lines ≡ lines = omega arith in
        let no_parts : 0 + parts ≡ parts = omega arith in
        let same = append-nil before.text in
        let begun = is.begun in
        let has_match = is.has_match ∙ ap (λ n. not (n == 0)) none in
        let bytes = is.bytes in
        let matched_lines = is.line_sum ∙ ap capped no_lines in
        let match_sum = is.match_sum ∙ ap capped no_parts in
        rw same cc

-- what is counted of so many matches and parts
abbrev so_many : SummaryConfig → ℕ → ℕ → List ℕ → Printed SummaryFormat
so_many config found parts text = record {
  format = record {
    config = config;
    counts = record { match_count = capped found; part_count = capped parts };
  };
  text = text;
}

module _ (config : SummaryConfig) (scene : Scene) where
  -- a call writes nothing, and the match in it counts
  summed-all : (calls : List PrintedCall) (found parts : ℕ) → All (λ printed. is_inner printed.call ≡ true) calls
      → fold (printed_with summary_rules scene) (so_many config found parts []) calls
      ≡ so_many config (found + length (matched calls)) (parts + sum_by times_counted (matched calls)) []
  summed-all [] found parts inner =
      let one : found ≡ found + 0 = omega arith in
      let two : parts ≡ parts + 0 = omega arith in
      ap (λ n. so_many config n parts []) one ∙ ap (λ n. so_many config (found + 0) n []) two
  summed-all (printed ∷ later) found parts inner =
      go printed.call printed.parts (All-head (λ printed. is_inner printed.call ≡ true) printed later inner)
      (λ found parts. summed-all later found parts (All-tail (λ printed. is_inner printed.call ≡ true) printed later inner))
    where
      go : (call : Call) (ranges : List (ℕ × ℕ)) → is_inner call ≡ true
          → ((found parts : ℕ) → fold (printed_with summary_rules scene) (so_many config found parts []) later
          ≡ so_many config (found + length (matched later)) (parts + sum_by times_counted (matched later)) [])
          → fold (printed_with summary_rules scene) (so_many config found parts [])
          (record { call = call; parts = ranges } ∷ later)
          ≡ so_many config (found + length (matched (record { call = call; parts = ranges } ∷ later)))
          (parts + sum_by times_counted (matched (record { call = call; parts = ranges } ∷ later))) []
      go begins ranges here others = others found parts
      go (matches number offset bytes around) ranges here others =
          let count = max 1 (length ranges) in
          let one_call : PrintedCall =
          record { call = matches number offset bytes around; parts = ranges } in
          let first = sum_by-cons times_counted one_call (matched later) in
          let one : found + 1 + length (matched later) ≡ found + length (one_call ∷ matched later) = omega arith in
          let two : parts + count + sum_by times_counted (matched later)
          ≡ parts + sum_by times_counted (one_call ∷ matched later) = omega (arith, first) in
          let counts : Counts → Printed SummaryFormat =
          λ counts. record { format = record { config = config; counts = counts }; text = [] } in
          ap (λ n. fold (printed_with summary_rules scene)
          (counts (record { match_count = n; part_count = capped_sum (capped parts) count })) later)
          (capped-more found 1)
          ∙ (ap (λ n. fold (printed_with summary_rules scene)
          (counts (record { match_count = capped (found + 1); part_count = n })) later) (capped-more parts count)
          ∙ (others (found + 1) (parts + count)
          ∙ (ap (λ n. so_many config n (parts + count + sum_by times_counted (matched later)) []) one
          ∙ ap (λ n. so_many config (found + length (one_call ∷ matched later)) n []) two)))
      go (context kind number offset bytes) ranges here others = others found parts
      go breaks ranges here others = others found parts
      go (binary_data offset) ranges here others = others found parts
      go (finishes count binary) ranges here others = absurd cc

-- a search
pub summaries-count : SummariesCount
summaries-count config scene calls last count binary inner ends =
    let start = so_many config 0 0 [] in
    let found = matched calls in
    let all : fold (printed_with summary_rules scene) start (calls ++ last ∷ [])
    ≡ printed_with summary_rules scene
    (so_many config (0 + length found) (0 + sum_by times_counted found) []) last =
    fold-push (printed_with summary_rules scene) calls last start
    ∙ ap (λ made. printed_with summary_rules scene made last) (summed-all config scene calls 0 0 inner) in
    let none : 0 + length found ≡ length found = omega arith in
    let no_parts : 0 + sum_by times_counted found ≡ sum_by times_counted found = omega arith in
    let whole : fold (printed_with summary_rules scene) start (calls ++ last ∷ [])
    ≡ printed_with summary_rules scene (so_many config (length found) (sum_by times_counted found) []) last =
    all ∙ (ap (λ n. printed_with summary_rules scene
    (so_many config n (0 + sum_by times_counted found) []) last) none
    ∙ ap (λ n. printed_with summary_rules scene (so_many config (length found) n []) last) no_parts) in
    record {
      counts = ap (λ made. made.format.counts) whole
          ∙ ap (λ call. counts_after (summary_counts found) scene.settings.binary_detection call (length last.parts)) ends;
      text = ap (λ made. made.text) whole
          ∙ ap (λ call. summary_text config (summary_counts found) scene call) ends;
    }
