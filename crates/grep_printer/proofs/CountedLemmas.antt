-- A format that counts: what it has counted after the calls of a search, and lines that it takes
-- while it doesn't.
use Rattle.std.proofs.Common.{◌≡◌, ◌∙◌, ℕ, ◌+◌, List, [], ◌∷◌, ◌++◌, true, false, ap, arith, length}
use Rattle.std.proofs.Common.{refl, sym, subst}
use Rattle.std.proofs.lemmas.List.Sums.{sum_by-cons}
use Rattle.std.specs.List.{fold, sum_by}
use Rattle.std.specs.Prelude.{Option, if◌then◌else◌, nat_lt}
use Rattle.grep_matcher.specs.Lines.{byte_of}
use Rattle.grep_searcher.specs.Plans.{Call, Planned, begins, matches, context, breaks, binary_data}
use Rattle.grep_searcher.specs.Plans.{finishes}
use Rattle.grep_printer.proofs.PlanCountLemmas.{bytes-more, capped-more, fold-push}
use Rattle.grep_printer.specs.CountedTexts.{StatsCount, counted_rules, counted_with, search_stats}
use Rattle.grep_printer.specs.CountedTexts.{with_written}
use Rattle.grep_printer.specs.Formats.{AreTexts, Printed, PrintedCall, Rules, Scene, printed_with}
use Rattle.grep_printer.specs.Formats.{without_parts}
use Rattle.grep_printer.specs.PlanCounts.{line_count_of, matched, part_count_of}
use Rattle.grep_printer.specs.StatsSums.{capped, no_stats}
use Rattle.grep_printer.specs.declared.counted.CountedFormat.{CountedFormat}
use Rattle.grep_printer.specs.declared.stats.Stats.{Stats}

-- what is counted after matches with so many lines and parts, and a text
record IsCounted (lines parts : ℕ) (stats : Stats) (made : List ℕ) : Type 0 where
  elapsed : stats.elapsed ≡ 0
  line_sum : stats.matched_lines ≡ capped lines
  match_sum : stats.matches ≡ capped parts
  bytes : stats.bytes_printed ≡ capped (length made)

-- with a text
counted-written : (lines parts : ℕ) (stats : Stats) (made text : List ℕ)
    → IsCounted lines parts stats made
    → IsCounted lines parts (with_written stats (length text)) (made ++ text)
counted-written lines parts stats made text is = record {
  elapsed = is.elapsed;
  line_sum = is.line_sum;
  match_sum = is.match_sum;
  bytes = bytes-more stats.bytes_printed made text is.bytes;
}

-- the greatest number of 64 bits is some
some-capped : (n : ℕ) → nat_lt 0 (capped n) ≡ nat_lt 0 n
some-capped n = grind arith

module _ {F : Type 0} (rules : Rules F) (scene : Scene) where
  abbrev terminator : ℕ
  terminator = byte_of scene.settings.line_terminator

  -- what is made of calls, by what is counted before them
  abbrev made_of : List PrintedCall → F → Stats → List ℕ → Printed (CountedFormat F)
  made_of calls format stats made = fold (printed_with (counted_rules rules) scene)
      (record { format = record { format = format; is_counting = true; stats = stats }; text = made }) calls

  -- what is counted then
  abbrev AreCounted : List PrintedCall → ℕ → ℕ → Printed (CountedFormat F) → Type 0
  AreCounted calls lines parts printed =
      IsCounted (lines + sum_by (line_count_of terminator) (matched calls))
      (parts + sum_by part_count_of (matched calls)) printed.format.stats printed.text

  counted-all : (calls : List PrintedCall) (lines parts : ℕ) (format : F) (stats : Stats)
      (made : List ℕ)
      → IsCounted lines parts stats made → AreCounted calls lines parts
      (made_of calls format stats made)
  counted-all [] lines parts format stats made is =
      let one : lines ≡ lines + 0 = omega arith in
      let two : parts ≡ parts + 0 = omega arith in
      rw (← one, ← two) is
  counted-all (printed ∷ later) lines parts format stats made is =
      let next = rules.next format scene printed in
      go printed.call printed.parts next (rules.text format scene printed)
      (λ lines parts stats made. counted-all later lines parts next stats made)
    where
      go : (call : Call) (ranges : List (ℕ × ℕ)) (next : F) (text : List ℕ)
          → ((lines parts : ℕ) (stats : Stats) (made : List ℕ) → IsCounted lines parts stats made
          → AreCounted later lines parts (made_of later next stats made))
          → AreCounted (record { call = call; parts = ranges } ∷ later) lines parts
          (made_of later next (counted_with terminator stats call (length ranges) (length text))
          (made ++ text))
      go begins ranges next text others =
          others lines parts _ _ (counted-written lines parts stats made text is)
      go (matches number offset bytes around) ranges next text others =
          let one_call : PrintedCall =
          record { call = matches number offset bytes around; parts = ranges } in
          let more = line_count_of terminator one_call in
          let count = length ranges in
          let first = sum_by-cons (line_count_of terminator) one_call (matched later) in
          let second = sum_by-cons part_count_of one_call (matched later) in
          let one : (lines + more) + sum_by (line_count_of terminator) (matched later)
          ≡ lines + sum_by (line_count_of terminator) (one_call ∷ matched later) = omega
          (arith, first) in
          let two : (parts + count) + sum_by part_count_of (matched later)
          ≡ parts + sum_by part_count_of (one_call ∷ matched later) = omega (arith, second) in
          let end = others (lines + more) (parts + count)
          (counted_with terminator stats (matches number offset bytes around) count (length text))
          (made ++ text) (record {
            elapsed = is.elapsed;
            line_sum = ap (λ n. capped (n + more)) is.line_sum ∙ capped-more lines more;
            match_sum = ap (λ n. capped (n + count)) is.match_sum ∙ capped-more parts count;
            bytes = bytes-more stats.bytes_printed made text is.bytes;
          }) in
          rw (← one, ← two) end
      go (context kind number offset bytes) ranges next text others =
          others lines parts _ _ (counted-written lines parts stats made text is)
      go breaks ranges next text others =
          others lines parts _ _ (counted-written lines parts stats made text is)
      go (binary_data offset) ranges next text others =
          others lines parts _ _ (counted-written lines parts stats made text is)
      go (finishes count binary) ranges next text others =
          let same = counted-written lines parts stats made text is in
          others lines parts _ _ (record {
            elapsed = same.elapsed;
            line_sum = same.line_sum;
            match_sum = same.match_sum;
            bytes = same.bytes;
          })

  -- it goes on counting
  counting-all : (calls : List PrintedCall) (format : F) (stats : Stats) (made : List ℕ)
      → (made_of calls format stats made).format.is_counting ≡ true
  counting-all [] format stats made = refl
  counting-all (printed ∷ later) format stats made =
      let text = rules.text format scene printed in
      counting-all later (rules.next format scene printed)
      (counted_with terminator stats printed.call (length printed.parts) (length text)) (made
      ++ text)

  -- after the end of a search
  counted-end : (calls : List PrintedCall) (last : PrintedCall) (count : ℕ) (binary : Option ℕ)
      (before : Printed (CountedFormat F)) → before.format.is_counting ≡ true
      → AreCounted calls 0 0 before
      → (if before.format.is_counting
      then counted_with terminator before.format.stats (finishes count binary) (length last.parts)
      (length (rules.text before.format.format scene last))
      else before.format.stats)
      ≡ search_stats terminator (matched calls) (before.text
      ++ rules.text before.format.format scene last) count
  counted-end calls last count binary before counting is =
      let found = matched calls in
      let stats = before.format.stats in
      let text = rules.text before.format.format scene last in
      let lines = sum_by (line_count_of terminator) found in
      let parts = sum_by part_count_of found in
      let no_lines : 0 + lines ≡ lines = omega arith in
      let no_parts : 0 + parts ≡ parts = omega arith in
      let elapsed = is.elapsed in
      let line_sum : stats.matched_lines ≡ capped lines = is.line_sum ∙ ap capped no_lines in
      let match_sum : stats.matches ≡ capped parts = is.match_sum ∙ ap capped no_parts in
      let some : nat_lt 0 stats.matched_lines ≡ nat_lt 0 lines = ap (nat_lt 0) line_sum
      ∙ some-capped lines in
      let bytes = bytes-more stats.bytes_printed before.text text is.bytes in
      rw counting (rw (some, elapsed, line_sum, match_sum, bytes) refl)

-- what a format that counts has counted in a search
pub stats-count : {F : Type 0} (rules : Rules F) → StatsCount rules
stats-count {F} rules format scene calls last count binary ends =
    let t = byte_of scene.settings.line_terminator in
    let start : Printed (CountedFormat F) =
    record { format = record { format = format; is_counting = true; stats = no_stats }; text = [] } in
    let before = fold (printed_with (counted_rules rules) scene) start calls in
    let all : fold (printed_with (counted_rules rules) scene) start (calls ++ last ∷ [])
    ≡ printed_with (counted_rules rules) scene before last =
    fold-push (printed_with (counted_rules rules) scene) calls last start in
    let none : IsCounted 0 0 no_stats [] =
    record { elapsed = refl; line_sum = refl; match_sum = refl; bytes = refl } in
    ap (λ made. made.format.stats) all
    ∙ (subst (λ call. (if before.format.is_counting
    then counted_with t before.format.stats call (length last.parts)
    (length (rules.text before.format.format scene last)) else before.format.stats)
    ≡ search_stats t (matched calls) (before.text
    ++ rules.text before.format.format scene last) count) (sym ends)
    (counted-end rules scene calls last count binary before
    (counting-all rules scene calls format no_stats [])
    (counted-all rules scene calls 0 0 format no_stats [] none))
    ∙ sym (ap (λ made. search_stats t (matched calls) made.text count) all))

-- lines that a format takes are taken if nothing is counted
texts-uncounted : {F : Type 0} (rules : Rules F) (scene : Scene) (stats : Stats)
    (calls : List Planned)
    (format new : F) (text : List ℕ) → AreTexts rules scene format calls text new
    → AreTexts (counted_rules rules) scene
    (record { format = format; is_counting = false; stats = stats }) calls text
    (record { format = new; is_counting = false; stats = stats })
texts-uncounted {F} rules scene stats [] format new text (none, same) =
    let counted : F → CountedFormat F = λ f. record { format = f; is_counting = false; stats = stats } in
    (none, ap counted same)
texts-uncounted rules scene stats (planned ∷ later) format new text
    (rest, is, goes, bare, others) = (
      rest,
      is,
      goes,
      bare,
      texts-uncounted rules scene stats later (rules.next format scene
          (without_parts planned)) new rest others,
    )

pub texts-taken : {F : Type 0} (rules : Rules F) (scene : Scene) (calls : List Planned)
    (old : CountedFormat F) (new : F)
    (text : List ℕ) → old.is_counting ≡ false → AreTexts rules scene old.format calls text new
    → AreTexts (counted_rules rules) scene old calls text (record old { format = new })
texts-taken {F} rules scene calls old new text is texts =
    subst (λ b. AreTexts (counted_rules rules) scene
    (record { format = old.format; is_counting = b; stats = old.stats }) calls text
    (record { format = new; is_counting = b; stats = old.stats })) (sym is)
    (texts-uncounted rules scene old.stats calls old.format new text texts)
