-- What a search by line of the first lines of some bytes says of a search of all of them.
use Rattle.std.proofs.Common.{◌≡◌, ◌∙◌, ℕ, ◌+◌, ◌-◌, ◌<◌, ◌≤◌, Bool, true, false, List, [], ◌∷◌}
use Rattle.std.proofs.Common.{◌++◌, Some, None, length, refl, sym, ap, subst, inl, inr, arith}
use Rattle.std.proofs.Common.{append-nil, min}
use Rattle.std.proofs.Math.Bool.{and-false}
use Rattle.std.proofs.lemmas.Bool.{lt-leb}
use Rattle.std.proofs.lemmas.Option.{same_Some}
use Rattle.std.proofs.lemmas.List.{drop-append-le, length-drop, take-append-le}
use Rattle.std.proofs.lemmas.List.Elements.{All-nil, All-weaker, filter-append}
use Rattle.std.specs.Prelude.{All, nat_le, nat_lt, slice_range, ◌||◌}
use Rattle.grep_matcher.proofs.LineStartLemmas.{line_start-ascends, line_start-le}
use Rattle.grep_matcher.proofs.LineStartLemmas.{line_start-within}
use Rattle.grep_matcher.specs.Lines.{byte_of, strip}
use Rattle.grep_matcher.specs.Meanings.{Meaning}
use Rattle.grep_report.specs.declared.sink_context.SinkContextKind.TheVariants.{Before}
use Rattle.grep_definitions.proofs.BelowLemmas.{headed, headed-through, joined_from-none}
use Rattle.grep_definitions.proofs.BelowLemmas.{some_below-find, some_below-some}
use Rattle.grep_definitions.proofs.BoolLemmas.{clash}
use Rattle.grep_definitions.proofs.FirstLineLemmas as prefix
use Rattle.grep_definitions.proofs.FirstLineLemmas.{count_below-same, some_below-same, IsClosed}
use Rattle.grep_definitions.proofs.FirstCallLemmas as first
use Rattle.grep_definitions.proofs.ListLemmas.{filter-none, All-joined_from}
use Rattle.grep_definitions.proofs.MatchCallLemmas.{selected-reportable}
use Rattle.grep_definitions.proofs.SearchLawLemmas.{reports_end-le}
use Rattle.grep_definitions.proofs.SearchModeLemmas.{calls-are, plan-by_line}
use Rattle.grep_definitions.proofs.CountLemmas.{ends-late, ends-calls_at}
use Rattle.grep_definitions.specs.Plans.{calls_at, line_plan, reports_end, selected_lines, through}
use Rattle.grep_definitions.specs.Plans.{begins, has_room, in_context, is_across, is_open_at}
use Rattle.grep_definitions.specs.Plans.{joined_from, line_count, planned, search_plan, stops_next}
use Rattle.grep_definitions.specs.Plans.{IsAskedAhead, Kind, Planned, Settings, IsAskedIn}
use Rattle.grep_definitions.specs.Plans.{Selection, count_at, follows_selected, hits, is_chosen}
use Rattle.grep_definitions.specs.Plans.{start}
use Rattle.grep_definitions.specs.Plans
use Rattle.grep_definitions.specs.Searches.{IsFront}
use Rattle.grep_definitions.specs.SinkRuns.{plan_of}

-- a part of the first bytes
slice-front : (front back : List ℕ) (a b : ℕ) → a ≤ length front → b ≤ length front
    → slice_range (front ++ back) a b ≡ slice_range front a b
slice-front front back a b low high = grind (arith, drop-append-le, take-append-le, length-drop)

-- whether a call ends at an offset or before it
abbrev ends-by : ℕ → Planned → Bool
ends-by offset call = nat_le call.if_false.count offset

-- calls that end after an offset aren't among those that end at or before it
through-none : (offset : ℕ) (calls : List Planned) → All (λ call. offset < call.if_false.count)
    calls → through offset calls ≡ []
through-none offset calls after = grind (arith, filter-none, All-weaker, lt-leb)

module _ (k : Settings) (meaning : Meaning) where
  abbrev selection : List ℕ → Selection
  selection = selected_lines k meaning

  abbrev t : ℕ
  t = byte_of k.line_terminator

  -- up to the start of a line, only calls of the lines before it end
  through-before : (bytes : List ℕ) (i : ℕ) → i < reports_end k meaning bytes
      → through (start k bytes i) (line_plan k meaning bytes).calls
      ≡ through (start k bytes i) (headed (planned begins 0) (calls_at k bytes (selection bytes)) i)
  through-before bytes i below =
      let T = calls_at k bytes (selection bytes) in
      let begin : Planned = planned begins 0 in
      let count = reports_end k meaning bytes in
      let at = start k bytes i in
      let up = line_start-ascends t bytes i (omega (arith, reports_end-le k meaning bytes)) in
      let none = through-none at (joined_from T i (count - i))
      (All-joined_from (λ call. at < call.if_false.count) T i (count - i) (λ j low high.
      All-weaker (λ call. start k bytes (i + 1) ≤ call.if_false.count)
      (λ call. at < call.if_false.count) (λ call over. omega arith) (T j)
      (ends-late k meaning bytes i j low))) in
      ap (through at) (headed-through begin T i count (omega arith))
      ∙ (filter-append (ends-by at) (headed begin T i) (joined_from T i (count - i))
      ∙ (ap (λ cs. through at (headed begin T i) ++ cs) none ∙ append-nil _))

  module _ (front back : List ℕ) (closed : IsClosed t front) where
    abbrev whole : List ℕ
    whole = front ++ back

    abbrev n : ℕ
    n = first.n k meaning front back closed

    abbrev count_front : ℕ
    count_front = reports_end k meaning front

    abbrev count_whole : ℕ
    count_whole = reports_end k meaning whole

    few : min count_whole n ≡ count_front
    few = first.count-same k meaning front back closed

    start-same : (i : ℕ) → i ≤ n → start k whole i ≡ start k front i
    start-same = prefix.start-same k meaning front back closed

    -- if each line that may be reported is of the front, each match is
    none-late : count_whole ≤ n → (i : ℕ) → first.IsLate k meaning front back closed i → ⊥
    none-late inside i late =
        let found = some_below-find (first.near_before k meaning front back closed whole i)
        (Plans.line_count k whole) late.precedes in
        let near = first.near-from k meaning front back closed whole i found.0 found.2 in
        let below = selected-reportable k meaning whole found.0 near.chosen in
        clash (some_below-some (first.near_before k meaning front back closed front i) n found.0
        (omega arith)
        (first.near-to k meaning front back closed front i found.0 (record {
          beyond = near.beyond;
          within = near.within;
          chosen = sym (first.same_selected k meaning front back closed found.0 (omega arith))
              ∙ near.chosen;
        }))) late.unpreceded

    -- so it has the same calls
    pub calls-same : count_whole ≤ n → (line_plan k meaning whole).calls
        ≡ (line_plan k meaning front).calls
    calls-same inside =
        let same : count_whole ≡ count_front = omega (arith, few) in
        let joined : joined_from (calls_at k whole (selection whole)) 0 count_front
        ≡ joined_from (calls_at k front (selection front)) 0 count_front =
        elim (first.split k meaning front back closed count_front (omega (arith, few))) [
          | inl alike ↦ first.joined-same k meaning front back closed count_front alike
              (omega arith)
          | inr late ↦ absurd (none-late inside late.0 late.2)
        ] in
        ap (λ m. planned begins 0 ∷ joined_from (calls_at k whole (selection whole)) 0 m) same
        ∙ ap (λ calls. planned begins 0 ∷ calls) joined

    -- and the same byte count
    pub bytes-same : count_whole ≤ n → (line_plan k meaning whole).finish.count
        ≡ (line_plan k meaning front).finish.count
    bytes-same inside =
        ap (start k whole) (omega (arith, few)) ∙ start-same count_front (omega (arith, few))

    -- the calls of a late line end after the front
    late-after : (i : ℕ) → first.IsLate k meaning front back closed i
        → All (λ call. start k whole n < call.if_false.count) (calls_at k whole (selection whole) i)
    late-after i late =
        let s = first.same_selected k meaning front back closed i late.inside ∙ late.unselected in
        let f = prefix.follows-same k meaning front back closed i late.inside ∙ late.unfollowed in
        let p = late.precedes in
        let is : Plans.kind k whole (selection whole) i ≡ Some (in_context Before) =
        rw (s, f, p) refl in
        let over = first.late-through k meaning front back closed i late in
        All-weaker (λ call. start k whole n + 1 ≤ call.if_false.count)
        (λ call. start k whole n < call.if_false.count) (λ call low. omega arith) _
        (ends-calls_at k meaning whole (start k whole n + 1) i (λ kind same.
        subst (λ (x : Kind). start k whole n + 1 ≤ count_at k whole (selection whole) i (Some x))
        (sym (same_Some kind (in_context Before) (sym same ∙ is))) (omega (arith, over))))

    module _ (built : k.passthru ≡ true → k.before_context ≡ 0) where
      -- up to a line that may be reported, the same calls are kept
      through-same : (i : ℕ) → i < count_front → through (start k whole i)
          (headed (planned begins 0) (calls_at k whole (selection whole)) i)
          ≡ through (start k whole i)
          (headed (planned begins 0) (calls_at k front (selection front)) i)
      through-same i below = elim (first.split k meaning front back closed i (omega (arith, few))) [
        | inl alike ↦ ap (λ calls. through at (begin ∷ calls))
            (first.joined-same k meaning front back closed i alike (omega arith))
        | inr late ↦ cut late.0 late.1 late.2 late.3
      ]
        where
          at : ℕ
          at = start k whole i

          begin : Planned
          begin = planned begins 0

          -- between a late line and this one no call ends by then
          between : (j q : ℕ) → first.IsLate k meaning front back closed j → j ≤ q → q < i
              → All (λ call. at < call.if_false.count) (calls_at k whole (selection whole) q)
          between j q late low less =
              elim (first.kind-same k meaning front back closed q (omega (arith, few))) [
                | inl alike ↦
                    let none = alike ∙ first.late-kind k meaning front back closed built j q late
                    low (omega (arith, few)) in
                    subst (λ (calls : List Planned). All (λ call. at < call.if_false.count) calls)
                    (sym (unreported q none))
                    (All-nil (λ (call : Planned). at < call.if_false.count))
                | inr later ↦ All-weaker (λ call. start k whole n < call.if_false.count)
                    (λ call. at < call.if_false.count)
                    (λ call over. omega (arith, line_start-le t whole i n (omega (arith, few))))
                    (calls_at k whole (selection whole) q) (late-after q later)
              ]
            where
              unreported : (q : ℕ) → Plans.kind k whole (selection whole) q ≡ None
                  → calls_at k whole (selection whole) q ≡ []
              unreported q none = rw
                  (none, and-false (nat_lt 0 (k.after_context + k.before_context))) refl

          -- from a late line on none does
          cut : (j : ℕ) → j < i → first.IsLate k meaning front back closed j
              → first.Same k meaning front back closed j
              → through at (headed begin (calls_at k whole (selection whole)) i)
              ≡ through at (headed begin (calls_at k front (selection front)) i)
          cut j less late alike =
              let T = calls_at k whole (selection whole) in
              let U = calls_at k front (selection front) in
              let none = through-none at (joined_from T j (i - j))
              (All-joined_from (λ call. at < call.if_false.count) T j (i - j)
              (λ q low high. between j q late low (omega arith))) in
              let empty = joined_from-none U j (i - j) (λ q low high.
              first.late-calls k meaning front back closed built j q late low (omega (arith, few)))
              in ap (through at) (headed-through begin T j i (omega arith))
              ∙ (filter-append (ends-by at) (headed begin T j) (joined_from T j (i - j))
              ∙ (ap (λ cs. through at (headed begin T j) ++ cs) none
              ∙ (append-nil (through at (headed begin T j))
              ∙ (ap (λ cs. through at (begin ∷ cs)) (first.joined-same k meaning front back closed j
              alike (omega arith)) ∙ (ap (through at) (sym (append-nil (headed begin U j))
              ∙ ap (λ cs. headed begin U j ++ cs) (sym empty)
              ∙ sym (headed-through begin U j i (omega arith))))))))

      -- a question in the front is one in the whole
      pub asked-whole : {haystack : List ℕ} {made : List Planned}
          → IsAskedIn k meaning front false haystack made
          → IsAskedIn k meaning whole false haystack made
      asked-whole {haystack} {made} asks = record {
        index = i;
        question = record {
          may_report = omega (arith, few, asks.question.may_report);
          room = ap (λ b. b || follows_selected k whole (selection whole) i) opens
              ∙ (ap (λ b. is_open_at k meaning front i || b)
              (prefix.follows-same k meaning front back closed i inside) ∙ asks.question.room);
          question = elim asks.question.question [
            | inl alone ↦ inl (alone
                ∙ ap (strip k.line_terminator)
                (sym (prefix.line-same k meaning front back closed i inside)))
            | inr ahead ↦ inr (asked-ahead ahead)
          ];
        };
        before = asks.before ∙ (through-before front i asks.question.may_report
            ∙ (ap (λ s. through s (headed (planned begins 0) (calls_at k front (selection front))
            i)) (sym same) ∙ (sym (through-same i asks.question.may_report)
            ∙ sym (through-before whole i (omega (arith, few, asks.question.may_report))))));
      }
        where
          i : ℕ
          i = asks.index

          inside : i < n
          inside = omega (arith, few, asks.question.may_report)

          same : start k whole i ≡ start k front i
          same = start-same i (omega (arith, inside))

          opens : is_open_at k meaning whole i ≡ is_open_at k meaning front i
          opens = ap (has_room k) (count_below-same (hits k meaning whole) (hits k meaning front) i
              (λ j less. prefix.hits-same k meaning front back closed j (omega (arith, inside))))

          asked-ahead : IsAskedAhead k meaning front i haystack
              → IsAskedAhead k meaning whole i haystack
          asked-ahead ahead = record {
            allowed = ahead.allowed;
            room = opens ∙ ahead.room;
            unstopped = ap (stops_next k) (some_below-same (is_chosen k meaning whole)
                (is_chosen k meaning front) i
                (λ j less. prefix.is_chosen-same k meaning front back closed j
                (omega (arith, inside)))) ∙ ahead.unstopped;
            end = ahead.end;
            after = ahead.after;
            within = omega (arith, ahead.within, first.more_lines k meaning front back closed);
            lines = ahead.lines ∙ (sym (slice-front front back (start k front i)
                (start k front ahead.end) (line_start-within t front i)
                (line_start-within t front ahead.end))
                ∙ (ap (λ x. slice_range whole x (start k front ahead.end)) (sym same)
                ∙ ap (slice_range whole (start k whole i))
                (sym (start-same ahead.end ahead.within))));
          }

-- what holds of the bytes that were seen of an input, with any bytes after them, holds of the input
of-front : {k : Settings} {input seen : List ℕ} → IsFront k input seen → (P : List ℕ → Type 0)
    → P seen
    → ((back : List ℕ) → IsClosed (byte_of k.line_terminator) seen → P (seen ++ back)) → P input
of-front {k} {input} {seen} front P all more = subst P (sym front.whole)
    (go front.after front.closed)
  where
    go : (after : List ℕ) → (0 < length after → IsClosed (byte_of k.line_terminator) seen)
        → P (seen ++ after)
    go [] closed = subst P (sym (append-nil seen)) all
    go (b ∷ after) closed = more (b ∷ after) (closed (omega arith))

-- the lines that were seen of an input that is searched by line
module _ {k : Settings} (meaning : Meaning) {input seen : List ℕ} (by_line : is_across k meaning
    ≡ false)
    (front : IsFront k input seen) where
  -- if each line that may be reported was seen, the plan is theirs
  pub plan-same : reports_end k meaning input ≤ line_count k seen
      → search_plan k meaning input ≡ search_plan k meaning seen
  plan-same = of-front front (λ bytes. reports_end k meaning bytes ≤ line_count k seen
      → search_plan k meaning bytes ≡ search_plan k meaning seen) (λ inside. refl)
      (λ back closed inside. plan-by_line k meaning (seen ++ back) by_line
      ∙ (ap (λ calls. plan_of calls (line_plan k meaning (seen ++ back)).finish.count)
      (calls-same k meaning seen back closed inside)
      ∙ (ap (plan_of (line_plan k meaning seen).calls)
      (bytes-same k meaning seen back closed inside) ∙ sym (plan-by_line k meaning seen by_line))))

  module _ (built : k.passthru ≡ true → k.before_context ≡ 0) where
    -- its calls begin with theirs
    pub calls-begin : (later : List Planned)
        × ((search_plan k meaning input).calls ≡ (search_plan k meaning seen).calls ++ later)
    calls-begin = of-front front (λ bytes. (later : List Planned)
        × ((search_plan k meaning bytes).calls ≡ (search_plan k meaning seen).calls ++ later))
        ([], sym (append-nil _)) (λ back closed.
        let begun = first.front_calls-begin k meaning seen back closed built in (
          begun.0,
          calls-are k meaning by_line (seen ++ back)
              ∙ (begun.1 ∙ ap (λ calls. calls ++ begun.0) (sym (calls-are k meaning by_line seen))),
        ))

    -- a question in them is one in it
    pub asked-begin : {haystack : List ℕ} {made : List Planned}
        → IsAskedIn k meaning seen false haystack made
        → IsAskedIn k meaning input false haystack made
    asked-begin {haystack} {made} asks =
        of-front front (λ bytes. IsAskedIn k meaning bytes false haystack made) asks
        (λ back closed. asked-whole k meaning seen back closed built asks)
