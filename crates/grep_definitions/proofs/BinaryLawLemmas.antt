-- Which reports hold a byte at which a search ends.
use Rattle.std.proofs.Common.{◌≡◌, ℕ, ◌+◌, ◌-◌, ◌<◌, ◌≤◌, Bool, true, false, List, [], ◌∷◌, ◌++◌}
use Rattle.std.proofs.Common.{length, take, drop, Option, None, Some, refl, sym, ap, subst, ◌∙◌}
use Rattle.std.proofs.Common.{arith, if◌then◌else◌, ◌==◌, ⊎_elim}
use Rattle.std.proofs.lemmas.List.{drop-take, take_all, take_at, take-take}
use Rattle.std.proofs.lemmas.List.Elements.{All-cons, All-take, All-drop}
use Rattle.std.proofs.lemmas.Option.{none-some}
use Rattle.std.specs.Prelude.{All, is_some, slice_range}
use Rattle.std.specs.List.{position}
use Rattle.std.specs.Option.{option_map}
use Rattle.grep_matcher.specs.Meanings.{Meaning}
use Rattle.grep_matcher.specs.Lines.{byte_of}
use Rattle.grep_definitions.specs.Plans.{line_plan, reports_end, selected_lines, calls_at}
use Rattle.grep_definitions.specs.Plans.{joined_from, Settings, is_across, selection_in, Planned}
use Rattle.grep_definitions.specs.Plans.{begins, is_break, planned, Selection, line_count, start}
use Rattle.grep_definitions.specs.Plans
use Rattle.grep_definitions.specs.Searches.{binary_position, position_of, stream_view, BinaryPoint}
use Rattle.grep_definitions.specs.Searches.{call_at, contents_point, point_at, point_unless}
use Rattle.grep_definitions.specs.Searches.{first_look}
use Rattle.grep_definitions.specs.BinaryLaws.{holds_byte, QuitReportsAreClear}
use Rattle.grep_definitions.specs.BinaryLaws.{CountedReportsAreClear, SeenLinesAreClear}
use Rattle.grep_definitions.proofs.LineReportLemmas.{reports-line}
use Rattle.grep_matcher.proofs.LineStartLemmas.{line_start-within, line_start-le}
use Rattle.grep_definitions.proofs.ListLemmas.{All-joined_from}
use Rattle.grep_definitions.proofs.SearchLawLemmas.{reports_end-le}
use Rattle.grep_definitions.proofs.CountLemmas.{ends-late}
use Rattle.grep_definitions.proofs.LineSliceLemmas.{slice-line}
use Rattle.grep_lines.proofs.PositionLemmas.{none-passes, position-none, position-take-before}

module _ (b : ℕ) where
  abbrev AreClear : List Planned → Type 0
  AreClear = All (λ call. holds_byte b call ≡ false)

  -- the calls before the first report that holds the byte
  clear-before : (calls : List Planned) (n m : ℕ) → position (holds_byte b) calls ≡ Some n → m ≤ n
      → AreClear (take m calls)
  clear-before calls n m is low =
      none-passes (holds_byte b) (take m calls) (position-take-before (holds_byte b) m calls n is
      low)

  clear-calls : (calls : List Planned) (n : ℕ) → position (holds_byte b) calls ≡ Some n
      → AreClear (take (point_at b calls n).position calls)
  clear-calls calls n is = go (is_break (call_at b calls (n - 1)).call)
    where
      go : (c : Bool) → AreClear (take (if c then n - 1 else n) calls)
      go true = clear-before calls n (n - 1) is (omega arith)
      go false = clear-before calls n n is (omega arith)

  -- of calls that begin with `begin`, which reports nothing
  module _ (later : List Planned) (bytes : List ℕ) where
    abbrev calls : List Planned
    calls = planned begins 0 ∷ later

    abbrev before_of : Option BinaryPoint → List Planned
    before_of None = []
    before_of (Some point) = take point.position calls

    begun-clear : AreClear (take 1 calls)
    begun-clear = grind arith

    pub clear-point : (point : BinaryPoint) → contents_point b bytes calls ≡ Some point
        → AreClear (take point.position calls)
    clear-point point is = by (position_of b (take first_look bytes)) is
      where
        reported : (o : Option ℕ) → position (holds_byte b) calls ≡ o
            → option_map (point_at b calls) o ≡ Some point → AreClear (take point.position calls)
        reported None found is = absurd (none-some point is)
        reported (Some n) found is = subst AreClear (ap before_of is) (clear-calls calls n found)

        by : (o : Option ℕ) → point_unless b calls o ≡ Some point
            → AreClear (take point.position calls)
        by None is = reported (position (holds_byte b) calls) refl is
        by (Some offset) is = subst AreClear (ap before_of is) begun-clear

    pub clear-all : contents_point b bytes calls ≡ None → AreClear calls
    clear-all is = by (position_of b (take first_look bytes)) is
      where
        reported : (o : Option ℕ) → position (holds_byte b) calls ≡ o
            → option_map (point_at b calls) o ≡ None → AreClear calls
        reported None found is = none-passes (holds_byte b) calls found
        reported (Some n) found is = absurd (none-some (point_at b calls n) (sym is))

        by : (o : Option ℕ) → point_unless b calls o ≡ None → AreClear calls
        by None is = reported (position (holds_byte b) calls) refl is
        by (Some offset) is = absurd (none-some _ (sym is))

pub quit_reports-clear : QuitReportsAreClear
quit_reports-clear b settings meaning bytes = search (arith, clear-point, clear-all)

-- a slice_range of bytes that end before a test passes
slice-clear : (p : ℕ → Bool) (bytes : List ℕ) (s e count : ℕ) → s ≤ e → e ≤ count
    → position p (take count bytes) ≡ None → position p (slice_range bytes s e) ≡ None
slice-clear p bytes s e count up low clear =
    let P : ℕ → Type 0 = λ x. p x ≡ false in
    let sum : s + (e - s) ≡ e = omega arith in
    let front = All-take P e (take count bytes) (none-passes p (take count bytes) clear) in
    let short : take e (take count bytes) ≡ take (s + (e - s)) bytes = take-take e count bytes low
    ∙ ap (λ n. take n bytes) (sym sum) in
    let piece : drop s (take e (take count bytes)) ≡ slice_range bytes s e = ap (drop s) short
    ∙ drop-take s (e - s) bytes in
    position-none p (slice_range bytes s e)
    (subst (All P) piece (All-drop P s (take e (take count bytes)) front))

module _ (k : Settings) (meaning : Meaning) (bytes : List ℕ) where
  abbrev selection : Selection
  selection = selected_lines k meaning bytes

  module _ (b count : ℕ) (clear : position_of b (take count bytes) ≡ None) where
    line-clear : (i : ℕ) → i < line_count k bytes → start k bytes (i + 1) ≤ count
        → position_of b (Plans.line k bytes i) ≡ None
    line-clear i inside low =
        let up = line_start-le (byte_of k.line_terminator) bytes i (i + 1) (omega arith) in
        ap (position_of b) (sym (slice-line k bytes i))
        ∙ slice-clear (λ x. x == b) bytes (start k bytes i) (start k bytes (i + 1)) count up low
        clear

    pub lines-clear : All (λ call. call.if_false.count ≤ count → holds_byte b call ≡ false)
        (line_plan k meaning bytes).calls
    lines-clear =
        All-cons P (planned begins 0)
        (joined_from (Plans.calls_at k bytes selection) 0 (reports_end k meaning bytes))
        (λ low. refl)
        (All-joined_from P (Plans.calls_at k bytes selection) 0 (reports_end k meaning bytes)
        (λ i low high. each i (omega (arith, reports_end-le k meaning bytes))))
      where
        P : Planned → Type 0
        P call = call.if_false.count ≤ count → holds_byte b call ≡ false

        each : (i : ℕ) → i < line_count k bytes → All P (Plans.calls_at k bytes selection i)
        each i inside j d below low = ⊎_elim (λ none. ap (λ xs. is_some (position_of b xs)) none)
            (λ line.
            let late = ends-late k meaning bytes i i (omega arith) j d below in
            ap (λ xs. is_some (position_of b xs)) line
            ∙ ap is_some (line-clear i inside (omega arith)))
            (reports-line k meaning bytes i j d below)

pub counted_reports-clear : CountedReportsAreClear
counted_reports-clear b k meaning bytes count clear = lines-clear k meaning bytes b count clear

-- lines that were seen are clear if what they are of the input is
pub seen_lines-clear : SeenLinesAreClear
seen_lines-clear b k meaning bytes seen quits front clear =
    All-cons P (planned begins 0)
    (joined_from (Plans.calls_at k seen (selected_lines k meaning seen)) 0
    (reports_end k meaning seen)) refl
    (All-joined_from P (Plans.calls_at k seen (selected_lines k meaning seen)) 0
    (reports_end k meaning seen)
    (λ i low high. each i (omega (arith, reports_end-le k meaning seen))))
  where
    P : Planned → Type 0
    P call = holds_byte b call ≡ false

    whole : bytes ≡ seen ++ front.after
    whole = sym (ap (λ d. stream_view d (byte_of k.line_terminator) bytes) quits) ∙ front.whole

    is_clear : position_of b (take (length seen) seen) ≡ None
    is_clear = ap (position_of b) (take_all (length seen) seen (omega arith)
        ∙ (sym (take_at seen front.after (length seen) refl) ∙ ap (take (length seen)) (sym whole)))
        ∙ (sym (ap (λ d. binary_position d (byte_of k.line_terminator) (take (length seen) bytes))
        quits) ∙ clear)

    each : (i : ℕ) → i < line_count k seen
        → All P (Plans.calls_at k seen (selected_lines k meaning seen) i)
    each i inside j d below = ⊎_elim (λ none. ap (λ xs. is_some (position_of b xs)) none)
        (λ line. ap (λ xs. is_some (position_of b xs)) line
        ∙ ap is_some (line-clear k meaning seen b (length seen) is_clear i inside
        (line_start-within (byte_of k.line_terminator) seen (i + 1))))
        (reports-line k meaning seen i j d below)
