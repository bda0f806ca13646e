-- Lines one after another, all of which match, or none of them, by what is known of them.
use Rattle.std.proofs.Common.{◌≡◌, ℕ, ◌+◌, ◌<◌, ◌≤◌, true, false, List, Some, length}
use Rattle.std.proofs.Common.{arith, subst, sym, ⊎_elim}
use Rattle.std.proofs.lemmas.Bool.{cases_lt}
use Rattle.std.specs.Prelude.{slice_range}
use Rattle.grep_lines.specs.Positions.{IsLineStart}
use Rattle.grep_lines.proofs.LineRangeLemmas.{comes-before, comes-from, lines-between}
use Rattle.grep_matcher.specs.Lines.{byte_of, lines}
use Rattle.grep_matcher.specs.Meanings.{Meaning}
use Rattle.grep_definitions.specs.Plans.{Settings}
use Rattle.grep_walk.specs.LineRuns.{AreAlike}
use Rattle.grep_walk.specs.LookAheads.{IsKnown, known_at}
use Rattle.grep_walk.specs.declared.line_run.LineRun.{LineRun}
use Rattle.grep_walk.specs.declared.look_ahead.Ahead.{Ahead}
use Rattle.grep_walk.proofs.SkipLemmas.{known-later}

-- what is known of a position at which a line matches
pub record IsMatched (a : Ahead) (p : ℕ) : Type 0 where
  pub low : a.candidate ≤ p
  pub high : p < a.match_end

pub is_matched : (a : Ahead) (p : ℕ) → known_at a p ≡ Some true → IsMatched a p
is_matched a p is = grind arith

module _ (k : Settings) (meaning : Meaning) (window : List ℕ) where
  abbrev t : ℕ
  t = byte_of k.line_terminator

  -- the line that is known to match
  pub first-matches : (p i : ℕ) (a : Ahead) → known_at a p ≡ Some true → IsKnown k meaning window p a
      → IsLineStart t window p i
      → AreAlike k meaning window p i true (record { end = a.match_end; count = 1; ahead = a })
  first-matches p i a is known begins =
      let matched = is_matched a p is in
      let line = known.exact (omega (arith, matched.low, matched.high)) known.index known.at in
      let low = comes-from known.at i (omega (arith, begins.begins, matched.low)) in
      let end : IsLineStart t window a.match_end (known.index + 1) =
      record { listed = omega (arith, line.listed); begins = line.ends } in
      let high = comes-before end i (omega (arith, begins.begins, matched.high)) in
      record {
        all = λ i x y line after early. known.hit i x y line (omega (arith, matched.low)) early;
        at = subst (IsLineStart t window a.match_end) (omega (arith, low, high)) end;
        known = known-later k meaning window p a.match_end a (omega (arith, matched.high)) known;
      }

  -- with the next one
  pub next-matches : (p i end count : ℕ) (a next : Ahead) → known_at next end ≡ Some true
      → AreAlike k meaning window p i true (record { end = end; count = count; ahead = a })
      → IsKnown k meaning window end next
      → AreAlike k meaning window p i true
      (record { end = next.match_end; count = count + 1; ahead = next })
  next-matches p i end count a next is lines known =
      let later = first-matches end (i + count) next is known lines.at in
      record {
        all = λ i x y line after early. ⊎_elim (lines.all i x y line after)
            (λ over. later.all i x y line over early) (cases_lt x end);
        at = subst (IsLineStart t window next.match_end) (omega arith) later.at;
        known = later.known;
      }

-- the lines that are known not to match
pub unmatched-alike : (k : Settings) (meaning : Meaning) (window : List ℕ) (p i index : ℕ)
    (a : Ahead) (run : LineRun) → IsKnown k meaning window p a
    → run.ahead ≡ a → p < run.end → run.end ≤ a.candidate → run.end ≤ length window
    → IsLineStart (byte_of k.line_terminator) window p i
    → IsLineStart (byte_of k.line_terminator) window run.end index
    → run.count ≡ length (lines (byte_of k.line_terminator) (slice_range window p run.end))
    → AreAlike k meaning window p i false run
unmatched-alike k meaning window p i index a run known same low high within begins at counted =
    let t = byte_of k.line_terminator in
    let before = comes-before at i (omega (arith, begins.begins, low)) in
    let between = lines-between t window p run.end i index begins at (omega (arith, low)) within
    (omega (arith, before)) in record {
      all = λ i x y line after early. known.miss i x y line after (omega (arith, high));
      at = subst (IsLineStart t window run.end) (omega (arith, before, counted, between)) at;
      known = subst (IsKnown k meaning window run.end) (sym same)
          (known-later k meaning window p run.end a (omega (arith, low)) known);
    }
