-- How a search across lines puts one unit together, from one match to the next.
use Rattle.std.proofs.Common.{◌≡◌, ℕ, ◌-◌, ◌<◌, ◌≤◌, List, [], ◌∷◌, ◌++◌, length, sym, ◌∙◌, ap, ap₂}
use Rattle.std.proofs.Common.{subst, arith, Option, Some, None}
use Rattle.std.proofs.lemmas.List.{append-nil}
use Rattle.std.proofs.lemmas.List.Elements.{All-nil, All-cons, All-weaker}
use Rattle.std.specs.Prelude.{IfNone}
use Rattle.grep_matcher.specs.Meanings.{Meaning}
use Rattle.grep_matcher.specs.Lines.{byte_of, lines}
use Rattle.grep_lines.specs.Blocks.{block_start, block_end}
use Rattle.grep_definitions.specs.Plans.{match_limit, Settings, position_after}
use Rattle.grep_definitions.specs.SuccessiveMatches.{matches_left}
use Rattle.grep_definitions.proofs.MatchBlockLemmas.{block_start-le}
use Rattle.grep_matcher.proofs.LineStartLemmas.{line_start-within}
use Rattle.grep_definitions.proofs.SuccessiveMatchLemmas.{matches_left-after, position_after-start}
use Rattle.grep_walk.specs.declared.blocks.Blocks.{Blocks}
use Rattle.grep_walk.specs.TouchedUnits.{IsPart, IsUnit, AreFound, IsFound, HasNoMore, AreTouched}
use Rattle.grep_walk.specs.TouchedUnits.{AreLeft, IsReached}
use Rattle.grep_walk.proofs.FoundMatchLemmas.{found-start}
use Rattle.grep_walk.proofs.TouchedLemmas.{touched-none, touched-passed, touched-first}
use Rattle.grep_walk.proofs.TouchedLemmas.{touched-inside, touched-part, touched-end, unit-of}
use Rattle.grep_walk.proofs.TouchedLemmas.{unit-none, part-apart}
use Rattle.grep_lines.proofs.LineRangeLemmas.{end-start}

-- before the first match
abbrev pub starts : Option ℕ → Blocks
starts limit = record { position = 0; left = limit; end = 0; next = None }

module _ (k : Settings) (meaning : Meaning) (bytes : List ℕ) where
  abbrev t : ℕ
  t = byte_of k.line_terminator

  -- of so many matches
  module _ (limit : Option ℕ) (limit_is : limit ≡ match_limit k) where
    pub none_found : AreFound k meaning bytes 0 limit []
    none_found = subst (λ l. AreFound k meaning bytes 0 l []) (sym limit_is)
        (found-start k meaning bytes)

    -- there is no match
    pub left-start-none : (b' : Blocks) → HasNoMore k meaning bytes (starts limit) b' → b'.next
        ≡ None → b'.end ≡ 0 → AreLeft k meaning bytes b'
    left-start-none b' more next_is end_is = record {
      asked = [];
      found = more.found [] none_found;
      touched = subst (AreTouched k meaning bytes b'.end b'.position []) (sym next_is)
          (subst (λ e. AreTouched k meaning bytes e b'.position [] None) (sym end_is)
          (touched-none k meaning bytes b'.position));
      none = subst (λ o. IfNone o (matches_left meaning bytes b'.position b'.left ≡ []))
          (sym next_is) more.still;
      line = 0;
      ends = record { listed = omega arith; begins = sym end_is };
    }

    -- the first match was found
    pub left-start : (b' : Blocks) (m p : ℕ × ℕ) → IsFound k meaning bytes (starts limit) b' m
        → b'.end ≡ 0 → IsPart t bytes 0 m p → AreLeft k meaning bytes (record b' { next = Some p })
    left-start b' m p found end_is part =
        let from_start : m.0 - 0 ≡ m.0 = omega arith in
        let from_end : m.1 - 0 ≡ m.1 = omega arith in
        let start : p.0 ≡ block_start t bytes m = omega (
          arith,
          ap (λ x. block_start t bytes (x, m.1 - 0)) from_start,
        ) in
        let end : p.1 ≡ block_end t bytes m = omega (
          arith,
          ap₂ (λ x y. block_end t bytes (x, y)) from_start from_end,
        ) in
        let touched = touched-first k meaning bytes 0 0 [] m p (touched-none k meaning bytes 0)
        (ap₂ (λ x y. (x, y)) start end)
        (omega arith) (λ some. absurd (omega arith)) (part.before (omega arith)) found.ordered
        part.past part.within in
        record {
          asked = m ∷ [];
          found = found.found [] none_found;
          touched = subst (λ e. AreTouched k meaning bytes e b'.position (m ∷ []) (Some p))
              (sym end_is)
              (subst (λ q. AreTouched k meaning bytes 0 q (m ∷ []) (Some p)) (sym found.position)
              touched);
          none = tt;
          line = 0;
          ends = record { listed = omega arith; begins = sym end_is };
        }

  -- there is no other unit
  module _ (b : Blocks) (left : AreLeft k meaning bytes b) (none : b.next ≡ None) where
    nothing : matches_left meaning bytes b.position b.left ≡ []
    nothing = subst (λ o. IfNone o (matches_left meaning bytes b.position b.left ≡ [])) none
        left.none

    passed : AreTouched k meaning bytes b.end b.position left.asked None
    passed = subst (AreTouched k meaning bytes b.end b.position left.asked) none left.touched

    pub unit-last : IsUnit k meaning bytes b.end (length bytes, length bytes)
    unit-last = unit-none k meaning bytes b.end b.position left.asked passed
        (left.found.all ∙ (ap (λ later. left.asked ++ later) nothing ∙ append-nil left.asked))
        (omega (arith, line_start-within t bytes left.line))

    pub left-last : AreLeft k meaning bytes (record b { end = length bytes; next = None })
    left-last = record {
      asked = left.asked;
      found = left.found;
      touched = touched-end k meaning bytes b.end b.position left.asked passed;
      none = nothing;
      line = length (lines t bytes);
      ends = end-start t bytes;
    }

  module _ (low : ℕ) (b b' : Blocks) (u : ℕ × ℕ) (so_far : IsReached k meaning bytes low b u)
      (same : b'.next ≡ b.next)
    where
      -- no more matches
      pub unit-done : HasNoMore k meaning bytes b b' → IsUnit k meaning bytes low u
      unit-done more = unit-of k meaning bytes low b.position so_far.asked [] u so_far.touched
          (so_far.found.all ∙ ap (λ later. so_far.asked ++ later) more.left)
          (All-nil (λ m. u.1 < block_start t bytes m))

      pub left-done : HasNoMore k meaning bytes b b' → AreLeft k meaning bytes (record b' {
        end = u.1;
      })
      left-done more = record {
        asked = so_far.asked;
        found = more.found so_far.asked so_far.found;
        touched = subst (AreTouched k meaning bytes u.1 b'.position so_far.asked)
            (sym (same ∙ so_far.taken))
            (touched-passed k meaning bytes low b.position b'.position so_far.asked u
            so_far.touched);
        none = subst (λ o. IfNone o (matches_left meaning bytes b'.position b'.left ≡ []))
            (sym (same ∙ so_far.taken)) more.still;
        line = so_far.touched.range.last;
        ends = so_far.touched.range.ends;
      }

      -- one more match
      module _ (m : ℕ × ℕ) (found : IsFound k meaning bytes b b' m) where
        -- which lines are touched then, if the next match is looked for after it
        looked-after : (e : ℕ) (p : ℕ × ℕ) → AreTouched k meaning bytes e (position_after m)
            (so_far.asked ++ m ∷ []) (Some p)
            → AreTouched k meaning bytes e b'.position (so_far.asked ++ m ∷ []) (Some p)
        looked-after e p = subst (λ q. AreTouched k meaning bytes e q (so_far.asked ++ m ∷ [])
            (Some p)) (sym found.position)

        pub reached-inside : m.0 < u.1 → m.1 ≤ u.1 → IsReached k meaning bytes low b' u
        reached-inside starts ends = record {
          asked = so_far.asked ++ m ∷ [];
          found = found.found so_far.asked so_far.found;
          touched = looked-after low u
              (touched-inside k meaning bytes low b.position so_far.asked u m so_far.touched
              found.after found.ordered starts ends);
          taken = same ∙ so_far.taken;
        }

        module _ (p : ℕ × ℕ) (over : m.0 < u.1 → u.1 < m.1) (part : IsPart t bytes u.1 m p) where
          pub reached-joined : p.0 ≤ u.1 → IsReached k meaning bytes low b' (u.0, p.1)
          reached-joined joins = record {
            asked = so_far.asked ++ m ∷ [];
            found = found.found so_far.asked so_far.found;
            touched = looked-after low (u.0, p.1)
                (touched-part k meaning bytes low b.position so_far.asked u m p so_far.touched
                found.after found.ordered over part joins);
            taken = same ∙ so_far.taken;
          }

          reach : u.1 ≤ m.1
          reach = grind (arith, over, found.ordered)

          module _ (apart : u.1 < p.0) where
            after : u.1 ≤ m.0
            after = grind arith

            is_block : p ≡ (block_start t bytes m, block_end t bytes m)
            is_block = search (arith, part-apart, reach)

            high : u.1 < block_start t bytes m
            high = omega (arith, ap (λ x. x.0) is_block)

            pub unit-apart : IsUnit k meaning bytes low u
            unit-apart =
                let later = matches_left meaning bytes b'.position b'.left in
                unit-of k meaning bytes low b.position so_far.asked (m ∷ later) u so_far.touched
                (so_far.found.all ∙ ap (λ ms. so_far.asked ++ ms) found.left)
                (All-cons (λ o. u.1 < block_start t bytes o) m later high
                (All-weaker (λ o. b'.position ≤ o.0) (λ o. u.1 < block_start t bytes o)
                (λ o low. omega (
                  arith,
                  high,
                  block_start-le t bytes m o (omega (arith, position_after-start m found.ordered)),
                )) later (matches_left-after meaning bytes b'.position b'.left)))

            pub left-apart : AreLeft k meaning bytes (record b' { end = u.1; next = Some p })
            left-apart = record {
              asked = so_far.asked ++ m ∷ [];
              found = found.found so_far.asked so_far.found;
              touched = looked-after u.1 p
                  (touched-first k meaning bytes u.1 b.position so_far.asked m p
                  (touched-passed k meaning bytes low b.position b.position so_far.asked u
                  so_far.touched)
                  is_block (omega arith) (λ _. apart) (part.before after) found.ordered part.past
                  part.within);
              none = tt;
              line = so_far.touched.range.last;
              ends = so_far.touched.range.ends;
            }
