-- Lines of which the parts that match are colored, as they are pushed run after run.
use Rattle.std.proofs.Common.{◌≡◌, ℕ, ◌+◌, ◌<◌, ◌≤◌, ◌^◌, List, [], ◌∷◌, ◌++◌, Bool, true, false, length, refl, ap, sym}
use Rattle.std.proofs.Common.{◌∙◌, append_assoc, arith, subst, Option, Some, None}
use Rattle.std.proofs.lemmas.Bool.{and_parts}
use Rattle.std.proofs.lemmas.Bool.Decides.{nat_tests}
use Rattle.std.proofs.lemmas.List.{append-nil, length-append}
use Rattle.std.specs.List.{list_any}
use Rattle.std.specs.Prelude.{◌-◌, ◌&&◌, ◌||◌, drop, max, min, nat_le, nat_lt, take, if◌then◌else◌}
use Rattle.grep_replace.proofs.FoundPartLemmas.{ordered-from}
use Rattle.grep_printer.specs.ColorRuns.{after_run, run_text}
use Rattle.grep_printer.specs.ColoredTexts.{is_matched, painted, painted_from, reaches, reset, switch_text}
use Rattle.grep_replace.specs.MatchedParts.{AreInOrder, parts_after}

switch-same : (color back : List ℕ) (b : Bool) → switch_text color back b b ≡ []
switch-same color back true = refl
switch-same color back false = refl

module _ (color back : List ℕ) (f : ℕ → Bool) where
  -- bytes that are all colored as the one before, or none of which is
  painted-more : (b : Bool) (at : ℕ) (run rest : List ℕ) → ((k : ℕ) → at ≤ k → k < at + length run → f k ≡ b)
      → painted_from color back f b at (run ++ rest) ≡ run ++ painted_from color back f b (at + length run) rest
  painted-more b at [] rest alike = ap (λ n. painted_from color back f b n rest) (omega arith)
  painted-more b at (byte ∷ later) rest alike =
      let here : f at ≡ b = alike at (omega arith) (omega arith) in
      let others = painted-more b (at + 1) later rest (λ k from to. alike k (omega (arith, from)) (omega (arith, to))) in
      let next : (at + 1) + length later ≡ at + length (byte ∷ later) = omega arith in
      ap (λ c. switch_text color back b c ++ byte ∷ painted_from color back f c (at + 1) (later ++ rest)) here
      ∙ (ap (λ (t : List ℕ). t ++ byte ∷ painted_from color back f b (at + 1) (later ++ rest)) (switch-same color back b)
      ∙ (ap (λ (t : List ℕ). byte ∷ t) others
      ∙ ap (λ n. byte ∷ (later ++ painted_from color back f b n rest)) next))

  -- bytes that are all colored, or none of which is, after any
  painted-run : (before b : Bool) (at : ℕ) (run rest : List ℕ)
      → ((k : ℕ) → at ≤ k → k < at + length run → f k ≡ b)
      → painted_from color back f before at (run ++ rest)
      ≡ run_text color back before b run ++ painted_from color back f (after_run before b run) (at + length run) rest
  painted-run before b at [] rest alike = ap (λ n. painted_from color back f before n rest) (omega arith)
  painted-run before b at (byte ∷ later) rest alike =
      let here : f at ≡ b = alike at (omega arith) (omega arith) in
      let others = painted-more b (at + 1) later rest (λ k from to. alike k (omega (arith, from)) (omega (arith, to))) in
      let next : (at + 1) + length later ≡ at + length (byte ∷ later) = omega arith in
      ap (λ c. switch_text color back before c ++ byte ∷ painted_from color back f c (at + 1) (later ++ rest)) here
      ∙ (ap (λ (t : List ℕ). switch_text color back before b ++ byte ∷ t) others
      ∙ (ap (λ n. switch_text color back before b ++ byte ∷ (later ++ painted_from color back f b n rest)) next
      ∙ sym (append_assoc (switch_text color back before b) (byte ∷ later)
      (painted_from color back f b (at + length (byte ∷ later)) rest))))

  -- bytes of which none is colored
  pub painted-none : (before : Bool) (at : ℕ) (bytes : List ℕ) → ((k : ℕ) → at ≤ k → f k ≡ false)
      → painted_from color back f before at bytes ≡ switch_text color back before false ++ bytes
  painted-none before at [] none = sym (append-nil (switch_text color back before false))
  painted-none before at (byte ∷ later) none =
      let others = painted-none false (at + 1) later (λ k from. none k (omega (arith, from))) in
      ap (λ c. switch_text color back before c ++ byte ∷ painted_from color back f c (at + 1) later) (none at (omega arith))
      ∙ ap (λ (t : List ℕ). switch_text color back before false ++ byte ∷ t) others

  -- only the bytes from the start on count
  painted-same : (g : ℕ → Bool) (before : Bool) (at : ℕ) (bytes : List ℕ) → ((k : ℕ) → at ≤ k → f k ≡ g k)
      → painted_from color back f before at bytes ≡ painted_from color back g before at bytes
  painted-same g before at [] same = refl
  painted-same g before at (byte ∷ later) same =
      let others = painted-same g (g at) (at + 1) later (λ k from. same k (omega (arith, from))) in
      ap (λ c. switch_text color back before c ++ byte ∷ painted_from color back f c (at + 1) later) (same at (omega arith))
      ∙ ap (λ (t : List ℕ). switch_text color back before (g at) ++ byte ∷ t) others

-- whether a byte is in one of some parts
abbrev is_in : List (ℕ × ℕ) → ℕ → Bool
is_in parts at = list_any (λ part. nat_le part.0 at && nat_lt at part.1) parts

and-false : (b : Bool) → (b && false) ≡ false
and-false true = refl
and-false false = refl

-- no part has a byte that comes before the parts
in-before : (parts : List (ℕ × ℕ)) (low high at : ℕ) → AreInOrder low high parts → at < low → is_in parts at ≡ false
in-before [] low high at ordered less = refl
in-before (part ∷ later) low high at ordered less =
    let first : nat_le part.0 at ≡ false = grind (arith, nat_tests, ordered.0) in
    ap (λ b. (b && nat_lt at part.1) || is_in later at) first
    ∙ in-before later part.1 high at ordered.3 (omega (arith, ordered.0, ordered.1))

-- a part has no byte that comes after it
in-later : (part : ℕ × ℕ) (later : List (ℕ × ℕ)) (at : ℕ) → part.1 ≤ at → is_in (part ∷ later) at ≡ is_in later at
in-later part later at less =
    let first : nat_lt at part.1 ≡ false = grind (arith, nat_tests) in
    ap (λ b. (nat_le part.0 at && b) || is_in later at) first
    ∙ ap (λ b. b || is_in later at) (and-false (nat_le part.0 at))

-- the parts that end by a position have no byte from there on
in-after : (position at : ℕ) (parts : List (ℕ × ℕ)) → position ≤ at
    → is_in (parts_after position parts) at ≡ is_in parts at
in-after position at [] less = refl
in-after position at (part ∷ later) less =
    go (nat_lt part.0 position && nat_le part.1 position) refl (in-after position at later less)
  where
    go : (passed : Bool) → (nat_lt part.0 position && nat_le part.1 position) ≡ passed
        → is_in (parts_after position later) at ≡ is_in later at
        → is_in (if passed then parts_after position later else part ∷ later) at ≡ is_in (part ∷ later) at
    go true passed others =
        let ends = (and_parts (nat_lt part.0 position) (nat_le part.1 position) passed).1 in
        others ∙ sym (in-later part later at (grind (arith, nat_tests, ends, less)))
    go false kept others = refl

-- a part has no byte before the end of a line that comes after the part
matched-later : (part : ℕ × ℕ) (later : List (ℕ × ℕ)) (end at : ℕ) → min part.1 end ≤ at
    → is_matched later end at ≡ is_matched (part ∷ later) end at
matched-later part later end at less = go (nat_le part.1 at) refl
  where
    go : (passed : Bool) → nat_le part.1 at ≡ passed → is_matched later end at ≡ is_matched (part ∷ later) end at
    go true passed = sym (ap (λ b. b && nat_lt at end) (in-later part later at (grind (arith, nat_tests, passed))))
    go false kept =
        let past : nat_lt at end ≡ false = grind (arith, nat_tests, kept, less) in
        ap (λ b. is_in later at && b) past ∙ (and-false (is_in later at)
        ∙ sym (ap (λ b. is_in (part ∷ later) at && b) past ∙ and-false (is_in (part ∷ later) at)))

-- the bytes of the first part that come before the end
matched-first : (part : ℕ × ℕ) (later : List (ℕ × ℕ)) (end at : ℕ) → part.0 ≤ at → at < part.1 → at < end
    → is_matched (part ∷ later) end at ≡ true
matched-first part later end at from to before =
    let above : nat_le part.0 at ≡ true = grind (arith, nat_tests, from) in
    let below : nat_lt at part.1 ≡ true = grind (arith, nat_tests, to) in
    let within : nat_lt at end ≡ true = grind (arith, nat_tests, before) in
    ap (λ b. ((b && nat_lt at part.1) || is_in later at) && nat_lt at end) above
    ∙ (ap (λ b. (b || is_in later at) && nat_lt at end) below ∙ within)

-- no byte before the first part is in one
matched-before : (part : ℕ × ℕ) (later : List (ℕ × ℕ)) (high end at : ℕ) → AreInOrder 0 high (part ∷ later)
    → at < part.0 → is_matched (part ∷ later) end at ≡ false
matched-before part later high end at ordered less =
    let first : part.0 ≤ part.0 = omega arith in
    ap (λ b. b && nat_lt at end)
    (in-before (part ∷ later) part.0 high at (first, ordered.1, ordered.2, ordered.3) less)

-- parts that begin after the end of a line have none of its bytes
pub matched-beyond : (part : ℕ × ℕ) (later : List (ℕ × ℕ)) (high end at : ℕ) → AreInOrder 0 high (part ∷ later)
    → end ≤ part.0 → is_matched (part ∷ later) end at ≡ false
matched-beyond part later high end at ordered past = go (nat_lt at end) refl
  where
    go : (before : Bool) → nat_lt at end ≡ before → is_matched (part ∷ later) end at ≡ false
    go true before = matched-before part later high end at ordered (grind (arith, nat_tests, before, past))
    go false kept = ap (λ b. is_in (part ∷ later) at && b) kept ∙ and-false (is_in (part ∷ later) at)

-- without parts none is
pub matched-none : (parts : List (ℕ × ℕ)) (end at : ℕ) → length parts ≡ 0 → is_matched parts end at ≡ false
matched-none [] end at none = refl
matched-none (part ∷ later) end at none = absurd (omega (arith, none))

-- the parts that end by a position don't count in a line from there on
pub painted-after : (color highlight : Option (List ℕ)) (position end start : ℕ) (parts : List (ℕ × ℕ)) (line : List ℕ)
    → position ≤ start
    → painted color highlight (parts_after position parts) end start line ≡ painted color highlight parts end start line
painted-after None highlight position end start parts line less = refl
painted-after (Some color) None position end start parts line less =
    painted-same color reset (is_matched (parts_after position parts) end) (is_matched parts end) false start line
    (λ k from. ap (λ b. b && nat_lt k end) (in-after position k parts (omega (arith, less, from))))
painted-after (Some color) (Some highlight) position end start parts line less =
    ap (λ (t : List ℕ). highlight ++ (t ++ (reset ++ drop (end - start) line)))
    (painted-same color highlight (is_matched (parts_after position parts) end) (is_matched parts end) false start
    (take (end - start) line)
    (λ k from. ap (λ b. b && nat_lt k end) (in-after position k parts (omega (arith, less, from)))))

-- nor whether one reaches into it
pub reaches-after : (position start : ℕ) (parts : List (ℕ × ℕ)) → position ≤ start
    → list_any (reaches start) (parts_after position parts) ≡ list_any (reaches start) parts
reaches-after position start [] less = refl
reaches-after position start (part ∷ later) less =
    go (nat_lt part.0 position && nat_le part.1 position) refl (reaches-after position start later less)
  where
    go : (passed : Bool) → (nat_lt part.0 position && nat_le part.1 position) ≡ passed
        → list_any (reaches start) (parts_after position later) ≡ list_any (reaches start) later
        → list_any (reaches start) (if passed then parts_after position later else part ∷ later)
        ≡ list_any (reaches start) (part ∷ later)
    go true passed others =
        let both = and_parts (nat_lt part.0 position) (nat_le part.1 position) passed in
        let none : reaches start part ≡ false = grind (arith, nat_tests, both.0, both.1, less) in
        others ∙ sym (ap (λ b. b || list_any (reaches start) later) none)
    go false kept others = refl

module _ (color back : List ℕ) (end : ℕ) (whole : List ℕ) where
  -- of a line some bytes are pushed; these are left, from a position on, and these parts, and the last byte that
  -- was pushed may be colored
  pub record IsPainting (text : List ℕ) (rest : List (ℕ × ℕ)) (before : Bool) (position : ℕ) (left : List ℕ)
      : Type 0 where
    pub pushed : text ++ painted_from color back (is_matched rest end) before position left ≡ whole
    pub starts : position ≤ end
    pub within : end ≤ position + length left
    pub ordered : AreInOrder 0 (2 ^ 64) rest

  -- the bytes before a part, and those of the part
  pub painting-more : (text : List ℕ) (rest : List (ℕ × ℕ)) (before : Bool) (position : ℕ) (left : List ℕ)
      (part : ℕ × ℕ) (later : List (ℕ × ℕ)) (start stop : ℕ) (gap found after new : List ℕ)
      → IsPainting text rest before position left → rest ≡ part ∷ later → part.0 < end
      → start ≡ max part.0 position → stop ≡ max (min part.1 end) start
      → left ≡ gap ++ (found ++ after) → position + length gap ≡ start → start + length found ≡ stop
      → new ≡ (text ++ run_text color back before false gap)
      ++ run_text color back (after_run before false gap) true found
      → IsPainting new later (after_run (after_run before false gap) true found) stop after
  painting-more text rest before position left part later start stop gap found after new painting is inside starts
      stops split gap_end found_end pushed =
      let f : ℕ → Bool = is_matched (part ∷ later) end in
      let ordered : AreInOrder 0 (2 ^ 64) (part ∷ later) = subst (AreInOrder 0 (2 ^ 64)) is painting.ordered in
      let low = painting.starts in
      let high = painting.within in
      let between = after_run before false gap in
      let last = after_run between true found in
      let first = run_text color back before false gap in
      let second = run_text color back between true found in
      let unmatched : (k : ℕ) → position ≤ k → k < position + length gap → f k ≡ false =
      λ k from to. matched-before part later (2 ^ 64) end k ordered (omega (arith, from, to, gap_end, starts)) in
      let matched : (k : ℕ) → start ≤ k → k < start + length found → f k ≡ true =
      λ k from to. matched-first part later end k (omega (arith, from, starts))
      (omega (arith, from, to, found_end, stops)) (omega (arith, from, to, found_end, stops)) in
      let others : painted_from color back (is_matched later end) last stop after ≡ painted_from color back f last stop after =
      painted-same color back (is_matched later end) f last stop after
      (λ k from. matched-later part later end k (omega (arith, from, stops))) in
      let of_part : painted_from color back f between start (found ++ after) ≡ second ++ painted_from color back f last stop after =
      painted-run color back f between true start found after matched
      ∙ ap (λ n. second ++ painted_from color back f last n after) found_end in
      let of_gap : painted_from color back f before position (gap ++ (found ++ after))
      ≡ first ++ painted_from color back f between start (found ++ after) =
      painted-run color back f before false position gap (found ++ after) unmatched
      ∙ ap (λ n. first ++ painted_from color back f between n (found ++ after)) gap_end in
      let lengths = ap length split ∙ length-append gap (found ++ after) in
      let more = length-append found after in
      record {
        pushed = ap (λ (t : List ℕ). new ++ t) others
            ∙ (ap (λ (t : List ℕ). t ++ painted_from color back f last stop after) pushed
            ∙ (append_assoc (text ++ first) second (painted_from color back f last stop after)
            ∙ (ap (λ (t : List ℕ). (text ++ first) ++ t) (sym of_part)
            ∙ (append_assoc text first (painted_from color back f between start (found ++ after))
            ∙ (ap (λ (t : List ℕ). text ++ t) (sym of_gap)
            ∙ (ap (λ (l : List ℕ). text ++ painted_from color back f before position l) (sym split)
            ∙ (ap (λ (ps : List (ℕ × ℕ)). text ++ painted_from color back (is_matched ps end) before position left) (sym is)
            ∙ painting.pushed)))))));
        starts = omega (arith, starts, stops, inside, low);
        within = omega (arith, high, lengths, more, gap_end, found_end);
        ordered = ordered-from later part.1 0 (2 ^ 64) (omega arith) ordered.3;
      }

  -- no part has any of the bytes that are left
  pub painting-done : (text : List ℕ) (rest : List (ℕ × ℕ)) (before : Bool) (position : ℕ) (left new : List ℕ)
      → IsPainting text rest before position left → ((k : ℕ) → position ≤ k → is_matched rest end k ≡ false)
      → new ≡ (text ++ switch_text color back before false) ++ left → new ≡ whole
  painting-done text rest before position left new painting none pushed =
      pushed ∙ (append_assoc text (switch_text color back before false) left
      ∙ (ap (λ (t : List ℕ). text ++ t) (sym (painted-none color back (is_matched rest end) before position left none))
      ∙ painting.pushed))
