use Rattle.std.proofs.Common.{rules, false, inl, inr, None, Err, Bool, [], ap, arith, length, refl}
use Rattle.std.proofs.Common.{sym, ◌∙◌, subst, ◌≡◌, ◌++◌, Ok, true, ℕ, Option}
use Rattle.std.proofs.lemmas.Bool.{false≢true}
use Rattle.std.proofs.lemmas.Result.{err_from_is_err_and}
use Rattle.grep_decode.proofs.DecoderLemmas.{Decodes-append, Decodes-none}
use Rattle.grep_line_buffer.proofs.GivenLemmas.{consumed-held}
use Rattle.grep_matcher.specs.Meanings.{Meaning}
use Rattle.grep_searcher.proofs.CutLemmas as cuts
use Rattle.grep_searcher.proofs.ReadingLemmas.{HasFilled, IsStream}
use Rattle.grep_searcher.proofs.RollingLemmas as rolling
use Rattle.grep_searcher.proofs.StreamSearchLemmas as noting
use Rattle.grep_searcher.proofs.ReadingLemmas as reading
use Rattle.grep_searcher.proofs.UnreadLemmas.{IsShort, short-filled}
use Rattle.grep_searcher.specs.BinaryCalls.{Noted, PassesBinary}
use Rattle.grep_searcher.specs.Rolls.{IsStartAt, not_passed}
use Rattle.grep_line_buffer.specs.Fills.{IfRead, ReadFails}
use Rattle.grep_definitions.specs.Plans.{IsLawful, all_true, begins}
use Rattle.grep_definitions.specs.Searches.{is_detecting, IsReadForLine, reports_nothing}
use Rattle.grep_definitions.specs.CallOrder.{HasCalled, of_call}
use Rattle.grep_walk.specs.Origins.{fresh}
use Rattle.grep_definitions.proofs.CallOrderLemmas as order
use Rattle.grep_searcher.proofs.OrderLemmas as passed
use Rattle.grep_searcher.proofs.search.Search.read_by_line.Given.{Over}
use Rattle.grep_searcher.proofs.search.Search.read_by_line.Goals as goal
use Rattle.grep_searcher.proofs.search.Search.read_by_line.Goals.{After-error_io}
use Rattle.grep_searcher.proofs.search.Search.read_by_line.Goals.{After-questions-questions}
use Rattle.grep_searcher.proofs.search.Search.read_by_line.Goals.{After-passes_binary, Else-not-branch}

-- a sink's state, with the offset of the byte that was reported to it
abbrev noted : {S : Type 0} → S → Option ℕ → Noted S
noted sink binary = record { sink = sink; binary = binary }

abbrev meaning-of : (g : Over) → g.row.M.Denot → Meaning
meaning-of g matcher = (g.M.Matcher.facts matcher).meaning

-- the search, and the laws
abbrev stream : (g : Over) (c : goal.After-questions-questions g)
    → IsStream g.R.Source.remaining g.R.Source.step c.args.self.now.config
    (meaning-of g c.args.matcher.now) c.args.decoder.now
stream g c = record {
  by_line = c.requires.by_line;
  built = λ passthru. (c.args.self.now.bare passthru).1;
  begun = c.requires.started;
}

abbrev streamed : (g : Over) (c : goal.After-passes_binary g)
    → IsStream g.R.Source.remaining g.R.Source.step
    c.args.self.now.config (meaning-of g c.args.matcher.now) c.args.decoder.now
streamed g c = stream g (goal.at.After-passes_binary g c).After-questions-questions

-- a fill that succeeded
abbrev filled : (g : Over) (c : goal.After-passes_binary g)
    → HasFilled g.R.Source.remaining g.R.Source.step
    c.args.self.now.config c.fills.lines c.fills.decoder c.fills.reader c.fill.new.self
    c.fill.new.decoder c.fill.new.reader
filled g c =
    let fill = c.in_default.ensures in
    record {
      fills = fill.reads;
      fitting = c.fills.invariant.fitting;
      same = c.fill.ensures.keeps.same;
      filled = fill.filled.shows;
      room = c.binary_byte_offset.ensures.room;
      tight = c.binary_byte_offset.ensures.cut;
      within = c.fill.ensures.keeps.within;
      done = c.fill.ensures.done;
      settled = fill.filled.settled;
    }

-- it finds no byte if none is looked for
unfound : (g : Over) (c : goal.After-passes_binary g)
    → is_detecting c.args.self.now.config.binary_detection ≡ false → c.fill.new.self.binary ≡ None
unfound g c = passed.clear-filled _ c.fills.lines c.fill.new.self _ c.in_default.ensures.reads.found
    c.fills.invariant.detects c.fills.invariant.clear

-- a byte that it finds is the one of which the sink is passed
exact : (g : Over) (c : goal.After-passes_binary g) → c.binary_byte_offset.result
    ≡ c.fill.new.self.binary
exact g c = c.binary_byte_offset.ensures.exact c.in_default.ensures.filled.fits

-- after that no offset is known if no byte is looked for
clear : (g : Over) (c : goal.After-passes_binary g) (goes : Bool)
    → PassesBinary g.S.Sink.step c.args.self.now.config c.binary_byte_offset.result
    (noted c.fills.sink c.fills.binary)
    goes (noted c.passes_binary.new.sink c.passes_binary.new.binary)
    → is_detecting c.args.self.now.config.binary_detection ≡ false → c.passes_binary.new.binary
    ≡ None
clear g c goes passes = passed.clear-passed g.S.Sink.step c.args.self.now.config
    c.binary_byte_offset.result (λ none. exact g c ∙ unfound g c none) _
    _ goes c.fills.invariant.noted_clear passes

-- the search goes on after it
passes : (g : Over) (c : goal.Else-not-branch g)
    → PassesBinary g.S.Sink.step c.args.self.now.config
    c.fill.new.self.binary (noted c.fills.sink c.fills.binary) true
    (noted c.passes_binary.new.sink c.passes_binary.new.binary)
passes g c =
    let goes : c.in_ok-passes_binary.field-0 ≡ true = search rules in
    rw (exact g _, goes) at c.in_ok-passes_binary.ensures.passes

called : (g : Over) (c : goal.Else-not-branch g) → HasCalled g.S.Sink.step c.args.self.now.config
    (passed.known_count c.passes_binary.new.binary) c.args.sink.now all_true
    c.passes_binary.new.sink
called g c = passed.passes-on _ _ _ (unfound g (goal.at.Else-not-branch g c).After-passes_binary)
    _ _ _ c.fills.invariant.calls (passes g c)

there : (g : Over) (c : goal.Else-not-branch g) → IsLawful (g.M.Matcher.facts c.args.matcher.now)
    c.args.self.now.config → (first : g.row.S.Denot)
    → g.S.Sink.step first c.args.self.now.config begins (Ok true) c.args.sink.now
    → cuts.GoesOn g.S.Sink.step c.args.self.now.config (meaning-of g c.args.matcher.now)
    g.R.Source.remaining
    g.R.Source.step c.args.decoder.now c.args.reader.now first c.fills.lines c.fills.decoder
    c.fills.reader c.fills.walk c.in_default.ensures.reads.given c.fill.new.self
    (noted c.passes_binary.new.sink c.passes_binary.new.binary)
there g c lawful first begun =
    let here = (goal.at.Else-not-branch g c).After-passes_binary in
    cuts.goes-on (streamed g here) (filled g here)
    (c.fills.invariant.rolling lawful first begun) (c.fills.invariant.noted lawful) (passes g c)

-- why no more is read
short : (g : Over) (c : goal.After-error_io g)
    → (lawful : IsLawful (g.M.Matcher.facts c.args.matcher.now)
    c.args.self.now.config) (first : g.row.S.Denot)
    (begun : g.S.Sink.step first c.args.self.now.config begins (Ok true) c.args.sink.now)
    (has_buffers : Bool) → IsShort g.R.Source.remaining g.R.Source.step
    (record {
      settings = c.args.self.now.config;
      has_buffers = has_buffers;
    }) (meaning-of g c.args.matcher.now)
    c.args.reader.now (c.fills.invariant.rolling lawful first begun).rolling.given
    ((c.fills.invariant.rolling lawful first begun).rolling.gone ++ c.fills.lines.shown)
    c.fill.new.reader c.io_error.result
short g c lawful first begun has_buffers =
    let fill = c.in-Err.ensures in
    short-filled _ (stream g (goal.at.After-error_io g c).After-questions-questions)
    (c.fills.invariant.rolling lawful first begun).rolling _ c.io_error.ensures (record {
      fitting = c.fills.invariant.fitting;
      allowed = c.requires.allowed;
      same = c.fill.ensures.keeps.same;
      grows = c.fill.ensures.keeps.grows;
      within = c.fill.ensures.keeps.within;
      fails = fill.error;
      reads = fill.reads;
      read = fill.read;
    })

-- a search that may report nothing has read for one line
read-once : (g : Over) (c : goal.After-passes_binary g) → reports_nothing c.args.self.now.config
    ≡ true
    → IsReadForLine g.R.Source.remaining g.R.Source.step c.args.self.now.config c.args.reader.now
    c.fill.new.reader
read-once g c idle = reading.read-once c.requires.fitting
    c.requires.empty c.requires.started (c.fills.invariant.fresh idle) c.in_default.ensures.filled.begins

pub fills-init : goal.fills-init
fills-init g c =
    let empty = c.requires.empty in
    record {
      fitting = c.requires.fitting;
      at = omega (arith, ap (λ b. b.offset) empty, ap (λ b. length b.shown) empty);
      below = omega arith;
      ordered = record { few = omega arith; low = omega arith; chosen = omega arith };
      may_call = c.requires.may_call;
      decoded = (
        [],
        Decodes-none g.R.Source.remaining g.R.Source.step c.args.decoder.now c.args.reader.now,
      );
      detects = ap (λ b. b.detection) empty;
      clear = λ _. ap (λ b. b.binary) empty;
      noted_clear = λ _. c.requires.binary;
      fresh = λ idle. (refl, refl, refl);
      calls = order.called-none _ _ _;
      noted = λ lawful. c.requires.binary ∙ sym (ap (λ b. b.binary) empty);
      rolling = λ lawful first begun.
          let rolls = rolling.rolling-start empty c.requires.fitting.terminator
          (Decodes-none g.R.Source.remaining g.R.Source.step c.args.decoder.now c.args.reader.now)
          c.requires.busy begun in
          record {
            start = fresh first;
            rolling = rolls;
            passed = subst (IsStartAt g.S.Sink.step c.args.self.now.config
                (meaning-of g c.args.matcher.now) rolls.given 0
                first (fresh first)) (sym c.requires.binary) (not_passed refl);
          };
    }

pub returns-in-Err-clause-fault : goal.returns-in-Err-clause-fault
returns-in-Err-clause-fault g c = λ lawful first begun has_buffers.
    let at = (goal.at.returns-in-Err-clause-fault g c).After-error_io in
    inr (cuts.cut-short (stream g
    (goal.at.returns-in-Err-clause-fault g c).After-questions-questions)
    (c.fills.invariant.rolling lawful first begun) c.fills.invariant.fitting.terminator
    (c.fills.invariant.noted lawful) (g.M.Matcher.facts c.args.matcher.now)
    (short g at lawful first begun has_buffers) c.error_io.ensures)

pub returns-in-Err-clause-succeeds : goal.returns-in-Err-clause-succeeds
returns-in-Err-clause-succeeds g c = λ _ _ lawful first begun has_buffers.
    let why = short g (goal.at.returns-in-Err-clause-succeeds g c).After-error_io lawful first begun
    _ in
    (true, _, c.io_error.result, (why.mid, why.taken, why.cause), c.error_io.ensures)

pub returns-in_err-passes_binary-clause-fault : goal.returns-in_err-passes_binary-clause-fault
returns-in_err-passes_binary-clause-fault g c =
    let p = err_from_is_err_and c.from_residual.result c.from_residual.ensures.1 in
    let at = (goal.at.returns-in_err-passes_binary-clause-fault g c).After-passes_binary in
    rw (p.1, p.2) (λ lawful first begun has_buffers.
    inl (cuts.fault-cut (streamed g at) (filled g at)
    (c.fills.invariant.rolling lawful first begun) (c.fills.invariant.noted lawful)
    (g.M.Matcher.facts c.args.matcher.now)
    (noted c.passes_binary.new.sink c.passes_binary.new.binary)
    (rw (exact g at) at c.in_err-passes_binary.ensures.fails)))

pub returns-then-not-branch-clause-counted : goal.returns-then-not-branch-clause-counted
returns-then-not-branch-clause-counted g c = λ lawful first begun.
    let at = (goal.at.returns-then-not-branch-clause-counted g c).After-passes_binary in
    cuts.ended-cut (streamed g at) (filled g at)
    (c.fills.invariant.rolling lawful first begun) (c.fills.invariant.noted lawful)
    {sink' = noted c.passes_binary.new.sink c.passes_binary.new.binary}
    (rw (exact g at, c.if-not-branch.true) at c.in_ok-passes_binary.ensures.passes)

pub returns-in_err-search_shown-clause-fault : goal.returns-in_err-search_shown-clause-fault
returns-in_err-search_shown-clause-fault g c =
    let p = err_from_is_err_and c.from_residual-in_err-search_shown.result
    c.from_residual-in_err-search_shown.ensures.1 in
    let on = (goal.at.returns-in_err-search_shown-clause-fault g c).Else-not-branch in
    let at = (goal.at.Else-not-branch g on).After-passes_binary in
    rw (p.1, p.2) (λ lawful first begun has_buffers.
    inl (cuts.fault-shown (streamed g at) (filled g at)
    (there g on lawful first begun) (sym c.reports_nothing.ensures ∙ c.if-reports_nothing.false)
    (g.M.Matcher.facts c.args.matcher.now) (c.in_err-search_shown.ensures.fault lawful)))

pub returns-then-reports_nothing-clause-counted : goal.returns-then-reports_nothing-clause-counted
returns-then-reports_nothing-clause-counted g c = λ lawful first begun.
    let on = (goal.at.returns-then-reports_nothing-clause-counted g c).Else-not-branch in
    let at = (goal.at.Else-not-branch g on).After-passes_binary in
    cuts.counted-idle (streamed g at) (filled g at)
    (there g on lawful first begun) (sym c.reports_nothing.ensures ∙ c.if-reports_nothing.true)

pub returns-then-not-branch-2-clause-counted : goal.returns-then-not-branch-2-clause-counted
returns-then-not-branch-2-clause-counted g c = λ lawful first begun.
    let on = (goal.at.returns-then-not-branch-2-clause-counted g c).Else-not-branch in
    let at = (goal.at.Else-not-branch g on).After-passes_binary in
    cuts.counted-shown (streamed g at) (filled g at)
    (there g on lawful first begun) (sym c.reports_nothing.ensures ∙ c.if-reports_nothing.false)
    (c.in_ok-search_shown.ensures.ends lawful c.if-not-branch-2.true)

pub fills-preserved : goal.fills-preserved
fills-preserved g c =
    let k = c.args.self.now.config in
    let moves : c.in_ok-search_shown.field-0 ≡ true = search rules in
    let on = (goal.at.fills-preserved g c).Else-not-branch in
    let at = (goal.at.Else-not-branch g on).After-passes_binary in
    let busy = sym c.reports_nothing.ensures ∙ c.if-reports_nothing.false in
    let reads = c.in_default.ensures.reads in
    record {
      fitting = c.search_shown.ensures.fitting _ _ (rolling.fitting-filled c.fills.invariant.fitting
          c.fill.ensures.keeps.same c.fill.ensures.keeps.grows c.fill.ensures.keeps.within);
      at = c.in_ok-search_shown.ensures.at moves;
      below = c.in_ok-search_shown.ensures.below moves;
      ordered = c.in_ok-search_shown.ensures.ordered;
      may_call = c.search_shown.ensures.may_call;
      decoded = (
        c.fills.invariant.decoded.0 ++ reads.given,
        Decodes-append g.R.Source.remaining g.R.Source.step _ c.fills.decoder _ _ c.fills.reader _ _
            _ c.fills.invariant.decoded.1 reads.decodes,
      );
      detects = c.in_ok-search_shown.ensures.detection
          ∙ (c.fill.ensures.keeps.same.detection ∙ c.fills.invariant.detects);
      clear = λ none. c.in_ok-search_shown.ensures.binary ∙ unfound g at none;
      noted_clear = clear g (goal.at.fills-preserved g c).After-passes_binary _
          c.in_ok-passes_binary.ensures.passes;
      fresh = λ idle. absurd (false≢true (sym busy ∙ idle));
      calls = order.called-then _ k _ _ _ _ (called g on)
          (rw moves at c.in_ok-search_shown.ensures.in_order);
      noted = λ lawful. noting.noted-passed g.S.Sink.step k c.fills.lines.binary _ _
          (noted c.fills.sink c.fills.binary) _ reads.found (c.fills.invariant.noted lawful)
          (passes g on) ∙ sym c.in_ok-search_shown.ensures.binary;
      rolling = λ lawful first begun. cuts.reads-on (streamed g at) (filled g at)
          (there g on lawful first begun) busy (c.in_ok-search_shown.ensures.goes_on lawful moves)
          (omega (arith, c.in_ok-search_shown.ensures.ahead moves))
          (λ gone count. consumed-held gone c.fill.new.self.shown c.fill.new.self.rest count);
    }

pub returns-in-Err-clause-in_order : goal.returns-in-Err-clause-in_order
returns-in-Err-clause-in_order g c = inr (
  c.io_error.result,
  passed.reading-error _ _ _ _ _ _ (λ e is.
      let fails = subst (λ fault. IfRead {X = Bool} (Err fault)
      (λ e. ReadFails g.R.Source.remaining g.R.Source.step e c.fills.lines
      c.fills.decoder c.fills.reader c.fill.new.self c.fill.new.decoder c.fill.new.reader)) is
      c.in-Err.ensures.read in
      passed.failed-read _ _ _ (ap (λ d. d.has_ended) c.requires.started)
      (Decodes-append g.R.Source.remaining g.R.Source.step _ c.fills.decoder _ _ c.fills.reader _ _
      _ c.fills.invariant.decoded.1 fails.fails.fills.decodes)
      fails.fails.unended fails.fails.failed) c.io_error.ensures,
  c.error_io.ensures,
  order.called-most _ _ (passed.once _) _ _ _ c.fills.invariant.calls,
)

pub returns-in_err-passes_binary-clause-in_order : goal.returns-in_err-passes_binary-clause-in_order
returns-in_err-passes_binary-clause-in_order g c =
    let p = err_from_is_err_and c.from_residual.result c.from_residual.ensures.1 in
    let at = (goal.at.returns-in_err-passes_binary-clause-in_order g c).After-passes_binary in
    rw (p.1, p.2) (inl (of_call (passed.fails-at _ _ _ (λ none. exact g at ∙ unfound g at none) _
    (noted c.passes_binary.new.sink c.passes_binary.new.binary)
    _ c.fills.invariant.calls _ c.in_err-passes_binary.ensures.fails)))

pub returns-then-not-branch-clause-in_order : goal.returns-then-not-branch-clause-in_order
returns-then-not-branch-clause-in_order g c =
    let at = (goal.at.returns-then-not-branch-clause-in_order g c).After-passes_binary in
    passed.passes-off _ _ _ (unfound g at) _ _ _ c.fills.invariant.calls
    (rw (exact g at, c.if-not-branch.true) at c.in_ok-passes_binary.ensures.passes)

pub returns-then-not-branch-clause-noted : goal.returns-then-not-branch-clause-noted
returns-then-not-branch-clause-noted g c =
    clear g (goal.at.returns-then-not-branch-clause-noted g c).After-passes_binary _
    c.in_ok-passes_binary.ensures.passes

pub returns-then-reports_nothing-clause-in_order : goal.returns-then-reports_nothing-clause-in_order
returns-then-reports_nothing-clause-in_order g c = record {
  outcome = all_true;
  ends = tt;
  called = order.called-most _ _ (passed.once c.passes_binary.new.binary) _ _ _
      (called g (goal.at.returns-then-reports_nothing-clause-in_order g c).Else-not-branch);
}

pub returns-then-reports_nothing-clause-noted : goal.returns-then-reports_nothing-clause-noted
returns-then-reports_nothing-clause-noted g c =
    clear g (goal.at.returns-then-reports_nothing-clause-noted g c).After-passes_binary _
    c.in_ok-passes_binary.ensures.passes

pub returns-in_err-search_shown-clause-in_order : goal.returns-in_err-search_shown-clause-in_order
returns-in_err-search_shown-clause-in_order g c =
    let p = err_from_is_err_and c.from_residual-in_err-search_shown.result
    c.from_residual-in_err-search_shown.ensures.1 in
    rw (p.1, p.2) (inl (order.failed-then _ _ _ _ _ _ _ _
    (order.called-most _ _ (passed.once c.passes_binary.new.binary) _ _ _
    (called g (goal.at.returns-in_err-search_shown-clause-in_order g c).Else-not-branch))
    c.in_err-search_shown.ensures.in_order))

pub returns-then-not-branch-2-clause-in_order : goal.returns-then-not-branch-2-clause-in_order
returns-then-not-branch-2-clause-in_order g c =
    order.called-after-to _ _ (omega arith) _ _ _ _
    (order.called-most _ _ (passed.once c.passes_binary.new.binary) _ _ _
    (called g (goal.at.returns-then-not-branch-2-clause-in_order g c).Else-not-branch))
    (rw c.if-not-branch-2.true at c.in_ok-search_shown.ensures.in_order)

pub returns-then-not-branch-2-clause-noted : goal.returns-then-not-branch-2-clause-noted
returns-then-not-branch-2-clause-noted g c =
    clear g (goal.at.returns-then-not-branch-2-clause-noted g c).After-passes_binary _
    c.in_ok-passes_binary.ensures.passes

pub returns-then-not-branch-clause-once : goal.returns-then-not-branch-clause-once
returns-then-not-branch-clause-once g c =
    read-once g (goal.at.returns-then-not-branch-clause-once g c).After-passes_binary

pub returns-then-reports_nothing-clause-once : goal.returns-then-reports_nothing-clause-once
returns-then-reports_nothing-clause-once g c =
    read-once g (goal.at.returns-then-reports_nothing-clause-once g c).After-passes_binary

pub returns-then-not-branch-2-clause-once : goal.returns-then-not-branch-2-clause-once
returns-then-not-branch-2-clause-once g c = λ idle.
    absurd (false≢true (sym c.if-reports_nothing.false ∙ (c.reports_nothing.ensures ∙ idle)))
