-- What the sink of a printer has printed after a run along a plan.
use Rattle.std.proofs.Common.{◌≡◌, ◌∙◌, List, [], ◌∷◌, ◌++◌, ap, append_assoc, inl, inr, refl, sym, subst}
use Rattle.std.proofs.lemmas.Bool.{and_parts}
use Rattle.std.proofs.lemmas.List.{append-nil}
use Rattle.std.specs.Global.{Global}
use Rattle.std.specs.List.{fold}
use Rattle.std.specs.Prelude.{ℕ, Bool, true, false, ◌||◌, ◌&&◌, Option, Err, Ok, Result, if◌then◌else◌}
use Rattle.grep_output.proofs.PendingLemmas.{Puts-more, Puts-none}
use Rattle.grep_output.specs.Outputs.{Begins, OutputCall}
use Rattle.grep_output.specs.PendingTexts.{PutsAll, pending_bytes}
use Rattle.grep_matcher.specs.Meanings.{MatcherFacts}
use Rattle.grep_searcher.specs.Plans.{AreMade, Call, Finish, IsFinished, IsRun, Outcome, Plan, Planned, Settings}
use Rattle.grep_searcher.specs.Plans.{all_true, finishes}
use Rattle.grep_searcher.specs.SearchLaws.{is_match}
use Rattle.grep_searcher.specs.declared.SearchError.{SearchError}
use Rattle.grep_printer.specs.CallParts.{HasParts, has_match, parts_of_call}
use Rattle.grep_printer.specs.Formats.{AllGoOn, AreAlong, IsEnd, Printed, PrintedCall, Rules, Scene, printed_by}
use Rattle.grep_printer.specs.Formats.{goes_on_after_each, is_text, printed_with}
use Rattle.grep_printer.proofs.SomeTextLemmas.{text-more, text-none}
use Rattle.grep_printer.specs.PrinterSteps.{FailsAlongPlan, FailsToPrint, HasFound, IsCutShort, IsSameSink, KeepsNoMore}
use Rattle.grep_printer.specs.PrinterSteps.{Prints, PrintsAll, PrintsCall, scene_of, text_of}
use Rattle.grep_printer.specs.declared.printer.PrinterSink.{PrinterSink}

-- one step after another
pub same-more : {F M W : Type 0} (old mid new : PrinterSink F M W) → IsSameSink old mid → IsSameSink mid new
    → IsSameSink old new
same-more old mid new first later = record {
  printer = later.printer ∙ first.printer;
  writer = later.writer ∙ first.writer;
  format = later.format ∙ first.format;
  buffer_size = later.buffer_size ∙ first.buffer_size;
  matcher = later.matcher ∙ first.matcher;
  path = later.path ∙ first.path;
}

module _ {F : Type 0} (rules : Rules F) (scene : Scene) where
  -- the text of some calls begins with what was made before them
  text-begins : (calls : List PrintedCall) (made : Printed F)
      → Begins made.text (fold (printed_with rules scene) made calls).text
  text-begins [] made = ([], sym (append-nil made.text))
  text-begins (call ∷ later) made =
      let rest = text-begins later (printed_with rules scene made call) in (
        rules.text made.format scene call ++ rest.0,
        rest.1 ∙ append_assoc made.text (rules.text made.format scene call) rest.0,
      )

  -- and so does that of more calls
  pub text-goes-on : (before : List PrintedCall) (tried : PrintedCall) (later : List PrintedCall) (made : Printed F)
      → Begins ((fold (printed_with rules scene) made before).text
      ++ rules.text (fold (printed_with rules scene) made before).format scene tried)
      (fold (printed_with rules scene) made (before ++ tried ∷ later)).text
  text-goes-on [] tried later made = text-begins later (printed_with rules scene made tried)
  text-goes-on (call ∷ before) tried later made =
      text-goes-on before tried later (printed_with rules scene made call)

module _ {F M W E : Type 0} (rules : Rules F) (output : E → Option (List ℕ)) (facts : M → MatcherFacts E)
    (first_at : M → List ℕ → ℕ → Option (ℕ × ℕ)) (write_step : W → OutputCall → W → Type 0) (settings : Settings)
    (start : PrinterSink F M W) where
  abbrev scene : Scene
  scene = scene_of start settings

  abbrev Found : F → PrintedCall → Type 0
  Found = HasFound rules facts first_at start settings

  abbrev StepOf : PrinterSink F M W → Settings → Call → Result Bool (SearchError Global) → PrinterSink F M W → Type 0
  StepOf = PrintsCall rules output facts first_at write_step

  -- what a sink has printed
  record HasPrinted (made : Printed F) (now : PrinterSink F M W) : Type 0 where
    same : IsSameSink start now
    put : PutsAll write_step start.writer.now (pending_bytes start.printer.now.pending) made.text now.writer.now
        (pending_bytes now.printer.now.pending)
    format : now.format ≡ made.format
    has_written : now.printer.now.has_written ≡ (start.printer.now.has_written || is_text made.text)
    has_failed : now.printer.now.has_failed ≡ start.printer.now.has_failed
    at_once : start.printer.now.buffer_size ≡ 0 → pending_bytes start.printer.now.pending ≡ []
        → pending_bytes now.printer.now.pending ≡ []

  -- the texts of its calls depend on the same
  scene-same : (made : Printed F) (now : PrinterSink F M W) → HasPrinted made now → scene_of now settings ≡ scene
  scene-same made now has = ap (λ path. record { path = path; settings = settings }) has.same.path

  -- what it finds is the same too
  found-same : (made : Printed F) (now : PrinterSink F M W) (printed : PrintedCall) → HasPrinted made now
      → HasFound rules facts first_at now settings now.format printed → Found made.format printed
  found-same made now printed has found =
      subst (λ format. Found format printed) has.format
      (subst (λ m. HasParts (first_at m) settings (facts m).meaning
      (has_match settings printed.call && rules.asks now.format printed.call) printed) has.same.matcher found)

  text-same : (made : Printed F) (now : PrinterSink F M W) (printed : PrintedCall) → HasPrinted made now
      → text_of rules now settings printed ≡ rules.text made.format scene printed
  text-same made now printed has =
      ap (λ s. rules.text now.format s printed) (scene-same made now has)
      ∙ ap (λ format. rules.text format scene printed) has.format

  -- one more call
  record HasPrintedMore (made : Printed F) (call : Call) (goes : Bool) (new : PrinterSink F M W) : Type 0 where
    printed : PrintedCall
    is_call : printed.call ≡ call
    found : Found made.format printed
    goes_on : goes ≡ rules.goes_on made.format scene printed
    has : HasPrinted (printed_with rules scene made printed) new
    kept : is_match call ≡ false → KeepsNoMore new

  printed-more : (made : Printed F) (old : PrinterSink F M W) (call : Call) (goes : Bool) (new : PrinterSink F M W)
      → HasPrinted made old → Prints rules output facts first_at write_step old settings call goes new
      → HasPrintedMore made call goes new
  printed-more made old call goes new has step =
      let printed = step.printed in
      let here = text-same made old printed has in
      let seen = scene-same made old has in record {
        printed = printed;
        is_call = step.is_call;
        found = found-same made old printed has step.has_parts;
        goes_on = step.goes_on ∙ (ap (λ s. rules.goes_on old.format s printed) seen
            ∙ ap (λ format. rules.goes_on format scene printed) has.format);
        has = record {
          same = same-more start old new has.same step.same;
          put = Puts-more write_step start.writer.now old.writer.now new.writer.now
              (pending_bytes start.printer.now.pending) made.text (pending_bytes old.printer.now.pending) (rules.text made.format scene printed)
              (pending_bytes new.printer.now.pending) (Ok tt) has.put
              (subst (λ t. PutsAll write_step old.writer.now (pending_bytes old.printer.now.pending) t
              new.writer.now (pending_bytes new.printer.now.pending)) here step.put);
          format = step.format ∙ (ap (λ s. rules.next old.format s printed) seen
              ∙ ap (λ format. rules.next format scene printed) has.format);
          has_written = step.has_written ∙ (ap (λ b. b || is_text
              (text_of rules old settings printed)) has.has_written
              ∙ (ap (λ t. (start.printer.now.has_written || is_text made.text) || is_text t) here
              ∙ text-more start.printer.now.has_written made.text (rules.text made.format scene printed)));
          has_failed = step.has_failed ∙ has.has_failed;
          at_once = λ none empty. step.at_once (has.same.buffer_size ∙ none);
        };
        kept = step.kept;
      }

  -- nothing is printed yet
  printed-none : HasPrinted (record { format = start.format; text = [] }) start
  printed-none = record {
    same = record { printer = refl; writer = refl; format = refl; buffer_size = refl; matcher = refl; path = refl };
    put = Puts-none write_step start.writer.now (pending_bytes start.printer.now.pending);
    format = refl;
    has_written = text-none start.printer.now.has_written;
    has_failed = refl;
    at_once = λ none empty. empty;
  }

  -- calls that all returned true
  record Passed (made : Printed F) (calls : List Planned) (new : PrinterSink F M W) : Type 0 where
    printed : List PrintedCall
    all : AllGoOn rules scene Found made.format calls printed
    has : HasPrinted (fold (printed_with rules scene) made printed) new

  passed-from : (calls : List Planned) (made : Printed F) (old new : PrinterSink F M W) → HasPrinted made old
      → AreMade StepOf settings old calls all_true new → Passed made calls new
  passed-from [] made old new has (is, same) =
      record { printed = []; all = refl; has = subst (λ s. HasPrinted made s) (sym same) has }
  passed-from (planned ∷ later) made old new has (inl (between, here, rest)) =
      let one = printed-more made old planned.call true between has here in
      let others = passed-from later (printed_with rules scene made one.printed) between new one.has rest in record {
        printed = one.printed ∷ others.printed;
        all = (one.printed, others.printed, refl, one.is_call, one.found, sym one.goes_on, others.all);
        has = others.has;
      }
  passed-from (planned ∷ later) made old new has (inr (inl (is, here))) = absurd (let never = is in cc)
  passed-from (planned ∷ later) made old new has (inr (inr (e, is, here))) = absurd (let never = is in cc)

  -- a run that ended in `Ok`
  record Walked (made : Printed F) (calls : List Planned) (outcome : Outcome (SearchError Global)) (finish : Finish)
      (new : PrinterSink F M W) : Type 0 where
    printed : List PrintedCall
    along : AreAlong rules scene Found made.format calls finish printed
    has : HasPrinted (fold (printed_with rules scene) made printed) new
    whole : goes_on_after_each rules scene made.format printed ≡ true → outcome ≡ all_true
    kept : KeepsNoMore new

  walked-from : (finish : Finish) (new : PrinterSink F M W) (calls : List Planned) (made : Printed F)
      (old mid : PrinterSink F M W) (outcome : Outcome (SearchError Global)) → HasPrinted made old
      → AreMade StepOf settings old calls outcome mid → IsFinished StepOf settings outcome mid finish (Ok tt) new
      → Walked made calls outcome finish new
  walked-from finish new [] made old mid outcome has (is, same) finished =
      let last = subst (λ o. IsFinished StepOf settings o mid finish (Ok tt) new) is finished in
      let one = printed-more made mid (finishes finish.count finish.binary) true new
      (subst (λ s. HasPrinted made s) (sym same) has) last in
      record {
        printed = one.printed ∷ [];
        along = (one.printed, refl, one.is_call, one.found);
        has = one.has;
        whole = λ goes. is;
        kept = one.kept refl;
      }
  walked-from finish new (planned ∷ later) made old mid outcome has (inl (between, here, rest)) finished =
      let one = printed-more made old planned.call true between has here in
      let others = walked-from finish new later (printed_with rules scene made one.printed) between mid outcome one.has
      rest finished in record {
        printed = one.printed ∷ others.printed;
        along = (one.printed, others.printed, refl, one.is_call, one.found, inl (sym one.goes_on, others.along));
        has = others.has;
        whole = λ goes. others.whole (and_parts _ _ goes).1;
        kept = others.kept;
      }
  walked-from finish new (planned ∷ later) made old mid outcome has (inr (inl (is, here))) finished =
      let one = printed-more made old planned.call false mid has here in
      let last = subst (λ o. IsFinished StepOf settings o mid finish (Ok tt) new) is finished in
      let end = printed-more (printed_with rules scene made one.printed) mid
      (finishes planned.if_false.count planned.if_false.binary) true new one.has last in record {
        printed = one.printed ∷ end.printed ∷ [];
        along = (
          one.printed,
          end.printed ∷ [],
          refl,
          one.is_call,
          one.found,
          inr (sym one.goes_on, (end.printed, refl, end.is_call, end.found)),
        );
        has = end.has;
        whole = λ goes. absurd (let never = one.goes_on ∙ (and_parts _ _ goes).0 in cc);
        kept = end.kept refl;
      }
  walked-from finish new (planned ∷ later) made old mid outcome has (inr (inr (e, is, here))) finished =
      let last = subst (λ o. IsFinished StepOf settings o mid finish (Ok tt) new) is finished in
      absurd (let never = last.0 in cc)

  -- a call with its parts
  abbrev alone : F → Call → PrintedCall
  alone format call = record {
    call = call;
    parts = if has_match settings call && rules.asks format call
        then parts_of_call settings (facts start.matcher).meaning call (first_at start.matcher)
        else [];
  }

  alone-found : (format : F) (call : Call) → Found format (alone format call)
  alone-found format call = refl

  some-end : (finish : Finish) (format : F)
      → IsEnd rules scene Found format finish (alone format (finishes finish.count finish.binary) ∷ [])
  some-end finish format = (
    alone format (finishes finish.count finish.binary),
    refl,
    refl,
    alone-found format (finishes finish.count finish.binary),
  )

  -- some calls go on from a first one, whatever its parts are
  walk-after : (planned : Planned) (later : List Planned) (finish : Finish) (format : F) (first : PrintedCall)
      → first.call ≡ planned.call → Found format first
      → ((rest : List PrintedCall) × AreAlong rules scene Found (rules.next format scene first) later finish rest)
      → (rest : List PrintedCall) × AreAlong rules scene Found format (planned ∷ later) finish (first ∷ rest)
  walk-after planned later finish format first is found others = go (rules.goes_on format scene first) refl
    where
      go : (goes : Bool) → rules.goes_on format scene first ≡ goes
          → (rest : List PrintedCall) × AreAlong rules scene Found format (planned ∷ later) finish (first ∷ rest)
      go true goes = (others.0, (first, others.0, refl, is, found, inl (goes, others.1)))
      go false goes =
          let after = rules.next format scene first in
          let last = alone after (finishes planned.if_false.count planned.if_false.binary) in
          (last ∷ [], (first, last ∷ [], refl, is, found, inr (goes, some-end planned.if_false after)))

  some-walk : (finish : Finish) (calls : List Planned) (format : F)
      → (printed : List PrintedCall) × AreAlong rules scene Found format calls finish printed
  some-walk finish [] format = (alone format (finishes finish.count finish.binary) ∷ [], some-end finish format)
  some-walk finish (planned ∷ later) format =
      let first = alone format planned.call in
      let walk = walk-after planned later finish format first refl (alone-found format planned.call)
      (some-walk finish later (rules.next format scene first)) in
      (first ∷ walk.0, walk.1)

  -- a call fails, and is one with some parts
  record Tried (made : Printed F) (call : Call) (e : SearchError Global) (mid new : PrinterSink F M W) : Type 0 where
    tried : PrintedCall
    is_call : tried.call ≡ call
    found : Found made.format tried
    cut : IsCutShort rules output facts first_at write_step mid settings tried e new

  tries : (made : Printed F) (mid : PrinterSink F M W) (call : Call) (e : SearchError Global) (new : PrinterSink F M W)
      → HasPrinted made mid → FailsToPrint rules output facts first_at write_step mid settings call e new
      → Tried made call e mid new
  tries made mid call e new has fails = elim fails.cause [
    | inl writing ↦ record {
      tried = writing.printed;
      is_call = writing.is_call;
      found = found-same made mid writing.printed has writing.has_parts;
      cut = inl (writing.error, writing.is_io, writing.pending, writing.format, writing.has_failed, writing.failed);
    }
    | inr other ↦ elim other [
      | inl before ↦ record {
        tried = alone made.format call;
        is_call = refl;
        found = alone-found made.format call;
        cut = inr (inl before);
      }
      | inr (printed, is_call, found, some) ↦ record {
        tried = printed;
        is_call = is_call;
        found = found-same made mid printed has found;
        cut = inr (inr some);
      }
    ]
  ]

  -- a call fails after others
  record FailsOnTheWay (made : Printed F) (calls : List Planned) (finish : Finish) (e : SearchError Global)
      (new : PrinterSink F M W) : Type 0 where
    before : List PrintedCall
    tried : PrintedCall
    later : List PrintedCall
    along : AreAlong rules scene Found made.format calls finish (before ++ tried ∷ later)
    mid : PrinterSink F M W
    has : HasPrinted (fold (printed_with rules scene) made before) mid
    cut : IsCutShort rules output facts first_at write_step mid settings tried e new
    same : IsSameSink mid new
    has_written : new.printer.now.has_written ≡ mid.printer.now.has_written

  fails-from : (finish : Finish) (e : SearchError Global) (new : PrinterSink F M W) (calls : List Planned)
      (made : Printed F) (old mid : PrinterSink F M W) (outcome : Outcome (SearchError Global)) → HasPrinted made old
      → AreMade StepOf settings old calls outcome mid → IsFinished StepOf settings outcome mid finish (Err e) new
      → FailsOnTheWay made calls finish e new
  fails-from finish e new [] made old mid outcome has (is, same) finished =
      let last = subst (λ o. IsFinished StepOf settings o mid finish (Err e) new) is finished in
      let here = subst (λ s. HasPrinted made s) (sym same) has in
      let one = tries made mid (finishes finish.count finish.binary) e new here last in record {
        before = [];
        tried = one.tried;
        later = [];
        along = (one.tried, refl, one.is_call, one.found);
        mid = mid;
        has = here;
        cut = one.cut;
        same = last.same;
        has_written = last.has_written;
      }
  fails-from finish e new (planned ∷ later) made old mid outcome has (inl (between, step_here, rest)) finished =
      let one = printed-more made old planned.call true between has step_here in
      let way = fails-from finish e new later (printed_with rules scene made one.printed) between mid outcome one.has rest
      finished in record {
        before = one.printed ∷ way.before;
        tried = way.tried;
        later = way.later;
        along = (
          one.printed,
          way.before ++ way.tried ∷ way.later,
          refl,
          one.is_call,
          one.found,
          inl (sym one.goes_on, way.along),
        );
        mid = way.mid;
        has = way.has;
        cut = way.cut;
        same = way.same;
        has_written = way.has_written;
      }
  fails-from finish e new (planned ∷ later) made old mid outcome has (inr (inl (is, step_here))) finished =
      let one = printed-more made old planned.call false mid has step_here in
      let last = subst (λ o. IsFinished StepOf settings o mid finish (Err e) new) is finished in
      let end = tries (printed_with rules scene made one.printed) mid
      (finishes planned.if_false.count planned.if_false.binary) e new one.has last in record {
        before = one.printed ∷ [];
        tried = end.tried;
        later = [];
        along = (
          one.printed,
          end.tried ∷ [],
          refl,
          one.is_call,
          one.found,
          inr (sym one.goes_on, (end.tried, refl, end.is_call, end.found)),
        );
        mid = mid;
        has = one.has;
        cut = end.cut;
        same = last.same;
        has_written = last.has_written;
      }
  fails-from finish e new (planned ∷ later) made old mid outcome has (inr (inr (error, is, step_here))) finished =
      let last = subst (λ o. IsFinished StepOf settings o mid finish (Err e) new) is finished in
      let same : error ≡ e = let given = last.0 in cc in
      let fails = subst (λ s. StepOf old settings planned.call (Err e) s) (sym last.1)
      (subst (λ r. StepOf old settings planned.call (Err r) mid) same step_here) in
      let one = tries made old planned.call e new has fails in
      let walk = walk-after planned later finish made.format one.tried one.is_call one.found
      (some-walk finish later (rules.next made.format scene one.tried)) in record {
        before = [];
        tried = one.tried;
        later = walk.0;
        along = walk.1;
        mid = old;
        has = has;
        cut = one.cut;
        same = fails.same;
        has_written = fails.has_written;
      }

  -- what was printed of some calls
  all-printed : (printed : List PrintedCall) (new : PrinterSink F M W)
      → HasPrinted (printed_by rules scene start.format printed) new
      → PrintsAll rules output facts first_at write_step start settings printed new
  all-printed printed new has = record {
    same = has.same;
    put = has.put;
    format = has.format;
    has_written = has.has_written;
    has_failed = has.has_failed;
    at_once = has.at_once;
  }

  -- calls that all returned true
  pub calls-print : (calls : List Planned) (new : PrinterSink F M W) → AreMade StepOf settings start calls all_true new
      → (printed : List PrintedCall) × AllGoOn rules scene Found start.format calls printed
      × PrintsAll rules output facts first_at write_step start settings printed new
  calls-print calls new made =
      let end = passed-from calls (record { format = start.format; text = [] }) start new printed-none made in
      (end.printed, end.all, all-printed end.printed new end.has)

  -- a run along a plan that ended in `Ok`
  pub run-prints : (plan : Plan) (new : PrinterSink F M W) (run : IsRun StepOf settings start plan (Ok tt) new)
      → (printed : List PrintedCall) × AreAlong rules scene Found start.format plan.calls plan.finish printed
      × PrintsAll rules output facts first_at write_step start settings printed new
      × (goes_on_after_each rules scene start.format printed ≡ true → run.outcome ≡ all_true) × KeepsNoMore new
  run-prints plan new run =
      let end = walked-from plan.finish new plan.calls (record { format = start.format; text = [] }) start run.mid
      run.outcome printed-none run.made run.finished in
      (end.printed, end.along, all-printed end.printed new end.has, end.whole, end.kept)

  -- a run along a plan that ended in an error
  pub run-fails : (plan : Plan) (e : SearchError Global) (new : PrinterSink F M W)
      → IsRun StepOf settings start plan (Err e) new
      → FailsAlongPlan rules output facts first_at write_step start settings plan e new
  run-fails plan e new run =
      let nothing : Printed F = record { format = start.format; text = [] } in
      let way = fails-from plan.finish e new plan.calls nothing start run.mid run.outcome printed-none run.made
      run.finished in record {
        before = way.before;
        tried = way.tried;
        later = way.later;
        along = way.along;
        mid = way.mid;
        printed = all-printed way.before way.mid way.has;
        cut = way.cut;
        same = same-more start way.mid new way.has.same way.same;
        has_written = way.has_written;
        begins = text-goes-on rules scene way.before way.tried way.later nothing;
      }
