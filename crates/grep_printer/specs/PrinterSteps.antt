-- What the sink of a printer does at a call of a search, and in a whole search, of any format.
use Rattle.std.specs.Prelude.{◌≡◌, ◌⊎◌, ◌≤◌, ℕ, Bool, false, true, ◌&&◌, ◌||◌, List, [], ◌∷◌, ◌++◌}
use Rattle.std.specs.Prelude.{length, Option, Result, Ok, Err}
use Rattle.std.specs.Global.{Global}
use Rattle.std.specs.declared.io.Error.{Error}
use Rattle.grep_output.specs.Outputs.{Begins, FailsToWrite, OutputCall}
use Rattle.grep_output.specs.PendingTexts.{PutsAll, pending_bytes}
use Rattle.grep_matcher.specs.Meanings.{MatcherFacts}
use Rattle.grep_searcher.specs.Plans.{AreMade, Call, IsRun, Plan, Planned, Settings, all_true}
use Rattle.grep_searcher.specs.SearchErrors.{IsOutOfMemory}
use Rattle.grep_searcher.specs.SearchLaws.{is_match}
use Rattle.grep_searcher.specs.declared.SearchError.{SearchError}
use Rattle.grep_searcher.specs.declared.SearchError.TheVariants.{Io}
use Rattle.grep_printer.specs.CallParts.{FailsAtParts, HasParts}
use Rattle.grep_printer.specs.CallParts.{has_match}
use Rattle.grep_printer.specs.Formats.{AllGoOn, AreAlong, PrintedCall, Rules, Scene, is_text}
use Rattle.grep_printer.specs.Formats.{goes_on_after_each, printed_by}
use Rattle.grep_printer.specs.declared.printer.PrinterSink.{PrinterSink}

-- the matcher and the path of a sink stay, and so do the printer and the writer that it refers to,
-- what the printer gives its sinks to begin with, and how many bytes of text it keeps
pub record IsSameSink {F M W : Type 0} (old new : PrinterSink F M W) : Type 0 where
  pub printer : new.printer.ghost_name ≡ old.printer.ghost_name
  pub writer : new.writer.ghost_name ≡ old.writer.ghost_name
  pub format : new.printer.now.format ≡ old.printer.now.format
  pub buffer_size : new.printer.now.buffer_size ≡ old.printer.now.buffer_size
  pub matcher : new.matcher ≡ old.matcher
  pub path : new.path ≡ old.path

-- of a sink nothing has changed but the text and the parts at hand
pub record IsPreparing {F M W : Type 0} (old new : PrinterSink F M W) : Type 0 where
  pub same : IsSameSink old new
  pub format : new.format ≡ old.format
  pub writer : new.writer.now ≡ old.writer.now
  pub pending : new.printer.now.pending ≡ old.printer.now.pending
  pub has_written : new.printer.now.has_written ≡ old.printer.now.has_written
  pub has_failed : new.printer.now.has_failed ≡ old.printer.now.has_failed

-- a sink is as it was, but for the parts at hand
pub record IsAsBefore {F M W : Type 0} (old new : PrinterSink F M W) : Type 0 where
  pub same : IsSameSink old new
  pub format : new.format ≡ old.format
  pub writer : new.writer.now ≡ old.writer.now
  pub pending : pending_bytes new.printer.now.pending ≡ pending_bytes old.printer.now.pending
  pub has_written : new.printer.now.has_written ≡ old.printer.now.has_written
  pub has_failed : new.printer.now.has_failed ≡ old.printer.now.has_failed

-- no more text waits to be written than the printer keeps
abbrev pub KeepsNoMore : {F M W : Type 0} → PrinterSink F M W → Type 0
KeepsNoMore sink =
    length (pending_bytes sink.printer.now.pending) ≤ sink.printer.now.buffer_size

-- what the texts of a sink's calls depend on
abbrev pub scene_of : {F M W : Type 0} → PrinterSink F M W → Settings → Scene
scene_of sink settings = record { path = sink.path; settings = settings }

module _ {F M W : Type 0} (rules : Rules F) where
  -- the text of a call of a sink
  abbrev pub text_of : PrinterSink F M W → Settings → PrintedCall → List ℕ
  text_of sink settings printed = rules.text sink.format (scene_of sink settings) printed

  -- these are the parts of a call of a sink
  abbrev pub HasFound : {E : Type 0} → (M → MatcherFacts E)
      → (M → List ℕ → ℕ → Option (ℕ × ℕ)) → PrinterSink F M W → Settings → F → PrintedCall → Type 0
  HasFound facts first_at sink settings format printed =
      HasParts (first_at sink.matcher) settings (facts sink.matcher).meaning
      (has_match settings printed.call && rules.asks format printed.call) printed

  -- the text of a call is pushed after what is pending, and nothing else has changed but the format
  pub record IsPushed (old : PrinterSink F M W) (settings : Settings) (printed : PrintedCall)
      (goes : Bool) (new : PrinterSink F M W) : Type 0 where
    pub same : IsSameSink old new
    pub writer : new.writer.now ≡ old.writer.now
    pub before : new.printer.now.pending.before ≡ pending_bytes old.printer.now.pending
    pub text : new.printer.now.pending.text ≡ text_of old settings printed
    pub goes_on : goes ≡ rules.goes_on old.format (scene_of old settings) printed
    pub format : new.format ≡ rules.next old.format (scene_of old settings) printed
    pub has_written : new.printer.now.has_written ≡ old.printer.now.has_written
    pub has_failed : new.printer.now.has_failed ≡ old.printer.now.has_failed

module _ {F M W E : Type 0} (rules : Rules F) (output : E → Option (List ℕ))
    (facts : M → MatcherFacts E) (first_at : M → List ℕ → ℕ → Option (ℕ × ℕ))
    (write_step : W → OutputCall → W → Type 0) where
  -- a call succeeds: its text comes after what is pending, and nothing else is written. If both fit
  -- in the buffer, nothing is written at all, unless only bare lines are written, for which memory
  -- may be out. If the buffer has no bytes, nothing is pending afterwards, and after any call but a
  -- match no more is pending than the buffer has bytes
  pub record Prints (old : PrinterSink F M W) (settings : Settings) (call : Call) (goes : Bool)
      (new : PrinterSink F M W) : Type 0 where
    pub same : IsSameSink old new
    pub printed : PrintedCall
    pub is_call : printed.call ≡ call
    pub has_parts : HasFound rules facts first_at old settings old.format printed
    pub goes_on : goes ≡ rules.goes_on old.format (scene_of old settings) printed
    pub put : PutsAll write_step old.writer.now (pending_bytes old.printer.now.pending)
        (text_of rules old settings printed) new.writer.now (pending_bytes new.printer.now.pending)
    pub format : new.format ≡ rules.next old.format (scene_of old settings) printed
    pub has_written : new.printer.now.has_written
        ≡ (old.printer.now.has_written || is_text (text_of rules old settings printed))
    pub has_failed : new.printer.now.has_failed ≡ old.printer.now.has_failed
    pub at_once : old.printer.now.buffer_size ≡ 0 → pending_bytes new.printer.now.pending ≡ []
    pub kept : is_match call ≡ false → KeepsNoMore new
    pub unwritten : rules.is_bare old.format (scene_of old settings) ≡ false
        → length (pending_bytes old.printer.now.pending ++ text_of rules old settings printed)
        ≤ old.printer.now.buffer_size → new.writer.now ≡ old.writer.now

  -- the writer failed after some first bytes of what was pending and of the text of a call
  pub record FailsToWriteCall (old : PrinterSink F M W) (settings : Settings) (call : Call)
      (e : SearchError Global) (new : PrinterSink F M W) : Type 0 where
    pub printed : PrintedCall
    pub is_call : printed.call ≡ call
    pub has_parts : HasFound rules facts first_at old settings old.format printed
    pub error : Error
    pub is_io : e ≡ Io error
    pub failed : FailsToWrite write_step old.writer.now
        (pending_bytes old.printer.now.pending ++ text_of rules old settings printed) error
        new.writer.now
    pub pending : pending_bytes new.printer.now.pending ≡ []
    pub format : new.format ≡ rules.next old.format (scene_of old settings) printed
    pub has_failed : new.printer.now.has_failed ≡ true

  -- the writer had no call. There was no memory for the parts, or for a text that isn't of bare
  -- lines; or the matcher failed when the parts of a report were looked for
  pub record FailsBefore (old : PrinterSink F M W) (settings : Settings) (call : Call)
      (e : SearchError Global) (new : PrinterSink F M W) : Type 0 where
    pub unwritten : new.writer.now ≡ old.writer.now
    pub pending : pending_bytes new.printer.now.pending ≡ pending_bytes old.printer.now.pending
    pub format : new.format ≡ old.format
    pub has_failed : new.printer.now.has_failed ≡ old.printer.now.has_failed
    pub cause : (IsOutOfMemory e
        × (((has_match settings call && rules.asks old.format call) ≡ true)
        ⊎ (rules.is_bare old.format (scene_of old settings) ≡ false)))
        ⊎ (((has_match settings call && rules.asks old.format call) ≡ true)
        × FailsAtParts output (facts old.matcher) settings call e)

  -- the parts of a call were asked for, and memory was out for the rest of its text: some first
  -- bytes of the text come after what was pending
  pub record PrintsSome (old : PrinterSink F M W) (settings : Settings) (printed : PrintedCall)
      (e : SearchError Global) (new : PrinterSink F M W) : Type 0 where
    pub memory : IsOutOfMemory e
    pub asked : (has_match settings printed.call && rules.asks old.format printed.call) ≡ true
    pub part : List ℕ
    pub begins : Begins part (text_of rules old settings printed)
    pub put : PutsAll write_step old.writer.now (pending_bytes old.printer.now.pending) part
        new.writer.now (pending_bytes new.printer.now.pending)
    pub format : new.format ≡ old.format
    pub has_failed : new.printer.now.has_failed ≡ old.printer.now.has_failed

  -- a call fails amid its text
  abbrev pub FailsAmid : PrinterSink F M W → Settings → Call → SearchError Global
      → PrinterSink F M W → Type 0
  FailsAmid old settings call e new = (printed : PrintedCall) × (printed.call ≡ call)
      × HasFound rules facts first_at old settings old.format printed
      × PrintsSome old settings printed e new

  -- a call fails
  pub record FailsToPrint (old : PrinterSink F M W) (settings : Settings) (call : Call)
      (e : SearchError Global) (new : PrinterSink F M W) : Type 0 where
    pub same : IsSameSink old new
    pub has_written : new.printer.now.has_written ≡ old.printer.now.has_written
    pub cause : FailsToWriteCall old settings call e new ⊎ FailsBefore old settings call e new
        ⊎ FailsAmid old settings call e new

  -- what a sink does at a call
  abbrev pub PrintsCall : PrinterSink F M W → Settings → Call → Result Bool (SearchError Global)
      → PrinterSink F M W → Type 0
  PrintsCall old settings call (Ok goes) new = Prints old settings call goes new
  PrintsCall old settings call (Err e) new = FailsToPrint old settings call e new

  -- the texts of some calls come after what is pending. If the buffer has no bytes and nothing was
  -- pending before, nothing is pending after them
  pub record PrintsAll (old : PrinterSink F M W) (settings : Settings) (calls : List PrintedCall)
      (new : PrinterSink F M W) : Type 0 where
    pub same : IsSameSink old new
    pub put : PutsAll write_step old.writer.now (pending_bytes old.printer.now.pending)
        (printed_by rules (scene_of old settings) old.format calls).text
        new.writer.now (pending_bytes new.printer.now.pending)
    pub format : new.format
        ≡ (printed_by rules (scene_of old settings) old.format calls).format
    pub has_written : new.printer.now.has_written
        ≡ (old.printer.now.has_written
        || is_text (printed_by rules (scene_of old settings) old.format calls).text)
    pub has_failed : new.printer.now.has_failed ≡ old.printer.now.has_failed
    pub at_once : old.printer.now.buffer_size ≡ 0 → pending_bytes old.printer.now.pending ≡ []
        → pending_bytes new.printer.now.pending ≡ []

  -- if some calls were made, and all returned true, their texts come after what was pending. The
  -- calls before reading fails are such calls
  abbrev pub CallsPrint : Type 0
  CallsPrint =
      (settings : Settings) (old : PrinterSink F M W) (calls : List Planned)
      (new : PrinterSink F M W) → AreMade PrintsCall settings old calls all_true new
      → (printed : List PrintedCall)
      × AllGoOn rules (scene_of old settings)
      (HasFound rules facts first_at old settings) old.format calls printed
      × PrintsAll old settings printed new

  -- if a run of the sink ended in `Ok`, the texts of calls along its plan come after what was
  -- pending. These are all calls of the plan if the search went on after each. No more is pending
  -- afterwards than the printer keeps
  abbrev pub RunsPrint : Type 0
  RunsPrint =
      (settings : Settings) (old : PrinterSink F M W) (plan : Plan) (new : PrinterSink F M W)
      (run : IsRun PrintsCall settings old plan (Ok tt) new)
      → (printed : List PrintedCall)
      × AreAlong rules (scene_of old settings)
      (HasFound rules facts first_at old settings) old.format plan.calls plan.finish
      printed
      × PrintsAll old settings printed new
      × (goes_on_after_each rules (scene_of old settings) old.format printed ≡ true
      → run.outcome ≡ all_true)
      × KeepsNoMore new

  -- a call isn't printed whole, after others that are. The writer failed after some first bytes of
  -- its text; or the writer had no call for it, since there was no memory or the matcher failed; or
  -- memory was out for the rest of its text
  abbrev pub IsCutShort : PrinterSink F M W → Settings → PrintedCall → SearchError Global
      → PrinterSink F M W → Type 0
  IsCutShort mid settings tried e new =
      ((error : Error) × (e ≡ Io error) × (pending_bytes new.printer.now.pending ≡ [])
      × (new.format ≡ rules.next mid.format (scene_of mid settings) tried)
      × (new.printer.now.has_failed ≡ true)
      × FailsToWrite write_step mid.writer.now
      (pending_bytes mid.printer.now.pending ++ text_of rules mid settings tried) error
      new.writer.now)
      ⊎ FailsBefore mid settings tried.call e new
      ⊎ PrintsSome mid settings tried e new

  -- a run along a plan failed at a call. The texts of the calls before it come after what was
  -- pending, and its own text is cut short. Together they begin the text of calls along the plan
  pub record FailsAlongPlan (old : PrinterSink F M W) (settings : Settings) (plan : Plan)
      (e : SearchError Global) (new : PrinterSink F M W) : Type 0 where
    pub before : List PrintedCall
    pub tried : PrintedCall
    pub later : List PrintedCall
    pub along : AreAlong rules (scene_of old settings)
        (HasFound rules facts first_at old settings) old.format plan.calls plan.finish
        (before ++ tried ∷ later)
    pub mid : PrinterSink F M W
    pub printed : PrintsAll old settings before mid
    pub cut : IsCutShort mid settings tried e new
    pub same : IsSameSink old new
    pub has_written : new.printer.now.has_written ≡ mid.printer.now.has_written
    pub begins : Begins
        ((printed_by rules (scene_of old settings) old.format before).text
        ++ rules.text (printed_by rules (scene_of old settings) old.format before).format
        (scene_of old settings) tried)
        (printed_by rules (scene_of old settings) old.format (before ++ tried ∷ later)).text

  -- each run of the sink that ended in an error failed so
  abbrev pub RunsFailToPrint : Type 0
  RunsFailToPrint =
      (settings : Settings) (old : PrinterSink F M W) (plan : Plan) (e : SearchError Global)
      (new : PrinterSink F M W)
      → IsRun PrintsCall settings old plan (Err e) new → FailsAlongPlan old settings plan e new
