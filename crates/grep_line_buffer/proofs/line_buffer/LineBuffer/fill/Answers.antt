use Rattle.std.proofs.Common.{◌≡◌, ◌<◌, inl, Bool, length, true, false, refl, sym, ap, ◌∙◌, rules}
use Rattle.std.proofs.Common.{arith}
use Rattle.std.proofs.lemmas.Bool.{false≢true}
use Rattle.std.proofs.lemmas.List.{nil_from_length}
use Rattle.std.proofs.lemmas.Result.{err_from_is_err_and}
use Rattle.grep_decode.proofs.DecoderLemmas.{Decodes-none}
use Rattle.grep_line_buffer.specs.BufferStates.{held_bytes, has_quit, HasNoLine}
use Rattle.grep_line_buffer.specs.Fills.{PassesOffsets}
use Rattle.grep_line_buffer.proofs.FillLemmas.{Fills-none, Outcome-none, IsFilling-stopped}
use Rattle.grep_line_buffer.proofs.FillLemmas.{IsFilling-shown, Comes-detected, IsFilling-byte}
use Rattle.grep_line_buffer.proofs.FillLemmas.{IsFilling-ended, IsFilling-line, IsFilling-more}
use Rattle.grep_line_buffer.proofs.FillLemmas.{IsFilling-none, IsFilling-past, HasNone-first}
use Rattle.grep_line_buffer.proofs.FillLemmas.{HasNone-room, HasNone-fault, HasNone-end}
use Rattle.grep_line_buffer.proofs.FillLemmas.{HasNone-more, HasNone-full, HasNone-begun}
use Rattle.grep_line_buffer.proofs.FillLemmas.{HasNone-shown, HasNone-waited}
use Rattle.grep_line_buffer.proofs.FillPartLemmas.{only-limit, filled-before, unless-read}
use Rattle.grep_line_buffer.proofs.FillPartLemmas.{if-read-full, ended_of, size_of}
use Rattle.grep_line_buffer.proofs.line_buffer.LineBuffer.fill.Goals as goal

pub returns-then-has_ended : goal.returns-then-has_ended
returns-then-has_ended g c =
    let was : c.args.self.now.has_ended ≡ true = sym c.has_ended.ensures.value
    ∙ c.if-has_ended.true in
    let shown = c.has_ended.ensures.shown c.if-has_ended.true in
    let out = Outcome-none g.R.Source.remaining g.R.Source.step c.args.self.now _ _
    (Decodes-none g.R.Source.remaining g.R.Source.step _ _) c.has_ended.ensures.within in
    let filled = filled-before c.args.self.now was shown.0 shown.1 in
    record {
      keeps = out.keeps;
      reads = out.reads;
      read = tt;
      some = search rules;
      filled = record {
        shows = filled;
        fits = search rules;
        begins = λ unended. absurd (false≢true (sym unended ∙ was));
        last = inl refl;
        ahead = out.ahead;
        settled = λ unended. absurd (false≢true (sym unended ∙ was));
      };
      error = tt;
      limit = only-limit _ _ _ tt filled;
      done = λ before ended going. before was going;
      end = λ before ended going. before was going;
      ended = λ ended. (refl, refl, refl, refl);
    }

pub returns-then-not-has_offsets : goal.returns-then-not-has_offsets
returns-then-not-has_offsets g c =
    let was : c.args.self.now.has_ended ≡ false = sym c.has_ended.ensures.value
    ∙ c.if-has_ended.false in
    let past = c.if-not-has_offsets.ensures in
    let error : PassesOffsets c.args.self.now c.args.self.now = record {
      past = past;
      shown = λ fits. absurd (omega (arith, past, fits));
      same = λ passed. refl;
      unended = was;
    } in
    let out = Outcome-none g.R.Source.remaining g.R.Source.step c.args.self.now _ _
    (Decodes-none g.R.Source.remaining g.R.Source.step _ _) c.has_ended.ensures.within in
    record {
      keeps = out.keeps;
      reads = out.reads;
      read = tt;
      some = tt;
      filled = tt;
      error = error;
      limit = only-limit _ _ _ error tt;
      done = λ unended ended going. absurd (false≢true (sym was ∙ ended));
      end = λ unended ended going. absurd (false≢true (sym was ∙ ended));
      ended = λ ended. absurd (false≢true (sym was ∙ ended));
    }

pub returns-in_err-make_room : goal.returns-in_err-make_room
returns-in_err-make_room g c =
    let p = err_from_is_err_and c.from_residual.result c.from_residual.ensures.1 in
    let e = c.in_err-make_room.field-0.0 in
    let was : c.args.self.now.has_ended ≡ false = sym c.has_ended.ensures.value
    ∙ c.if-has_ended.false in
    let before = c.reads.invariant in
    let full = c.in_err-make_room.ensures.err in
    let unended = ap ended_of full.0 ∙ before.filling.unended in
    let out = IsFilling-stopped g.R.Source.remaining g.R.Source.step _ _ _ _ _ _ _ before.filling
    full.0 in
    let error = HasNone-full g.R.Source.remaining g.R.Source.step _ _ _ _ _ _ _ e before full.0
    full.1 full.2 in
    rw (p.1, p.2) (record {
      keeps = out.keeps;
      reads = unless-read Bool e out.reads;
      read = if-read-full Bool c.reads.self.limit c.reads.self.size e _ full.2;
      some = tt;
      filled = tt;
      error = error;
      limit = only-limit _ _ _ error tt;
      done = λ _ ended going. absurd (false≢true (sym unended ∙ ended));
      end = λ _ ended going. absurd (false≢true (sym unended ∙ ended));
      ended = λ ended. absurd (false≢true (sym was ∙ ended));
    })

pub returns-in-Err : goal.returns-in-Err
returns-in-Err g c =
    let was : c.args.self.now.has_ended ≡ false = sym c.has_ended.ensures.value
    ∙ c.if-has_ended.false in
    let made = c.make_room.ensures in
    let room = HasNone-room _ _ _ _ _ _ _ _ _ _ _ c.reads.invariant made.same made.free made.within
    made.grows in
    let out = HasNone-fault _ _ _ _ _ _ _ _ _ _ _ c.in-Err.e room c.in-Err.ensures.failed
    c.in_ok-make_room.ensures.ok c.read.ensures.capacity c.in-Err.ensures.same in
    let error : HasNoLine c.args.self.now c.read.new.self
    × (length (held_bytes c.read.new.self) < c.read.new.self.size) = (out.line, out.room) in
    record {
      keeps = out.keeps;
      reads = tt;
      read = out.read;
      some = tt;
      filled = tt;
      error = error;
      limit = only-limit _ _ _ error tt;
      done = λ _ ended going. absurd (false≢true (sym out.unended ∙ ended));
      end = λ _ ended going. absurd (false≢true (sym out.unended ∙ ended));
      ended = λ ended. absurd (false≢true (sym was ∙ ended));
    }

pub returns-then-count-eq0 : goal.returns-then-count-eq0
returns-then-count-eq0 g c =
    let was : c.args.self.now.has_ended ≡ false = sym c.has_ended.ensures.value
    ∙ c.if-has_ended.false in
    let made = c.make_room.ensures in
    let room = HasNone-room _ _ _ _ _ _ _ _ _ _ _ c.reads.invariant made.same made.free made.within
    made.grows in
    let came = c.in-Ok.ensures.reads in
    let next = IsFilling-none _ _ _ _ _ _ _ _ _ _ _ _ room came c.if-count-eq0.true
    c.read.ensures.capacity in
    let none = nil_from_length came.given (came.counted ∙ c.if-count-eq0.true) in
    let out = IsFilling-ended _ _ _ _ _ _ _ _ _ next c.end-then-count-eq0.ensures.same in
    let filled = HasNone-end _ _ _ _ _ _ _ _ _ _ _ _ _ room came c.if-count-eq0.true
    c.in_ok-make_room.ensures.ok c.end-then-count-eq0.ensures.same in
    record {
      keeps = out.keeps;
      reads = out.reads;
      read = tt;
      some = rw c.end-then-count-eq0.ensures.same c.end-then-count-eq0.ensures.some;
      filled = HasNone-shown g.R.Source.remaining g.R.Source.step _ _ _ _ _ _ _ _ _ _ room
          c.in_ok-make_room.ensures.ok came.reads out filled (search rules);
      error = tt;
      limit = only-limit _ _ _ tt filled;
      done = λ _ _ going. came.reads.done none;
      end = λ _ _ going. came.reads.end none;
      ended = λ ended. absurd (false≢true (sym was ∙ ended));
    }

pub returns-then-not-has_offsets-2 : goal.returns-then-not-has_offsets-2
returns-then-not-has_offsets-2 g c =
    let was : c.args.self.now.has_ended ≡ false = sym c.has_ended.ensures.value
    ∙ c.if-has_ended.false in
    let made = c.make_room.ensures in
    let room = HasNone-room _ _ _ _ _ _ _ _ _ _ _ c.reads.invariant made.same made.free made.within
    made.grows in
    let came = c.in-Ok.ensures.reads in
    let comes = Comes-detected _ _ _ _ _ _ _ _ _ _ came c.detect.ensures.detects in
    let next = IsFilling-more _ _ _ _ _ _ _ _ _ _ _ _ _ room came comes
    c.read.ensures.capacity in
    let out = IsFilling-stopped _ _ _ _ _ _ _ _ _ next refl in
    let error = IsFilling-past _ _ _ _ _ _ _ _ _ _ _ room next c.if-not-has_offsets-2.ensures in
    record {
      keeps = out.keeps;
      reads = out.reads;
      read = tt;
      some = tt;
      filled = tt;
      error = error;
      limit = only-limit _ _ _ error tt;
      done = λ _ ended going. absurd (false≢true (sym next.unended ∙ ended));
      end = λ _ ended going. absurd (false≢true (sym next.unended ∙ ended));
      ended = λ ended. absurd (false≢true (sym was ∙ ended));
    }

pub returns-then-show_lines : goal.returns-then-show_lines
returns-then-show_lines g c =
    let was : c.args.self.now.has_ended ≡ false = sym c.has_ended.ensures.value
    ∙ c.if-has_ended.false in
    let made = c.make_room.ensures in
    let room = HasNone-room _ _ _ _ _ _ _ _ _ _ _ c.reads.invariant made.same made.free made.within
    made.grows in
    let came = c.in-Ok.ensures.reads in
    let comes = Comes-detected _ _ _ _ _ _ _ _ _ _ came c.detect.ensures.detects in
    let next = IsFilling-more _ _ _ _ _ _ _ _ _ _ _ _ _ room came comes
    c.read.ensures.capacity in
    let going = sym c.has_quit-in-reads.ensures.value ∙ c.if-has_quit-2.false in
    let shows = c.if-show_lines.ensures in
    let out = IsFilling-shown _ _ _ _ _ _ _ _ _ _ next shows in
    let unended = ap ended_of shows.others ∙ next.unended in
    let filled = IsFilling-line _ _ _ _ _ _ _ _ _ _ _ _ _ _ room comes came.counted going next
    shows in
    record {
      keeps = out.keeps;
      reads = out.reads;
      read = tt;
      some = (λ _. shows.ends.some, λ _. refl);
      filled = HasNone-shown g.R.Source.remaining g.R.Source.step _ _ _ _ _ _ _ _ _ _ room
          c.in_ok-make_room.ensures.ok came.reads out filled (search rules);
      error = tt;
      limit = only-limit _ _ _ tt filled;
      done = λ _ ended going. absurd (false≢true (sym unended ∙ ended));
      end = λ _ ended going. absurd (false≢true (sym unended ∙ ended));
      ended = λ ended. absurd (false≢true (sym was ∙ ended));
    }

pub reads-init : goal.reads-init
reads-init g c = HasNone-first g.R.Source.remaining g.R.Source.step _ _ _ _ _
    (Decodes-none g.R.Source.remaining g.R.Source.step _ _) c.roll.ensures.same
    (c.roll.ensures.free ∙ ap size_of c.roll.ensures.same) (sym c.has_ended.ensures.value
    ∙ c.if-has_ended.false) c.has_ended.ensures.within c.if-not-has_offsets.ensures
    (ap has_quit (sym c.roll.ensures.same) ∙ (sym c.has_quit.ensures.value ∙ c.if-has_quit.false))

pub reads-preserved : goal.reads-preserved
reads-preserved g c =
    let made = c.make_room.ensures in
    let room = HasNone-room _ _ _ _ _ _ _ _ _ _ _ c.reads.invariant made.same made.free made.within
    made.grows in
    let came = c.in-Ok.ensures.reads in
    let comes = Comes-detected _ _ _ _ _ _ _ _ _ _ came c.detect.ensures.detects in
    let next = IsFilling-more _ _ _ _ _ _ _ _ _ _ _ _ _ room came comes
    c.read.ensures.capacity in
    let going = sym c.has_quit-in-reads.ensures.value ∙ c.if-has_quit-2.false in
    let shows = c.if-show_lines.ensures in
    HasNone-more _ _ _ _ _ _ _ _ _ _ _ _ _ _ room comes came.counted going next shows.1
    c.if-not-has_offsets-2.ensures shows.0
    (HasNone-begun g.R.Source.remaining g.R.Source.step _ _ _ _ _ _ _ room
    c.in_ok-make_room.ensures.ok came.reads.begins came.reads.last)
    (HasNone-waited g.R.Source.remaining g.R.Source.step _ _ _ _ _ _ _ room
    c.in_ok-make_room.ensures.ok came.reads.last)

pub returns-then-has_quit-2 : goal.returns-then-has_quit-2
returns-then-has_quit-2 g c =
    let was : c.args.self.now.has_ended ≡ false = sym c.has_ended.ensures.value
    ∙ c.if-has_ended.false in
    let made = c.make_room.ensures in
    let room = HasNone-room _ _ _ _ _ _ _ _ _ _ _ c.reads.invariant made.same made.free made.within
    made.grows in
    let came = c.in-Ok.ensures.reads in
    let comes = Comes-detected _ _ _ _ _ _ _ _ _ _ came c.detect.ensures.detects in
    let next = IsFilling-more _ _ _ _ _ _ _ _ _ _ _ _ _ room came comes
    c.read.ensures.capacity in
    let cut = sym c.has_quit-in-reads.ensures.value ∙ c.if-has_quit-2.true in
    let still = ap has_quit c.end-then-has_quit-2.ensures.same ∙ cut in
    let out = IsFilling-ended _ _ _ _ _ _ _ _ _ next c.end-then-has_quit-2.ensures.same in
    let filled = IsFilling-byte _ _ _ _ _ _ _ _ _ next cut
    (c.has_quit-in-reads.ensures.room c.if-has_quit-2.true) c.end-then-has_quit-2.ensures.same in
    record {
      keeps = out.keeps;
      reads = out.reads;
      read = tt;
      some = rw c.end-then-has_quit-2.ensures.same c.end-then-has_quit-2.ensures.some;
      filled = HasNone-shown g.R.Source.remaining g.R.Source.step _ _ _ _ _ _ _ _ _ _ room
          c.in_ok-make_room.ensures.ok came.reads out filled (search rules);
      error = tt;
      limit = only-limit _ _ _ tt filled;
      done = λ _ _ going. absurd (false≢true (sym going ∙ still));
      end = λ _ _ going. absurd (false≢true (sym going ∙ still));
      ended = λ ended. absurd (false≢true (sym was ∙ ended));
    }

pub returns-then-has_quit-clause-reads : goal.returns-then-has_quit-clause-reads
returns-then-has_quit-clause-reads g c =
    Fills-none g.R.Source.remaining g.R.Source.step c.args.self.now _ _ _ _ _
    (Decodes-none g.R.Source.remaining g.R.Source.step _ _) c.roll.ensures.same c.end.ensures.same
