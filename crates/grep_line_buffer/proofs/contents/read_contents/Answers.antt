use Rattle.std.proofs.Common.{◌≡◌, length, take, drop, sym, ap, subst, ◌∙◌, arith, take_all}
use Rattle.std.proofs.Common.{length-take, []}
use Rattle.std.proofs.lemmas.List.{with_items_is}
use Rattle.std.proofs.lemmas.Result.{err_from_is_err_and}
use Rattle.grep_decode.proofs.DecoderLemmas.{Decodes-none, reads-fail}
use Rattle.grep_line_buffer.specs.BufferStates.{IsWithin}
use Rattle.grep_line_buffer.proofs.ContentsLemmas.{below-within, contents-full, HasRead-last}
use Rattle.grep_line_buffer.proofs.ContentsLemmas.{IsReading-first, IsReading-room, IsReading-more}
use Rattle.grep_line_buffer.proofs.FillPartLemmas.{if-read-full, unless-read}
use Rattle.grep_line_buffer.proofs.ReadLemmas.{HasRead, HasRead-failed}
use Rattle.grep_line_buffer.proofs.contents.read_contents.Goals as goal

pub returns-in_err-make_room : goal.returns-in_err-make_room
returns-in_err-make_room g c =
    let p = err_from_is_err_and c.from_residual.result c.from_residual.ensures.1 in
    let e = c.in_err-make_room.field-0.0 in
    let rem = g.R.Source.remaining in
    let step = g.R.Source.step in
    let before = c.reads.invariant in
    let full = c.in_err-make_room.ensures in
    let items = c.make_room.new.contents.items in
    let all : take c.reads.len c.reads.contents.items ≡ items =
    take_all c.reads.len c.reads.contents.items (omega (arith, full.full.1)) ∙ sym full.full.0 in
    let out : HasRead rem step c.args.decoder.now c.args.reader.now items c.reads.decoder
    c.reads.reader =
    subst (λ l. HasRead rem step c.args.decoder.now c.args.reader.now l c.reads.decoder
    c.reads.reader) all before.read in
    rw (p.1, p.2) (record {
      capacity = out.capacity;
      kept = omega (arith, before.kept, full.kept);
      reads = unless-read (Unit {0}) e out.decodes;
      read = if-read-full (Unit {0}) c.args.limit c.reads.len e _ full.error;
      gives = out.gives;
      done = tt;
      end = tt;
      below = tt;
      error = contents-full c.args.limit c.reads.len c.args.contents.now.cap c.reads.contents.cap
          items e (ap length full.full.0 ∙ full.full.1)
          (subst (IsWithin c.args.limit) full.full.1 before.within)
          before.kept full.error full.memory full.later;
      fault = if-read-full (Unit {0}) c.args.limit c.reads.len e _ full.error;
      ahead = unless-read (Unit {0}) e out.ahead;
      settled = tt;
      stays = out.stays;
      empty = if-read-full (Unit {0}) c.args.limit c.reads.len e _ full.error;
      waits = if-read-full (Unit {0}) c.args.limit c.reads.len e _ full.error;
    })

pub returns-in-Ok-eq0 : goal.returns-in-Ok-eq0
returns-in-Ok-eq0 g c =
    let rem = g.R.Source.remaining in
    let step = g.R.Source.step in
    let len = c.reads.len in
    let made = c.in_ok-make_room.ensures in
    let w = c.make_room.new.contents in
    let bytes = c.read_after.new.bytes in
    let whole : length bytes ≡ w.len = omega arith in
    let same : length bytes ≡ length w.items = omega arith in
    let room = IsReading-room rem step c.args.limit c.args.contents.now.cap c.reads.contents.cap
    w.cap len
    c.args.decoder.now c.reads.decoder c.args.reader.now c.reads.reader c.reads.contents.items
    w.items c.reads.invariant made.front made.room made.within made.first made.kept in
    let all = c.truncate.ensures.items ∙ ap (take len) (with_items_is w bytes whole) in
    let read = c.in-Ok-eq0.ensures.reads in
    let front = c.read_after.ensures.front ∙ ap (take len) c.deref_mut.ensures.value in
    let out : HasRead rem step c.args.decoder.now c.args.reader.now c.truncate.new.self.items
    c.read_after.new.decoder
    c.read_after.new.reader =
    HasRead-last rem step c.args.decoder.now c.reads.decoder c.read_after.new.decoder
    c.args.reader.now c.reads.reader c.read_after.new.reader
    len c.in-Ok-eq0.field-0 w.items bytes c.truncate.new.self.items room.read front all
    c.in-Ok-eq0.field-0-test read c.read_after.ensures.capacity in
    let none : take c.in-Ok-eq0.field-0 (drop len bytes)
    ≡ [] = ap (λ n. take n (drop len bytes)) c.in-Ok-eq0.field-0-test in
    record {
      capacity = out.capacity;
      kept = omega (arith, room.kept, c.truncate.ensures.capacity);
      reads = out.decodes;
      read = tt;
      gives = out.gives;
      done = read.done none;
      end = read.end none;
      below = below-within c.args.limit _ (length w.items)
          (omega (arith, made.room, ap length all, length-take len bytes)) made.within;
      error = tt;
      fault = tt;
      ahead = out.ahead;
      settled = read.settled.settled;
      stays = out.stays;
      empty = tt;
      waits = tt;
    }

pub returns-in-Err : goal.returns-in-Err
returns-in-Err g c =
    let rem = g.R.Source.remaining in
    let step = g.R.Source.step in
    let len = c.reads.len in
    let made = c.in_ok-make_room.ensures in
    let w = c.make_room.new.contents in
    let bytes = c.read_after.new.bytes in
    let whole : length bytes ≡ w.len = omega arith in
    let room = IsReading-room rem step c.args.limit c.args.contents.now.cap c.reads.contents.cap
    w.cap len
    c.args.decoder.now c.reads.decoder c.args.reader.now c.reads.reader c.reads.contents.items
    w.items c.reads.invariant made.front made.room made.within made.first made.kept in
    let all = c.truncate-in-Err.ensures.items ∙ ap (take len) (with_items_is w bytes whole) in
    let front = c.read_after.ensures.front ∙ ap (take len) c.deref_mut.ensures.value in
    let given = c.truncate-in-Err.new.self.items in
    let failed = c.in-Err.ensures.failed in
    let before : HasRead rem step c.args.decoder.now c.args.reader.now given c.reads.decoder
    c.reads.reader =
    subst (λ l. HasRead rem step c.args.decoder.now c.args.reader.now l c.reads.decoder
    c.reads.reader) (sym (all ∙ front)) room.read in
    let out = HasRead-failed rem step c.args.decoder.now c.reads.decoder c.read_after.new.decoder
    c.args.reader.now c.reads.reader c.read_after.new.reader given c.in-Err.e before failed
    c.read_after.ensures.capacity in
    record {
      capacity = out.capacity;
      kept = omega (arith, room.kept, c.truncate-in-Err.ensures.capacity);
      reads = tt;
      read = out.after;
      gives = out.gives;
      done = tt;
      end = tt;
      below = tt;
      error = below-within c.args.limit _ (length w.items)
          (omega (arith, made.room, ap length all, length-take len bytes)) made.within;
      fault = reads-fail g.R.Source.remaining g.R.Source.step _ _ _ _ _ _ given _ before.decodes
          failed.failed;
      ahead = tt;
      settled = tt;
      stays = out.stays;
      empty = failed.waiting.empty;
      waits = failed.waiting.waits;
    }

pub reads-init : goal.reads-init
reads-init g c = IsReading-first g.R.Source.remaining g.R.Source.step c.args.limit
    c.args.contents.now.cap c.clear.new.self.cap
    c.args.decoder.now c.args.reader.now c.clear.new.self.items
    (Decodes-none g.R.Source.remaining g.R.Source.step c.args.decoder.now c.args.reader.now)
    c.clear.ensures.items (omega (arith, c.clear.ensures.capacity))

pub reads-preserved : goal.reads-preserved
reads-preserved g c =
    let made = c.in_ok-make_room.ensures in
    let w = c.make_room.new.contents in
    let bytes = c.read_after.new.bytes in
    let whole : length bytes ≡ w.len = omega arith in
    let same : length bytes ≡ length w.items = omega arith in
    let room = IsReading-room g.R.Source.remaining g.R.Source.step c.args.limit
    c.args.contents.now.cap c.reads.contents.cap w.cap c.reads.len
    c.args.decoder.now c.reads.decoder c.args.reader.now c.reads.reader c.reads.contents.items
    w.items c.reads.invariant made.front made.room made.within made.first made.kept in
    IsReading-more g.R.Source.remaining g.R.Source.step c.args.limit c.args.contents.now.cap w.cap
    c.reads.len c.in-Ok.count
    c.args.decoder.now c.reads.decoder c.read_after.new.decoder c.args.reader.now c.reads.reader
    c.read_after.new.reader w.items bytes _
    room (c.read_after.ensures.front ∙ ap (take c.reads.len) c.deref_mut.ensures.value) same
    (with_items_is w bytes whole) c.in-Ok.ensures.bound c.in-Ok.ensures.reads
    c.read_after.ensures.capacity
