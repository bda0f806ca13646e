use Rattle.std.proofs.Common.{◌≡◌, true, inl, inr, [], take, refl, ◌∙◌, sym, subst, arith}
use Rattle.grep_decode.specs.declared.mode.Mode.TheVariants.{Decoding}
use Rattle.grep_decode.specs.DecoderStates.{Decodes}
use Rattle.grep_decode.specs.UndecodedBytes.{UndecodedBytes, holding}
use Rattle.grep_decode.proofs.DecoderLemmas.{Decodes-append, Decodes-none, Decodes-text, hold-more}
use Rattle.grep_decode.proofs.undecoded.Undecoded.read.Goals as goal
use Rattle.grep_decode.proofs.undecoded.Undecoded.read.Goals.{then-count-gt0-via-then-count-gt0}
use Rattle.grep_decode.proofs.undecoded.Undecoded.read.Goals.{then-count-gt0-via-else-count-gt0+then-has_ended}

pub loop-label-init : goal.loop-label-init
loop-label-init g c = record {
  capacity = refl;
  room = c.requires.room;
  decodes = Decodes-none g.R.Source.remaining g.R.Source.step _ _;
  last = inl refl;
}

pub loop-label-preserved : goal.loop-label-preserved
loop-label-preserved g c =
    let mode = Decoding c.args.label in
    let first = c.args.self.now in
    let mid = c.decode-count.new.self in
    let same = c.decode-count.ensures.stays (omega (arith, c.if-count-gt0.false)) in
    let P : UndecodedBytes → Type 0 = λ u.
    Decodes g.R.Source.remaining g.R.Source.step (holding mode first) c.args.reader.now []
    (holding mode u) c.loop-label.reader in
    let grows = c.in-Ok.ensures.grows in
    record {
      capacity = grows.capacity
          ∙ (c.decode-count.ensures.capacity ∙ c.loop-label.invariant.capacity);
      room = omega (arith, c.decode-count.ensures.same_room, c.loop-label.invariant.room);
      decodes = hold-more g.R.Source.remaining g.R.Source.step mode first mid c.pull.new.self
          c.args.reader.now c.loop-label.reader
          c.pull.new.reader c.in-Ok.field-0 (sym c.if-has_ended.ensures)
          (subst P (sym same) c.loop-label.invariant.decodes) grows;
      last = inr (record {
        waiting = holding mode mid;
        mid = c.loop-label.reader;
        decodes = subst P (sym same) c.loop-label.invariant.decodes;
        unended = sym c.if-has_ended.ensures;
        empty = refl;
        waits = c.decode-count.ensures.unfinished (omega (arith, c.if-count-gt0.false));
        piece = grows.piece;
        called = grows.called;
      });
    }

pub returns-then-count-gt0-clause-decodes : goal.returns-then-count-gt0-clause-decodes
returns-then-count-gt0-clause-decodes g c =
    let mode = Decoding c.args.label in
    let before = c.loop-label.self in
    let after = c.decode-count.new.self in
    let given = take c.decode-count.result c.decode-count.new.output in
    Decodes-append g.R.Source.remaining g.R.Source.step (holding mode c.args.self.now)
    (holding mode before) (holding mode after)
    c.args.reader.now c.loop-label.reader c.loop-label.reader [] given
    c.loop-label.invariant.decodes
    (Decodes-text g.R.Source.remaining g.R.Source.step c.args.label before after c.loop-label.reader
    given c.decode-count.ensures.ended c.decode-count.ensures.text c.decode-count.ensures.last)

pub returns-then-count-gt0-clause-done : goal.returns-then-count-gt0-clause-done
returns-then-count-gt0-clause-done g c = λ none.
    let ended : c.decode-count.new.self.has_ended ≡ true = elim c.then-count-gt0.branch [
      | then-count-gt0-via-then-count-gt0 w ↦ absurd (omega (arith, none, w.if-count-gt0.true))
      | then-count-gt0-via-else-count-gt0+then-has_ended w ↦ sym w.has_ended.ensures
          ∙ w.if-has_ended.true
    ] in
    record { ended = ended; ready = refl {a = []}; held = c.decode-count.ensures.all none ended }
