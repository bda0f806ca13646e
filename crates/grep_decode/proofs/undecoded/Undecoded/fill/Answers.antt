use Rattle.std.proofs.Common.{◌≡◌, ◌≤◌, ◌<◌, ◌+◌, ◌-◌, ◌++◌, [], refl, length, ap, ◌∙◌}
use Rattle.std.proofs.Common.{length-append, sym, subst, arith, inl, inr, ⊎_elim}
use Rattle.std.proofs.lemmas.Bool.{false≢true}
use Rattle.std.proofs.KnownBytes.{Consumes-nil, Consumes-trans}
use Rattle.grep_decode.proofs.DecoderLemmas.{Decodes-none, Grows-smaller, hold-more}
use Rattle.grep_decode.proofs.ReadResultLemmas.{few-wait}
use Rattle.grep_decode.specs.UndecodedBytes.{holding}
use Rattle.grep_decode.proofs.undecoded.Undecoded.fill.Goals as goal

pub loop-self-smaller : goal.loop-self-smaller
loop-self-smaller g c =
    let few : length c.loop-self.self.bytes < 3 = subst (λ l. length l < 3) c.bytes.ensures
    c.loop-self-test.true in
    Grows-smaller g.R.Source.remaining g.R.Source.step _ _ _ _ _ 3 (sym c.if-not-has_ended.ensures)
    few c.in-Ok.ensures.grows

pub loop-self-init : goal.loop-self-init
loop-self-init g c = record {
  capacity = refl;
  few = c.requires.few;
  decodes = λ mode. Decodes-none g.R.Source.remaining g.R.Source.step _ _;
  last = λ mode looks. inl (refl, refl);
  came = ([], omega arith, Consumes-nil _);
}

pub loop-self-preserved : goal.loop-self-preserved
loop-self-preserved g c =
    let now = c.loop-self.self in
    let came = c.loop-self.invariant.came in
    let grows = c.in-Ok.ensures.grows in
    let all : length c.pull.new.self.bytes ≡ length now.bytes + length grows.piece =
    ap length grows.appended ∙ length-append now.bytes grows.piece in
    let within : c.in-Ok.field-0 ≤ 3 - length now.bytes =
    subst (λ l. c.in-Ok.field-0 ≤ 3 - length l) c.bytes-in-loop-self.ensures
    c.in-Ok.ensures.bound in
    record {
      capacity = grows.capacity ∙ c.loop-self.invariant.capacity;
      few = omega (arith, all, grows.counted, within, c.loop-self.invariant.few);
      decodes = λ mode. hold-more g.R.Source.remaining g.R.Source.step mode c.args.self.now now
          c.pull.new.self c.args.reader.now
          c.loop-self.reader c.pull.new.reader c.in-Ok.field-0 (sym c.if-not-has_ended.ensures)
          (c.loop-self.invariant.decodes mode) grows;
      last = λ mode looks. inr (record {
        waiting = holding mode now;
        mid = c.loop-self.reader;
        decodes = c.loop-self.invariant.decodes mode;
        unended = sym c.if-not-has_ended.ensures;
        empty = refl;
        waits = few-wait mode now.bytes looks
            (subst (λ l. length l < 3) c.bytes.ensures c.loop-self-test.true);
        piece = grows.piece;
        called = grows.called;
      });
      came = (
        came.0 ++ grows.piece,
        omega (arith, all, came.1, length-append came.0 grows.piece),
        Consumes-trans _ _ _ came.0 grows.piece came.2 grows.takes,
      );
    }

pub returns-after-loop-self-clause-last : goal.returns-after-loop-self-clause-last
returns-after-loop-self-clause-last g c = λ mode looks.
    ⊎_elim (λ same. inl same.1) (λ waited. inr waited) (c.loop-self.invariant.last mode looks)

pub returns-else-not-has_ended-clause-last : goal.returns-else-not-has_ended-clause-last
returns-else-not-has_ended-clause-last g c = λ mode looks.
    ⊎_elim (λ same. inl same.1) (λ waited. inr waited) (c.loop-self.invariant.last mode looks)

pub returns-after-loop-self-clause-begins : goal.returns-after-loop-self-clause-begins
returns-after-loop-self-clause-begins g c = λ few unended mode looks.
    ⊎_elim (λ same. absurd (omega (
      arith,
      few,
      ap (λ u. length u.bytes) same.0,
      ap length c.bytes.ensures,
      c.loop-self-test.false,
    ))) (λ waited. waited) (c.loop-self.invariant.last mode looks)

pub returns-else-not-has_ended-clause-begins : goal.returns-else-not-has_ended-clause-begins
returns-else-not-has_ended-clause-begins g c = λ few unended mode looks.
    ⊎_elim (λ same. absurd (false≢true (sym unended ∙ (sym (ap (λ u. u.has_ended) same.0)
    ∙ (sym c.has_ended.ensures ∙ c.if-not-has_ended.false)))))
    (λ waited. waited) (c.loop-self.invariant.last mode looks)
