use Rattle.std.proofs.Common.{inr, take, ap, refl, sym, ◌∙◌, arith}
use Rattle.std.proofs.lemmas.List.{places}
use Rattle.grep_decode.specs.declared.mode.Mode.TheVariants.{Passing}
use Rattle.grep_decode.specs.UndecodedBytes.{holding}
use Rattle.grep_decode.proofs.DecoderLemmas.{Decodes-none, Decodes-pass, FailsToDecode-now}
use Rattle.grep_decode.proofs.undecoded.Undecoded.pass.Goals as goal

pub returns-then-self-clause-decodes : goal.returns-then-self-clause-decodes
returns-then-self-clause-decodes g c = Decodes-none g.R.Source.remaining g.R.Source.step _ _

pub returns-in-Err-clause-failed : goal.returns-in-Err-clause-failed
returns-in-Err-clause-failed g c =
    FailsToDecode-now g.R.Source.remaining g.R.Source.step _ _ _ _
    (sym (ap (λ u. u.has_ended) c.self.view_is) ∙ c.if-self.false) c.in-Err.ensures.step

pub returns-in-Ok-clause-decodes : goal.returns-in-Ok-clause-decodes
returns-in-Ok-clause-decodes g c =
    let empty = ap (λ u. u.bytes) c.self.view_is ∙ c.requires.empty in
    rw (← c.self.view_is) (Decodes-pass g.R.Source.remaining g.R.Source.step _ _ c.args.reader.now
    c.pull.new.self c.in-Ok.count
    (take c.in-Ok.count c.pull.new.buffer) empty empty c.if-self.false refl
    (sym c.in-Ok.ensures.bound.1) c.in-Ok.ensures.step
    c.in-Ok.ensures.bytes.0 (λ none. c.in-Ok.ensures.bytes.1 none (grind (arith, places))))

pub returns-in-Ok-clause-begins : goal.returns-in-Ok-clause-begins
returns-in-Ok-clause-begins g c = λ unended. record {
  waiting = holding Passing c.args.self.now;
  mid = c.args.reader.now;
  decodes = Decodes-none g.R.Source.remaining g.R.Source.step _ _;
  unended = unended;
  empty = refl;
  waits = c.requires.empty;
  piece = take c.in-Ok.count c.pull.new.buffer;
  called = c.in-Ok.ensures.step;
}

pub returns-in-Ok-clause-last : goal.returns-in-Ok-clause-last
returns-in-Ok-clause-last g c = inr (returns-in-Ok-clause-begins g c
    (sym (ap (λ u. u.has_ended) c.self.view_is) ∙ c.if-self.false))
