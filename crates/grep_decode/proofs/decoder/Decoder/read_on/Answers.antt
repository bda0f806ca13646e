use Rattle.std.proofs.Common.{take, ap, subst, sym}
use Rattle.grep_decode.specs.DecoderStates.{IsSettled}
use Rattle.grep_decode.proofs.DecoderLemmas.{Decodes-ready}
use Rattle.grep_decode.proofs.decoder.Decoder.read_on.Goals as goal

pub returns-then-not-is_empty-clause-decodes : goal.returns-then-not-is_empty-clause-decodes
returns-then-not-is_empty-clause-decodes g c =
    let d = c.self.inside in
    rw (← c.self.view_is) (Decodes-ready g.R.Source.remaining g.R.Source.step d.ready
    (take c.give.result c.give.new.buffer) c.give.new.self
    d.held.bytes d.mode d.held.has_ended d.held.capacity c.args.reader.now
    (subst IsSettled (sym (ap (λ s. s.mode) c.self.view_is)) c.requires.settled)
    c.give.ensures.bytes)
