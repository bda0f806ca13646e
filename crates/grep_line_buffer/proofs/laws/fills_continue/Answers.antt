use Rattle.std.proofs.Common.{◌++◌}
use Rattle.grep_decode.proofs.DecoderLemmas.{Decodes-append, Decodes-none, reads-fail}
use Rattle.grep_line_buffer.proofs.GivenLemmas.{consumed-held, fills-continue}
use Rattle.grep_line_buffer.proofs.laws.fills_continue.Goals as goal

pub returns : goal.returns
returns g c = record {
  fills = fills-continue g.R.Source.remaining g.R.Source.step;
  consumed = λ w gone count. consumed-held gone w.shown w.rest count;
  fails = λ old new d d1 d2 r r1 r2 given e before fill.
      reads-fail g.R.Source.remaining g.R.Source.step d d2 d2 r fill.mid r2
      (given ++ fill.fills.given) e
      (Decodes-append g.R.Source.remaining g.R.Source.step d d1 d2 r r1 fill.mid given
      fill.fills.given before fill.fills.decodes)
      (record {
        mid = fill.mid;
        decodes = Decodes-none g.R.Source.remaining g.R.Source.step d2 fill.mid;
        unended = fill.unended;
        failed = fill.failed;
      });
}
