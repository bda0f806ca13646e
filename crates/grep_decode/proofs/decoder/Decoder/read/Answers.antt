use Rattle.grep_decode.proofs.ReadResultLemmas.{result-gives, result-ends, result-fault}
use Rattle.grep_decode.proofs.ReadResultLemmas.{result-keeps}
use Rattle.grep_decode.proofs.decoder.Decoder.read.Goals as goal

pub returns : goal.returns
returns g c =
    let remaining = g.R.Source.remaining in
    let step = g.R.Source.step in
    let result = c.read_some-result.result in
    let said = c.read_some-result.ensures in
    record {
      bound = said.bound;
      capacity = said.capacity;
      decodes = said.decodes;
      gives = result-gives remaining step _ _ _ _ result c.read_some-result.new.buffer said.decodes;
      done = said.done;
      end = result-ends remaining step _ _ result c.read_some-result.new.buffer said.done;
      fault = result-fault remaining step _ _ _ _ result said.failed;
      failed = said.failed;
      kept = result-keeps remaining step _ _ _ _ result g.met.R.Source.keeps said.failed;
      beneath = said.beneath;
      ready = said.ready;
      first = said.first;
      begins = said.begins;
      last = said.last;
      settled = said.settled;
      stays = said.stays;
      ahead = said.ahead;
      passing = c.holds_few.ensures;
      empty = said.empty;
      waits = said.waits;
    }
