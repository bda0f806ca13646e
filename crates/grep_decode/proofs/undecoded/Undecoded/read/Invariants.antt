use Rattle.std.proofs.Common.{◌≡◌, ◌⊎◌, ◌≤◌, ◌-◌, [], length}
use Rattle.grep_decode.specs.declared.mode.Mode.TheVariants.{Decoding}
use Rattle.grep_decode.specs.DecoderStates.{Decodes, HasWaited}
use Rattle.grep_decode.specs.UndecodedBytes.{holding}
use Rattle.grep_decode.proofs.DecoderLemmas.{calls_left}
use Rattle.grep_decode.proofs.undecoded.Undecoded.read.Given as goal

abbrev pub invariant-loop-label : goal.invariant-loop-label
invariant-loop-label g l = record {
  capacity : l.self.capacity ≡ l.fn.self.capacity;
  room : 4 ≤ length l.output;
  decodes : Decodes g.R.Source.remaining g.R.Source.step (holding (Decoding l.label) l.fn.self)
      l.fn.reader [] (holding (Decoding l.label) l.self) l.reader;
  last : (l.reader ≡ l.fn.reader)
      ⊎ HasWaited g.R.Source.remaining g.R.Source.step (holding (Decoding l.label) l.fn.self)
      l.fn.reader l.reader;
}

abbrev pub decreases-loop-label : goal.decreases-loop-label
decreases-loop-label g l = calls_left l.self.has_ended (4 - length l.self.bytes)
