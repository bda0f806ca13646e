use Rattle.std.proofs.Common.{◌≡◌, ◌⊎◌, ◌≤◌, ◌-◌, ◌+◌, ℕ, List, [], length}
use Rattle.std.specs.Io.KnownBytes.{Consumes}
use Rattle.grep_decode.specs.declared.mode.Mode.{Mode}
use Rattle.grep_decode.specs.DecoderStates.{Decodes, HasWaited, LooksForMark}
use Rattle.grep_decode.specs.UndecodedBytes.{holding}
use Rattle.grep_decode.proofs.DecoderLemmas.{calls_left}
use Rattle.grep_decode.proofs.undecoded.Undecoded.fill.Given as goal

abbrev pub invariant-loop-self : goal.invariant-loop-self
invariant-loop-self g l = record {
  capacity : l.self.capacity ≡ l.fn.self.capacity;
  few : length l.self.bytes ≤ 3;
  decodes : (mode : Mode)
      → Decodes g.R.Source.remaining g.R.Source.step (holding mode l.fn.self) l.fn.reader []
      (holding mode l.self) l.reader;
  last : (mode : Mode) → LooksForMark mode → ((l.self ≡ l.fn.self) × (l.reader ≡ l.fn.reader))
      ⊎ HasWaited g.R.Source.remaining g.R.Source.step (holding mode l.fn.self) l.fn.reader
      l.reader;
  came : (came : List ℕ) × (length l.self.bytes ≡ length l.fn.self.bytes + length came)
      × Consumes (g.R.Source.remaining l.fn.reader) (g.R.Source.remaining l.reader) came;
}

abbrev pub decreases-loop-self : goal.decreases-loop-self
decreases-loop-self g l = calls_left l.self.has_ended (3 - length l.self.bytes)
