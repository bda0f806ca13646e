-- What the reader of pieces does at a read.
use Rattle.std.specs.Prelude.{◌≡◌, ◌≢◌, ℕ, ◌<◌, ◌≤◌, List, ◌++◌, length, Option, Some, MatchResult}
use Rattle.std.specs.Option.{option_map}
use Rattle.std.specs.declared.io.Error.{Error}
use Rattle.grep_decode.specs.Source.{ReadResult}
use Rattle.grep_testing.specs.Counts.{counted}

-- the bytes still to come, how many a read gives at most (0: as many as are asked for), how many
-- reads were made, and which read fails, counted from 1, with its error, if one does
pub record Supply : Type 0 where
  pub bytes : List ℕ
  pub piece : ℕ
  pub reads : ℕ
  pub fault : Option (ℕ × Error)

-- which read fails
abbrev pub fault_at : Supply → Option ℕ
fault_at s = option_map (λ fault. fault.0) s.fault

-- a read is counted; it gives a piece from the front, or it is the one that fails, and takes none
abbrev pub IsPull : Supply → ReadResult → Supply → Type 0
IsPull s result t = (t.reads ≡ counted s.reads) × (t.piece ≡ s.piece) × (t.fault ≡ s.fault)
    × MatchResult result
    (λ given. (fault_at s ≢ Some t.reads) × (s.bytes ≡ given ++ t.bytes)
    × (0 < s.piece → length given ≤ s.piece))
    (λ e. (s.fault ≡ Some (t.reads, e)) × (t.bytes ≡ s.bytes))
