use Rattle.std.proofs.Common.{◌≡◌, ◌++◌, flat_map, map, string_bytes}
use Rattle.std.specs.List.{range_with_len}
use Rattle.linegrep_help.specs.Entries.{said_at, table_of}
use Rattle.linegrep_help.specs.Parts.{part_text}
use Rattle.linegrep_help.proofs.parts.push_all.Given as goal

abbrev pub invariant-loop-place : goal.invariant-loop-place
invariant-loop-place l = string_bytes l.text ≡ string_bytes l.fn.text
    ++ flat_map (part_text l.part) (map (said_at (table_of l.columns)) (range_with_len 0 l.place))
