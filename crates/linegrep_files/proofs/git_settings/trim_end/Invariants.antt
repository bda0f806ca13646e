use Rattle.std.proofs.Common.{◌≡◌, ◌≤◌, ◌+◌, length, take}
use Rattle.std.specs.List.{suffix_len}
use Rattle.linegrep_files.specs.GitSettings.{is_blank}
use Rattle.linegrep_files.proofs.git_settings.trim_end.Given as goal

abbrev pub invariant-loop-end : goal.invariant-loop-end
invariant-loop-end l = record {
  within : l.end ≤ length l.pieces;
  blanks : l.end + suffix_len is_blank l.pieces
      ≡ length l.pieces + suffix_len is_blank (take l.end l.pieces);
}

abbrev pub decreases-loop-end : goal.decreases-loop-end
decreases-loop-end l = l.end
