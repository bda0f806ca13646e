use Rattle.std.proofs.Common.{◌≡◌, ◌++◌, drop}
use Rattle.linegrep_files.specs.GitSettings.{pieces_of}
use Rattle.linegrep_files.specs.declared.git_settings.Mode.TheVariants.{Plain}
use Rattle.linegrep_files.proofs.git_settings.read_pieces.Given as goal

abbrev pub invariant-loop-byte : goal.invariant-loop-byte
invariant-loop-byte l = pieces_of Plain l.contents
    ≡ l.pieces.items ++ pieces_of l.mode (drop l.byte-index l.contents)
