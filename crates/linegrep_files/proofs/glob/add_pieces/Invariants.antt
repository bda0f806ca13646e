use Rattle.std.proofs.Common.{◌≡◌, List, ◌++◌, true, length}
use Rattle.grep_ignore.specs.declared.wildcards.Piece.{Piece}
use Rattle.linegrep_files.specs.Globs.{ArePieceTexts}
use Rattle.linegrep_files.proofs.glob.add_pieces.Given as goal

abbrev pub invariant-loop-rest : goal.invariant-loop-rest
invariant-loop-rest l = (spelled : List Piece) × (l.pieces.items ≡ l.fn.pieces.items ++ spelled)
    × ArePieceTexts l.ignores_case true l.text spelled l.begins_name l.rest

abbrev pub decreases-loop-rest : goal.decreases-loop-rest
decreases-loop-rest l = length l.rest
