use Rattle.std.proofs.Common.{◌≡◌, ◌++◌}
use Rattle.std.specs.Io.{StartsWith}
use Rattle.std.specs.List.{flat_map}
use Rattle.grep_replace.specs.ReplacedBytes.{replaced_line, replaced_lines}
use Rattle.grep_replace.proofs.replace.replace_lines.Given as goal

abbrev pub invariant-loop-line : goal.invariant-loop-line
invariant-loop-line g l =
    StartsWith l.text.items l.fn.text.items
    × (l.text.items ++ flat_map (replaced_line l.template (g.M.FindAt.first_at l.matcher) (g.M.CapturesAt.groups_at l.matcher)
    l.terminator) l.line-iterator
    ≡ l.fn.text.items ++ replaced_lines l.template (g.M.FindAt.first_at l.matcher) (g.M.CapturesAt.groups_at l.matcher)
    l.terminator l.bytes)
