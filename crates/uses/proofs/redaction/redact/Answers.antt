use Rattle.std.proofs.Common.{ap, length, ◌∙◌}
use Rattle.std.proofs.Math.Path.{fun_ext}
use Rattle.grep_replace.specs.MatchedParts.{all_parts}
use Rattle.grep_replace.specs.ReplacedBytes.{replaced_bytes}
use Rattle.grep_replace.specs.Templates.{group_text, reference_at, written_after}
use Rattle.uses.proofs.redaction.redact.Goals as goal

pub returns : goal.returns
unfolding reference_at written_after
returns g c =
    let bytes = c.args.bytes.now in
    let groups_at = g.M.CapturesAt.groups_at c.args.matcher.now bytes in
    let parts = all_parts (g.M.FindAt.first_at c.args.matcher.now bytes) (length bytes) in
    (rw c.new-redacted.ensures.items at c.in_ok-replace_all.ensures.text)
    ∙ ap (λ text_at. replaced_bytes text_at bytes 0 parts)
    (fun_ext (λ position. c.in_ok-template.ensures (group_text bytes (groups_at position))))
