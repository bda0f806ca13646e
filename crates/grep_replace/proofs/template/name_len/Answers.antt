use Rattle.std.proofs.Common.{sym, arith, length}
use Rattle.std.proofs.lemmas.Bool.Decides.{nat_tests}
use Rattle.std.proofs.lemmas.Grind.{common_steps}
use Rattle.std.proofs.lemmas.List.Sums.{prefix_len_is}
use Rattle.regex.specs.Templates.{is_name_byte}
use Rattle.grep_replace.proofs.template.name_len.Goals.{then-is_ascii_alphanumeric, else-is_ascii_alphanumeric}
use Rattle.grep_replace.proofs.template.name_len.Goals as goal

pub returns-then-not-bytes-i : goal.returns-then-not-bytes-i
returns-then-not-bytes-i c =
    sym (prefix_len_is is_name_byte c.args.bytes.now c.loop-i.i 0 (omega arith)
    (λ k lt. c.loop-i.invariant k (omega arith)) (λ _. elim c.if-is_ascii_alphanumeric.branch [
      | then-is_ascii_alphanumeric w ↦ grind (arith, nat_tests, common_steps)
      | else-is_ascii_alphanumeric w ↦ grind (arith, nat_tests, common_steps)
    ]))

pub returns : goal.returns
returns c =
    sym (prefix_len_is is_name_byte c.args.bytes.now (length c.args.bytes.now) 0 (omega arith)
    (λ k lt. c.loop-i.invariant k (omega arith)) (λ lt. absurd (omega arith)))
