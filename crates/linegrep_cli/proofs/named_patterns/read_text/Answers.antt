use Rattle.std.proofs.lemmas.Bool.{false≢true}
use Rattle.linegrep_cli.specs.NamedPatterns.{of_other_text}
use Rattle.linegrep_cli.proofs.named_patterns.read_text.Goals as goal

pub returns-in-Ok-clause-unread : goal.returns-in-Ok-clause-unread
returns-in-Ok-clause-unread g c = λ caused. of_other_text c.in-Ok.ensures.read
    (λ utf8. false≢true (c.in-Err-from_utf8.ensures.succeeds utf8))
