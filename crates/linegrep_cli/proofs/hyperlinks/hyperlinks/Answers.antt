use Rattle.std.proofs.Common.{rules}
use Rattle.linegrep_cli.specs.HyperlinkOptions.{of_empty, of_format, of_no_links, of_no_option}
use Rattle.linegrep_cli.proofs.hyperlinks.hyperlinks.Goals as goal

pub returns-in_default-clause-hyperlinks : goal.returns-in_default-clause-hyperlinks
returns-in_default-clause-hyperlinks g c = of_no_option (search rules)

pub returns-then-is_empty-clause-hyperlinks : goal.returns-then-is_empty-clause-hyperlinks
returns-then-is_empty-clause-hyperlinks g c =
    of_empty c.in-Some.text c.in-Ok.format.parts.items c.in-Some.is c.in-Ok.ensures.read (search rules)

pub returns-then-not-links_are_written-clause-hyperlinks : goal.returns-then-not-links_are_written-clause-hyperlinks
returns-then-not-links_are_written-clause-hyperlinks g c = of_no_links (search rules)

pub returns-in-Ok-environment-clause-hyperlinks : goal.returns-in-Ok-environment-clause-hyperlinks
returns-in-Ok-environment-clause-hyperlinks g c =
    of_format c.in-Some.text _ c.in-Some.is (search rules) c.in-Ok.ensures.read c.in-Ok-environment.ensures
