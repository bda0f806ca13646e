use Rattle.grep_printer.proofs.LinkedFieldLemmas.{links-around}
use Rattle.grep_printer.proofs.laws.links_are_around_fields.Goals as goal

pub returns : goal.returns
returns c = links-around
