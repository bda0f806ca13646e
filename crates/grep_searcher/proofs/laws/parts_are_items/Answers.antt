use Rattle.grep_searcher.proofs.AppendedItemLemmas.{parts-are_items}
use Rattle.grep_searcher.proofs.laws.parts_are_items.Goals as goal

pub returns : goal.returns
returns g c = parts-are_items _
