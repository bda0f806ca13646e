use Rattle.std.proofs.Common.{◌∙◌}
use Rattle.uses.proofs.count.count_in_reader.Goals as goal

pub returns-clause-count : goal.returns-clause-count
returns-clause-count g c = λ input all by. c.count.ensures
    ∙ c.readers_count_lines.ensures c.args.matcher c.args.searcher.now c.args.reader.now input _ _ _ by
    c.new-matches.ensures all c.in_ok-search_reader.ensures.searched
