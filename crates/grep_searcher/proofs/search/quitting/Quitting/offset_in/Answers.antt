use Rattle.std.proofs.Common.{◌+◌, ap, sym, Some, None}
use Rattle.std.specs.Option.{option_map}
use Rattle.grep_lines.proofs.ReplaceLemmas.{position-found}
use Rattle.grep_searcher.proofs.search.quitting.Quitting.offset_in.Goals as goal

pub returns-in-Some : goal.returns-in-Some
returns-in-Some g c =
    sym (ap (option_map (λ index. c.args.offset + index))
    (position-found c.args.self.now.byte c.args.bytes.now (Some c.in-Some.index) c.in-Some.ensures))

pub returns-in-None : goal.returns-in-None
returns-in-None g c =
    sym (ap (option_map (λ index. c.args.offset + index))
    (position-found _ _ None c.in-None.ensures))
