use Rattle.std.proofs.Common.{◌++◌, ◌∷◌, [], true, ap, ◌∙◌, length}
use Rattle.grep_ignore.proofs.RowLemmas.{first-row, filled}
use Rattle.grep_ignore.proofs.wildcards.match_rest.Goals as goal

pub match_pieces-requires : goal.match_pieces-requires
match_pieces-requires c = first-row c.args.path.now c.as_mut_slice.result.now
    (c.as_mut_slice.ensures.value ∙ c.in_ok-push.ensures.items ∙ ap (λ l. l ++ true ∷ [])
    (filled _ _ (length c.args.path.now) _ c.in_ok-resize.ensures.items c.clear.ensures.items
    c.clear.ensures.len))
