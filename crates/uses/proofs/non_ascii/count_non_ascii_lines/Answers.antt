use Rattle.std.proofs.Common.{refl, subst, ⊎_elim}
use Rattle.std.specs.List.{list_any}
use Rattle.std.specs.Prelude.{◌≡◌, IfOk}
use Rattle.grep_searcher.specs.declared.LineTerminator.TheVariants.{Byte}
use Rattle.grep_searcher.specs.LineMatches.{MatchesByLine}
use Rattle.grep_searcher.specs.Plans.{IsLawful, Settings}
use Rattle.uses.specs.NonAsciiLines.{is_high, non_ascii, non_ascii_facts}
use Rattle.uses.proofs.non_ascii.count_non_ascii_lines.Goals as goal

-- a search asks about many lines if their terminator is the one that is declared
lawful : MatchesByLine non_ascii (Byte 10) → (settings : Settings) → IsLawful non_ascii_facts settings
lawful by_line settings = λ asks. ⊎_elim (λ declared. subst (MatchesByLine non_ascii) (cc declared) by_line)
    (λ absent. absurd (cc absent)) asks.excludes

pub returns-clause-count : goal.returns-clause-count
returns-clause-count c = λ by_line undetected free plain. let bytes = c.first_bytes_match_by_line.ensures in
    let trusted = lawful (bytes.by_line is_high non_ascii refl (λ _. refl)) c.args.searcher.now.settings in
    subst (λ k. IfOk c.count_matching_lines.result (λ count. count ≡ k)) (c.hits_are_selected.ensures.predicates
    _ non_ascii _ (list_any is_high) free plain (bytes.found is_high)) (c.count_matching_lines.ensures.count
    (record { lawful = trusted; by_line = by_line; undetected = undetected }))

pub returns-clause-error : goal.returns-clause-error
returns-clause-error c = λ allowed. let bytes = c.first_bytes_match_by_line.ensures in
    let trusted = lawful (bytes.by_line is_high non_ascii refl (λ _. refl)) c.args.searcher.now.settings in
    c.count_matching_lines.ensures.error (record { infallible = λ _ _ h. h; lawful = trusted; allowed = allowed })
