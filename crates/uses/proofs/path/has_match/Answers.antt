use Rattle.std.proofs.Common.{inl, inr, ◌∙◌}
use Rattle.uses.proofs.path.has_match.Goals as goal

pub returns-clause-found : goal.returns-clause-found
returns-clause-found g c = λ by. elim c.in_ok-search_path.ensures.searched [
  | inl unopened ↦ absurd (let never = unopened.2 in cc)
  | inr (file, read, searched, opens) ↦ (
    file,
    read,
    opens,
    λ input all.
        let is = c.files_find_lines.ensures c.args.matcher c.args.searcher.now file input _ read _ by
        (c.new-sink.ensures ∙ c.new-found.ensures) all searched in
        (c.is_found.ensures ∙ c.handler.ensures ∙ is.0, is.1),
  )
]
