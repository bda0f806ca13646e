use Rattle.std.proofs.Common.{inl, inr, ◌∙◌}
use Rattle.uses.proofs.path.count_in_path.Goals as goal

pub returns-clause-count : goal.returns-clause-count
returns-clause-count g c = λ by. elim c.in_ok-search_path.ensures.searched [
  | inl unopened ↦ absurd (let never = unopened.2 in cc)
  | inr (file, read, searched, opens) ↦ (
    file,
    opens,
    λ input all. c.count.ensures
        ∙ c.files_count_lines.ensures c.args.matcher c.args.searcher.now file input _ read _ by c.new-matches.ensures all
        searched,
  )
]
