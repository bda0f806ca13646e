use Rattle.std.proofs.Common.{refl, ◌∙◌, ◌||◌, ap}
use Rattle.grep_ignore.specs.Classes.{is_either, is_in_range}
use Rattle.grep_ignore.proofs.GlobLemmas.{byte-either}
use Rattle.grep_ignore.proofs.glob.byte_step.Goals as goal

pub returns-clause-piece : goal.returns-clause-piece
returns-clause-piece c = (
  c.add_range.new.set,
  refl,
  λ k. c.add_range.ensures k
      ∙ ap (λ b. b || is_either c.args.ignores_case (is_in_range (c.args.byte, c.args.byte)) k) (c.empty-set.ensures k)
      ∙ byte-either c.args.ignores_case c.args.byte k,
)
