use Rattle.std.proofs.Common.{◌∙◌, ap, cond, eqb}
use Rattle.grep_regex.proofs.folds.Fold.lanes.Goals as goal

pub returns : goal.returns
returns c = record {
  long = c.equal.ensures.long;
  each = λ k below. c.equal.ensures.each k below
      ∙ ap (λ b. cond (eqb b c.args.self.now.value) 255 0) (c.either_byte.ensures.each k below);
}
