use Rattle.std.proofs.Common.{rules}
use Rattle.std.proofs.lemmas.Fn.{always_returns_same}
use Rattle.linegrep_cli.specs.WaitingFiles.{comes_first}
use Rattle.linegrep_cli.proofs.WaitingLemmas.{waiting-ranks}
use Rattle.linegrep_cli.proofs.late.in_order.Goals as goal

pub returns : goal.returns
returns g c = (
  c.in_ok-waiting.waiting.items,
  c.in_ok-waiting.ensures,
  record {
    same = c.sort_by.ensures.permutation;
    in_order = c.in_ok-sort_by.ensures.sorted (comes_first c.args.order) (waiting-ranks c.args.order)
        (always_returns_same _ _ _ (λ a r f called. search rules));
    stable = c.sort_by.ensures.stable (comes_first c.args.order) (waiting-ranks c.args.order)
        (always_returns_same _ _ _ (λ a r f called. search rules));
  },
)
