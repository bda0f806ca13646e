-- In which order what waits is searched.
use Rattle.std.specs.Cmp.{IsStrictWeakOrder}
use Rattle.linegrep_cli.specs.WaitingFiles.{comes_first}
use Rattle.linegrep_files.specs.declared.order.Order.{Order}
use Rattle.linegrep_files.proofs.RankLemmas.{ranks-are}

-- which of two comes first is an order
pub waiting-ranks : (order : Order) → IsStrictWeakOrder (comes_first order)
waiting-ranks order = record {
  one_way = λ one other. (ranks-are order).one_way one.file other.file;
  chain = λ one two three. (ranks-are order).chain one.file two.file three.file;
}
