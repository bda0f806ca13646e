-- What a run finds before it searches, and in which order it searches that.
use Rattle.std.specs.Prelude.{◌≡◌, ℕ, ◌+◌, Bool, true, false, List, [], ◌∷◌, ◌++◌, length, Option}
use Rattle.std.specs.Prelude.{MatchResult, Result, Ok, Err, codes, string_bytes}
use Rattle.std.specs.Global.{Global}
use Rattle.std.specs.IoError.{error_kind}
use Rattle.std.specs.List.Sorted.{IsPermutation, IsSortedBy, IsStableBy}
use Rattle.std.specs.Ordering.{is_lt}
use Rattle.std.specs.declared.io.Error.{Error}
use Rattle.std.specs.declared.io.ErrorKind.TheVariants.{OutOfMemory}
use Rattle.grep_printer.specs.declared.printed_search.Searched.{Searched}
use Rattle.grep_searcher.specs.declared.SearchError.{SearchError}
use Rattle.linegrep_cli.specs.EngineCalls.{EngineCall, finishes, lists, says, searches_file}
use Rattle.linegrep_cli.specs.EngineCalls.{searches_input, sets_quits}
use Rattle.linegrep_cli.specs.PrintingEngines.{IsNothingFound, IsUnsearched}
use Rattle.linegrep_cli.specs.declared.late.Collector.{Collector}
use Rattle.linegrep_cli.specs.declared.late.Target.{Target}
use Rattle.linegrep_cli.specs.declared.late.Target.TheVariants.{File, StandardInput}
use Rattle.linegrep_cli.specs.declared.late.Waiting.{Waiting}
use Rattle.linegrep_files.specs.Orders.{IsRanked, rank_order}
use Rattle.linegrep_files.specs.declared.order.Order.{Order}
use Rattle.linegrep_files.specs.declared.order.SortKey.{SortKey}

-- something that waits: what is to be searched, and the path or name under which it was found
pub record IsAt (target : Target) (path : List ℕ) (waiting : Waiting) : Type 0 where
  pub target_is : waiting.target ≡ target
  pub path_is : string_bytes waiting.file.path ≡ path

-- nothing was found yet
pub record IsEmpty (collector : Collector) : Type 0 where
  pub found : collector.found.items ≡ []
  pub texts : collector.texts.items ≡ []
  pub quits : collector.quits ≡ false
  pub is_full : collector.is_full ≡ false

-- what is to be searched is kept after what was found before it, unless memory is out
pub record IsFound (target : Target) (path : List ℕ) (old : Collector) (searched : Searched)
    (new : Collector) : Type 0 where
  pub texts : new.texts ≡ old.texts
  pub quits : new.quits ≡ old.quits
  pub unmatched : searched.has_match ≡ false
  pub kept : searched.result ≡ Ok tt → (waiting : Waiting) × IsAt target path waiting
      × (new.found.items ≡ old.found.items ++ waiting ∷ []) × (new.is_full ≡ old.is_full)
  pub full : (error : SearchError Global) → searched.result ≡ Err error
      → IsUnsearched searched × (new.is_full ≡ true)

-- a text is kept that is to be said, unless memory is out
pub record IsTextKept (old : Collector) (said : Result (Unit {0}) Error)
    (new : Collector) : Type 0 where
  pub found : new.found ≡ old.found
  pub quits : new.quits ≡ old.quits
  pub is_full : new.is_full ≡ old.is_full
  pub count : MatchResult said (λ u. length new.texts.items ≡ length old.texts.items + 1)
      (λ error. (error_kind error ≡ OutOfMemory) × (new.texts.items ≡ old.texts.items))

-- a call of a collector. It keeps standard input under its name, each file that is listed, and what
-- is said
abbrev pub IsCollecting : {F : Type 0} → Collector → EngineCall F → Collector → Type 0
IsCollecting old (searches_file path file searched) new = IsNothingFound searched × (new ≡ old)
IsCollecting old (searches_input path searched) new =
    IsFound StandardInput (codes "<stdin>") old searched new
IsCollecting old (lists path searched) new = IsFound (File old.quits) path.now old searched new
IsCollecting old (says said) new = IsTextKept old said new
IsCollecting old (sets_quits quits) new = new ≡ record old { quits = quits }
IsCollecting old (finishes result) new = (new ≡ old) × (result ≡ Ok tt)

-- what was found, with what it is sorted by, as a system says the times
module _ (times : SortKey → List ℕ → Result (Option ℕ) Error → Type 0) (order : Order) where
  pub data AreRanked : List Waiting → List Waiting → Type 0 where
    none_ranked : AreRanked [] []
    next_ranked : {found ranked : List Waiting} (one next : Waiting) → AreRanked found ranked
        → next.target ≡ one.target
        → IsRanked times order (string_bytes one.file.path) next.file
        → AreRanked (found ++ one ∷ []) (ranked ++ next ∷ [])

-- one that waits comes before another
abbrev pub comes_first : Order → Waiting → Waiting → Bool
comes_first order one other = is_lt (rank_order order one.file other.file)

-- what waits, in order. Of two that tie, the one that was found first comes first
pub record AreInOrder (order : Order) (ranked sorted : List Waiting) : Type 0 where
  pub same : IsPermutation ranked sorted
  pub in_order : IsSortedBy (comes_first order) sorted
  pub stable : IsStableBy (comes_first order) ranked sorted
