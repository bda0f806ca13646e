use Rattle.std.proofs.Common.{refl}
use Rattle.grep_searcher.proofs.ResultLemmas.{if_ok-each, if_err-each}
use Rattle.grep_searcher.proofs.search.Search.byte_count_of.Goals as goal

pub returns-clause-reported : goal.returns-clause-reported
returns-clause-reported g c = rw c.if-is_across.false
    (if_ok-each _ _ c.byte_count_by_line.result (λ count each by_line. each (by_line refl))
    c.byte_count_by_line.ensures.reported)

pub returns-clause-fault : goal.returns-clause-fault
returns-clause-fault g c = rw c.if-is_across.false
    (if_err-each _ _ c.byte_count_by_line.result (λ e each by_line. each (by_line refl))
    c.byte_count_by_line.ensures.fault)

pub returns-then-is_across-clause-reported : goal.returns-then-is_across-clause-reported
returns-then-is_across-clause-reported g c = rw c.if-is_across.true
    (if_ok-each _ _ c.byte_count_across.result (λ count counted _. counted)
    c.byte_count_across.ensures.reported)

pub returns-then-is_across-clause-fault : goal.returns-then-is_across-clause-fault
returns-then-is_across-clause-fault g c = rw c.if-is_across.true
    (if_err-each _ _ c.byte_count_across.result (λ e fault _. fault)
    c.byte_count_across.ensures.fault)
