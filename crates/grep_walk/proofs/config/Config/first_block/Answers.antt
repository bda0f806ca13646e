use Rattle.std.proofs.Common.{[], subst}
use Rattle.std.proofs.lemmas.Result.{err_from_is_err_and}
use Rattle.std.specs.Prelude.{IfSome, IfNone}
use Rattle.grep_walk.specs.TouchedUnits.{IsFound, HasNoMore}
use Rattle.grep_walk.proofs.QuestionLemmas.{asked-first}
use Rattle.grep_walk.proofs.UnitStepLemmas.{starts, none_found, left-start-none, left-start}
use Rattle.grep_walk.proofs.config.Config.first_block.Goals as goal

pub returns-in_err-found-clause-fault : goal.returns-in_err-found-clause-fault
returns-in_err-found-clause-fault g c =
    let p = err_from_is_err_and c.from_residual.result c.from_residual.ensures.1 in
    let settings = c.args.self.now in
    let meaning = (g.M.Matcher.facts c.args.matcher.now).meaning in
    let bytes = c.args.bytes.now in
    let fault = c.in_err-found.ensures.fault []
    (none_found settings meaning bytes c.match_limit.result c.match_limit.ensures) in
    rw (p.1, p.2) (fault.0, asked-first settings meaning bytes fault.0 fault.1, fault.2)

pub returns-in_default-clause-left : goal.returns-in_default-clause-left
returns-in_default-clause-left g c =
    let settings = c.args.self.now in
    let meaning = (g.M.Matcher.facts c.args.matcher.now).meaning in
    let bytes = c.args.bytes.now in
    let now = c.next_match.new.blocks in
    left-start-none settings meaning bytes c.match_limit.result c.match_limit.ensures now
    (subst (λ o. IfNone o (HasNoMore settings meaning bytes (starts c.match_limit.result) now))
    c.in_default.is c.in_ok-found.ensures.none) c.next_match.ensures.next c.next_match.ensures.end

pub returns-clause-left : goal.returns-clause-left
returns-clause-left g c =
    let settings = c.args.self.now in
    let meaning = (g.M.Matcher.facts c.args.matcher.now).meaning in
    let bytes = c.args.bytes.now in
    let now = c.next_match.new.blocks in
    left-start settings meaning bytes c.match_limit.result c.match_limit.ensures now c.in-Some.found
    c.block_from.result
    (subst (λ o. IfSome o (IsFound settings meaning bytes (starts c.match_limit.result) now))
    c.in-Some.is c.in_ok-found.ensures.some) c.next_match.ensures.end c.block_from.ensures
