use Rattle.std.proofs.Common.{◌≡◌, ◌∙◌, ◌-◌, Some, length, subst, sym}
use Rattle.grep_replace.proofs.FoundPartLemmas.{finding-more, finding-none}
use Rattle.grep_replace.specs.MatchedParts.{LiesFrom, first_from, found_from}
use Rattle.grep_replace.proofs.parts.find_parts.Goals as goal

pub loop-found-init : goal.loop-found-init
loop-found-init g c =
    rw c.clear.ensures.items (finding-none (first_from (g.M.FindAt.first_at c.args.matcher.now c.args.bytes.now)
    c.args.start) (length c.args.bytes.now - c.args.start) c.args.limit)

pub loop-found-preserved : goal.loop-found-preserved
loop-found-preserved g c =
    let first_at = first_from (g.M.FindAt.first_at c.args.matcher.now c.args.bytes.now) c.args.start in
    let size = length c.args.bytes.now - c.args.start in
    let found = c.in-Ok-Some.found in
    let is : found_from first_at size c.args.limit c.loop-found.position ≡ Some found =
    sym c.in-Ok-Some.ensures.value ∙ c.in-Ok-Some.field-0-is in
    let lies = subst (LiesFrom c.loop-found.position size c.args.limit) c.in-Ok-Some.field-0-is
    c.in-Ok-Some.ensures.lies in
    rw (c.position_after-position.ensures, c.end.ensures.value)
    (finding-more first_at size c.args.limit c.loop-found.parts.items c.loop-found.position
    c.loop-found.end found c.push_part.new.parts.items c.loop-found.invariant is lies
    c.in_default.ensures.parts)
