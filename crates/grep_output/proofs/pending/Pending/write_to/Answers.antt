use Rattle.std.proofs.Common.{◌∙◌, ap, subst, take}
use Rattle.grep_output.specs.Outputs.{Writes}
use Rattle.grep_output.specs.PendingTexts.{pending_bytes}
use Rattle.grep_output.proofs.PendingLemmas.{kept-split}
use Rattle.grep_output.proofs.pending.Pending.write_to.Goals as goal

pub returns-clause-written : goal.returns-clause-written
returns-clause-written g c =
    let inside = c.self.inside in
    let same = ap (take inside.len) c.deref.ensures.value
    ∙ (kept-split inside.start inside.len inside.bytes.items c.self.invariant.0
    ∙ ap pending_bytes c.self.view_is) in
    subst (λ text. Writes g.W.Output.step c.args.writer.now text c.write_all-written.result
    c.write_all-written.new.writer) same c.write_all-written.ensures
