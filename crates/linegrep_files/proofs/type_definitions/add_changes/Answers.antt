use Rattle.std.proofs.Common.{◌∙◌, ◌++◌, ap, map}
use Rattle.std.proofs.lemmas.Iterator.{YieldsList-from_slice, YieldsList-from_zip}
use Rattle.std.proofs.lemmas.Iterator.Consumers.{YieldsList-end}
use Rattle.linegrep_files.specs.TypeDefinitions.{change_of}
use Rattle.linegrep_files.proofs.type_definitions.add_changes.Goals as goal

pub returns : goal.returns
returns c =
    let all = YieldsList-end (YieldsList-from_zip {s = c.into_iter-text-iterator.result}
    (YieldsList-from_slice c.args.values.texts.now (cc)) (YieldsList-from_slice c.args.values.places.now (cc)))
    c.loop-text.yielded _ c.loop-text.yielded_by _ c.next.new.self c.in-None.is c.next.ensures.steps in
    c.loop-text.invariant ∙ ap (λ l. c.args.changes.now.items ++ map (change_of c.args.action) l) all.0
