use Rattle.std.proofs.Common.{refl, rules, subst, sym}
use Rattle.linegrep_files.proofs.FoundLemmas.{GoesOn, found-same, goes-end, goes-with, goes-without}
use Rattle.linegrep_files.proofs.FoundLemmas.{same-self, same-then}
use Rattle.linegrep_files.proofs.NoteLemmas.{noted-until, notes-add, notes-begin, notes-end, notes-keep}
use Rattle.linegrep_files.proofs.finder.Finder.found.Goals as goal

pub loop-rest-init : goal.loop-rest-init
loop-rest-init g c = record {
  same = same-self c.args.choices.now;
  on = λ later are. rw c.new-found.ensures.items are;
  noted = notes-begin _ _ _ _ c.args.choices.now c.args.folder.now c.args.names.now _ refl;
}

pub loop-rest-preserved-in-Continue-branch-3 : goal.loop-rest-preserved-in-Continue-branch-3
loop-rest-preserved-in-Continue-branch-3 g c = record {
  same = same-then _ _ _ c.loop-rest.invariant.same c.find.ensures.same;
  on = subst (GoesOn _ _ _ _ c.args.choices.now c.args.folder.now c.args.names.now
      c.split_part.result.1.now) (sym c.in_ok-push-in-Ok.ensures.items)
      (goes-with _ _ _ _ c.args.choices.now c.args.folder.now c.args.names.now c.loop-rest.rest.now
      c.split_part.result.0.now c.split_part.result.1.now c.loop-rest.found.items c.in-Ok.entry
      c.split_part.ensures.split (search rules) (search rules)
      (found-same _ _ _ _ _ c.loop-rest.invariant.same (rw c.in-Ok.is at c.in_ok-entry.ensures.found))
      c.loop-rest.invariant.on);
  noted = notes-keep _ _ _ _ c.args.choices.now c.loop-rest.choices c.find.new.choices c.args.folder.now
      c.args.names.now c.loop-rest.rest.now c.split_part.result.0.now c.split_part.result.1.now c.in-Ok.entry
      c.split_part.ensures.split (search rules) (search rules)
      (found-same _ _ _ _ _ c.loop-rest.invariant.same (rw c.in-Ok.is at c.in_ok-entry.ensures.found))
      c.find.ensures.notes c.loop-rest.invariant.noted;
}

pub loop-rest-preserved : goal.loop-rest-preserved
loop-rest-preserved g c = record {
  same = same-then _ _ _ (same-then _ _ _ c.loop-rest.invariant.same c.find.ensures.same) c.note.ensures.same;
  on = goes-without _ _ _ _ c.args.choices.now c.args.folder.now c.args.names.now c.loop-rest.rest.now
      c.split_part.result.0.now c.split_part.result.1.now c.loop-rest.found.items c.in-Err.reason
      c.split_part.ensures.split (search rules) (search rules)
      (found-same _ _ _ _ _ c.loop-rest.invariant.same (rw c.in-Err.is at c.in_ok-entry.ensures.found))
      c.loop-rest.invariant.on;
  noted = notes-add _ _ _ _ c.args.choices.now c.find.new.choices c.note.new.choices c.args.folder.now
      c.args.names.now c.loop-rest.rest.now c.split_part.result.0.now c.split_part.result.1.now c.in-Err.reason
      c.split_part.ensures.split (search rules) (search rules)
      (found-same _ _ _ _ _ c.loop-rest.invariant.same (rw c.in-Err.is at c.in_ok-entry.ensures.found))
      (same-then _ _ _ c.loop-rest.invariant.same c.find.ensures.same) c.in_ok-note-in-Err.ensures.noted
      (noted-until _ c.args.choices.now c.loop-rest.choices c.find.new.choices c.find.ensures.notes c.loop-rest.invariant.noted);
}

pub returns-clause-found : goal.returns-clause-found
returns-clause-found g c = goes-end _ _ _ _ c.args.choices.now c.args.folder.now c.args.names.now
    c.loop-rest.rest.now c.loop-rest.found.items (search rules) c.loop-rest.invariant.on

pub returns-clause-noted : goal.returns-clause-noted
returns-clause-noted g c = notes-end _ _ _ _ c.args.choices.now c.loop-rest.choices c.args.folder.now
    c.args.names.now c.loop-rest.rest.now (search rules) c.loop-rest.invariant.noted
