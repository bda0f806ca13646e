use Rattle.linegrep_files.proofs.NoteLemmas.{noted-since}
use Rattle.linegrep_files.proofs.walk.Walk.add_names.Goals as goal

pub returns-clause-added : goal.returns-clause-added
returns-clause-added g c = record {
  within = c.enter.new.self;
  found = c.in_ok-found.found.items;
  are_within = rw (c.system.ensures, c.below.ensures) at c.in_ok-enter.ensures.within;
  are_found = c.in_ok-found.ensures.found;
  are_added = c.in_ok-add.ensures.added;
  same = c.found.ensures.same;
}

pub returns-clause-noted : goal.returns-clause-noted
returns-clause-noted g c = record {
  within = c.enter.new.self;
  are_within = rw (c.system.ensures, c.below.ensures) at c.in_ok-enter.ensures.within;
  noted = noted-since _ c.args.choices.now c.enter.new.self c.found.new.choices c.enter.ensures.notes
      c.in_ok-found.ensures.noted;
}
