use Rattle.std.proofs.Common.{rules, subst}
use Rattle.linegrep_files.specs.Notes.{IsNote}
use Rattle.linegrep_files.proofs.NoteLemmas.{none-noted, noted-as}
use Rattle.linegrep_files.proofs.finder.Finder.note.Goals as goal

pub returns-then-not-explains-clause-noted : goal.returns-then-not-explains-clause-noted
returns-then-not-explains-clause-noted g c = none-noted _ c.args.choices.now (search rules)

pub returns-clause-noted : goal.returns-clause-noted
returns-clause-noted g c = let (word, is, path) = c.in_ok-path.ensures in
    noted-as _ _ (λ notes (note, are, says). (
      note,
      word,
      are,
      is,
      subst (λ p. IsNote c.args.choices.now p c.args.reason note) path says,
    )) c.args.choices.now c.note.new.self c.in_ok-note.ensures.noted
