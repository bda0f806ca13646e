use Rattle.linegrep_files.proofs.IgnoreFileLemmas.{files-read}
use Rattle.linegrep_files.proofs.ignores.Ignores.add_files.Goals as goal

pub returns-clause-files : goal.returns-clause-files
returns-clause-files g c =
    files-read _ c.args.marks _ c.args.folder.now c.args.self.now c.add_exclude.new.self
    c.add_in.new.self c.add_in-2.new.self c.add_in-3.new.self
    c.add_exclude.ensures.place c.add_in.ensures.place c.add_in-2.ensures.place
    (rw (c.both.ensures, c.depth-depth.ensures) at c.in_ok-add_exclude.ensures.file)
    (rw (c.both-2.ensures, c.depth-depth.ensures) at c.in_ok-add_in.ensures.file)
    (rw (c.both-3.ensures, c.depth-depth.ensures) at c.in_ok-add_in-2.ensures.file)
    (rw (c.both-4.ensures, c.depth-depth.ensures) at c.in_ok-add_in-3.ensures.file)
