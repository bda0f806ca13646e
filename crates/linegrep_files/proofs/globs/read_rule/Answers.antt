use Rattle.linegrep_files.proofs.globs.read_rule.Goals as goal

pub returns-in-Err-clause-err : goal.returns-in-Err-clause-err
returns-in-Err-clause-err c = rw (c.split_rule-parts.ensures.glob, c.said_glob.ensures) at c.in-Err.ensures.err
