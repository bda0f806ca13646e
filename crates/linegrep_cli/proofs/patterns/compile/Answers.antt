use Rattle.linegrep_cli.proofs.patterns.compile.Goals as goal

pub returns-in-Ok-clause-refused : goal.returns-in-Ok-clause-refused
returns-in-Ok-clause-refused c =
    rw (c.builder.ensures, c.deref.ensures.value, c.in-Ok.ensures) at c.compile_searched.ensures.refused
