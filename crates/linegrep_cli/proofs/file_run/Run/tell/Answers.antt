use Rattle.std.proofs.Common.{◌∙◌, sym}
use Rattle.linegrep_cli.proofs.ToldLemmas.{told-cut, told-then}
use Rattle.linegrep_cli.proofs.file_run.Run.tell.Goals as goal

pub returns-then-is_some-clause-told : goal.returns-then-is_some-clause-told
returns-then-is_some-clause-told g c = let (failure, said, is) = c.warn-warned.ensures.said in
    (failure, told-cut _ c.args.self.now.scope _ _ _ failure _ _ is (sym c.is_some.ensures ∙ c.if-is_some.true) said, is)

pub returns-clause-told : goal.returns-clause-told
returns-clause-told g c = let (failure, said, is) = c.warn-warned.ensures.said in
    let (last, told, ends) = c.explain.ensures.told in (
      last,
      told-then _ c.args.self.now.scope _ _ _ _ _ failure last _ _ is (sym c.is_some.ensures ∙ c.if-is_some.false)
          c.warn-warned.ensures.notes said told,
      ends,
    )
