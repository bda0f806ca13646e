use Rattle.std.proofs.Common.{◌∙◌, ap, inl, inr, refl, subst, sym}
use Rattle.std.specs.Borrow.{Bor}
use Rattle.linegrep_cli.specs.ColorOptions.{AreColorTexts}
use Rattle.linegrep_cli.specs.HyperlinkOptions.{AreHyperlinks}
use Rattle.linegrep_cli.proofs.listing.list_all.Goals as goal

pub returns-in-Err : goal.returns-in-Err
returns-in-Err g c = inl (record {
  failure = c.in-Err.failure;
  refused = c.refused.ensures;
  caused = c.in-Err.ensures.refused;
})

pub returns : goal.returns
returns g c =
    let options = c.args.options.now in
    let (chosen, same, printer) = c.new-lister.ensures.printer in inr (record {
      accepted = c.in-Ok.ensures.accepted;
      scope = c.new-scope.result;
      is_scope = c.new-scope.ensures;
      choices = c.in-Ok.prepared.1;
      are_choices = c.in-Ok.ensures.choices;
      first = c.new-lister.result;
      last = c.complete-status.new.engine;
      begins = record {
        chosen = chosen;
        colored = subst (AreColorTexts options) (sym same) c.in-Ok.ensures.layout.colors;
        printer = printer;
        is_quiet = c.new-lister.ensures.is_quiet;
        writes_to = c.new-lister.ensures.writer;
        says = c.new-lister.ensures.errors;
        path_separator = c.new-lister.ensures.path_separator ∙ c.in-Ok.ensures.layout.path_separator;
        hyperlinks = subst (AreHyperlinks _ options) (sym c.new-lister.ensures.hyperlinks)
            c.in-Ok.ensures.layout.hyperlinks;
        asks_system = ap (λ (s : Bor _). s.now) c.new-lister.ensures.system;
      };
      run = rw (c.new.ensures.system, c.new.ensures.scope, c.paths.ensures) at c.complete-status.ensures;
      unread = refl;
      output_after = c.into_writer.ensures;
    })
