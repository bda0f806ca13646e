use Rattle.std.proofs.Common.{◌∙◌, ap, subst, sym}
use Rattle.grep_searcher.specs.Plans.{SearcherState, Settings, is_across}
use Rattle.linegrep_cli.specs.ColorOptions.{AreColorTexts}
use Rattle.std.specs.Borrow.{Bor}
use Rattle.linegrep_cli.specs.HyperlinkOptions.{AreHyperlinks, AreHyperlinksLent}
use Rattle.linegrep_cli.specs.PrinterOptions.{IsPrinterOf}
use Rattle.linegrep_cli.specs.SearcherOptions.{searcher_settings}
use Rattle.linegrep_cli.specs.SeparatorOptions.{IsSeparators}
use Rattle.linegrep_cli.proofs.search.Prepared.search.Goals as goal

pub returns : goal.returns
returns g c =
    let options = c.args.options.now in
    let matcher = c.args.matcher in
    let separators = c.as_ref.result in
    let colors = c.as_ref-2.result in
    let template = c.as_ref-3.result in
    let settings = c.requires.settings in (
      template,
      c.as_ref-3.ensures.value,
      record {
        accepted = c.requires.accepted;
        scope = c.new-scope.result;
        first = c.new-engine.result;
        last = c.complete-status.new.engine;
        is_scope = c.new-scope.ensures;
        choices = c.args.self.choices;
        are_choices = c.requires.choices;
        begins = record {
          settings = ap (λ (state : SearcherState). state.settings) c.new-engine.ensures.searcher ∙ settings;
          asks = c.new-engine.ensures.matcher;
          separators = separators;
          lent = subst (IsSeparators options) (sym c.as_ref.ensures.value) c.requires.layout.separators;
          chosen = colors;
          colored = subst (AreColorTexts options) (sym c.as_ref-2.ensures.value) c.requires.layout.colors;
          printer = subst (λ printer. IsPrinterOf options (is_across (searcher_settings options)
              (g.M.Matcher.facts matcher).meaning) separators colors matcher template printer)
              (sym c.new-engine.ensures.printer)
              (subst (λ across. IsPrinterOf options across separators colors matcher template
              c.build_printer-printer.result)
              (c.multi_line_with_matcher-is_across.ensures ∙ ap (λ settings. is_across settings
              (g.M.Matcher.facts matcher).meaning) settings) c.build_printer-printer.ensures);
          writes_to = c.new-engine.ensures.writer;
          haystack = c.new-engine.ensures.haystack;
          says = c.new-engine.ensures.errors;
          path_separator = c.new-engine.ensures.path_separator ∙ c.requires.layout.path_separator;
          hyperlinks = subst (AreHyperlinksLent _ options) (sym c.new-engine.ensures.hyperlinks)
              (subst (AreHyperlinks _ options) (sym c.as_ref-4.ensures.value) c.requires.layout.hyperlinks);
          asks_system = ap (λ (s : Bor _). s.now) c.new-engine.ensures.system;
          detection = c.new-engine.ensures.detection ∙ ap (λ (settings : Settings). settings.binary_detection) settings;
        };
        run = rw (c.new-run.ensures.system, c.new-run.ensures.scope, c.paths.ensures) at c.complete-status.ensures;
        input_after = c.into_parts-input.ensures.input;
        output_after = c.into_parts-input.ensures.writer;
      },
    )
