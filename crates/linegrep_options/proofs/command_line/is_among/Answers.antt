use Rattle.std.proofs.Common.{sym, ◌∙◌}
use Rattle.std.proofs.lemmas.List.{length-map}
use Rattle.std.specs.Str.{bytes_eq}
use Rattle.linegrep_options.proofs.RowLemmas.{list_any-map}
use Rattle.linegrep_options.proofs.command_line.is_among.Goals as goal

pub returns-else-is_empty : goal.returns-else-is_empty
returns-else-is_empty c =
    rw (
      length-map,
      sym c.is_empty.ensures ∙ c.if-is_empty.false,
      list_any-map (λ own. bytes_eq own c.args.text.now) (λ word. word.now) c.args.words.now,
    ) c.has_word.ensures
