use Rattle.std.proofs.Common.{sym, ◌∙◌}
use Rattle.std.specs.Str.{bytes_eq}
use Rattle.linegrep_options.proofs.RowLemmas.{position-map}
use Rattle.linegrep_options.proofs.table.row_in.Goals as goal

pub returns-in-Some : goal.returns-in-Some
returns-in-Some c =
    rw (
      position-map (λ own. bytes_eq own c.args.name.now) (λ name. name.now) c.args.names.now,
      sym c.is_empty.ensures ∙ c.if-is_empty.false,
      sym c.place_of.ensures ∙ c.in-Some.is,
    ) c.row_at.ensures

pub returns-in-None : goal.returns-in-None
returns-in-None c =
    rw (
      position-map (λ own. bytes_eq own c.args.name.now) (λ name. name.now) c.args.names.now,
      sym c.is_empty.ensures ∙ c.if-is_empty.false,
      sym c.place_of.ensures ∙ c.in-None.is,
    )
