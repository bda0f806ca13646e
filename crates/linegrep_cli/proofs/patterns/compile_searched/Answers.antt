use Rattle.std.proofs.Common.{◌≡◌, ◌∙◌, ℕ, List, arith, length, map, nat_lt, sym, true}
use Rattle.std.proofs.lemmas.Bool.{lt-ltb}
use Rattle.std.proofs.lemmas.List.{length-map}
use Rattle.std.specs.Borrow.{Bor}
use Rattle.linegrep_cli.specs.PatternOptions.{names_groups}
use Rattle.linegrep_cli.proofs.patterns.compile_searched.Goals as goal

pub returns-then-names_groups-clause-refused : goal.returns-then-names_groups-clause-refused
returns-then-names_groups-clause-refused c =
    let now = λ (text : Bor (List ℕ)). text.now in
    let texts = map now c.args.texts.now in
    let count : length texts ≡ length c.args.texts.now = length-map c.args.texts.now now in
    let several : nat_lt 1 (length texts) ≡ true =
    lt-ltb 1 (length texts) (omega (arith, count, c.if-texts-gt1.true)) in
    let names : names_groups c.args.options.now ≡ true =
    sym c.names_groups.ensures ∙ c.if-names_groups.true in
    rw (several, names) c.compile_joined.ensures.refused
