use Rattle.std.proofs.Common.{◌≡◌, None, option_map, string_bytes, slice_index_or, sym, ap}
use Rattle.std.proofs.Common.{◌∙◌, arith, true≢false, inl, inr}
use Rattle.std.proofs.lemmas.Bool.{cases_lt}
use Rattle.std.proofs.lemmas.List.{get_or-map}
use Rattle.regex.specs.Names.{names_of}
use Rattle.grep_replace.proofs.template.index_of.Goals as goal

pub names-preserved : goal.names-preserved
names-preserved c k below named =
    let names = c.args.names.now in
    let i = c.names.index in
    let it = c.index-names-index.result in
    elim (cases_lt k i) [
      | inl lt ↦ c.names.invariant k lt named
      | inr ge ↦
          let same : i ≡ k = omega arith in
          let read : option_map string_bytes it ≡ slice_index_or (names_of names) i None =
          ap (option_map string_bytes) c.index-names-index.is ∙ sym (get_or-map (option_map string_bytes) names i it None (omega arith)) in
          true≢false (sym (c.is_named.ensures.1 (read ∙ ap (λ n. slice_index_or (names_of names) n None) same ∙ named)) ∙ c.if-is_named.false)
    ]
