use Rattle.std.proofs.Common.{◌≡◌, ◌∙◌, arith, sym}
use Rattle.std.proofs.lemmas.Bool.{eqb-true}
use Rattle.grep_regex.proofs.GroupLemmas.{one-group, slots-of}
use Rattle.grep_regex.specs.Groups.{group_count}
use Rattle.grep_regex.specs.Views.{regex_capturing, regex_options, regex_patterns}
use Rattle.grep_regex.proofs.regex.Regex.has_one_group.Goals as goal

pub returns : goal.returns
returns c = λ yes.
    let r = c.args.self.now in
    let two : (regex_capturing r).dfa.nfa.slot_count ≡ 2 = sym c.slot_count.ensures ∙ eqb-true _ 2 yes in
    let slots = slots-of r in
    let one : group_count (regex_options r) (regex_patterns r) ≡ 1 = omega (arith, two, slots) in
    one-group (regex_options r) (regex_patterns r) one
