use Rattle.regex.specs.Names.{names_of, IsNotBelow}
use Rattle.grep_replace.proofs.template.index_of.Given as goal

abbrev pub invariant-names : goal.invariant-names
invariant-names l = IsNotBelow (names_of l.names) l.name l.index
