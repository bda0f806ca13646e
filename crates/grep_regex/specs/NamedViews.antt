-- What contracts see of the matcher of a named expression.
use Rattle.grep_regex.specs.declared.named.NamedMatcher.{NamedMatcher}
use Rattle.grep_regex.specs.declared.named.Naming.{Ghosts}
use Rattle.grep_regex.specs.declared.regex.Regex.{Regex}

-- its expression
abbrev pub named_regex : {N : Type 0} {naming : Ghosts N} → NamedMatcher N naming → Regex
named_regex m = m.shortcut.regex.now
