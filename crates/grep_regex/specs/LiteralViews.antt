-- What contracts see of the matcher of an expression that is a literal.
use Rattle.grep_regex.specs.declared.literal_matcher.LiteralRegexMatcher.{LiteralRegexMatcher}
use Rattle.grep_regex.specs.declared.regex.Regex.{Regex}

-- its expression
abbrev pub literal_regex : LiteralRegexMatcher → Regex
literal_regex m = m.regex.now
