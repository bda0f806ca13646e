use Rattle.std.proofs.Common.{◌∙◌, sym}
use Rattle.grep_regex.proofs.regex.avoids_carriage_return.Goals as goal

pub returns-else-is_some : goal.returns-else-is_some
returns-else-is_some c = λ yes none. rw c.in-Some.is (sym c.contains.ensures ∙ yes)
