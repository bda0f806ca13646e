use Rattle.std.proofs.Common.{◌≡◌, drop}
use Rattle.grep_regex.specs.Choices.{items_of}
use Rattle.grep_regex.specs.Classes.{first_size}
use Rattle.grep_regex.proofs.classes.first_size.Given as goal

abbrev pub invariant-loop-i : goal.invariant-loop-i
invariant-loop-i l = first_size (items_of l.choices) l.haystack l.at
    ≡ first_size (items_of (drop l.i l.choices)) l.haystack l.at
