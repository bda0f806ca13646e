use Rattle.std.proofs.Common.{ap, arith, length}
use Rattle.grep_matcher.proofs.short.find_nearest.Goals as goal

pub returns-in-Resembles : goal.returns-in-Resembles
returns-in-Resembles c = rw c.in-Resembles.is c.find_marked.ensures

pub returns-in-NotBefore : goal.returns-in-NotBefore
returns-in-NotBefore c = rw c.in-NotBefore.is
    (λ k low below occurs. omega (arith, low, occurs.fits, ap length c.needle.ensures, c.if-haystack-from.true))

pub returns-in-NotBefore-2 : goal.returns-in-NotBefore-2
returns-in-NotBefore-2 c = rw c.in-NotBefore-2.is c.find_few.ensures
