use Rattle.std.proofs.Common.{arith, ◌≤◌, length}
use Rattle.grep_ignore.proofs.StartLemmas.{number-in, numbered-more}
use Rattle.grep_ignore.proofs.path_tests.PathTests.push.Goals as goal

pub invariant_of-self-in-Ok : goal.invariant_of-self-in-Ok
invariant_of-self-in-Ok g c =
    let most : length c.ending-ending.result.now ≤ c.max-self-inside.result =
    omega (arith, c.max-self-inside.ensures, c.max-length.ensures) in
    let most' : length c.start-start.result.now ≤ c.max-self-inside.result =
    omega (arith, c.max-self-inside.ensures, c.max-length.ensures) in
    let more : c.self.inside.longest ≤ c.max-self-inside.result = omega (arith, c.max-self-inside.ensures) in
    rw (c.in_ok-push.ensures.items, c.in-Ok.ensures.ok, c.either-self-inside.ensures)
    (numbered-more g.T.PathTest.about c.self.inside.items.items c.self.inside.numbers c.self.inside.has_starts
    c.self.inside.longest c.max-self-inside.result c.args.item
    c.number_for-number.result.0 c.number_for-number.result.1 more c.self.invariant
    (λ path is_folder about. number-in path c.ending-ending.result.now c.start-start.result.now c.number_for-number.result.0
    c.max-self-inside.result c.number_for-number.result.1 c.self.inside.has_starts most most'
    (c.ending-ending.ensures path is_folder about) (c.start-start.ensures path is_folder about) c.number_for-number.ensures))
