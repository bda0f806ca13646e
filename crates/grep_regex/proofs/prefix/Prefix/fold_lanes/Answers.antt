use Rattle.std.proofs.Common.{◌≡◌, ℕ, ◌+◌, bit_or, arith}
use Rattle.grep_regex.specs.Decisions.{MayMatch}
use Rattle.grep_regex.proofs.PrefixLemmas.{all-cover, set-covers}
use Rattle.grep_regex.proofs.prefix.Prefix.fold_lanes.Goals as goal

pub returns : goal.returns
returns c =
    let s = c.args.self.now in
    let sets = s.cover.items in
    let hay = c.args.haystack.now in
    let at = c.args.at in
    let third = set-covers (λ (b : ℕ). bit_or b s.folds.2.mask ≡ s.folds.2.value) sets (s.lead + 2) (s.lead + 3) hay
    (at + 2) (at + 2 + 1) c.all_set.result c.lanes_by-third.result (omega arith) (omega arith) (omega (arith, c.requires.sets))
    (omega (arith, c.requires.room)) s.third_fold
    (all-cover (MayMatch sets (s.lead + 3) hay) (at + 2 + 1) c.all_set.result c.all_set.ensures)
    c.lanes_by-third.ensures.long c.lanes_by-third.ensures.high c.lanes_by-third.ensures.member in
    let second = set-covers (λ (b : ℕ). bit_or b s.folds.1.mask ≡ s.folds.1.value) sets (s.lead + 1) (s.lead + 2) hay
    (at + 1) (at + 2) c.lanes_by-third.result c.lanes_by-second.result (omega arith) (omega arith) (omega (arith, c.requires.sets))
    (omega (arith, c.requires.room)) s.second_fold third
    c.lanes_by-second.ensures.long c.lanes_by-second.ensures.high c.lanes_by-second.ensures.member in
    set-covers (λ (b : ℕ). bit_or b s.folds.0.mask ≡ s.folds.0.value) sets s.lead (s.lead + 1) hay at (at + 1)
    c.lanes_by-second.result c.lanes_by.result (omega arith) (omega arith) (omega (arith, c.requires.sets))
    (omega (arith, c.requires.room)) s.first_fold second
    c.lanes_by.ensures.long c.lanes_by.ensures.high c.lanes_by.ensures.member
