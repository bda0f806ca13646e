use Rattle.std.proofs.Common.{ℕ, ◌+◌, ◌<◌, arith, refl}
use Rattle.regex_literal.specs.Nibbles.{buckets_of}
use Rattle.grep_regex.specs.Decisions.{MayMatch}
use Rattle.grep_regex.proofs.PrefixLemmas.{all-cover, set-covers}
use Rattle.grep_regex.proofs.prefix.Prefix.third_lanes.Goals as goal

pub returns : goal.returns
returns g c =
    let s = c.args.self.now in
    set-covers (λ (b : ℕ). 0 < buckets_of s.third.low s.third.high b) s.cover.items
    (s.lead + 2) (s.lead + 3) c.args.haystack.now c.args.at (c.args.at + 1) c.all_set-2.result
    c.lanes_of.result (omega arith) refl
    (omega (arith, c.if-this-lt3.false, c.requires.sets))
    (omega (arith, c.if-this-lt3.false, c.requires.room)) s.third_has
    (all-cover (MayMatch s.cover.items (s.lead + 3) c.args.haystack.now) (c.args.at + 1) c.all_set-2.result c.all_set-2.ensures)
    c.lanes_of.ensures.long c.lanes_of.ensures.high c.lanes_of.ensures.member
