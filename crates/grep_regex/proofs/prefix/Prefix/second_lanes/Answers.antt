use Rattle.std.proofs.Common.{ℕ, ◌+◌, ◌<◌, arith, refl}
use Rattle.regex_literal.specs.Nibbles.{buckets_of}
use Rattle.grep_regex.proofs.PrefixLemmas.{set-covers}
use Rattle.grep_regex.proofs.prefix.Prefix.second_lanes.Goals as goal

pub returns : goal.returns
returns g c =
    let s = c.args.self.now in
    set-covers (λ (b : ℕ). 0 < buckets_of s.second.low s.second.high b) s.cover.items
    (s.lead + 1) (s.lead + 2) c.args.haystack.now c.args.at (c.args.at + 1) c.third_lanes.result
    c.lanes_of.result (omega arith) refl
    (omega (arith, c.if-this-lt2.false, c.requires.sets))
    (omega (arith, c.if-this-lt2.false, c.requires.room)) s.second_has
    c.third_lanes.ensures c.lanes_of.ensures.long c.lanes_of.ensures.high c.lanes_of.ensures.member
