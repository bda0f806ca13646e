use Rattle.std.proofs.Common.{ℕ, ◌+◌, ◌<◌, arith, refl}
use Rattle.regex_literal.specs.Nibbles.{buckets_of}
use Rattle.grep_regex.proofs.PrefixLemmas.{set-covers}
use Rattle.grep_regex.proofs.prefix.Prefix.first_lanes.Goals as goal

pub returns : goal.returns
returns g c =
    let s = c.args.self.now in
    set-covers (λ (b : ℕ). 0 < buckets_of s.first.low s.first.high b) s.cover.items
    s.lead (s.lead + 1) c.args.haystack.now c.args.at (c.args.at + 1) c.second_lanes.result
    c.lanes_of.result (omega arith) refl
    (omega (arith, c.requires.few, c.requires.sets))
    (omega (arith, c.requires.few, c.requires.room)) s.first_has
    c.second_lanes.ensures c.lanes_of.ensures.long c.lanes_of.ensures.high c.lanes_of.ensures.member
