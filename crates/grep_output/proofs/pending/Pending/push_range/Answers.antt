use Rattle.std.proofs.Common.{◌≡◌, ◌∙◌, ◌+◌, ◌-◌, ◌++◌, ◌≤◌, ap, arith, drop}
use Rattle.std.proofs.Common.{length, length-drop, length-take, sym, take}
use Rattle.std.proofs.lemmas.List.{take-take}
use Rattle.std.specs.Prelude.{slice_range}
use Rattle.grep_output.proofs.PendingLemmas.{room-filled}
use Rattle.grep_output.proofs.pending.Pending.push_range.Goals as goal

pub returns : goal.returns
returns c =
    let inside = c.self.inside in
    let start = c.args.start in
    let bytes = c.args.bytes.now in
    let len = c.args.end - start in
    let text = slice_range bytes start c.args.end in
    let filled = c.put_short.new.bytes in
    let few : len ≤ 128 = omega arith in
    let all : length text ≡ len =
    omega (arith, length-take len (drop start bytes), length-drop start bytes, c.requires.within) in
    let short : take len (slice_range bytes start (start + 128)) ≡ text =
    take-take len (start + 128 - start) (drop start bytes) (omega (arith, few)) in
    let put : take (inside.len + length text) filled ≡ take inside.len inside.bytes.items ++ text =
    ap (λ n. take (inside.len + n) filled) all ∙ (c.put_short.ensures.put len few
    ∙ (ap (λ old. take inside.len old ++ take len (slice_range bytes start (start + 128))) c.deref_mut.ensures.value
    ∙ ap (λ more. take inside.len inside.bytes.items ++ more) short)) in
    let size = sym (c.put_short.ensures.same ∙ c.deref_mut.ensures.len) in
    let after = room-filled inside.start inside.len inside.bytes.len inside.bytes.items filled
    (drop (length filled) inside.bytes.items) text c.self.invariant.0 c.self.invariant.1 (omega arith) size put in (
      after.0 ∙ ap (λ p. p.before) c.self.view_is,
      λ there. (
        ap (λ p. p.has_failed) (sym c.self.view_is) ∙ there,
        ap (λ n. drop inside.start (take (inside.len + n) (take inside.bytes.len
            (filled ++ drop (length filled) inside.bytes.items)))) (sym all)
            ∙ (after.1 ∙ ap (λ p. p.text ++ text) c.self.view_is),
      ),
    )
