use Rattle.std.proofs.Common.{◌⊎◌, ◌<◌, ◌≤◌, drop, inl, inr, ap, ◌∙◌, ◌++◌, encode_utf8, arith}
use Rattle.grep_decode.specs.Decoded.{utf16_text}
use Rattle.grep_decode.proofs.Utf16Lemmas.{high_is, low_is, not_low, not_high, alone-plain}
use Rattle.grep_decode.proofs.Utf16Lemmas.{alone-surrogate, text-alone, text-high, unfinished-few}
use Rattle.grep_decode.proofs.Utf16Lemmas.{unfinished-pair, text-pair, text-waiting, text-odd}
use Rattle.grep_decode.proofs.utf16.next_scalar.Goals as goal
use Rattle.grep_decode.proofs.utf16.next_scalar.Goals.{then-unit-lt55296-via-then-unit-lt55296}
use Rattle.grep_decode.proofs.utf16.next_scalar.Goals.{then-unit-lt55296-via-else-unit-lt55296+then-unit-ge57344}
use Rattle.grep_decode.proofs.utf16.next_scalar.Goals.{else-next-ge56320-via-then-next-ge56320+else-next-lt57344}
use Rattle.grep_decode.proofs.utf16.next_scalar.Goals.{else-next-ge56320-via-else-next-ge56320}

pub returns-then-unit-lt55296-clause-first : goal.returns-then-unit-lt55296-clause-first
returns-then-unit-lt55296-clause-first c = λ more when.
    let u = c.unit_at-unit.result in
    let range : (u < 0xD800) ⊎ (0xE000 ≤ u) = elim c.then-unit-lt55296.branch [
      | then-unit-lt55296-via-then-unit-lt55296 w ↦ inl w.if-unit-lt55296.true
      | then-unit-lt55296-via-else-unit-lt55296+then-unit-ge57344 w ↦ inr w.if-unit-ge57344.true
    ] in
    let plain : (u < 0xD800) ⊎ (0xDC00 ≤ u) =
    elim range [ inl h ↦ inl h | inr h ↦ inr (omega (arith, h)) ] in
    text-alone c.args.order c.args.input.now more u (omega arith) c.unit_at-unit.ensures.value
    (not_high u plain)
    ∙ ap (λ k. encode_utf8 k ++ utf16_text c.args.order (drop 2 c.args.input.now ++ more))
    (alone-plain u range)

pub returns-then-unit-ge56320-clause-first : goal.returns-then-unit-ge56320-clause-first
returns-then-unit-ge56320-clause-first c = λ more when.
    let u = c.unit_at-unit.result in
    text-alone c.args.order c.args.input.now more u (omega arith) c.unit_at-unit.ensures.value
    (not_high u (inr c.if-unit-ge56320.true))
    ∙ ap (λ k. encode_utf8 k ++ utf16_text c.args.order (drop 2 c.args.input.now ++ more))
    (alone-surrogate u (omega arith) (omega arith))

pub returns-then-is_last-2-clause-first : goal.returns-then-is_last-2-clause-first
returns-then-is_last-2-clause-first c = λ more when.
    let u = c.unit_at-unit.result in
    text-waiting c.args.order c.args.input.now more u (omega arith) (omega arith)
    c.unit_at-unit.ensures.value (high_is u (omega arith) (omega arith)) (when c.if-is_last-2.true)

pub returns-then-is_last-clause-first : goal.returns-then-is_last-clause-first
returns-then-is_last-clause-first c = λ more when. text-odd c.args.order c.args.input.now more
    (omega arith) (when c.if-is_last.true)

pub returns-then-next-lt57344-clause-first : goal.returns-then-next-lt57344-clause-first
returns-then-next-lt57344-clause-first c = λ more when.
    let u = c.unit_at-unit.result in
    let v = c.unit_at-next.result in
    text-pair c.args.order c.args.input.now more u v (omega arith) c.unit_at-unit.ensures.value
    c.unit_at-next.ensures.value
    (high_is u (omega arith) (omega arith)) (low_is v (omega arith) (omega arith))

pub returns-else-next-ge56320-clause-first : goal.returns-else-next-ge56320-clause-first
returns-else-next-ge56320-clause-first c = λ more when.
    let u = c.unit_at-unit.result in
    let v = c.unit_at-next.result in
    let range : (v < 0xDC00) ⊎ (0xE000 ≤ v) = elim c.else-next-ge56320.branch [
      | else-next-ge56320-via-then-next-ge56320+else-next-lt57344 w ↦ inr w.if-next-lt57344.false
      | else-next-ge56320-via-else-next-ge56320 w ↦ inl w.if-next-ge56320.false
    ] in
    text-high c.args.order c.args.input.now more u v (omega arith) c.unit_at-unit.ensures.value
    c.unit_at-next.ensures.value (high_is u (omega arith) (omega arith)) (not_low v range)
    ∙ ap (λ k. encode_utf8 k ++ utf16_text c.args.order (drop 2 c.args.input.now ++ more))
    (alone-surrogate u (omega arith) (omega arith))

pub returns-in-empty-clause-unfinished : goal.returns-in-empty-clause-unfinished
returns-in-empty-clause-unfinished c = unfinished-few c.args.order c.args.input.now (omega arith)

pub returns-else-is_last-clause-unfinished : goal.returns-else-is_last-clause-unfinished
returns-else-is_last-clause-unfinished c = unfinished-few c.args.order c.args.input.now
    (omega arith)

pub returns-else-is_last-2-clause-unfinished : goal.returns-else-is_last-2-clause-unfinished
returns-else-is_last-2-clause-unfinished c = unfinished-pair c.args.order c.args.input.now
    c.unit_at-unit.result (omega arith)
    (omega arith) c.unit_at-unit.ensures.value (high_is c.unit_at-unit.result (omega arith)
    (omega arith))
