use Rattle.std.proofs.Common.{◌≡◌, ◌++◌, ◌≤◌, ◌⊎◌, true, ℕ, List, length, drop, ap, subst, sym, ◌∙◌}
use Rattle.grep_decode.specs.DecoderStates.{DecoderState, LooksForMark, decode_by, mode_of}
use Rattle.grep_decode.specs.DecoderStates.{mark_length}
use Rattle.grep_decode.specs.Decoded.{found_mark}
use Rattle.grep_decode.proofs.ReadResultLemmas.{fits-fresh}
use Rattle.grep_decode.proofs.MarkLemmas.{chosen}
use Rattle.grep_decode.proofs.PieceLemmas.{dropped, dropped-twice}
use Rattle.grep_decode.proofs.decoder.Decoder.choose.Goals as goal

pub returns-in_default : goal.returns-in_default
returns-in_default g c =
    let d = c.self.inside in
    let head = d.held.bytes in
    let mark = c.find_mark-mark.result in
    let fresh = ap (λ s. s.mode) c.self.view_is ∙ c.requires.mode in
    let fits = fits-fresh d.mode d.ready head c.args.label c.args.sniff c.self.invariant.1 fresh in
    let long = subst (λ l. mark_length mark ≤ length l) c.bytes.ensures
    c.find_mark-mark.ensures.long in
    let found : mark ≡ found_mark c.args.label c.args.sniff head =
    c.find_mark-mark.ensures.found ∙ ap (found_mark c.args.label c.args.sniff) c.bytes.ensures in
    let bytes : c.skip.new.self.bytes ≡ drop (mark_length mark) head =
    ap (λ u. u.bytes) c.skip.ensures ∙ ap (λ n. drop n head) c.mark_len.ensures in
    let mode : c.mode_for-self-inside.result ≡ mode_of mark c.args.label =
    c.mode_for-self-inside.ensures in
    let Enough : DecoderState → Type 0 = λ s. LooksForMark s.mode → (3 ≤ length s.held)
    ⊎ (s.has_ended ≡ true) in
    let enough = subst Enough (sym c.self.view_is) c.requires.enough in
    let ended = ap (λ u. u.has_ended) c.skip.ensures in
    let same : (ys : List ℕ) → d.ready ++ decode_by c.mode_for-self-inside.result
    (c.skip.new.self.bytes ++ ys)
    ≡ decode_by c.mode_for-self-inside.result (drop (mark_length mark) head ++ ys) =
    λ ys. ap (λ r. r ++ decode_by c.mode_for-self-inside.result (c.skip.new.self.bytes ++ ys))
    fits.0 ∙ ap (λ l. decode_by c.mode_for-self-inside.result (l ++ ys)) bytes in
    let old : DecoderState =
    record {
      ready = d.ready;
      held = head;
      mode = d.mode;
      has_ended = d.held.has_ended;
      capacity = d.held.capacity;
    } in
    let new : DecoderState = record {
      ready = d.ready;
      held = c.skip.new.self.bytes;
      mode = c.mode_for-self-inside.result;
      has_ended = c.skip.new.self.has_ended;
      capacity = c.skip.new.self.capacity;
    } in
    rw (← c.self.view_is) (
    let all = chosen old new c.args.label c.args.sniff mark fresh fits.0 found long mode ended
    enough same in
    record {
      capacity = ap (λ u. u.capacity) c.skip.ensures;
      ended = ended;
      same = all.0;
      next = all.1;
      settled = all.2;
      last = dropped head c.skip.new.self.bytes (mark_length mark) bytes;
      ready = λ none passing. absurd (c.in_default.not-Passing passing);
    })

pub returns-in-Passing-clause-last : goal.returns-in-Passing-clause-last
returns-in-Passing-clause-last g c =
    rw (← c.self.view_is) (dropped-twice c.self.inside.held.bytes c.skip.new.self.bytes
    c.skip-in-Passing.new.self.bytes _ _
    (ap (λ u. u.bytes) c.skip.ensures) (ap (λ u. u.bytes) c.skip-in-Passing.ensures))
