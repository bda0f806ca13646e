use Rattle.std.proofs.Common.{◌≡◌, ◌==◌, ◌≤◌, ◌-◌, ◌+◌, ℕ, List, ◌∙◌, ap, arith, count_by, drop, drop-drop}
use Rattle.std.proofs.Common.{length, length-drop, length-take, take}
use Rattle.std.proofs.lemmas.List.{drop-take}
use Rattle.grep_lines.proofs.counts.line_count_in.Goals as goal

-- the last bytes of the 64 before a position
last-part : (start end : ℕ) (bytes : List ℕ) → start ≤ end → end ≤ length bytes → 64 ≤ end → end - start ≤ 64
    → drop (64 - length (take (end - start) (drop start bytes)))
    (take (end - (end - 64)) (drop (end - 64) bytes)) ≡ take (end - start) (drop start bytes)
last-part start end bytes ordered within some few =
    let size : length (take (end - start) (drop start bytes)) ≡ end - start =
    omega (arith, length-take (end - start) (drop start bytes), length-drop start bytes) in
    let n = 64 - (end - start) in
    let all : end - (end - 64) ≡ n + (end - start) = omega arith in
    let from : (end - 64) + n ≡ start = omega arith in
    ap (λ k. drop (64 - k) (take (end - (end - 64)) (drop (end - 64) bytes))) size
    ∙ (ap (λ k. drop n (take k (drop (end - 64) bytes))) all
    ∙ (drop-take n (end - start) (drop (end - 64) bytes)
    ∙ ap (take (end - start)) (drop-drop n (end - 64) bytes ∙ ap (λ k. drop k bytes) from)))

pub count_ended-requires : goal.count_ended-requires
count_ended-requires c = c.count_wide.ensures
    ∙ ap (count_by (λ (b : ℕ). b == c.args.terminator)) (last-part c.args.start c.args.end c.args.bytes.now
    c.requires.ordered c.requires.within (omega arith) (omega arith))
