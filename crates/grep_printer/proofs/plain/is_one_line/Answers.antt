use Rattle.std.proofs.Common.{◌≡◌, ◌∙◌, ◌-◌, [], ◌∷◌, ap, arith, length, rules, sym, take, take_all, ℕ, List, drop}
use Rattle.std.specs.Prelude.{slice_range}
use Rattle.grep_searcher.specs.Lines.{lines}
use Rattle.grep_printer.proofs.plain.is_one_line.Goals as goal

-- the first line of some bytes, if it ends with them
all-of : (t start end : ℕ) (bytes : List ℕ) → start ≡ 0 → end ≡ length bytes
    → lines t (slice_range bytes start (length bytes))
    ≡ slice_range bytes start end ∷ lines t (slice_range bytes end (length bytes))
    → lines t bytes ≡ bytes ∷ []
all-of t start end bytes first last is =
    let whole : take (length bytes - 0) (drop 0 bytes) ≡ bytes =
    take_all (length bytes - 0) bytes (omega arith) in
    let none : length bytes - length bytes ≡ 0 = omega arith in
    let rest : lines t (slice_range bytes (length bytes) (length bytes)) ≡ [] =
    ap (λ n. lines t (take n (drop (length bytes) bytes))) none in
    sym (ap (lines t) whole) ∙ (rw (first, last) at is ∙ (ap (λ line. line ∷ lines t
    (slice_range bytes (length bytes) (length bytes))) whole ∙ ap (λ later. bytes ∷ later) rest))

pub returns-in-Some : goal.returns-in-Some
returns-in-Some c = λ ends.
    let last : c.in-Some.end ≡ length c.args.bytes.now = search rules in
    all-of c.args.terminator c.in-Some.field-0-0 c.in-Some.end c.args.bytes.now
    (c.in-Some.ensures.starts ∙ search rules) last (search rules)
