-- A pattern of which each way reads a byte has no empty match.
use Rattle.std.proofs.Common.{◌≡◌, ℕ, ◌<◌, true, List, length, sym, ⊎_elim, true≢false, arith}
use Rattle.std.proofs.lemmas.Bool.{and_parts, or_cases}
use Rattle.std.proofs.lemmas.Bool.Decides.{nat_tests}
use Rattle.std.proofs.lemmas.Str.{len_utf8_bounds}
use Rattle.regex_hir.specs.Matches.{Matches, Rounds, one_round, next_round}
use Rattle.regex_hir.specs.Re.{Re, empty, literal, byte_in, char_in, look, cat, alt, group, plus}
use Rattle.regex_hir.specs.Reads.{always_reads}
use Rattle.regex_hir.proofs.MatchesLemmas.{Matches-IsSpan}

rounds-some : (hay : List ℕ) (a : Re) → ((i j : ℕ) → Matches hay a i j → i < j) → (i j : ℕ)
    → Rounds (Matches hay a) i j → i < j
rounds-some hay a each i j (one_round _ r) = each i j r
rounds-some hay a each i j (next_round l _ earlier r) =
    let front = rounds-some hay a each i l earlier in
    let back = each l j r in
    omega arith

-- a match of it ends after its start
pub reads-some : (hay : List ℕ) (re : Re) (i j : ℕ) → always_reads re ≡ true → Matches hay re i j → i < j
reads-some hay empty i j ok m = absurd (true≢false (sym ok))
reads-some hay (literal bs) i j ok m = let some : 0 < length bs = grind (arith, nat_tests, ok) in omega (arith, m.1)
reads-some hay (byte_in rs) i j ok m = omega (arith, m.3)
reads-some hay (char_in rs) i j ok m = omega (arith, m.3, len_utf8_bounds m.0)
reads-some hay (look l) i j ok m = absurd (true≢false (sym ok))
reads-some hay (cat a b) i j ok m =
    let first = Matches-IsSpan hay a i m.0 m.1 in
    let second = Matches-IsSpan hay b m.0 j m.2 in
    ⊎_elim
    (λ some. let moves = reads-some hay a i m.0 some m.1 in omega arith)
    (λ some. let moves = reads-some hay b m.0 j some m.2 in omega arith)
    (or_cases _ _ ok)
reads-some hay (alt a b) i j ok m =
    let both = and_parts _ _ ok in
    ⊎_elim (reads-some hay a i j both.0) (reads-some hay b i j both.1) m
reads-some hay (group n a) i j ok m = reads-some hay a i j ok m
reads-some hay (plus greedy a) i j ok m = rounds-some hay a (λ x y. reads-some hay a x y ok) i j m
