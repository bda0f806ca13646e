-- Command lines whose requests the checker computes.
use Rattle.std.proofs.Common.{◌≡◌, [], ◌∷◌, refl}
use Rattle.std.specs.Prelude.{true, codes, None, Some}
use Rattle.lgrep_cli.specs.CommandLine.{bare, request_of}

-- lgrep a
pub literal : request_of (codes "a" ∷ []) ≡ Some (bare (codes "a"))
literal = refl

-- lgrep ''
pub empty_literal : request_of ([] ∷ []) ≡ Some (bare [])
empty_literal = refl

-- lgrep -
pub dash : request_of (codes "-" ∷ []) ≡ Some (bare (codes "-"))
dash = refl

-- lgrep -v -v a
pub twice : request_of (codes "-v" ∷ codes "-v" ∷ codes "a" ∷ []) ≡ Some (record (bare (codes "a")) { invert = true })
twice = refl

-- lgrep -U -v a
pub across_lines : request_of (codes "-U" ∷ codes "-v" ∷ codes "a" ∷ []) ≡ Some
    (record (bare (codes "a")) { invert = true; multi_line = true })
across_lines = refl

-- lgrep -m 1 -m 2 a
pub last_counts : request_of (codes "-m" ∷ codes "1" ∷ codes "-m" ∷ codes "2" ∷ codes "a" ∷ []) ≡ Some
    (record (bare (codes "a")) { max = Some 2 })
last_counts = refl

-- lgrep -m 1 --passthru a
pub limit_passthru : request_of (codes "-m" ∷ codes "1" ∷ codes "--passthru" ∷ codes "a" ∷ []) ≡ Some
    (record (bare (codes "a")) { passthru = true; max = Some 1 })
limit_passthru = refl

-- lgrep -c -v -c a
pub counts : request_of (codes "-c" ∷ codes "-v" ∷ codes "-c" ∷ codes "a" ∷ []) ≡ Some
    (record (bare (codes "a")) { invert = true; count = true })
counts = refl

-- lgrep -c
pub count_alone : request_of (codes "-c" ∷ []) ≡ None
count_alone = refl

-- lgrep -A 1 -B 4294967295 a
pub contexts : request_of (codes "-A" ∷ codes "1" ∷ codes "-B" ∷ codes "4294967295" ∷ codes "a" ∷ []) ≡ Some
    (record (bare (codes "a")) { after = Some 1; before = Some 4294967295 })
contexts = refl

-- lgrep -- -v
pub end_of_options : request_of (codes "--" ∷ codes "-v" ∷ []) ≡ Some (bare (codes "-v"))
end_of_options = refl

-- lgrep -m a
pub missing_number : request_of (codes "-m" ∷ codes "a" ∷ []) ≡ None
missing_number = refl

-- lgrep -B 4294967296 a
pub large_number : request_of (codes "-B" ∷ codes "4294967296" ∷ codes "a" ∷ []) ≡ None
large_number = refl

-- lgrep -x
pub unknown_option : request_of (codes "-x" ∷ []) ≡ None
unknown_option = refl

-- lgrep a b
pub path : request_of (codes "a" ∷ codes "b" ∷ []) ≡ Some (record (bare (codes "a")) { path = Some (codes "b") })
path = refl

-- lgrep a -v
pub dashed_path : request_of (codes "a" ∷ codes "-v" ∷ [])
    ≡ Some (record (bare (codes "a")) { path = Some (codes "-v") })
dashed_path = refl

-- lgrep -- a b
pub path_after_end : request_of (codes "--" ∷ codes "a" ∷ codes "b" ∷ []) ≡ Some
    (record (bare (codes "a")) { path = Some (codes "b") })
path_after_end = refl

-- lgrep -- -v b
pub dashed_literal : request_of (codes "--" ∷ codes "-v" ∷ codes "b" ∷ []) ≡ Some
    (record (bare (codes "-v")) { path = Some (codes "b") })
dashed_literal = refl

-- lgrep a b c
pub after_path : request_of (codes "a" ∷ codes "b" ∷ codes "c" ∷ []) ≡ None
after_path = refl

-- lgrep -- a b c
pub after_path_after_end : request_of (codes "--" ∷ codes "a" ∷ codes "b" ∷ codes "c" ∷ []) ≡ None
after_path_after_end = refl

-- lgrep
pub nothing : request_of [] ≡ None
nothing = refl
