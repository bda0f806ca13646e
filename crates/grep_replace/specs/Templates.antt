-- Templates: what is written in place of a match, by its groups.
use Rattle.std.specs.Prelude.{◌≡◌, ℕ, zero, suc, ◌+◌, ◌-◌, ◌&&◌, ◌==◌, if◌then◌else◌}
use Rattle.std.specs.Prelude.{nat_lt, List, [], ◌∷◌, ◌++◌, drop, take, slice_get, slice_index}
use Rattle.std.specs.Prelude.{slice_range, Option, None, Some, Vec}
use Rattle.std.specs.Global.{Global}
use Rattle.std.specs.List.{flat_map, prefix_len}
use Rattle.std.specs.Option.{option_and_then, option_map, option_map_or}
use Rattle.regex.specs.Templates.{group_called, is_name_byte}
use Rattle.grep_replace.specs.declared.template.Piece.{Piece}
use Rattle.grep_replace.specs.declared.template.Piece.TheVariants.{Group, Text}
use Rattle.grep_replace.specs.declared.template.Template.{Template}

-- after a dollar sign: the longest name, alone or in braces, and how many bytes that takes
unfoldable pub name_at : List ℕ → Option (List ℕ × ℕ)
name_at rest =
    let braced = prefix_len is_name_byte (drop 1 rest) in
    let bare = prefix_len is_name_byte rest in
    if slice_index rest 0 == 123
    then (if nat_lt 0 braced && slice_index rest (braced + 1) == 125
    then Some (take braced (drop 1 rest), braced + 2) else None)
    else (if nat_lt 0 bare then Some (take bare rest, bare) else None)

-- a reference at the start of a template, and how many bytes it takes: two dollar signs, which have
-- no name, or a dollar sign and a name
unfoldable pub reference_at : List ℕ → Option (Option (List ℕ) × ℕ)
reference_at rest =
    if slice_index rest 0 == 36
    then (if slice_index rest 1 == 36 then Some (None, 2)
    else option_map (λ found. (Some found.0, found.1 + 1)) (name_at (drop 1 rest)))
    else None

-- The names of the groups, and the text of each.
module _ (names : List (Option (List ℕ))) (text_of : ℕ → List ℕ) where
  -- the text of a group, and nothing for a name that no group has
  abbrev pub text_or_nothing : Option ℕ → List ℕ
  text_or_nothing None = []
  text_or_nothing (Some group) = text_of group

  -- what a reference stands for: a dollar sign, or the group with this number, or with this name
  abbrev pub reference_text : Option (List ℕ) → List ℕ
  reference_text None = 36 ∷ []
  reference_text (Some name) = text_or_nothing (group_called names name)

  -- a byte that begins a reference, if it does, where `after n` is written from n bytes after it on
  abbrev pub place_text : ℕ → Option (Option (List ℕ) × ℕ) → (ℕ → List ℕ) → List ℕ
  place_text byte None after = byte ∷ after 0
  place_text byte (Some reference) after = reference_text reference.0 ++ after (reference.1 - 1)

  -- what a template writes, once so many bytes are passed over: each reference what it stands for,
  -- and any other byte itself
  unfoldable pub written_after : List ℕ → ℕ → List ℕ
  written_after [] passed = []
  written_after (b ∷ rest) (suc passed) = written_after rest passed
  written_after (b ∷ rest) zero = place_text b (reference_at (b ∷ rest)) (written_after rest)

-- what a template writes, by the names of the groups and the text of each
abbrev pub written_text : List (Option (List ℕ)) → List ℕ → (ℕ → List ℕ) → List ℕ
written_text names template text_of = written_after names text_of template 0

-- what a piece of a template writes, by the text of each group
abbrev pub piece_text : (ℕ → List ℕ) → Piece → List ℕ
piece_text text_of (Text bytes) = bytes.items
piece_text text_of (Group group) = text_of group

abbrev pub pieces_text : (ℕ → List ℕ) → List Piece → List ℕ
pieces_text text_of pieces = flat_map (piece_text text_of) pieces

-- pieces write what a template does, whatever the groups are
abbrev pub AreReadFrom : List (Option (List ℕ)) → List ℕ → List Piece → Type 0
AreReadFrom names template pieces =
    (text_of : ℕ → List ℕ) → pieces_text text_of pieces ≡ written_text names template text_of

-- what a template that was read writes, by the text of each group
abbrev pub template_text : Template → (ℕ → List ℕ) → List ℕ
template_text template text_of = pieces_text text_of template.pieces.items

-- the text of a group of a match in a haystack: nothing, if it takes no part
-- or there is none with this number
abbrev pub group_text : List ℕ → List (Option (ℕ × ℕ)) → ℕ → List ℕ
group_text haystack groups group =
    option_map_or (λ g. slice_range haystack g.0 g.1)
    (option_and_then (λ found. found) (slice_get groups group)) []

-- one more piece, of these bytes
abbrev pub ArePushedText : List ℕ → List Piece → List Piece → Type 0
ArePushedText text old new =
    (bytes : Vec ℕ Global) × (bytes.items ≡ text) × (new ≡ old ++ Text bytes ∷ [])

-- more pieces, for a reference
abbrev pub ArePushed : List (Option (List ℕ)) → Option (List ℕ) → List Piece → List Piece → Type 0
ArePushed names name old new = (more : List Piece) × (new ≡ old ++ more)
    × ((text_of : ℕ → List ℕ) → pieces_text text_of more ≡ reference_text names text_of name)
