-- Patterns that have a byte of the line terminator in a literal, or in a class of such bytes alone.
use Rattle.std.specs.Prelude.{◌≡◌, ◌⊎◌, ◌==◌, ◌&&◌, ◌||◌, ℕ, ◌+◌, ◌<◌, ◌≤◌, Bool, true, false}
use Rattle.std.specs.Prelude.{List, [], length, get_or, slice_index, All}
use Rattle.std.specs.Char.{is_ascii_digit}
use Rattle.std.specs.List.{list_any}
use Rattle.regex_class.specs.Ranges.{in_ranges}
use Rattle.regex_hir.specs.Re.{Re, empty, literal, byte_in, char_in, look, cat, alt, group, plus}
use Rattle.regex_syntax.specs.Captures.{SameCaptures}
use Rattle.grep_regex.specs.AbsentBytes.{are_literal}
use Rattle.grep_regex.specs.Clear.{is_among}
use Rattle.grep_regex.specs.Patterns.{excluded_bytes, written_re}
use Rattle.grep_regex.specs.declared.options.Options.{Options}

-- the class has the byte, and no member but these bytes
pub record IsLost (bytes : List ℕ) (byte : ℕ) (ranges : List (ℕ × ℕ)) : Type 0 where
  pub member : in_ranges ranges byte ≡ true
  pub only : (x : ℕ) → x ≤ 0x10_FFFF → in_ranges ranges x ≡ true → is_among bytes x ≡ true

-- a literal of the pattern has the byte, or a class has the byte and no member but these bytes
abbrev pub HasByte : List ℕ → ℕ → Re → Type 0
HasByte bytes byte empty = ⊥
HasByte bytes byte (literal bs) = is_among bs byte ≡ true
HasByte bytes byte (byte_in rs) = IsLost bytes byte rs
HasByte bytes byte (char_in rs) = IsLost bytes byte rs
HasByte bytes byte (look l) = ⊥
HasByte bytes byte (cat a b) = HasByte bytes byte a ⊎ HasByte bytes byte b
HasByte bytes byte (alt a b) = HasByte bytes byte a ⊎ HasByte bytes byte b
HasByte bytes byte (group n a) = HasByte bytes byte a
HasByte bytes byte (plus greedy a) = HasByte bytes byte a

-- what follows a backslash in an escape that stands for characters: a digit, or a letter as in
-- `\a`, `\f`, `\n`, `\r`, `\t`, `\v`, `\x41`, `\u0041`, `\U00000041`, `\p{..}` and `\P{..}`
abbrev pub names_characters : ℕ → Bool
names_characters letter = is_ascii_digit letter || (letter == 97) || (letter == 102)
    || (letter == 110) || (letter == 114) || (letter == 116) || (letter == 118) || (letter == 120)
    || (letter == 117) || (letter == 85) || (letter == 112) || (letter == 80)

-- two characters by which a pattern may name others than its text has: they begin such an escape,
-- or take members out of a class, as `[^`, `--`, `&&` and `~~` do
abbrev pub is_naming : ℕ → ℕ → Bool
is_naming one next = ((one == 92) && names_characters next) || ((one == 91) && (next == 94))
    || ((one == next) && ((one == 45) || (one == 38) || (one == 126)))

-- the text has two such characters in a row
pub record HasNaming (text : List ℕ) : Type 0 where
  pub at : ℕ
  pub inside : at + 1 < length text
  pub pair : is_naming (slice_index text at) (slice_index text (at + 1)) ≡ true

-- the text of a pattern can name the byte: it has the byte, or names others than it has, which a
-- literal doesn't
abbrev pub CanName : Options → ℕ → List ℕ → Type 0
CanName o byte text = (is_among text byte ≡ true) ⊎ ((o.fixed_strings ≡ false) × HasNaming text)

-- one of the texts can
pub record IsNameable (o : Options) (patterns : List (List ℕ)) (byte : ℕ) : Type 0 where
  pub index : ℕ
  pub inside : index < length patterns
  pub names : CanName o byte (get_or patterns index [])

-- what was read, before bytes are taken out of it, matches as the texts say, and has the byte;
-- which pattern it is, the contract of the parser doesn't say
pub record IsReadWith (o : Options) (patterns : List (List ℕ)) (byte : ℕ) : Type 0 where
  pub re : Re
  pub reads : SameCaptures re (written_re o patterns)
  pub has : HasByte (excluded_bytes o.line_terminator) byte re

-- it doesn't have the byte
pub record IsReadWithout (o : Options) (patterns : List (List ℕ)) (byte : ℕ) : Type 0 where
  pub re : Re
  pub reads : SameCaptures re (written_re o patterns)
  pub lacks : HasByte (excluded_bytes o.line_terminator) byte re → ⊥

-- a byte of the line terminator is in the patterns: in one of the texts, if each matches its own
-- text alone, or else in what was read, where one of the texts can name it
pub record HasTerminator (o : Options) (patterns : List (List ℕ)) (byte : ℕ) : Type 0 where
  pub among : is_among (excluded_bytes o.line_terminator) byte ≡ true
  pub text : are_literal o patterns ≡ true → list_any (λ p. is_among p byte) patterns ≡ true
  pub nameable : are_literal o patterns ≡ false → IsNameable o patterns byte
  pub read : are_literal o patterns ≡ false → IsReadWith o patterns byte

-- none is
pub record HasNoTerminator (o : Options) (patterns : List (List ℕ)) : Type 0 where
  pub text : are_literal o patterns ≡ true →
      All (λ p. list_any (is_among (excluded_bytes o.line_terminator)) p ≡ false) patterns
  pub read : are_literal o patterns ≡ false → (byte : ℕ) →
      is_among (excluded_bytes o.line_terminator) byte ≡ true → IsNameable o patterns byte →
      IsReadWithout o patterns byte
