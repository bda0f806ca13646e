-- How words read, word by word.
use Rattle.std.proofs.Common.{◌≡◌, ℕ, false, true, List, [], ◌∷◌, ◌++◌, Option, None, Some, refl, ap, sym, ◌∙◌}
use Rattle.std.proofs.Common.{append_assoc, Ok, Err, Result, subst}
use Rattle.std.proofs.lemmas.Bool.{false_from_ne_true}
use Rattle.std.proofs.lemmas.List.{map-append}
use Rattle.std.proofs.lemmas.Str.{IsUtf8-from_is_utf8, is_utf8-from_IsUtf8}
use Rattle.std.specs.Borrow.{Bor}
use Rattle.std.specs.Global.{Global}
use Rattle.std.specs.Prelude.{◌==◌, length, Vec}
use Rattle.std.specs.Option.{option_map}
use Rattle.std.specs.Str.{IsUtf8, is_utf8}
use Rattle.linegrep_options.specs.CommandLines.{Later, NotText, Read, Reading, Refusal, Refused, WrongValue, is_value}
use Rattle.linegrep_options.specs.CommandLines.{attached_reading, begins_with_equals, letters_reading, next_reading}
use Rattle.linegrep_options.specs.Rows.{row_lettered, takes_value}
use Rattle.linegrep_options.specs.CommandLines.{reading_of, refusal_of, value_reading}
use Rattle.linegrep_options.specs.CommandLines.{with_operand, with_use, word_reading}
use Rattle.linegrep_options.specs.ParsedWords.{IsErrorOf, IsStep, after, given, later_of, refusal, texts}
use Rattle.linegrep_options.specs.declared.command_line.ParseError.{ParseError}
use Rattle.linegrep_options.specs.declared.command_line.ParseError.TheVariants.{Memory, Words}
use Rattle.linegrep_options.specs.declared.command_line.Parsed.{Parsed}
use Rattle.linegrep_options.specs.declared.option_id.OptionId.{OptionId}
use Rattle.linegrep_options.specs.declared.table.Row.{Row}

-- the first of some words, and those after it
pub reading-word : (word : List ℕ) (words : List (List ℕ))
    → reading_of (word ∷ words) ≡ word_reading word (later_of words)
reading-word word [] = refl
reading-word word (next ∷ later) = refl

-- one more use is parsed
pub added-use : (old new : Parsed) (id : OptionId) (value : Option (Bor (List ℕ))) (reading : Reading)
    → new.uses.items ≡ old.uses.items ++ record { id = id; value = value } ∷ []
    → new.operands ≡ old.operands
    → after new reading ≡ after old (with_use id (option_map (λ text. text.now) value) reading)
added-use old new id value (Refused refusal) grown same = refl
added-use old new id value (Read uses operands) grown same =
    rw (grown, same, map-append given old.uses.items, append_assoc) refl

-- one more operand is parsed
pub added-operand : (old new : Parsed) (word : Bor (List ℕ)) (reading : Reading)
    → new.operands.items ≡ old.operands.items ++ word ∷ []
    → new.uses ≡ old.uses
    → after new reading ≡ after old (with_operand word.now reading)
added-operand old new word (Refused refusal) grown same = refl
added-operand old new word (Read uses operands) grown same =
    rw (grown, same, map-append (λ (word : Bor (List ℕ)). word.now) old.operands.items, append_assoc) refl

-- bytes that aren't UTF-8 are no value
pub refused-bytes : (row : Row) (value : List ℕ) → (IsUtf8 value → ⊥)
    → refusal_of row value ≡ Some (NotText row value)
refused-bytes row value other =
    let isnt = false_from_ne_true (is_utf8 value) (λ is. other (IsUtf8-from_is_utf8 value is)) in rw isnt refl

pub refused-text : (row : Row) (value : List ℕ) → IsUtf8 value → is_value row.value value ≡ false
    → refusal_of row value ≡ Some (WrongValue row value)
refused-text row value utf8 wrong = let is = is_utf8-from_IsUtf8 value utf8 in rw (is, wrong) refl

pub fitting-text : (row : Row) (value : List ℕ) → IsUtf8 value → is_value row.value value ≡ true
    → refusal_of row value ≡ None
fitting-text row value utf8 right = let is = is_utf8-from_IsUtf8 value utf8 in rw (is, right) refl

-- one more option is parsed with its value
pub added-value : (old new : Parsed) (row : Row) (text : Bor (List ℕ)) (value : List ℕ) (reading : Reading)
    → text.now ≡ value → refusal_of row value ≡ None
    → new.uses.items ≡ old.uses.items ++ record { id = row.id; value = Some text } ∷ []
    → new.operands ≡ old.operands
    → after new reading ≡ after old (value_reading row value reading)
added-value old new row text value reading is fits grown same = rw fits
    (added-use old new row.id (Some text) reading grown same
    ∙ ap (λ (value : List ℕ). after old (with_use row.id (Some value) reading)) is)

-- an option whose value is the next word
pub next-first : (row : Row) (words later : List (Vec ℕ Global)) (word : Vec ℕ Global) → words ≡ word ∷ later
    → value_reading row word.items (reading_of (texts later)) ≡ next_reading row (later_of (texts words))
next-first row words later word is = rw is refl

-- what follows a letter in its word, if it is a value without `=`
pub attached-text : (row : Row) (text : List ℕ) (later : Later) → (length text == 0) ≡ false
    → begins_with_equals text ≡ false
    → value_reading row text later.reading ≡ attached_reading row text later
attached-text row text later some plain = rw (some, plain) refl

-- a letter of an option that has a value
pub letters-valued : (letters others : List ℕ) (letter : ℕ) (row : Row) (later : Later)
    → letters ≡ letter ∷ others → row_lettered letter ≡ Some row → takes_value row.value ≡ true
    → attached_reading row others later ≡ letters_reading letters later
letters-valued letters others letter row later is found takes = rw (is, found, takes) refl

-- and of one that has none
pub letters-flag : (letters others : List ℕ) (letter : ℕ) (row : Row) (later : Later)
    → letters ≡ letter ∷ others → row_lettered letter ≡ Some row → takes_value row.value ≡ false
    → begins_with_equals others ≡ false
    → with_use row.id None (letters_reading others later) ≡ letters_reading letters later
letters-flag letters others letter row later is found takes plain = rw (is, found, takes, plain) refl

-- what reads as a refusal after some words does so by itself
pub after-refused : (parsed : Parsed) (reading : Reading) (refusal : Refusal)
    → after parsed reading ≡ Refused refusal → reading ≡ Refused refusal
after-refused parsed (Read uses operands) refusal is = absurd (cc)
after-refused parsed (Refused own) refusal is = is

-- a step after others
pub step-after : (old mid new : Parsed) (first reading : Reading)
    (result : Result (Bor (List (Vec ℕ Global))) ParseError)
    → after mid reading ≡ after old first → IsStep mid new reading result → IsStep old new first result
step-after old mid new first reading (Ok left) is step = step ∙ is
step-after old mid new first reading (Err Memory) is step = tt
step-after old mid new first reading (Err (Words fault)) is step =
    after-refused old first (refusal fault) (sym is ∙ ap (after mid) step)

-- an error of a step after others
pub error-after : (parsed : Parsed) (first reading : Reading) (error : ParseError)
    → after parsed reading ≡ first → IsErrorOf reading error → IsErrorOf first error
error-after parsed first reading Memory is of = tt
error-after parsed first reading (Words fault) is of = sym is ∙ ap (after parsed) of

-- the first of some words, and those after it
pub reading-first : (words later : List (Vec ℕ Global)) (word : Vec ℕ Global) (bytes : List ℕ)
    → words ≡ word ∷ later → bytes ≡ word.items
    → word_reading bytes (later_of (texts later)) ≡ reading_of (texts words)
reading-first words later word bytes is same = rw (is, same) (sym (reading-word word.items (texts later)))

-- a step, by what reads the same
pub step-same : (old new : Parsed) (first reading : Reading)
    (result : Result (Bor (List (Vec ℕ Global))) ParseError)
    → reading ≡ first → IsStep old new reading result → IsStep old new first result
step-same old new first reading result is step =
    subst (λ (reading : Reading). IsStep old new reading result) is step
