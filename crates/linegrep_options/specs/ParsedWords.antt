-- What is parsed of words, by how they read.
use Rattle.std.specs.Prelude.{◌≡◌, ℕ, List, ◌++◌, drop, map, MatchResult, Result, Vec}
use Rattle.std.specs.Borrow.{Bor}
use Rattle.std.specs.Global.{Global}
use Rattle.std.specs.Option.{option_map}
use Rattle.linegrep_options.specs.CommandLines as line
use Rattle.linegrep_options.specs.CommandLines.{Given, Later, Read, Reading, Refusal, Refused}
use Rattle.linegrep_options.specs.CommandLines.{reading_of}
use Rattle.linegrep_options.specs.declared.command_line.Fault.{Fault}
use Rattle.linegrep_options.specs.declared.command_line.Fault.TheVariants.{MissingValue, NotText}
use Rattle.linegrep_options.specs.declared.command_line.Fault.TheVariants.{UnexpectedValue}
use Rattle.linegrep_options.specs.declared.command_line.Fault.TheVariants.{UnknownLetter}
use Rattle.linegrep_options.specs.declared.command_line.Fault.TheVariants.{UnknownName, WrongValue}
use Rattle.linegrep_options.specs.declared.command_line.ParseError.{ParseError}
use Rattle.linegrep_options.specs.declared.command_line.ParseError.TheVariants.{Memory, Words}
use Rattle.linegrep_options.specs.declared.command_line.Parsed.{Parsed}
use Rattle.linegrep_options.specs.declared.uses.Use.{Use}

-- the bytes of words
abbrev pub texts : List (Vec ℕ Global) → List (List ℕ)
texts words = map (λ word. word.items) words

-- a use of an option, without who lends its value
abbrev pub given : Use → Given
given one = record { id = one.id; value = option_map (λ text. text.now) one.value }

-- the uses and operands of parsed words
abbrev pub uses_of : Parsed → List Given
uses_of parsed = map given parsed.uses.items

abbrev pub operands_of : Parsed → List (List ℕ)
operands_of parsed = map (λ word. word.now) parsed.operands.items

-- why words are refused
abbrev pub refusal : Fault → Refusal
refusal (UnknownName name) = line.UnknownName name.now
refusal (UnknownLetter rest) = line.UnknownLetter rest.now
refusal (UnexpectedValue row value) = line.UnexpectedValue row value.now
refusal (MissingValue row) = line.MissingValue row
refusal (NotText row value) = line.NotText row value.now
refusal (WrongValue row value) = line.WrongValue row value.now

-- words read as what is parsed
abbrev pub AreRead : List (Vec ℕ Global) → Parsed → Type 0
AreRead words parsed = reading_of (texts words) ≡ Read (uses_of parsed) (operands_of parsed)

-- an error is how something reads, or that memory is out
abbrev pub IsErrorOf : Reading → ParseError → Type 0
IsErrorOf reading (Words fault) = reading ≡ Refused (refusal fault)
IsErrorOf reading Memory = Unit {0}

-- how words read with what is parsed of those before them
abbrev pub after : Parsed → Reading → Reading
after parsed (Read uses operands) = Read (uses_of parsed ++ uses) (operands_of parsed ++ operands)
after parsed (Refused refusal) = Refused refusal

-- what is after a word
abbrev pub later_of : List (List ℕ) → Later
later_of words = record {
  words = words;
  reading = reading_of words;
  past = reading_of
      (drop 1 words);
}

-- a part of the words is parsed: what it and the words after it read is what was added, with what
-- those read that are left
abbrev pub IsStep : Parsed → Parsed → Reading → Result (Bor (List (Vec ℕ Global))) ParseError
    → Type 0
IsStep old new reading result = MatchResult result
    (λ left. after new (reading_of (texts left.now)) ≡ after old reading) (IsErrorOf reading)
