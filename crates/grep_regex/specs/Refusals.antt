-- Which error patterns get that can't be compiled.
use Rattle.std.specs.Prelude.{◌≡◌, ◌≢◌, ℕ, ◌≤◌, List, take, Option, Some, slice_get}
use Rattle.std.specs.Prelude.{IsCharBoundary}
use Rattle.regex_compile.specs.declared.error.Error as compiler
use Rattle.regex_compile.specs.declared.error.Error.TheVariants.{OutOfMemory as NoMemory}
use Rattle.regex_syntax.specs.Verdict.{Refuses}
use Rattle.regex_syntax.specs.declared.Config.{Config}
use Rattle.regex_syntax.specs.declared.error.Error as parser
use Rattle.regex_syntax.specs.declared.error.ErrorKind.TheVariants.{OutOfMemory}
use Rattle.grep_matcher.specs.declared.line_terminator.LineTerminator.{LineTerminator}
use Rattle.grep_matcher.specs.declared.line_terminator.LineTerminator.TheVariants.{Byte}
use Rattle.grep_regex.specs.NamedBytes.{HasTerminator, HasNoTerminator}
use Rattle.grep_regex.specs.Patterns.{config_of, text_of, excluded_bytes, IsPattern, ArePatterns}
use Rattle.grep_regex.specs.Stripped.{AreAscii}
use Rattle.grep_regex.specs.declared.error.Error.{Error}
use Rattle.grep_regex.specs.declared.error.Error.TheVariants.{Syntax, NotAllowed}
use Rattle.grep_regex.specs.declared.error.Error.TheVariants.{InvalidLineTerminator, TooBig, Memory}
use Rattle.grep_regex.specs.declared.options.Options.{Options}

-- the text that is read is no pattern, or is nested too deep, and the parser's error says so, and
-- where in the pattern; it isn't one of memory
pub record IsSyntax (config : Config) (text pattern : List ℕ) (error : parser.Error) : Type 0 where
  pub wrong : IsPattern config text → ⊥
  pub refused : Refuses config text error.kind
  pub kind : error.kind ≢ OutOfMemory
  pub ordered : error.span.start ≤ error.span.end
  pub start : IsCharBoundary pattern error.span.start
  pub end : IsCharBoundary pattern error.span.end

-- the error for one of the parser at a pattern: `Memory` for one of memory, or else that error at
-- that pattern
abbrev pub IsOfParser : ℕ → parser.Error → Error → Type 0
IsOfParser index given (Syntax pattern error) =
    (pattern ≡ index) × (error ≡ given) × (given.kind ≢ OutOfMemory)
IsOfParser index given Memory = given.kind ≡ OutOfMemory
IsOfParser index given _ = ⊥

-- the error for one of the compiler: there is no memory, or else the patterns are too big
abbrev pub of_compiler : compiler.Error → Error
of_compiler NoMemory = Memory
of_compiler _ = TooBig

-- the error of a pattern that is read as a text: it is no pattern, or nested too deep, or there is
-- no memory
abbrev pub IsTextError : Config → ℕ → List ℕ → List ℕ → Error → Type 0
IsTextError config index text pattern (Syntax of error) = (of ≡ index)
    × IsSyntax config text pattern error
IsTextError config index text pattern Memory = Unit {0}
IsTextError config index text pattern _ = ⊥

-- the error of some texts: that of the first that is no pattern, or there is no memory
abbrev pub IsTextsError : Options → List (List ℕ) → Error → Type 0
IsTextsError o patterns (Syntax index error) =
    (pattern : List ℕ) × (slice_get patterns index ≡ Some pattern)
    × ArePatterns o (take index patterns)
    × IsSyntax (config_of o) (text_of o pattern) pattern error
IsTextsError o patterns Memory = Unit {0}
IsTextsError o patterns _ = ⊥

-- the error of patterns that have a byte of the line terminator, or there is no memory
abbrev pub IsAllowedError : Options → List (List ℕ) → Error → Type 0
IsAllowedError o patterns (NotAllowed byte) = HasTerminator o patterns byte
IsAllowedError o patterns Memory = Unit {0}
IsAllowedError o patterns _ = ⊥

-- the error of a terminator that isn't ASCII
abbrev pub IsTerminatorError : Option LineTerminator → Error → Type 0
IsTerminatorError terminator (InvalidLineTerminator byte) =
    (terminator ≡ Some (Byte byte)) × (128 ≤ byte)
IsTerminatorError terminator _ = ⊥

-- what is so of patterns that are compiled, or too big for that: each text is a pattern, the
-- terminator is ASCII, and no byte of it is in the way
pub record AreAccepted (o : Options) (patterns : List (List ℕ)) : Type 0 where
  pub read : ArePatterns o patterns
  pub ascii : AreAscii (excluded_bytes o.line_terminator)
  pub allowed : HasNoTerminator o patterns

-- the error of patterns under options
abbrev pub IsRefusal : Options → List (List ℕ) → Error → Type 0
IsRefusal o patterns (Syntax index error) = IsTextsError o patterns (Syntax index error)
IsRefusal o patterns (NotAllowed byte) = ArePatterns o patterns × HasTerminator o patterns byte
IsRefusal o patterns (InvalidLineTerminator byte) =
    (o.line_terminator ≡ Some (Byte byte)) × (128 ≤ byte)
IsRefusal o patterns TooBig = AreAccepted o patterns
IsRefusal o patterns Memory = Unit {0}
