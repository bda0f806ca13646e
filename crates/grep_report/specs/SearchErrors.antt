-- What an error of a search holds.
use Rattle.std.specs.Prelude.{◌≡◌, ◌⊎◌, ℕ, Bool, true, false, List, Option, IfSome}
use Rattle.std.specs.Prelude.{String}
use Rattle.std.specs.IoError.{error_kind}
use Rattle.std.specs.String.{string_bytes}
use Rattle.std.specs.declared.io.Error.{Error}
use Rattle.std.specs.declared.io.ErrorKind.{ErrorKind}
use Rattle.std.specs.declared.io.ErrorKind.TheVariants.{Other, OutOfMemory}
use Rattle.grep_report.specs.declared.config_error.ConfigError.{ConfigError}
use Rattle.grep_report.specs.declared.config_error.ConfigError.TheVariants.{Memory}
use Rattle.grep_report.specs.declared.sink_error.SearchError.{SearchError}
use Rattle.grep_report.specs.declared.sink_error.SearchError.TheVariants.{Message, Io, Config}

-- the error is an `io::Error` of the kind `OutOfMemory`
abbrev pub IsOutOfMemory : {A : Type 0} → SearchError A → Type 0
IsOutOfMemory {A} e = (error : Error) × (e ≡ Io error) × (error_kind error ≡ OutOfMemory)

-- the error is a message with this text, if it is known; or there was no memory for the text
abbrev pub IsMessageOf : {A : Type 0} → Option (List ℕ) → SearchError A → Type 0
IsMessageOf {A} text e =
    ((held : String A) × (e ≡ Message held) × IfSome text (λ bytes. string_bytes held ≡ bytes))
    ⊎ IsOutOfMemory e

-- the error is an `io::Error` that has a text, or there was no memory for the text
abbrev pub HasText : Error → Type 0
HasText e = (error_kind e ≡ Other) ⊎ (error_kind e ≡ OutOfMemory)

-- whether a kind of error, or a fault of the configuration, is being out of memory
abbrev pub is_memory_kind : ErrorKind → Bool
is_memory_kind OutOfMemory = true
is_memory_kind _ = false

abbrev pub is_memory_fault : ConfigError → Bool
is_memory_fault Memory = true
is_memory_fault _ = false

-- an `io::Error` of a fault of the configuration: of being out of memory it keeps the kind
abbrev pub IsConfigError : ConfigError → Error → Type 0
IsConfigError Memory e = error_kind e ≡ OutOfMemory
IsConfigError _ e = HasText e

-- whether the error is of being out of memory, in either form
abbrev pub is_out_of_memory : {A : Type 0} → SearchError A → Bool
is_out_of_memory (Message text) = false
is_out_of_memory (Io error) = is_memory_kind (error_kind error)
is_out_of_memory (Config error) = is_memory_fault error

-- the kind of an `io::Error` of a fault of the configuration
abbrev pub config_error_kind : ConfigError → ErrorKind
config_error_kind Memory = OutOfMemory
config_error_kind _ = Other

-- an `io::Error` of an error of a search
abbrev pub IsIoErrorOf : {A : Type 0} → SearchError A → Error → Type 0
IsIoErrorOf (Message text) e = error_kind e ≡ Other
IsIoErrorOf (Io error) e = e ≡ error
IsIoErrorOf (Config error) e = error_kind e ≡ config_error_kind error
