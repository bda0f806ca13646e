-- How the errors of a sink are made.
use Rattle.std.specs.Prelude.{List, Option, ℕ}
use Rattle.std.specs.declared.io.Error.{Error}
use Rattle.grep_report.specs.declared.config_error.ConfigError.{ConfigError}

-- which errors may be made of a message, of an io error, and of a fault of the configuration
pub record ErrorMakers (Message E : Type 0) : Type 1 where
  pub is_message : Message → E → Type 0
  pub is_io : Error → E → Type 0
  pub is_config : ConfigError → E → Type 0

-- those of an error as a message, where a message is known by its text, if that is known
abbrev pub makers_of : {F E : Type 0} → (F → Option (List ℕ)) → ErrorMakers (Option (List ℕ)) E
    → ErrorMakers F E
makers_of text_of makers = record {
  is_message = λ error e. makers.is_message (text_of error) e;
  is_io = makers.is_io;
  is_config = makers.is_config;
}
