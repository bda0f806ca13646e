-- What an error of a configuration holds.
use Rattle.std.specs.Prelude.{◌≡◌, ℕ, List, Vec}
use Rattle.std.specs.Global.{Global}
use Rattle.grep_report.specs.declared.config_error.ConfigError.{ConfigError}
use Rattle.grep_report.specs.declared.config_error.ConfigError.TheVariants.{UnknownEncoding}

-- the error is that of an unknown label with these bytes
abbrev pub IsUnknownEncoding : List ℕ → ConfigError → Type 0
IsUnknownEncoding label e = (held : Vec ℕ Global) × (e ≡ UnknownEncoding held)
    × (held.items ≡ label)
