-- A searcher's settings are those of its configuration.
use Rattle.std.proofs.Common.{◌≡◌, Bool, ap}
use Rattle.grep_definitions.specs.Plans.{Settings, SearcherState}

-- what a searcher with these settings is seen as
abbrev pub state_of : Settings → Bool → SearcherState
state_of settings has_buffers = record { settings = settings; has_buffers = has_buffers }

pub settings_is : {settings : Settings} {has_buffers : Bool} {state : SearcherState}
    → state_of settings has_buffers ≡ state → settings ≡ state.settings
settings_is is = ap (λ (s : SearcherState). s.settings) is
