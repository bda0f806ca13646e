use Rattle.std.proofs.Common.{◌≡◌, false, fold, map}
use Rattle.std.specs.Option.{option_copied}
use Rattle.linegrep_files.specs.GitSettings.{is_core_at, last_value}
use Rattle.linegrep_files.proofs.git_settings.last_value.Given as goal

abbrev pub invariant-loop-line : goal.invariant-loop-line
invariant-loop-line l = record {
  core : l.is_core ≡ fold is_core_at false (map (λ x. x.now) l.yielded);
  last : option_copied l.last ≡ last_value false (map (λ x. x.now) l.yielded);
}
