use Rattle.std.proofs.Common.{◌≡◌, Some, take}
use Rattle.std.specs.List.{fold}
use Rattle.linegrep_cli.specs.ColorLooks.{first_looks}
use Rattle.linegrep_cli.specs.ColorOptions.{looks_then}
use Rattle.linegrep_cli.proofs.color_options.looks.Given as goal

abbrev pub invariant-loop-text : goal.invariant-loop-text
invariant-loop-text l = l.looks ≡ fold looks_then (Some first_looks) (take l.text-index l.texts)
