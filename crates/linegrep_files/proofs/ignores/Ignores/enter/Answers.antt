use Rattle.std.proofs.Common.{◌∙◌, sym}
use Rattle.linegrep_files.proofs.IgnoreFileLemmas.{of-folder}
use Rattle.linegrep_files.proofs.ignores.Ignores.enter.Goals as goal

pub returns : goal.returns
returns g c = of-folder _ c.args.folder.now c.args.below.now c.args.names.now c.read-marks.result
    _ c.args.self.now c.go_below.new.self c.leave.new.self c.add_files.new.self
    (sym c.is_idle.ensures ∙ c.if-is_idle.false)
    c.in_ok-go_below.ensures.path c.go_below.ensures.place c.go_below.ensures.layers
    c.go_below.ensures.repositories c.read-marks.ensures c.in_ok-is_top.ensures
    c.leave.ensures.layers c.in_ok-leave.ensures.repositories c.leave.ensures.place c.leave.ensures.path
    c.in_ok-add_files.ensures.files c.add_files.ensures.place
