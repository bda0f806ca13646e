use Rattle.std.proofs.Common.{◌∙◌, ap, arith, length}
use Rattle.std.proofs.lemmas.List.{length-append}
use Rattle.json.specs.Print.{print}
use Rattle.grep_printer.proofs.json_text.JsonText.put_line.Goals as goal

pub put_back-requires : goal.put_back-requires
put_back-requires c =
    let size = ap length c.into_inner.ensures.items
    ∙ length-append c.args.self.out.before (print c.args.self.out.tokens) in
    omega (arith, c.requires, size)
