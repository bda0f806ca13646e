use Rattle.std.proofs.Common.{◌∙◌, ap, bit_and, bit_or, get_or}
use Rattle.regex_literal.proofs.lemmas.LaneLemmas.{HasLanes-zip2}
use Rattle.grep_regex.proofs.lanes.either_or_both.Goals as goal

pub returns : goal.returns
returns c =
    let both = HasLanes-zip2 bit_and c.args.b c.args.c c.fits-b.0 c.fits-c.0 in
    let all = HasLanes-zip2 bit_or c.args.a _ c.fits-a.0 both.long in
    record {
      long = all.long;
      each = λ k l. all.each k l ∙ ap (bit_or (get_or c.args.a k 0)) (both.each k l);
    }
