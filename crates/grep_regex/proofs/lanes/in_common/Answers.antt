use Rattle.std.proofs.Common.{◌∙◌, ap, bit_and}
use Rattle.regex_literal.proofs.lemmas.LaneLemmas.{HasLanes-zip2}
use Rattle.regex_literal.specs.Lanes.{all_or_none}
use Rattle.grep_regex.proofs.lanes.in_common.Goals as goal

pub returns : goal.returns
returns c =
    let both = HasLanes-zip2 bit_and c.args.a c.args.b c.fits-a.0 c.fits-b.0 in
    record {
      long = c.nonzero.ensures.long;
      each = λ k l. c.nonzero.ensures.each k l ∙ ap all_or_none (both.each k l);
    }
