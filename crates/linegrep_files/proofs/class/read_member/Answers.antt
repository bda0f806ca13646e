use Rattle.std.proofs.Common.{◌∙◌, ap, drop}
use Rattle.linegrep_files.proofs.ClassSetLemmas.{byte-member, byte-uncut, range-cut, range-member}
use Rattle.linegrep_files.proofs.ClassTextLemmas.{first-rest, member-byte, member-range}
use Rattle.linegrep_files.proofs.class.read_member.Goals as goal

pub returns-in-Some : goal.returns-in-Some
returns-in-Some c =
    let whole = first-rest c.args.text.now c.in-len1-up.len_at_least in
    let rest = c.tail-in-Some.ensures ∙ ap (drop 1) c.tail.ensures in
    record {
      text = member-range c.range.result c.args.text.now _ _ _ c.in-Some.last whole c.in-Some.ensures.0
          c.in-Some.ensures.1 rest c.range.ensures.range;
      range = range-member c.range.result c.args.text.now _ _ _ c.in-Some.last whole c.in-Some.ensures.0
          c.in-Some.ensures.1 rest c.range.ensures.range;
      cut = range-cut c.range.result c.args.text.now _ _ c.in-Some.last whole c.in-Some.ensures.0 c.in-Some.ensures.1
          c.range.ensures.reversed;
    }

pub returns-in-None : goal.returns-in-None
returns-in-None c =
    let whole = first-rest c.args.text.now c.in-len1-up.len_at_least in
    record {
      text = member-byte c.range-in-None.result c.args.text.now _ _ whole c.range-in-None.ensures.range;
      range = byte-member c.range-in-None.result c.args.text.now _ _ whole c.range-in-None.ensures.range;
      cut = byte-uncut c.range-in-None.result _ _ c.range-in-None.ensures.reversed;
    }
