use Rattle.std.proofs.Common.{arith, length}
use Rattle.grep_replace.proofs.FoundPartLemmas.{ends-within}
use Rattle.grep_printer.proofs.json_printer.JsonFormat.push_report.Goals as goal

pub add_report-requires-clause-within : goal.add_report-requires-clause-within
add_report-requires-clause-within g c =
    let size = length c.args.report.now.bytes.now in
    ends-within c.args.ranges.now 0 size size (omega arith) c.requires.ordered
