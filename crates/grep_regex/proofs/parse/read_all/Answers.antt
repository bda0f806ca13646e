use Rattle.std.proofs.Common.{◌≡◌, ◌∙◌, ◌<◌, length, map, max, ap, arith, option_map, string_bytes}
use Rattle.std.proofs.lemmas.List.{length-map}
use Rattle.grep_regex.proofs.WrittenLemmas.{reads-more}
use Rattle.grep_regex.proofs.RefusalLemmas.{groups-more, patterns-more, reads-pattern, texts-error}
use Rattle.grep_regex.specs.Patterns.{config_of}
use Rattle.grep_regex.proofs.parse.read_all.Goals as goal

pub loop-i-preserved : goal.loop-i-preserved
loop-i-preserved c =
    let o = c.args.options.now in
    let inside : c.loop-i.i < length c.args.patterns.now = omega arith in
    record {
      alike = reads-more o c.args.patterns.now c.loop-i.hirs.items c.push.new.self.items c.loop-i.i
          _ c.in-Ok.parsed.hir _ inside c.loop-i.invariant.alike c.in-Ok.ensures.ok c.in_ok-push.ensures.items;
      read = patterns-more o c.args.patterns.now c.loop-i.i _ inside c.loop-i.invariant.read
          (reads-pattern (config_of o) _ c.in-Ok.parsed.hir _ c.in-Ok.ensures.ok);
      groups =
          let count : c.len.result ≡ length (map (option_map string_bytes) c.in-Ok.parsed.names.items) =
          omega (arith, c.in-Ok.parsed.names.ok.0, length-map c.in-Ok.parsed.names.items (option_map string_bytes)) in
          c.max-groups.ensures ∙ (ap (max c.loop-i.groups) count
          ∙ groups-more o c.args.patterns.now c.loop-i.i _ inside c.in-Ok.parsed.hir _ c.loop-i.groups
          c.in-Ok.ensures.ok c.loop-i.invariant.groups);
    }

pub returns-in-Err-clause-error : goal.returns-in-Err-clause-error
returns-in-Err-clause-error c = texts-error c.args.options.now c.args.patterns.now c.loop-i.i _ c.in-Err.error
    (omega arith) c.loop-i.invariant.read c.in-Err.ensures.error
