use Rattle.std.proofs.Common.{length}
use Rattle.std.specs.Prelude.{string_bytes}
use Rattle.linegrep_files.specs.Choices.{SaysTheSame}
use Rattle.linegrep_files.proofs.FoundLemmas.{GoesOn}
use Rattle.linegrep_files.proofs.NoteLemmas.{HaveNoted}
use Rattle.linegrep_files.proofs.finder.Finder.found.Given as goal

abbrev pub invariant-loop-rest : goal.invariant-loop-rest
invariant-loop-rest g l = record {
  same : SaysTheSame l.fn.choices l.choices;
  on : GoesOn (g.S.Folders.facts l.self.system.now).looks l.self.follows_links (string_bytes l.self.top)
      l.self.root l.fn.choices l.folder l.names l.rest l.found.items;
  noted : HaveNoted (g.S.Folders.facts l.self.system.now).looks l.self.follows_links (string_bytes l.self.top)
      l.self.root l.fn.choices l.folder l.names l.rest l.choices;
}

abbrev pub decreases-loop-rest : goal.decreases-loop-rest
decreases-loop-rest g l = length l.rest
