use Rattle.std.proofs.Common.{length}
use Rattle.linegrep_files.specs.ClassTexts.{AreMembersBefore}
use Rattle.linegrep_files.proofs.ClassSetLemmas.{IsAtMember}
use Rattle.linegrep_files.proofs.class.read_members.Given as goal

abbrev pub invariant-loop-last : goal.invariant-loop-last
invariant-loop-last l = record {
  text : AreMembersBefore l.text l.member.rest.now;
  ranges : IsAtMember l.ignores_case l.set l.text (l.member.first, l.member.last) l.member.rest.now;
}

abbrev pub decreases-loop-last : goal.decreases-loop-last
decreases-loop-last l = length l.member.rest.now
