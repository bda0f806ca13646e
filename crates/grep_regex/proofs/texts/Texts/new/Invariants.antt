use Rattle.std.proofs.Common.{◌≡◌, string_bytes, map, take, length}
use Rattle.std.specs.List.{sum}
use Rattle.grep_regex.specs.Texts.{texts_of}
use Rattle.grep_regex.proofs.texts.Texts.new.Given as goal

abbrev pub invariant-loop-i : goal.invariant-loop-i
invariant-loop-i l = record {
  whole : sum l.lens.items ≡ length (string_bytes l.joined);
  texts : texts_of (string_bytes l.joined) l.lens.items ≡ map (λ t. t.now) (take l.i l.texts);
}
