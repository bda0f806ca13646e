use Rattle.std.proofs.Common.{◌≡◌, ◌++◌, codes, drop, flat_map, map, string_bytes}
use Rattle.linegrep_help.specs.Entries.{word_list}
use Rattle.linegrep_help.proofs.push.push_words.Given as goal

abbrev pub invariant-loop-word : goal.invariant-loop-word
invariant-loop-word l = string_bytes l.text
    ++ flat_map (λ word. codes " " ++ word) (map (λ word. word.now) (drop l.word-index l.word-items))
    ≡ string_bytes l.fn.text ++ word_list l.fn.value
