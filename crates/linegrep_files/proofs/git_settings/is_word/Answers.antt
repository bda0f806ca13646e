use Rattle.std.proofs.Common.{◌∙◌, rules, tests}
use Rattle.std.proofs.lemmas.Iterator.{YieldsList-from_slice, YieldsList-from_zip}
use Rattle.std.proofs.lemmas.Iterator.Search.{all_from_yields_List}
use Rattle.linegrep_files.proofs.GitSettingLemmas.{are_alike, word-is}
use Rattle.linegrep_files.proofs.git_settings.is_word.Goals as goal

pub returns-then-pieces-word : goal.returns-then-pieces-word
returns-then-pieces-word c =
    all_from_yields_List are_alike c.all.new.self _ c.all.result c.all.ensures.ran
    (YieldsList-from_zip {s = c.zip.result} (YieldsList-from_slice c.args.pieces.now (cc))
    (YieldsList-from_slice c.args.word.now (cc))) (λ x b q k. search (rules, tests))
    ∙ word-is c.args.pieces.now c.args.word.now c.if-pieces-word.true
