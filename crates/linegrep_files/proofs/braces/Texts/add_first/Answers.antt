use Rattle.std.proofs.Common.{◌∙◌, ◌∷◌, [], ap, sym}
use Rattle.grep_ignore.proofs.ClassLemmas.{begins-is}
use Rattle.linegrep_files.specs.Braces.{bytes_of}
use Rattle.linegrep_files.proofs.BraceLemmas.{choice-begins, choices-with, few-still, one-text, part-read}
use Rattle.linegrep_files.proofs.BraceLemmas.{read-choice, read-close, read-open}
use Rattle.linegrep_files.proofs.MalformedLemmas.{close-at, parts-at}
use Rattle.linegrep_files.proofs.braces.Texts.add_first.Goals as goal

pub returns-in-Ok-clause-read : goal.returns-in-Ok-clause-read
returns-in-Ok-clause-read c =
    let (brace, is, before, choices, empty) = c.in-Ok.ensures in (
      123 ∷ [],
      begins-is 123 c.args.glob.now (sym c.begins_with.ensures ∙ c.if-begins_with.true)
          ∙ ap (λ l. 123 ∷ l) (sym c.tail.ensures),
      λ done. read-open _ _ _ _ brace done is (ap (λ t. bytes_of t.items) before) (ap bytes_of choices) empty,
    )

pub returns-in-Ok-close-clause-read : goal.returns-in-Ok-close-clause-read
returns-in-Ok-close-clause-read c =
    let (brace, is, texts) = c.in-Ok-close.ensures.ok in (
      125 ∷ [],
      begins-is 125 c.args.glob.now (sym c.begins_with-2.ensures ∙ c.if-begins_with-2.true)
          ∙ ap (λ l. 125 ∷ l) (sym c.tail-in-Ok-close.ensures),
      λ done. read-close _ _ brace _ _ done is texts,
    )

pub returns-in-Ok-begin_choice-clause-read : goal.returns-in-Ok-begin_choice-clause-read
returns-in-Ok-begin_choice-clause-read c =
    let (braces, old, brace, are, is, before, choices, empty) = c.in-Ok-begin_choice.ensures in (
      44 ∷ [],
      begins-is 44 c.args.glob.now
          (choice-begins _ c.args.glob.now (sym c.ends_choice.ensures ∙ c.if-ends_choice.true))
          ∙ ap (λ l. 44 ∷ l) (sym c.tail-in-Ok-begin_choice.ensures),
      λ done. read-choice braces _ _ old brace _ _ done are is (ap (λ t. bytes_of t.items) before)
          (choices-with _ _ _ choices) empty,
    )

pub returns-clause-read : goal.returns-clause-read
returns-clause-read c = part-read c.add_part.result _ _ _ _ c.args.glob.now
    (ap (λ braces. braces.items) c.add_part.ensures.braces) c.add_part.ensures.part

pub returns-in-Err-close-clause-err : goal.returns-in-Err-close-clause-err
returns-in-Err-close-clause-err c = close-at _ _ _ c.args.glob.now (sym c.begins_with-2.ensures ∙ c.if-begins_with-2.true)
    c.in-Err-close.ensures.err

pub returns-clause-err : goal.returns-clause-err
returns-clause-err c = parts-at c.add_part.result _ _ c.args.glob.now c.add_part.ensures.err

pub returns-in-Ok-clause-few : goal.returns-in-Ok-clause-few
returns-in-Ok-clause-few c =
    let (brace, is, before, choices, empty) = c.in-Ok.ensures in
    λ within. one-text _ empty

pub returns-in-Ok-close-clause-few : goal.returns-in-Ok-close-clause-few
returns-in-Ok-close-clause-few c = λ within. c.in-Ok-close.ensures.few

pub returns-in-Ok-begin_choice-clause-few : goal.returns-in-Ok-begin_choice-clause-few
returns-in-Ok-begin_choice-clause-few c =
    let (braces, old, brace, are, is, before, choices, empty) = c.in-Ok-begin_choice.ensures in
    λ within. one-text _ empty

pub returns-clause-few : goal.returns-clause-few
returns-clause-few c = few-still c.add_part.result _ _ c.add_part.ensures.few
