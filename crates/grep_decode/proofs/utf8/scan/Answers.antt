use Rattle.std.proofs.Common.{◌≡◌, drop, Some, None, arith, ap, sym, ◌∙◌, subst}
use Rattle.std.specs.Str.{IsValidUpTo, IsErrorLen}
use Rattle.std.specs.Str.Lossy.{utf8_error_len}
use Rattle.grep_decode.proofs.LossyLemmas.{unfinished-ended, utf8_lossy-ill_formed}
use Rattle.grep_decode.proofs.LossyLemmas.{utf8_lossy-incomplete, unfinished-taken}
use Rattle.grep_decode.proofs.utf8.scan.Goals as goal

pub returns-then-is_last-clause-ill_formed : goal.returns-then-is_last-clause-ill_formed
returns-then-is_last-clause-ill_formed c = λ some more when.
    let bytes = c.args.bytes.now in
    let valid = c.valid_up_to-well_formed.result in
    let is : valid ≡ _ = c.valid_up_to-well_formed.ensures in
    let front : IsValidUpTo bytes valid = subst (IsValidUpTo bytes) (sym is)
    c.in-Err.ensures.cases.1 in
    let fault : utf8_error_len (drop valid bytes) ≡ None =
    ap (λ k. utf8_error_len (drop k bytes)) is ∙ sym c.in-Err.ensures.fault
    ∙ sym c.error_len.ensures ∙ c.in-None.is in
    utf8_lossy-incomplete bytes more valid _ front fault (when c.if-is_last.true) (omega arith)

pub returns-in-Some-clause-ill_formed : goal.returns-in-Some-clause-ill_formed
returns-in-Some-clause-ill_formed c = λ some more when.
    let bytes = c.args.bytes.now in
    let valid = c.valid_up_to-well_formed.result in
    let is : valid ≡ _ = c.valid_up_to-well_formed.ensures in
    let front : IsValidUpTo bytes valid = subst (IsValidUpTo bytes) (sym is)
    c.in-Err.ensures.cases.1 in
    let found = c.error_len.ensures in
    let fault : utf8_error_len (drop valid bytes) ≡ Some c.in-Some.ill_formed =
    ap (λ k. utf8_error_len (drop k bytes)) is ∙ sym c.in-Err.ensures.fault
    ∙ sym c.error_len.ensures ∙ c.in-Some.is in
    let bound : IsErrorLen bytes valid (Some c.in-Some.ill_formed) =
    subst (λ k. IsErrorLen bytes k (Some c.in-Some.ill_formed)) (sym is)
    (subst (IsErrorLen bytes _) (sym c.error_len.ensures ∙ c.in-Some.is) c.in-Err.ensures.error_len)
    in utf8_lossy-ill_formed bytes more valid c.in-Some.ill_formed front fault bound.2

pub returns-in-Ok-clause-unfinished : goal.returns-in-Ok-clause-unfinished
returns-in-Ok-clause-unfinished c = λ none. unfinished-taken c.args.bytes.now

pub returns-else-is_last-clause-unfinished : goal.returns-else-is_last-clause-unfinished
returns-else-is_last-clause-unfinished c = λ none.
    let bytes = c.args.bytes.now in
    let valid = c.valid_up_to-well_formed.result in
    let is : valid ≡ _ = c.valid_up_to-well_formed.ensures in
    let front : IsValidUpTo bytes valid = subst (IsValidUpTo bytes) (sym is)
    c.in-Err.ensures.cases.1 in
    unfinished-ended bytes valid front
    (ap (λ k. utf8_error_len (drop k bytes)) is ∙ sym c.in-Err.ensures.fault
    ∙ sym c.error_len.ensures ∙ c.in-None.is)
