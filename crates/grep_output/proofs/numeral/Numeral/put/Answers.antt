use Rattle.std.proofs.Common.{◌≡◌, ◌+◌, ◌-◌, ◌/◌, ◌%◌, ◌≤◌, arith, ap, ◌∙◌, length, ◌∷◌, [], ◌++◌, take, decimal}
use Rattle.std.proofs.lemmas.List.{length-take-le}
use Rattle.std.proofs.lemmas.Slice.{drop-put_mid}
use Rattle.itoa.proofs.Decimal.{pair, length_pair}
use Rattle.grep_output.proofs.DigitLemmas.{marked, same-later, take-copied}
use Rattle.grep_output.proofs.numeral.Numeral.put.Goals as goal

pub returns-clause-end : goal.returns-clause-end
returns-clause-end c =
    let digits = ap length c.self.invariant.1 in
    let long = length-take-le c.self.inside.len c.self.inside.digits (omega arith) in
    let all = length_pair c.args.number (omega arith) c.ranges.number.fits in
    let same : c.self.inside.hundreds ≡ c.args.number / 100 = cc in
    let lengths = ap (λ h. length (decimal h)) same in
    omega arith

pub returns-clause-text : goal.returns-clause-text
returns-clause-text c =
    let within : c.self.inside.len ≤ length c.copy_from_slice.new.self = omega arith in
    let same : c.self.inside.hundreds ≡ c.args.number / 100 = cc in
    let digits : take c.self.inside.len c.copy_from_slice.new.self ≡ decimal (c.args.number / 100) =
    ap (take c.self.inside.len) c.copy_from_slice.ensures.after ∙ (c.self.invariant.1 ∙ ap decimal same) in
    c.put_pair.ensures.text
    ∙ (ap (λ zs. zs ++ (pair (c.args.number % 100) ++ c.args.mark ∷ []))
    (take-copied c.args.at c.self.inside.len (c.args.at + 18 - c.args.at) c.args.text.now c.copy_from_slice.new.self
    (omega arith) within
    ∙ ap (λ zs. take c.args.at c.args.text.now ++ zs) digits)
    ∙ marked (take c.args.at c.args.text.now) c.args.number c.args.mark (omega arith) c.ranges.number.fits)

pub returns-then-number-lt100-clause-rest : goal.returns-then-number-lt100-clause-rest
returns-then-number-lt100-clause-rest c =
    same-later (c.args.at + 3) (c.args.at + 21) c.put_few.new.text c.args.text.now (omega arith) c.put_few.ensures.rest

pub returns-clause-rest : goal.returns-clause-rest
returns-clause-rest c =
    let digits = ap length c.copy_from_slice.ensures.after in
    let long : length c.copy_from_slice.new.self ≡ c.args.at + 18 - c.args.at = omega arith in
    same-later (c.args.at + c.self.inside.len + 3) (c.args.at + 21) c.put_pair.new.text _ (omega arith)
    c.put_pair.ensures.rest
    ∙ drop-put_mid c.args.at (c.args.at + 18 - c.args.at) c.args.text.now c.copy_from_slice.new.self (c.args.at + 21)
    (omega arith) (omega arith) long
