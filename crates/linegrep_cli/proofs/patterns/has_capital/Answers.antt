use Rattle.std.proofs.Common.{sym, ◌∙◌}
use Rattle.std.proofs.lemmas.Str.{IsUtf8-past_char, chars_past_char}
use Rattle.std.proofs.StrCases.{chars_of_empty}
use Rattle.linegrep_cli.proofs.CapitalLemmas.{first-is_capital, none-left, past-letter}
use Rattle.linegrep_cli.proofs.patterns.has_capital.Goals as goal

pub loop-letter-preserved-then-is_escaped : goal.loop-letter-preserved-then-is_escaped
loop-letter-preserved-then-is_escaped c =
    let held = c.loop-letter.invariant in
    let parts = c.in-Some.ensures.steps.0 in (
      IsUtf8-past_char _ _ c.in-Some.letter held.0 parts,
      rw (chars_past_char _ _ c.in-Some.letter held.0 parts, c.if-is_escaped.true) at held.1,
    )

pub returns-then-is_uppercase : goal.returns-then-is_uppercase
returns-then-is_uppercase c =
    let held = c.loop-letter.invariant in
    let step = chars_past_char _ _ c.in-Some.letter held.0 c.in-Some.ensures.steps.0 in
    let capital = sym c.is_uppercase.ensures.value ∙ c.if-is_uppercase.true in
    sym (first-is_capital _ _ _ capital) ∙ rw (step, c.if-is_escaped.false) at held.1

pub loop-letter-preserved : goal.loop-letter-preserved
loop-letter-preserved c =
    let held = c.loop-letter.invariant in
    let parts = c.in-Some.ensures.steps.0 in
    let step = chars_past_char _ _ c.in-Some.letter held.0 parts in
    let small = sym c.is_uppercase.ensures.value ∙ c.if-is_uppercase.false in
    let here = rw (step, c.if-is_escaped.false) at held.1 in (
      IsUtf8-past_char _ _ c.in-Some.letter held.0 parts,
      rw (c.is_escape-is_escaped.ensures) (sym (past-letter _ _ _ small) ∙ here),
    )

pub returns : goal.returns
returns c =
    let held = c.loop-letter.invariant in
    sym (none-left _ _) ∙ rw (chars_of_empty _ c.in-None.ensures.steps.0.0) at held.1
