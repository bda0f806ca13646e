use Rattle.std.proofs.Common.{◌≡◌, Bool, List, false, refl, rules, subst, sym, true, ℕ}
use Rattle.std.specs.Prelude.{MatchBool}
use Rattle.grep_output.specs.PendingTexts.{Adds}
use Rattle.grep_printer.proofs.PlainLineLemmas.{context-plain, match-parts-plain, match-plain}
use Rattle.grep_matcher.specs.Lines.{byte_of, lines}
use Rattle.grep_printer.specs.LineTexts.{is_plain, plain_lines}
use Rattle.grep_printer.specs.PartTexts.{writes_parts}
use Rattle.grep_printer.specs.Reports.{IsShownAs}
use Rattle.grep_printer.specs.declared.fields.Layout.{Layout}
use Rattle.grep_printer.proofs.config.Config.push_plain.Goals as goal

-- what is so if it is pushed
when : {A B : Type 0} (C : Type 0) (b : Bool) → (b ≡ true → A → B) → MatchBool b A C → MatchBool b B C
when C true gives is = gives refl is
when C false gives is = is

pub returns-in-Match : goal.returns-in-Match
returns-in-Match c =
    let layout : Layout = record { config = c.args.self.now; path = c.args.path.now; terminator = c.args.terminator } in
    let plain : is_plain layout.config layout.path ≡ true = search rules in
    let whole : writes_parts layout c.args.parts.now ≡ false = search rules in
    let report = c.args.report.now in
    let end_byte = byte_of c.args.terminator in
    let lies = subst (λ kind. IsShownAs kind report.bytes.now report.buffer.now report.buffer_start) c.in-Match.is
    c.requires.shown.buffer in
    rw c.in-Match.is (subst (Adds c.args.text.now c.push_lines.new.text)
    (sym (match-plain layout report c.args.parts.now plain whole))
    (subst (λ (bytes : List ℕ). Adds c.args.text.now c.push_lines.new.text (plain_lines end_byte 58 report.number
    (lines end_byte bytes))) (sym lies.1) (rw c.as_byte-terminator.ensures at c.push_lines.ensures)))

pub returns-in-Context : goal.returns-in-Context
returns-in-Context c =
    let layout : Layout = record { config = c.args.self.now; path = c.args.path.now; terminator = c.args.terminator } in
    let plain : is_plain layout.config layout.path ≡ true = search rules in
    let whole : writes_parts layout c.args.parts.now ≡ false = search rules in
    rw c.in-Context.is (subst (Adds c.args.text.now c.push_line.new.text)
    (sym (context-plain layout c.args.report.now c.args.parts.now plain whole c.in-Context.field-0))
    (rw c.as_byte-terminator.ensures at c.push_line.ensures))

pub returns-then-not-is_empty : goal.returns-then-not-is_empty
returns-then-not-is_empty c =
    let layout : Layout = record { config = c.args.self.now; path = c.args.path.now; terminator = c.args.terminator } in
    let plain : is_plain layout.config layout.path ≡ true = search rules in
    let writes : writes_parts layout c.args.parts.now ≡ true = search rules in
    when _ c.push_plain_parts.result
    (λ is pushed. subst (Adds c.args.text.now c.push_plain_parts.new.text)
    (sym (match-parts-plain layout c.args.report.now c.args.parts.now plain writes (c.push_plain_parts.ensures.plain is)))
    pushed) c.push_plain_parts.ensures.text
