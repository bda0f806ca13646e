use Rattle.std.proofs.Common.{◌∙◌, ap, sym, codes, string_bytes, Ok, Err}
use Rattle.std.proofs.lemmas.Result.{IfOk-weaker, err_from_is_err_and}
use Rattle.lgrep_cli.proofs.CommandLemmas as command
use Rattle.lgrep_cli.proofs.CommandLemmas.{IsNoOption, IsEnd, after-needs, before-needs, max-needs}
use Rattle.lgrep_cli.specs.CommandLine.{AskFor, with_after, with_before, with_max}
use Rattle.lgrep_cli.proofs.options.Options.parse.Goals as goal
use Rattle.lgrep_cli.proofs.options.Options.parse.Goals.{After-with_operands, After-with_operands-in_default-2}

pub loop-argument-init : goal.loop-argument-init
loop-argument-init c = rw c.iter-later.ensures.rest
    (command.read-none c.args.arguments.now c.without_literal-options.result c.without_literal-options.ensures)

pub loop-argument-preserved-then-str_eq : goal.loop-argument-preserved-then-str_eq
loop-argument-preserved-then-str_eq c =
    command.invert-read c.args.arguments.now c.loop-argument.later.rest.now c.next.new.self.rest.now
    c.in-Some.argument.now
    c.loop-argument.options c.in-Some.ensures.steps (sym c.as_str.ensures.value ∙ c.in-text.is)
    c.loop-argument.invariant

pub loop-argument-preserved-then-str_eq-2 : goal.loop-argument-preserved-then-str_eq-2
loop-argument-preserved-then-str_eq-2 c =
    command.multi_line-read c.args.arguments.now c.loop-argument.later.rest.now c.next.new.self.rest.now
    c.in-Some.argument.now
    c.loop-argument.options c.in-Some.ensures.steps (sym c.as_str.ensures.value ∙ c.in-text-2.is)
    c.loop-argument.invariant

pub loop-argument-preserved-then-str_eq-3 : goal.loop-argument-preserved-then-str_eq-3
loop-argument-preserved-then-str_eq-3 c =
    command.passthru-read c.args.arguments.now c.loop-argument.later.rest.now c.next.new.self.rest.now
    c.in-Some.argument.now
    c.loop-argument.options c.in-Some.ensures.steps (sym c.as_str.ensures.value ∙ c.in-text-3.is)
    c.loop-argument.invariant

pub loop-argument-preserved-then-str_eq-4 : goal.loop-argument-preserved-then-str_eq-4
loop-argument-preserved-then-str_eq-4 c =
    command.count-read c.args.arguments.now c.loop-argument.later.rest.now c.next.new.self.rest.now
    c.in-Some.argument.now
    c.loop-argument.options c.in-Some.ensures.steps (sym c.as_str.ensures.value ∙ c.in-text-4.is)
    c.loop-argument.invariant

pub loop-argument-preserved-then-str_eq-5 : goal.loop-argument-preserved-then-str_eq-5
loop-argument-preserved-then-str_eq-5 c =
    command.after-read c.args.arguments.now c.loop-argument.later.rest.now c.in-Some.argument.now c.next.new.self
    c.next-in-text-5.new.self c.next-in-text-5.result c.loop-argument.options c.in_ok-options-in-text-5.field-0
    c.in-Some.ensures.steps (sym c.as_str.ensures.value ∙ c.in-text-5.is)
    c.next-in-text-5.ensures.steps (sym c.number_in.ensures ∙ c.in_ok-options-in-text-5.was) c.loop-argument.invariant

pub loop-argument-preserved-then-str_eq-6 : goal.loop-argument-preserved-then-str_eq-6
loop-argument-preserved-then-str_eq-6 c =
    command.before-read c.args.arguments.now c.loop-argument.later.rest.now c.in-Some.argument.now c.next.new.self
    c.next-in-text-6.new.self c.next-in-text-6.result c.loop-argument.options c.in_ok-options-in-text-6.field-0
    c.in-Some.ensures.steps (sym c.as_str.ensures.value ∙ c.in-text-6.is)
    c.next-in-text-6.ensures.steps (sym c.number_in-in-text-6.ensures ∙ c.in_ok-options-in-text-6.was)
    c.loop-argument.invariant

pub loop-argument-preserved : goal.loop-argument-preserved
loop-argument-preserved c =
    command.max-read c.args.arguments.now c.loop-argument.later.rest.now c.in-Some.argument.now c.next.new.self
    c.next-in-text-7.new.self c.next-in-text-7.result c.loop-argument.options c.from.result c.in-Some.ensures.steps
    (sym c.as_str.ensures.value ∙ c.in-text-7.is)
    c.next-in-text-7.ensures.steps (sym c.number_in-in-text-7.ensures
    ∙ (c.in_ok-number_in-in-text-7.was ∙ ap Ok (sym c.from.ensures)))
    c.loop-argument.invariant

pub returns-in_err-options-in-text-5-clause-usage : goal.returns-in_err-options-in-text-5-clause-usage
returns-in_err-options-in-text-5-clause-usage c =
    let error = err_from_is_err_and c.from_residual.result c.from_residual.ensures.1 in
    command.number-usage c.args.arguments.now c.loop-argument.later.rest.now c.in-Some.argument.now c.next.new.self
    c.next-in-text-5.new.self c.next-in-text-5.result c.loop-argument.options
    (codes "-A") with_after error.0 c.from_residual.result after-needs
    c.in-Some.ensures.steps (sym c.as_str.ensures.value ∙ c.in-text-5.is) c.next-in-text-5.ensures.steps
    (sym c.number_in.ensures
    ∙ (c.in_err-options-in-text-5.was ∙ ap Err (sym error.2))) error.1 c.loop-argument.invariant

pub returns-in_err-options-in-text-6-clause-usage : goal.returns-in_err-options-in-text-6-clause-usage
returns-in_err-options-in-text-6-clause-usage c =
    let error = err_from_is_err_and c.from_residual-in_err-options-in-text-6.result
    c.from_residual-in_err-options-in-text-6.ensures.1 in
    command.number-usage c.args.arguments.now c.loop-argument.later.rest.now c.in-Some.argument.now c.next.new.self
    c.next-in-text-6.new.self c.next-in-text-6.result c.loop-argument.options (codes "-B") with_before error.0
    c.from_residual-in_err-options-in-text-6.result before-needs
    c.in-Some.ensures.steps (sym c.as_str.ensures.value ∙ c.in-text-6.is) c.next-in-text-6.ensures.steps
    (sym c.number_in-in-text-6.ensures ∙ (c.in_err-options-in-text-6.was ∙ ap Err (sym error.2))) error.1
    c.loop-argument.invariant

pub returns-in_err-number_in-in-text-7-clause-usage : goal.returns-in_err-number_in-in-text-7-clause-usage
returns-in_err-number_in-in-text-7-clause-usage c =
    let error = err_from_is_err_and c.from_residual-in_err-number_in-in-text-7.result
    c.from_residual-in_err-number_in-in-text-7.ensures.1 in
    command.number-usage c.args.arguments.now c.loop-argument.later.rest.now c.in-Some.argument.now c.next.new.self
    c.next-in-text-7.new.self c.next-in-text-7.result c.loop-argument.options
    (codes "-m") with_max error.0 c.from_residual-in_err-number_in-in-text-7.result max-needs
    c.in-Some.ensures.steps (sym c.as_str.ensures.value ∙ c.in-text-7.is) c.next-in-text-7.ensures.steps
    (sym c.number_in-in-text-7.ensures ∙ (c.in_err-number_in-in-text-7.was ∙ ap Err (sym error.2))) error.1
    c.loop-argument.invariant

marked : (c : After-with_operands) → IsEnd c.args.arguments.now c.with_operands.result
marked c =
    let call = c.with_operands.ensures in
    command.marked-end c.args.arguments.now c.loop-argument.later.rest.now c.next-in-text-8.new.self.rest.now
    c.as_slice.result.now
    c.in-Some.argument.now c.next.new.self.rest.now c.in-Some-next.literal c.loop-argument.options
    c.with_operands.result
    c.in-Some.ensures.steps (sym c.as_str.ensures.value ∙ c.in-text-8.is) c.loop-argument.invariant
    c.in-Some-next.ensures.steps
    c.as_slice.ensures.value (record { same = call.options; are = call.operands; usage = call.usage })

pub returns-in-text-8-clause-options : goal.returns-in-text-8-clause-options
returns-in-text-8-clause-options c = (marked c).options

pub returns-in-text-8-clause-operands : goal.returns-in-text-8-clause-operands
returns-in-text-8-clause-operands c =
    IfOk-weaker c.with_operands.result (AskFor c.args.arguments.now) _ (command.asked-last c.args.arguments.now)
    (marked c).options

pub returns-in-text-8-clause-usage : goal.returns-in-text-8-clause-usage
returns-in-text-8-clause-usage c = (marked c).usage

pub returns-in_default-as_str-clause-usage : goal.returns-in_default-as_str-clause-usage
returns-in_default-as_str-clause-usage c =
    let is = c.in_default-as_str in
    let otherwise : IsNoOption (string_bytes c.in-Some.argument.now) = record {
      invert = λ h. is.not-text (c.as_str.ensures.value ∙ h);
      multi_line = λ h. is.not-text-2 (c.as_str.ensures.value ∙ h);
      passthru = λ h. is.not-text-3 (c.as_str.ensures.value ∙ h);
      count = λ h. is.not-text-4 (c.as_str.ensures.value ∙ h);
      after = λ h. is.not-text-5 (c.as_str.ensures.value ∙ h);
      before = λ h. is.not-text-6 (c.as_str.ensures.value ∙ h);
      max = λ h. is.not-text-7 (c.as_str.ensures.value ∙ h);
      end = λ h. is.not-text-8 (c.as_str.ensures.value ∙ h);
    } in
    command.dashed-usage c.args.arguments.now c.loop-argument.later.rest.now c.next.new.self.rest.now
    c.in-Some.argument.now
    c.loop-argument.options c.in-Some.ensures.steps
    (rw c.as_str.ensures.value at (sym c.is_dashed.ensures ∙ c.if-is_dashed.true)) otherwise c.loop-argument.invariant

undashed : (c : After-with_operands-in_default-2) → IsEnd c.args.arguments.now c.with_operands-in_default-2.result
undashed c =
    let is = c.in_default-as_str in
    let otherwise : IsNoOption (string_bytes c.in-Some.argument.now) = record {
      invert = λ h. is.not-text (c.as_str.ensures.value ∙ h);
      multi_line = λ h. is.not-text-2 (c.as_str.ensures.value ∙ h);
      passthru = λ h. is.not-text-3 (c.as_str.ensures.value ∙ h);
      count = λ h. is.not-text-4 (c.as_str.ensures.value ∙ h);
      after = λ h. is.not-text-5 (c.as_str.ensures.value ∙ h);
      before = λ h. is.not-text-6 (c.as_str.ensures.value ∙ h);
      max = λ h. is.not-text-7 (c.as_str.ensures.value ∙ h);
      end = λ h. is.not-text-8 (c.as_str.ensures.value ∙ h);
    } in
    let call = c.with_operands-in_default-2 in
    command.undashed-end c.args.arguments.now c.loop-argument.later.rest.now c.next.new.self.rest.now
    c.as_slice-in_default-2.result.now c.in-Some.argument
    c.loop-argument.options call.result c.in-Some.ensures.steps
    (rw c.as_str.ensures.value at (sym c.is_dashed.ensures ∙ c.if-is_dashed.false)) otherwise c.loop-argument.invariant
    c.as_slice-in_default-2.ensures.value
    (record { same = call.ensures.options; are = call.ensures.operands; usage = call.ensures.usage })

pub returns-in_default-2-clause-options : goal.returns-in_default-2-clause-options
returns-in_default-2-clause-options c = (undashed c).options

pub returns-in_default-2-clause-operands : goal.returns-in_default-2-clause-operands
returns-in_default-2-clause-operands c =
    IfOk-weaker c.with_operands-in_default-2.result (AskFor c.args.arguments.now) _
    (command.asked-last c.args.arguments.now)
    (undashed c).options

pub returns-in_default-2-clause-usage : goal.returns-in_default-2-clause-usage
returns-in_default-2-clause-usage c = (undashed c).usage

pub returns-clause-usage : goal.returns-clause-usage
returns-clause-usage c = command.ended-usage c.args.arguments.now c.loop-argument.later c.next.new.self
    c.loop-argument.options
    c.loop-argument.invariant (rw c.in_default.is at c.next.ensures.steps)
