use Rattle.std.proofs.Common.{◌≡◌, ◌+◌, ◌<◌, ◌≤◌, arith, length, length-drop}
use Rattle.std.proofs.Common.{drop, None, Some, ap, sym, ◌∙◌, option_map}
use Rattle.regex.specs.Names.{names_of}
use Rattle.grep_replace.specs.Templates.{reference_at}
use Rattle.grep_replace.proofs.TemplateLemmas.{read-all, read-byte, read-reference}
use Rattle.grep_replace.proofs.template.read_pieces.Goals as goal

pub loop-at-preserved-in_default : goal.loop-at-preserved-in_default
loop-at-preserved-in_default c =
    let none : reference_at (drop c.loop-at.at c.args.text.now) ≡ None =
    ap reference_at (sym c.after.ensures) ∙ (sym c.reference_at.ensures.value ∙ ap (option_map _) c.in_default.is) in (
      omega (arith, c.loop-at.invariant.0),
      omega (arith, c.loop-at-test.true),
      read-byte (names_of c.args.names.now) c.args.text.now c.loop-at.pieces.items c.loop-at.start c.loop-at.at
          c.loop-at.invariant.0 c.loop-at-test.true none c.loop-at.invariant.2,
    )

pub loop-at-preserved : goal.loop-at-preserved
loop-at-preserved c =
    let text = c.args.text.now in
    let pushed = c.in_ok-push_text.ensures in
    let more = c.in_ok-push_reference.ensures in
    let len = c.in-Some.reference.len in
    let fits = c.in-Some.ensures.len in
    let room : c.loop-at.at + len ≤ length text =
    omega (arith, fits.1, ap length c.after.ensures, length-drop c.loop-at.at text, c.loop-at-test.true) in (
      omega arith,
      room,
      rw (more.1, pushed.2)
          (read-reference (names_of c.args.names.now) text c.loop-at.pieces.items more.0 c.loop-at.start c.loop-at.at len
          pushed.0 _ c.loop-at-test.true fits.0 (ap reference_at (sym c.after.ensures) ∙ sym c.in-Some.ensures.value)
          pushed.1 more.2
          c.loop-at.invariant.2),
    )

pub returns : goal.returns
returns c =
    let pushed = c.in_ok-push_text-2.ensures in
    let all = read-all (names_of c.args.names.now) c.args.text.now c.loop-at.pieces.items c.loop-at.start c.loop-at.at
    pushed.0 (omega (arith, c.loop-at-test.false)) pushed.1 c.loop-at.invariant.2 in
    λ text_of. rw pushed.2 (all text_of)
