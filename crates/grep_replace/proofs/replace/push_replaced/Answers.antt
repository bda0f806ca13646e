use Rattle.std.proofs.Common.{◌≡◌, ◌+◌, ◌∙◌, None, length, slice_range, subst, sym}
use Rattle.std.proofs.Math.Seq.{take-length}
use Rattle.std.specs.Prelude.{IfSome}
use Rattle.grep_replace.proofs.ReplaceLemmas.{replacing-all, replacing-kept, replacing-none, replacing-passed}
use Rattle.grep_replace.proofs.StartLemmas.{starts-longer, starts-through}
use Rattle.grep_replace.specs.MatchedParts.{LiesFrom, found_from}
use Rattle.grep_replace.specs.ReplacedBytes.{text_of_match}
use Rattle.grep_replace.proofs.replace.push_replaced.Goals as goal

pub loop-found-init : goal.loop-found-init
loop-found-init g c = (
  take-length c.args.text.now.items,
  replacing-none (text_of_match c.args.template.now (g.M.CapturesAt.groups_at c.args.matcher.now) c.args.bytes.now)
      (g.M.FindAt.first_at c.args.matcher.now c.args.bytes.now) c.args.bytes.now c.args.text.now.items,
)

pub loop-found-preserved-then-passed : goal.loop-found-preserved-then-passed
loop-found-preserved-then-passed g c =
    let bytes = c.args.bytes.now in
    let text_at = text_of_match c.args.template.now (g.M.CapturesAt.groups_at c.args.matcher.now) bytes in
    let lies = subst (LiesFrom c.loop-found.position (length bytes) (length bytes + 1)) c.in-Some.is
    c.in_ok-found.ensures.lies in
    rw (c.position_after-position.ensures, c.end.ensures.value) (
      c.loop-found.invariant.0,
      replacing-passed text_at (g.M.FindAt.first_at c.args.matcher.now bytes) bytes _ c.loop-found.text.items
          c.loop-found.copied c.loop-found.position c.loop-found.end c.in-Some.found c.loop-found.invariant.1
          (sym c.in_ok-found.ensures.value ∙ c.in-Some.is) lies (sym c.is_passed-passed.ensures ∙ c.if-passed.true),
    )

pub loop-found-preserved : goal.loop-found-preserved
loop-found-preserved g c =
    let bytes = c.args.bytes.now in
    let found = c.in-Some.found in
    let groups_at = g.M.CapturesAt.groups_at c.args.matcher.now in
    let text_at = text_of_match c.args.template.now groups_at bytes in
    let lies = subst (LiesFrom c.loop-found.position (length bytes) (length bytes + 1)) c.in-Some.is
    c.in_ok-found.ensures.lies in
    let groups : c.match_from.new.groups.items ≡ groups_at bytes found.0 =
    subst (λ m. IfSome m (λ f. c.match_from.new.groups.items ≡ groups_at bytes f.0)) c.in-Some.is
    c.in_ok-found.ensures.groups in
    let starts = starts-longer c.args.text.now.items c.loop-found.text.items c.extend_from_slice.new.self.items
    (slice_range c.args.bytes.now c.loop-found.copied found.0) c.loop-found.invariant.0
    (rw c.start.ensures.value at c.in_ok-extend_from_slice.ensures.items) in
    rw (c.position_after-position.ensures, c.end.ensures.value, c.end-copied.ensures.value) (
      starts-through
          c.args.text.now.items c.extend_from_slice.new.self.items c.push_to.new.bytes.items starts
          c.in_ok-push_to.ensures.kept,
      replacing-kept text_at (g.M.FindAt.first_at c.args.matcher.now bytes) bytes _ c.loop-found.text.items
          c.extend_from_slice.new.self.items c.push_to.new.bytes.items c.loop-found.copied c.loop-found.position
          c.loop-found.end found c.loop-found.invariant.1 (sym c.in_ok-found.ensures.value ∙ c.in-Some.is) lies
          (sym c.is_passed-passed.ensures ∙ c.if-passed.false)
          (rw c.start.ensures.value at c.in_ok-extend_from_slice.ensures.items)
          (rw (c.deref.ensures.value, groups) at c.in_ok-push_to.ensures.text),
    )

pub returns-clause-text : goal.returns-clause-text
returns-clause-text g c =
    let bytes = c.args.bytes.now in
    let text_at = text_of_match c.args.template.now (g.M.CapturesAt.groups_at c.args.matcher.now) bytes in
    let none : found_from (g.M.FindAt.first_at c.args.matcher.now bytes) (length bytes) (length bytes + 1)
    c.loop-found.position ≡ None = sym c.in_ok-found.ensures.value ∙ c.in_default.is in
    replacing-all text_at (g.M.FindAt.first_at c.args.matcher.now bytes) bytes _ c.loop-found.text.items
    c.extend_from_slice-2.new.self.items c.loop-found.copied c.loop-found.position c.loop-found.end
    c.loop-found.invariant.1 none c.in_ok-extend_from_slice-2.ensures.items

pub returns-in_err-push_to-clause-kept : goal.returns-in_err-push_to-clause-kept
returns-in_err-push_to-clause-kept g c =
    let between = c.extend_from_slice.new.self.items in
    let starts = starts-longer c.args.text.now.items c.loop-found.text.items between
    (slice_range c.args.bytes.now c.loop-found.copied c.in-Some.found.0) c.loop-found.invariant.0
    (rw c.start.ensures.value at c.in_ok-extend_from_slice.ensures.items) in
    starts-through c.args.text.now.items between c.push_to.new.bytes.items starts c.in_err-push_to.ensures.kept
