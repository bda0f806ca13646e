use Rattle.std.proofs.Common.{◌≡◌, ◌∙◌, Some, ℕ, length, subst, sym}
use Rattle.grep_matcher.specs.FindResults.{IsFrom}
use Rattle.grep_replace.specs.Groups.{LieWithin}
use Rattle.grep_regex.proofs.GroupLemmas.{groups-lie, text-groups, text-groups-none}
use Rattle.grep_regex.specs.PatternFirstMatches.{text-within}
use Rattle.grep_regex.specs.Views.{engine_regex, regex_options, regex_patterns, regex_text_at}
use Rattle.grep_regex.proofs.engine.Engine.captures_by.Goals as goal

pub returns-in_default-clause-groups : goal.returns-in_default-clause-groups
returns-in_default-clause-groups c =
    c.clear.ensures.items
    ∙ sym (text-groups-none (engine_regex c.args.self.now) c.args.haystack.now c.args.start
    (sym c.in_default.is ∙ c.in_ok-from.ensures.span))

pub push_match-requires : goal.push_match-requires
push_match-requires c =
    let r = engine_regex c.args.self.now in
    let found : Some (c.in-Some.from, c.in-Some.end) ≡ regex_text_at r c.args.haystack.now c.args.start =
    sym c.in-Some.is ∙ c.in_ok-from.ensures.span in
    (subst (IsFrom c.args.start c.args.haystack.now) (sym found)
    (text-within (regex_options r) (regex_patterns r) c.args.haystack.now c.args.start)).1.0

pub returns-in-Ok-clause-groups : goal.returns-in-Ok-clause-groups
returns-in-Ok-clause-groups c =
    let s : ℕ × ℕ = (c.in-Some.from, c.in-Some.end) in
    rw c.clear.ensures.items at c.in-Ok.ensures.groups
    ∙ sym (text-groups (engine_regex c.args.self.now) c.args.haystack.now c.args.start
    (λ k. (c.type_inv.haystack k).fits) c.requires.start s c.find_cells.new.cells (length c.args.cells.now)
    c.requires.width (rw c.in-Some.is at c.in_ok-from.ensures.cells))

pub returns-in-Ok-clause-within : goal.returns-in-Ok-clause-within
returns-in-Ok-clause-within c =
    let r = engine_regex c.args.self.now in
    let s : ℕ × ℕ = (c.in-Some.from, c.in-Some.end) in
    let found : Some s ≡ regex_text_at r c.args.haystack.now c.args.start =
    sym c.in-Some.is ∙ c.in_ok-from.ensures.span in
    subst (LieWithin (length c.args.haystack.now))
    (sym (rw c.clear.ensures.items at c.in-Ok.ensures.groups))
    (groups-lie c.args.start c.args.haystack.now s c.find_cells.new.cells
    (subst (IsFrom c.args.start c.args.haystack.now) (sym found)
    (text-within (regex_options r) (regex_patterns r) c.args.haystack.now c.args.start)))
