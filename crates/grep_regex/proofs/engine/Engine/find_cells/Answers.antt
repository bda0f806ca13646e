use Rattle.std.proofs.Common.{◌≡◌, ◌∙◌, ℕ, List, Option, Some, None, arith, length, option_map, sym}
use Rattle.std.specs.Option.{IfSome}
use Rattle.regex_meta.proofs.ProgramLemmas.{first_match_span}
use Rattle.regex_meta.specs.Programs.{leftmost}
use Rattle.regex_vm.specs.Found.{span}
use Rattle.grep_regex.proofs.EngineLemmas.{engine-finds}
use Rattle.grep_regex.proofs.GroupLemmas.{finder-captures, finder-sees, finder-spans, searcher-captures, searcher-sees}
use Rattle.grep_regex.proofs.GroupLemmas.{slots-along}
use Rattle.grep_regex.specs.Views.{engine_regex, regex_text_at}
use Rattle.grep_regex.proofs.engine.Engine.find_cells.Goals as goal

-- what is so of the match that is found, if there is one
each-seen : (o : Option (ℕ × ℕ)) (cells : List ℕ) (seen : Option ((ℕ × ℕ) × List ℕ)) (first : Option (ℕ × ℕ))
    → o ≡ first → ((s : ℕ × ℕ) → Some s ≡ first → Some (s, cells) ≡ seen) → IfSome o (λ s. Some (s, cells) ≡ seen)
each-seen None cells seen first is each = tt
each-seen (Some s) cells seen first is each = each s is

pub returns-in-None-clause-span : goal.returns-in-None-clause-span
returns-in-None-clause-span c = c.captures-2.ensures.found
    ∙ engine-finds _ (engine_regex c.args.self.now) c.args.haystack.now c.args.start c.args.self.now.same
    (λ k. (c.type_inv.haystack k).fits) c.requires.start

pub returns-in-None-clause-cells : goal.returns-in-None-clause-cells
returns-in-None-clause-cells c =
    let engine = c.args.self.now in
    let program = engine.searcher.program.now in
    let hay = c.args.haystack.now in
    each-seen c.captures-2.result c.captures-2.new.groups _ (option_map span (leftmost program hay c.args.start))
    c.captures-2.ensures.found
    (λ s is. searcher-sees (engine_regex engine) hay c.args.start (λ k. (c.type_inv.haystack k).fits) c.requires.start
    program (searcher-captures engine c.in-None.is) s c.captures-2.new.groups (length c.args.cells.now) is
    c.captures-2.ensures.groups)

pub returns-in-None-find-clause-span : goal.returns-in-None-find-clause-span
returns-in-None-find-clause-span c = sym c.in-None-find.is ∙ (c.find.ensures.found
    ∙ engine-finds _ (engine_regex c.args.self.now) c.args.haystack.now c.args.start c.args.self.now.same
    (λ k. (c.type_inv.haystack k).fits) c.requires.start)

pub find_at-requires-clause-ordered : goal.find_at-requires-clause-ordered
find_at-requires-clause-ordered c =
    let engine = c.args.self.now in
    let hay = c.args.haystack.now in
    let s : ℕ × ℕ = (c.in-Some-find.from, c.in-Some-find.end) in
    let found : Some s ≡ regex_text_at (engine_regex engine) hay c.args.start =
    sym c.in-Some-find.is ∙ (c.find.ensures.found
    ∙ engine-finds _ (engine_regex engine) hay c.args.start engine.same (λ k. (c.type_inv.haystack k).fits)
    c.requires.start) in
    let spans = first_match_span c.in-Some.finder.program.now hay c.args.start s.0 s.1
    (finder-spans (engine_regex engine) hay c.args.start (λ k. (c.type_inv.haystack k).fits) c.requires.start
    c.in-Some.finder.program.now (finder-captures engine c.in-Some.finder c.in-Some.is) s found) in
    (spans.0, spans.1)

pub find_at-requires-clause-width : goal.find_at-requires-clause-width
find_at-requires-clause-width c =
    let engine = c.args.self.now in
    let slots = slots-along (engine_regex engine) c.args.haystack.now c.args.start
    (λ k. (c.type_inv.haystack k).fits) c.requires.start c.in-Some.finder.program.now
    (finder-captures engine c.in-Some.finder c.in-Some.is) in
    omega (arith, slots, c.requires.width)

pub returns-in_ok-find_at-in-Some-find-clause-span :
    goal.returns-in_ok-find_at-in-Some-find-clause-span
returns-in_ok-find_at-in-Some-find-clause-span c = sym c.in-Some-find.is ∙ (c.find.ensures.found
    ∙ engine-finds _ (engine_regex c.args.self.now) c.args.haystack.now c.args.start c.args.self.now.same
    (λ k. (c.type_inv.haystack k).fits) c.requires.start)

pub returns-in_ok-find_at-in-Some-find-clause-cells :
    goal.returns-in_ok-find_at-in-Some-find-clause-cells
returns-in_ok-find_at-in-Some-find-clause-cells c =
    let engine = c.args.self.now in
    let hay = c.args.haystack.now in
    let s : ℕ × ℕ = (c.in-Some-find.from, c.in-Some-find.end) in
    let found : Some s ≡ regex_text_at (engine_regex engine) hay c.args.start =
    sym c.in-Some-find.is ∙ (c.find.ensures.found
    ∙ engine-finds _ (engine_regex engine) hay c.args.start engine.same (λ k. (c.type_inv.haystack k).fits)
    c.requires.start) in
    finder-sees (engine_regex engine) hay c.args.start (λ k. (c.type_inv.haystack k).fits) c.requires.start
    c.in-Some.finder.program.now (finder-captures engine c.in-Some.finder c.in-Some.is) s c.find_at.new.cells
    (length c.args.cells.now) found c.in_ok-find_at-in-Some-find.ensures.cells
