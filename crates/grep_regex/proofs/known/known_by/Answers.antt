use Rattle.std.proofs.Common.{arith, subst, sym}
use Rattle.grep_matcher.specs.FindResults.{IsFrom}
use Rattle.grep_regex.specs.Choices.{items_of}
use Rattle.grep_regex.specs.PatternFirstMatches.{text-within}
use Rattle.grep_regex.specs.Views.{regex_options, regex_patterns, regex_text_at}
use Rattle.grep_regex.proofs.EngineLemmas.{none-answers, start-answers}
use Rattle.grep_regex.proofs.StartLemmas.{nowhere-decided, size-decided, skipped-same, start-decided}
use Rattle.grep_regex.proofs.known.known_by.Goals as goal

pub returns-in-Some : goal.returns-in-Some
returns-in-Some c =
    let start = c.in-Match.ensures in
    let p = c.args.prefix.now in
    let r = c.args.regex.now in
    let hay = c.args.haystack.now in
    let found = size-decided r (items_of p.choices.items) p.has_sizes c.requires.is_prefix hay
    (λ k. (c.type_inv.haystack k).fits) c.if-prefix.true c.args.start c.in-Match.at c.in-Some.size
    start.0 start.1 start.2 start.3 (rw c.deref.ensures.value at c.in-Some.ensures.size) in (
      rw c.in-FirstMatch.is (sym found),
      subst (IsFrom c.args.start hay) found
          (text-within (regex_options r) (regex_patterns r) hay c.args.start),
    )

pub returns-in_default : goal.returns-in_default
returns-in_default c =
    let start = c.in-Match.ensures in (
      start.0,
      start.1,
      skipped-same c.args.regex.now (items_of c.args.prefix.now.choices.items) c.args.prefix.now.has_sizes
          c.requires.is_prefix
          c.args.haystack.now (λ k. (c.type_inv.haystack k).fits) c.args.start c.in-Match.at start.0 start.1 start.2,
    )

pub returns-in_default-2 : goal.returns-in_default-2
returns-in_default-2 c =
    let start = c.in-Match.ensures in (
      start.0,
      start.1,
      skipped-same c.args.regex.now (items_of c.args.prefix.now.choices.items) c.args.prefix.now.has_sizes
          c.requires.is_prefix
          c.args.haystack.now (λ k. (c.type_inv.haystack k).fits) c.args.start c.in-Match.at start.0 start.1 start.2,
    )

pub returns-in-AnyMatch : goal.returns-in-AnyMatch
returns-in-AnyMatch c =
    let start = c.in-Match.ensures in
    let first = regex_text_at c.args.regex.now c.args.haystack.now c.args.start in (
      rw c.in-AnyMatch.is ((start-answers first c.in-Match.at
          (start-decided c.args.regex.now (items_of c.args.prefix.now.choices.items) c.args.prefix.now.has_sizes
          c.requires.is_prefix
          c.args.haystack.now (λ k. (c.type_inv.haystack k).fits) c.args.start c.in-Match.at start.0 start.1 start.2
          start.3)).0),
      (start.0, (omega arith, start.1)),
    )

pub returns-in-Start : goal.returns-in-Start
returns-in-Start c =
    let start = c.in-Match.ensures in
    let first = regex_text_at c.args.regex.now c.args.haystack.now c.args.start in (
      rw c.in-Start.is ((start-answers first c.in-Match.at
          (start-decided c.args.regex.now (items_of c.args.prefix.now.choices.items) c.args.prefix.now.has_sizes
          c.requires.is_prefix
          c.args.haystack.now (λ k. (c.type_inv.haystack k).fits) c.args.start c.in-Match.at start.0 start.1 start.2
          start.3)).1),
      (start.0, (omega arith, start.1)),
    )

pub returns-in-From : goal.returns-in-From
returns-in-From c =
    let start = c.in-From.ensures in (
      start.0,
      start.1,
      skipped-same c.args.regex.now (items_of c.args.prefix.now.choices.items) c.args.prefix.now.has_sizes
          c.requires.is_prefix
          c.args.haystack.now (λ k. (c.type_inv.haystack k).fits) c.args.start c.in-From.at start.0 start.1 start.2,
    )

pub returns-in-Nowhere : goal.returns-in-Nowhere
returns-in-Nowhere c = (
  none-answers c.args.asked (regex_text_at c.args.regex.now c.args.haystack.now c.args.start)
      (nowhere-decided c.args.regex.now (items_of c.args.prefix.now.choices.items) c.args.prefix.now.has_sizes
      c.requires.is_prefix
      c.args.haystack.now (λ k. (c.type_inv.haystack k).fits) c.args.start c.requires.start c.in-Nowhere.ensures),
  (tt, tt),
)
