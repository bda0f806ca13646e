use Rattle.std.proofs.Common.{◌≡◌, ◌+◌, ◌-◌, ◌≤◌, ◌∙◌, sym, ap, arith, drop, get_or, inl, inr, subst, take}
use Rattle.std.proofs.lemmas.Bool.{cases_eq}
use Rattle.grep_ignore.specs.Endings.{IsAboutAt, mixed, number_after}
use Rattle.grep_ignore.proofs.StartLemmas.{number-step}
use Rattle.grep_ignore.proofs.path_tests.count_from.Goals as goal

pub loop-stop-preserved : goal.loop-stop-preserved
loop-stop-preserved g c =
    let step : number_after 1 (take ((c.loop-stop.stop + 1) - c.args.start) (drop c.args.start c.args.path.now))
    ≡ c.mixed-number.result =
    number-step c.args.path.now c.args.start c.loop-stop.stop c.loop-stop.invariant.after c.loop-stop-test.true
    ∙ ap (mixed (get_or c.args.path.now c.loop-stop.stop 0)) (sym c.loop-stop.invariant.same)
    ∙ sym c.mixed-number.ensures in
    let more : c.loop-stop.count ≤ c.in_ok-count.count = c.in_ok-count.ensures.least_is in
    record {
      after = omega (arith, c.loop-stop.invariant.after);
      stop_within = omega (arith, c.loop-stop-test.true);
      same = sym step;
      least_is = omega (arith, more, c.loop-stop.invariant.least_is);
      within = c.in_ok-count.ensures.within;
      none = λ stop less most k item from below numbered. elim (cases_eq stop (c.loop-stop.stop + 1)) [
        | inl here ↦ c.in_ok-count.ensures.none k item from below (numbered
            ∙ ap (λ n. number_after 1 (take (n - c.args.start) (drop c.args.start c.args.path.now))) here ∙ step)
        | inr apart ↦ c.loop-stop.invariant.none stop less (omega (arith, most, apart)) k item
            (omega (arith, more, from)) below numbered
      ];
      last = λ some. elim (cases_eq c.loop-stop.count c.in_ok-count.count) [
        | inl same ↦ subst (λ n. (item : _) × IsAboutAt g.T.PathTest.about c.args.items.now n c.args.path.now c.args.is_folder item)
            same (c.loop-stop.invariant.last (omega (arith, same, some)))
        | inr apart ↦ c.in_ok-count.ensures.last (omega (arith, more, apart))
      ];
    }
