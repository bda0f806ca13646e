use Rattle.std.proofs.Common.{◌-◌, ℕ, arith, drop, inl, inr, length, length-drop, refl, rules, true}
use Rattle.std.proofs.Common.{subst, take_all}
use Rattle.grep_matcher.specs.Lawful.{IsLawfulResult}
use Rattle.grep_definitions.specs.Plans.{IsLawful}
use Rattle.grep_lines.specs.Positions.{IsLineStart}
use Rattle.grep_matcher.specs.Lines.{byte_of}
use Rattle.grep_walk.specs.LineRuns.{IsRun}
use Rattle.grep_walk.specs.LookAheads.{IsKnown}
use Rattle.grep_walk.proofs.LineRunLemmas.{first-matches, is_matched, next-matches}
use Rattle.grep_walk.proofs.config.Config.matching_lines.Given.{Over}
use Rattle.grep_walk.proofs.config.Config.matching_lines.Goals as goal
use Rattle.grep_walk.proofs.config.Config.matching_lines.Goals.{After-ahead_of-lines}

-- what the matcher said of the lines after those that match
learnt : (g : Over) (c : After-ahead_of-lines g) → IsLawful (g.M.Matcher.facts c.args.matcher.now)
    c.args.self.now → (i : ℕ)
    → IsLineStart (byte_of c.args.self.now.line_terminator) c.args.window.now c.lines.lines.end i
    → IsKnown c.args.self.now (g.M.Matcher.facts c.args.matcher.now).meaning c.args.window.now
    c.lines.lines.end c.ahead_of-lines.result
learnt g c lawful i at =
    let rest = drop c.lines.lines.end c.args.window.now in
    c.ahead_of-lines.ensures.known _ i at
    (subst (λ asked. IsLawfulResult c.args.self.now.line_terminator
    (g.M.Matcher.facts c.args.matcher.now).meaning asked c.in-Ok.found)
    (take_all (length c.args.window.now - c.lines.lines.end) rest
    (omega (arith, length-drop c.lines.lines.end c.args.window.now)))
    (c.in-Ok.ensures.trusted _ (lawful c.requires.allowed) c.requires.allowed.excludes))

-- lines that match, with that
kept : (g : Over) (c : After-ahead_of-lines g) → IsRun c.args.self.now
    (g.M.Matcher.facts c.args.matcher.now) c.args.window.now c.args.start c.args.ahead.now true
    (record {
      end = c.lines.lines.end;
      count = c.lines.lines.count;
      ahead = c.ahead_of-lines.result;
    })
kept g c =
    let run = c.lines.invariant.run in record {
      some = run.some;
      within = run.within;
      counted = run.counted;
      bounded = c.ahead_of-lines.ensures.bounded;
      alike = λ lawful i here known.
          let lines = run.alike lawful i here known in
          record { all = lines.all; at = lines.at; known = learnt g c lawful _ lines.at };
    }

pub returns-in_default-clause-run : goal.returns-in_default-clause-run
returns-in_default-clause-run g c =
    kept g (goal.at.returns-in_default-clause-run g c).After-ahead_of-lines

pub returns-in_default-2-clause-run : goal.returns-in_default-2-clause-run
returns-in_default-2-clause-run g c =
    kept g (goal.at.returns-in_default-2-clause-run g c).After-ahead_of-lines

pub returns-then-lines-start-gt-ROOM-clause-run : goal.returns-then-lines-start-gt-ROOM-clause-run
returns-then-lines-start-gt-ROOM-clause-run g c =
    kept g (goal.at.returns-then-lines-start-gt-ROOM-clause-run g c).After-ahead_of-lines

pub lines-init : goal.lines-init
lines-init g c =
    let first = is_matched c.args.ahead.now c.args.start c.requires.matched in record {
      run = record {
        some = first.high;
        within = c.requires.bounded.within;
        counted = omega (arith, first.high);
        bounded = c.requires.bounded;
        alike = λ lawful i here known. first-matches c.args.self.now _ _ c.args.start i
            c.args.ahead.now c.requires.matched known here;
      };
      unfailed = c.requires.none;
      unknown = omega arith;
      few = inr refl;
    }

pub lines-preserved : goal.lines-preserved
lines-preserved g c =
    let next = is_matched c.ahead_of-lines.result c.lines.lines.end (search rules) in
    let run = c.lines.invariant.run in record {
      run = record {
        some = omega (arith, run.some, next.high);
        within = c.ahead_of-lines.ensures.bounded.within;
        counted = omega (arith, run.some, run.counted, next.high);
        bounded = c.ahead_of-lines.ensures.bounded;
        alike = λ lawful i here known.
            let lines = run.alike lawful i here known in
            next-matches _ _ _ _ i c.lines.lines.end _ _ _ (search rules) lines
            (learnt g (goal.at.lines-preserved g c).After-ahead_of-lines lawful _ lines.at);
      };
      unfailed = c.lines.invariant.unfailed;
      unknown = omega arith;
      few = inl (omega (arith, c.if-lines-start-gt-ROOM.false));
    }
