use Rattle.std.proofs.Common.{◌≡◌, rules, None, Option, Some, arith, false, true}
use Rattle.std.specs.Prelude.{IfSome}
use Rattle.grep_walk.specs.LookAheads.{known_at}
use Rattle.grep_walk.proofs.LineRunLemmas.{first-matches, is_matched}
use Rattle.grep_walk.proofs.config.Config.chosen_lines.Goals as goal

-- what is so of each
each : {X : Type 0} {A B C D E F G : X → Type 0} (o : Option X) → IfSome o A → IfSome o B
    → IfSome o C → IfSome o D → IfSome o E → IfSome o F
    → ((x : X) → A x → B x → C x → D x → E x → F x → G x) → IfSome o G
each None a b c d e f gives = tt
each (Some x) a b c d e f gives = gives x a b c d e f

pub returns-then-not-matches-clause-chosen : goal.returns-then-not-matches-clause-chosen
returns-then-not-matches-clause-chosen g c =
    let found = c.lines_up_to_candidate.ensures in
    each c.lines_up_to_candidate.result found.some found.within found.few found.counted
    found.bounded found.alike (λ lines some within few counted bounded alike. record {
      matches = false;
      hits = search rules;
      run = record {
        some = some;
        within = within;
        counted = counted;
        bounded = bounded;
        alike = λ lawful. alike (g.M.Matcher.facts c.args.matcher.now).meaning;
      };
      few = few;
      alone = search rules;
    })

pub returns-in-OneLine-clause-chosen : goal.returns-in-OneLine-clause-chosen
returns-in-OneLine-clause-chosen g c =
    let matches : known_at c.args.ahead.now c.args.start ≡ Some true = search rules in
    let first = is_matched c.args.ahead.now c.args.start matches in record {
      matches = true;
      hits = search rules;
      run = record {
        some = first.high;
        within = c.requires.bounded.within;
        counted = omega (arith, first.high);
        bounded = c.requires.bounded;
        alike = λ lawful i here known. first-matches c.args.self.now _ _ c.args.start i
            c.args.ahead.now matches known here;
      };
      few = omega (arith, c.if-ahead-start-gt-ROOM.false);
      alone = search rules;
    }
