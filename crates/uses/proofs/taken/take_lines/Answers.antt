use Rattle.std.proofs.Common.{refl, ap, inr, ◌∙◌}
use Rattle.grep_searcher.specs.MatchHandlers.{kept_of}
use Rattle.grep_searcher.specs.Plans.{IsLawful}
use Rattle.uses.specs.PlainSettings.{limited_to}
use Rattle.uses.specs.TakenLines.{TakenLines}
use Rattle.uses.proofs.taken.take_lines.Goals as goal

pub returns : goal.returns
returns g c =
    let plain = limited_to c.args.limit in let meaning = (g.M.Matcher.facts c.args.matcher).meaning in
    let run = λ (lawful : IsLawful (g.M.Matcher.facts c.args.matcher) plain).
    rw (c.input_is_searched.ensures.input plain c.args.bytes.now refl refl) at (c.searches_run.ensures c.args.matcher _
    c.args.bytes.now _ _ refl lawful (rw c.in_ok-searcher.ensures.settings at c.in_ok-search_slice.ensures.searched)) in
    record {
      lines = λ lawful. c.into_parts.ensures.lines ∙ rw c.new.ensures.items at (c.runs_append_hits.ensures
          (λ (s : TakenLines). s.lines) kept_of (λ _ _ _ _ _ h. (h.0, ap (λ (s : TakenLines). s.lines) h.1)) plain
          meaning c.args.bytes.now refl (record { unstopped = refl; untrailed = inr refl }) _ _ (run lawful));
      end = λ lawful. let end = c.runs_end.ensures (λ _ _ _ _ _ h. h.0) _ _ _ _ (run lawful) in
          rw (c.into_parts.ensures.byte_count, end.1.1) (c.counts_to_limit.ensures plain meaning c.args.bytes.now
          c.args.limit refl (record { limited = refl; unstopped = refl; untrailed = refl; selective = refl }));
      error = λ _. tt;
    }
