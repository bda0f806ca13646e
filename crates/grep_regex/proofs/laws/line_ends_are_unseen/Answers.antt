use Rattle.std.proofs.Common.{◌≡◌, ◌∙◌, ◌++◌, ◌∷◌, [], ℕ, List, Some, ap, sym, subst}
use Rattle.grep_matcher.specs.declared.line_terminator.LineTerminator.TheVariants.{Crlf}
use Rattle.grep_regex.specs.Patterns.{text_match_at}
use Rattle.grep_regex.specs.Seen.{seen_bytes, without_line_end}
use Rattle.grep_regex.specs.declared.options.Options.{Options}
use Rattle.grep_regex.proofs.SeenLemmas.{lacks, seen-whole, unseen-feed, unseen-pair}
use Rattle.grep_regex.proofs.laws.line_ends_are_unseen.Goals as goal

pub returns : goal.returns
returns c = λ o patterns line from crlf unfed.
    let alone = seen-whole line (lacks line (10 ∷ []) unfed) in (
      same o patterns (line ++ 13 ∷ 10 ∷ []) line from crlf (unseen-pair line ∙ sym alone),
      λ bare. same o patterns (line ++ 10 ∷ []) line from crlf
          (unseen-feed line (lacks line (13 ∷ []) bare) ∙ sym alone),
    )
  where
    same : (o : Options) (patterns : List (List ℕ)) (a b : List ℕ) (from : ℕ) → o.line_terminator ≡ Some Crlf
        → without_line_end a ≡ without_line_end b
        → text_match_at o patterns (seen_bytes o.line_terminator a) from
        ≡ text_match_at o patterns (seen_bytes o.line_terminator b) from
    same o patterns a b from crlf is = ap (λ text. text_match_at o patterns text from)
        (subst (λ t. seen_bytes t a ≡ seen_bytes t b) (sym crlf) is)
