-- What a search prints of which lines alone are written, each as it is after its number.
use Rattle.std.proofs.Common.{◌≡◌, ◌∙◌, ℕ, List, [], ◌∷◌, ◌++◌, ap, append_assoc, inl, inr, refl, sym, subst}
use Rattle.std.proofs.Math.Bool.{and-false, or-false, or-true, or_assoc}
use Rattle.std.proofs.lemmas.List.{append-nil}
use Rattle.std.specs.List.{fold, list_any}
use Rattle.std.specs.Prelude.{Bool, true, false, ◌&&◌, ◌||◌, if◌then◌else◌, Option}
use Rattle.grep_matcher.specs.Lines.{byte_of}
use Rattle.grep_matcher.specs.Meanings.{MatcherFacts}
use Rattle.grep_searcher.specs.Plans.{Call, Finish, Planned, Settings, begins, binary_data, breaks, context, finishes}
use Rattle.grep_searcher.specs.Plans.{matches}
use Rattle.grep_searcher.specs.SearchLaws.{is_match}
use Rattle.grep_printer.proofs.BareTextLemmas.{bare-goes-on, bare-text}
use Rattle.grep_printer.specs.BareTexts.{bare_text, bare_texts, is_bare}
use Rattle.grep_printer.specs.CallParts.{has_match, parts_of_call}
use Rattle.grep_printer.specs.Formats.{AllGoOn, AreAlong, Printed, PrintedCall, Scene, printed_with}
use Rattle.grep_printer.specs.PrinterSteps.{HasFound}
use Rattle.grep_printer.specs.StandardTexts.{asks_for_parts, progress_after, standard_rules}
use Rattle.grep_printer.specs.declared.config.Config.{Config}
use Rattle.grep_printer.specs.declared.printer.PrinterSink.{PrinterSink}
use Rattle.grep_printer.specs.declared.standard.Progress.{Progress}
use Rattle.grep_printer.specs.declared.standard.StandardFormat.{StandardFormat}

-- whether some calls report a match
abbrev pub any-match : List Planned → Bool
any-match calls = list_any (λ (planned : Planned). is_match planned.call) calls

-- a call more
match-after : (progress : Progress) (call : Call)
    → (progress_after progress call).has_match ≡ (progress.has_match || is_match call)
match-after progress call =
    elim call as (λ c. (progress_after progress c).has_match ≡ (progress.has_match || is_match c)) [
      | begins ↦ sym (or-false progress.has_match)
      | matches number offset bytes around ↦ sym (or-true progress.has_match)
      | context kind number offset line ↦ sym (or-false progress.has_match)
      | breaks ↦ sym (or-false progress.has_match)
      | binary_data offset ↦ sym (or-false progress.has_match)
      | finishes count binary ↦ sym (or-false progress.has_match)
    ]

module _ (scene : Scene) (HasParts : StandardFormat → PrintedCall → Type 0) (config : Config)
    (bare : is_bare config scene ≡ true)
    (none : (format : StandardFormat) (printed : PrintedCall) → format.config ≡ config → HasParts format printed
    → printed.parts ≡ []) where
  abbrev terminator : ℕ
  terminator = byte_of scene.settings.line_terminator

  -- what was made of some calls more
  pub record AreBare (old : Printed StandardFormat) (calls : List Planned) (new : Printed StandardFormat) : Type 0
    where
      pub settings : new.format.config ≡ config
      pub text : new.text ≡ old.text ++ bare_texts terminator calls
      pub found : new.format.progress.has_match ≡ (old.format.progress.has_match || any-match calls)

  -- of one call more
  record IsMore (old : Printed StandardFormat) (call : Call) (new : Printed StandardFormat) : Type 0 where
    settings : new.format.config ≡ config
    text : new.text ≡ old.text ++ bare_text terminator call
    found : new.format.progress.has_match ≡ (old.format.progress.has_match || is_match call)

  one-more : (old : Printed StandardFormat) → old.format.config ≡ config → (printed : PrintedCall) (call : Call)
      → printed.call ≡ call → HasParts old.format printed
      → IsMore old call (printed_with standard_rules scene old printed)
  one-more old same printed call is parts =
      let shown : is_bare old.format.config scene ≡ true = ap (λ c. is_bare c scene) same ∙ bare in
      let no-parts : printed.parts ≡ [] = none old.format printed same parts in record {
        settings = same;
        text = ap (λ (t : List ℕ). old.text ++ t)
            (ap (λ ps. (standard_rules).text old.format scene (record printed { parts = ps })) no-parts
            ∙ (bare-text old.format.config old.format.progress scene shown printed.call
            ∙ ap (bare_text terminator) is));
        found = match-after old.format.progress printed.call
            ∙ ap (λ c. old.format.progress.has_match || is_match c) is;
      }

  -- a call and those after it
  more-of : (old mid new : Printed StandardFormat) (planned : Planned) (later : List Planned)
      → IsMore old planned.call mid → AreBare mid later new → AreBare old (planned ∷ later) new
  more-of old mid new planned later first rest = record {
    settings = rest.settings;
    text = rest.text ∙ (ap (λ (t : List ℕ). t ++ bare_texts terminator later) first.text
        ∙ append_assoc old.text (bare_text terminator planned.call) (bare_texts terminator later));
    found = rest.found ∙ (ap (λ b. b || any-match later) first.found
        ∙ or_assoc old.format.progress.has_match (is_match planned.call) (any-match later));
  }

  no-more : (old : Printed StandardFormat) → old.format.config ≡ config → AreBare old [] old
  no-more old same = record {
    settings = same;
    text = sym (append-nil old.text);
    found = sym (or-false old.format.progress.has_match);
  }

  -- the search goes on after each call
  goes : (format : StandardFormat) (printed : PrintedCall) → format.config ≡ config
      → (standard_rules).goes_on format scene printed ≡ true
  goes format printed same =
      bare-goes-on format.config format.progress scene (ap (λ c. is_bare c scene) same ∙ bare) printed.call

  pub go-on : (calls : List Planned) (old : Printed StandardFormat) (printed : List PrintedCall)
      → old.format.config ≡ config → AllGoOn standard_rules scene HasParts old.format calls printed
      → AreBare old calls (fold (printed_with standard_rules scene) old printed)
  go-on [] old printed same none_left =
      subst (λ ps. AreBare old [] (fold (printed_with standard_rules scene) old ps)) (sym none_left) (no-more old same)
  go-on (planned ∷ later) old printed same (first, rest, split, is, parts, on, others) =
      let mid = printed_with standard_rules scene old first in
      let one = one-more old same first planned.call is parts in
      subst (λ ps. AreBare old (planned ∷ later) (fold (printed_with standard_rules scene) old ps)) (sym split)
      (more-of old mid (fold (printed_with standard_rules scene) mid rest) planned later one
      (go-on later mid rest one.settings others))

  pub along : (calls : List Planned) (finish : Finish) (old : Printed StandardFormat) (printed : List PrintedCall)
      → old.format.config ≡ config → AreAlong standard_rules scene HasParts old.format calls finish printed
      → AreBare old calls (fold (printed_with standard_rules scene) old printed)
  along [] finish old printed same (last, alone, is, parts) =
      let one = one-more old same last (finishes finish.count finish.binary) is parts in
      subst (λ ps. AreBare old [] (fold (printed_with standard_rules scene) old ps)) (sym alone) (record {
        settings = one.settings;
        text = one.text;
        found = one.found;
      })
  along (planned ∷ later) finish old printed same (first, rest, split, is, parts, inl (on, others)) =
      let mid = printed_with standard_rules scene old first in
      let one = one-more old same first planned.call is parts in
      subst (λ ps. AreBare old (planned ∷ later) (fold (printed_with standard_rules scene) old ps)) (sym split)
      (more-of old mid (fold (printed_with standard_rules scene) mid rest) planned later one
      (along later finish mid rest one.settings others))
  along (planned ∷ later) finish old printed same (first, rest, split, is, parts, inr (off, others)) =
      absurd (let on = goes old.format first same in let never : true ≡ false = sym on ∙ off in cc)

-- the settings of a format stay
pub settings-stay : (scene : Scene) (calls : List PrintedCall) (made : Printed StandardFormat)
    → (fold (printed_with standard_rules scene) made calls).format.config ≡ made.format.config
settings-stay scene [] made = refl
settings-stay scene (call ∷ later) made = settings-stay scene later (printed_with standard_rules scene made call)

-- no part is looked for if none are asked for
pub no-parts : {M W E : Type 0} (facts : M → MatcherFacts E) (first_at : M → List ℕ → ℕ → Option (ℕ × ℕ))
    (sink : PrinterSink StandardFormat M W) (settings : Settings) (format : StandardFormat) (printed : PrintedCall)
    → asks_for_parts format.config ≡ false
    → HasFound standard_rules facts first_at sink settings format printed → printed.parts ≡ []
no-parts facts first_at sink settings format printed unasked found =
    found ∙ ap (λ b. if b
    then parts_of_call settings (facts sink.matcher).meaning printed.call (first_at sink.matcher)
    else [])
    (ap (λ b. has_match settings printed.call && b) unasked ∙ and-false (has_match settings printed.call))
