-- Of what calls have the text of lines alone.
use Rattle.std.proofs.Common.{◌≡◌, ◌∙◌, ℕ, List, [], ◌∷◌, ◌++◌, ap, ap₂, length, refl, sym}
use Rattle.std.proofs.Math.Bool.{and-false}
use Rattle.std.proofs.lemmas.Bool.{and_parts, not-true}
use Rattle.std.specs.Option.{is_none}
use Rattle.std.specs.Prelude.{Bool, ◌==◌, false, true, ◌&&◌, if◌then◌else◌, is_some, not, Option, None, Some}
use Rattle.grep_matcher.specs.Lines.{byte_of}
use Rattle.grep_searcher.specs.BinaryDetections.{convert_byte_of, quit_byte_of}
use Rattle.grep_searcher.specs.Lines.{lines}
use Rattle.grep_searcher.specs.Plans.{Call, begins, binary_data, breaks, context, finishes, matches}
use Rattle.grep_searcher.specs.declared.BinaryDetection.{BinaryDetection}
use Rattle.grep_searcher.specs.declared.BinaryDetection.TheVariants.{None as no_detection, Quit, Convert}
use Rattle.grep_printer.proofs.PlainLineLemmas.{all-ended, are_plain, line-plain, lines-plain, none-is}
use Rattle.grep_printer.proofs.SomeTextLemmas.{text-after, text-some}
use Rattle.grep_printer.specs.BareTexts.{bare_text, is_bare, is_nothing}
use Rattle.grep_printer.specs.ColoredTexts.{path_color}
use Rattle.grep_printer.specs.Formats.{Scene, is_text}
use Rattle.grep_printer.specs.LineTexts.{break_text, end_byte, is_plain, next_number, number_field}
use Rattle.grep_printer.specs.LineTexts.{path_field, plain_line, plain_lines, separator_text}
use Rattle.grep_printer.specs.PartTexts.{writes_parts}
use Rattle.grep_printer.specs.StandardTexts.{call_text, goes_on, is_hidden, layout_of}
use Rattle.grep_printer.specs.StandardTexts.{message_text, report_text, text_before}
use Rattle.grep_printer.specs.declared.config.Config.{Config}
use Rattle.grep_printer.specs.declared.config.SearchSeparator.{SearchSeparator}
use Rattle.grep_printer.specs.declared.config.SearchSeparator.TheVariants.{Blank, Groups, Nothing}
use Rattle.grep_printer.specs.declared.fields.Layout.{Layout}
use Rattle.grep_printer.specs.declared.fields.LineKind.TheVariants.{Match as match_line, Context as context_line}
use Rattle.grep_printer.specs.declared.hyperlinks.PrinterPath.{PrinterPath}
use Rattle.grep_printer.specs.declared.standard.Progress.{Progress}

nothing-is : (separator : SearchSeparator) → is_nothing separator ≡ true → separator ≡ Nothing
nothing-is Nothing is = refl
nothing-is Blank is = absurd cc
nothing-is Groups is = absurd cc

-- settings by which lines alone are written
record AreBare (config : Config) (scene : Scene) : Type 0 where
  plain : is_plain config scene.path ≡ true
  path : scene.path ≡ None
  whole : config.only_matching ≡ false
  apart : config.separator ≡ Nothing
  converts : convert_byte_of scene.settings.binary_detection ≡ None
  quits : quit_byte_of scene.settings.binary_detection ≡ None

are-bare : (config : Config) (scene : Scene) → is_bare config scene ≡ true → AreBare config scene
are-bare config scene bare =
    let a = and_parts _ (is_none (quit_byte_of scene.settings.binary_detection)) bare in
    let b = and_parts _ (is_none (convert_byte_of scene.settings.binary_detection)) a.0 in
    let c = and_parts _ (is_nothing config.separator) b.0 in
    let d = and_parts _ (not config.only_matching) c.0 in
    let e = and_parts (is_plain config scene.path) (is_none scene.path) d.0 in
    record {
      plain = e.0;
      path = none-is scene.path e.1;
      whole = not-true config.only_matching d.1;
      apart = nothing-is config.separator c.1;
      converts = none-is (convert_byte_of scene.settings.binary_detection) b.1;
      quits = none-is (quit_byte_of scene.settings.binary_detection) a.1;
    }

-- no text either way
none-either : (b : Bool) (xs ys : List ℕ) → xs ≡ [] → ys ≡ [] → (if b then xs else ys) ≡ []
none-either true xs ys left right = left
none-either false xs ys left right = right

-- nothing comes before the first report
no-opening : (config : Config) (scene : Scene) (progress : Progress) → AreBare config scene
    → text_before (layout_of config scene) progress ≡ []
no-opening config scene progress are =
    none-either progress.is_open [] _ refl (ap₂ (λ (xs ys : List ℕ). xs ++ ys)
    (none-either progress.follows _ [] (ap (λ s. separator_text s config.separators
    (byte_of scene.settings.line_terminator)) are.apart) refl)
    (none-either config.heading _ [] (ap (path_field (path_color config.color_specs) _) are.path) refl))

-- nothing is written of a binary byte
no-message : (color : Option (List ℕ)) (detection : BinaryDetection) (path : Option PrinterPath) (binary : Option ℕ)
    → convert_byte_of detection ≡ None → quit_byte_of detection ≡ None → message_text color detection path binary ≡ []
no-message color detection path None converts quits = refl
no-message color no_detection path (Some offset) converts quits = refl
no-message color (Quit byte) path (Some offset) converts quits = absurd cc
no-message color (Convert byte) path (Some offset) converts quits = absurd cc

-- a report is shown
module _ (config : Config) (progress : Progress) (scene : Scene) (are : AreBare config scene) where
  abbrev layout : Layout
  layout = layout_of config scene

  shown : (text : List ℕ)
      → (if is_hidden progress scene.settings.binary_detection then [] else text_before layout progress ++ text)
      ≡ text
  shown text =
      ap (λ b. if b then [] else text_before layout progress ++ text)
      (ap (λ (c : Option ℕ). is_some progress.binary && is_some c) are.converts ∙ and-false (is_some progress.binary))
      ∙ ap (λ (xs : List ℕ). xs ++ text) (no-opening config scene progress are)

  abbrev instead : List ℕ → List ℕ → Bool → List ℕ
  instead in_parts in_lines by_parts = if by_parts then in_parts else in_lines

  no-parts : writes_parts layout [] ≡ false
  no-parts = ap (λ b. b && false) are.whole

  -- the text of a call without parts is that of its lines
  bare-is : (call : Call)
      → call_text config progress scene call [] ≡ bare_text (byte_of scene.settings.line_terminator) call
  bare-is begins = refl
  bare-is (matches number offset bytes around) =
      shown (report_text layout (matches number offset bytes around) [])
      ∙ (ap (instead _ _) no-parts
      ∙ lines-plain layout match_line are.plain
      (record { number = number; column = None; offset = offset; start = 0 }) [] (lines (end_byte layout) bytes))
  bare-is (context kind number offset line) =
      shown (report_text layout (context kind number offset line) [])
      ∙ (ap (instead _ _) no-parts
      ∙ line-plain layout context_line are.plain
      (record { number = number; column = None; offset = offset; start = 0 }) [] line)
  bare-is breaks = ap (λ s. break_text s (end_byte layout)) (none-is config.separators
      (are_plain config scene.path are.plain).apart)
  bare-is (binary_data offset) = refl
  bare-is (finishes count binary) =
      none-either progress.has_match _ [] (no-message (path_color config.color_specs) scene.settings.binary_detection
      scene.path binary are.converts are.quits) refl

-- and the search goes on after each call
pub bare-goes-on : (config : Config) (progress : Progress) (scene : Scene) → is_bare config scene ≡ true
    → (call : Call) → goes_on progress scene.settings.binary_detection call ≡ true
bare-goes-on config progress scene bare call =
    elim call as (λ c. goes_on progress scene.settings.binary_detection c ≡ true) [
      | begins ↦ refl
      | matches number offset bytes around ↦ ap not hidden
      | context kind number offset line ↦ ap not hidden
      | breaks ↦ refl
      | binary_data offset ↦ refl
      | finishes count binary ↦ refl
    ]
  where
    hidden : is_hidden progress scene.settings.binary_detection ≡ false
    hidden =
        ap (λ (c : Option ℕ). is_some progress.binary && is_some c) (are-bare config scene bare).converts
        ∙ and-false (is_some progress.binary)

pub bare-text : (config : Config) (progress : Progress) (scene : Scene) → is_bare config scene ≡ true → (call : Call)
    → call_text config progress scene call [] ≡ bare_text (byte_of scene.settings.line_terminator) call
bare-text config progress scene bare = bare-is config progress scene (are-bare config scene bare)

-- a text with a byte, and another one after it
text-before : (first later : List ℕ) → is_text first ≡ true → is_text (first ++ later) ≡ true
text-before [] later some = absurd cc
text-before (byte ∷ first) later some = text-some byte (first ++ later)

-- the lines of some bytes have text exactly if there is a byte
pub lines-text : (terminator : ℕ) (number : Option ℕ) (bytes : List ℕ)
    → is_text (plain_lines terminator 58 number (lines terminator bytes)) ≡ not (length bytes == 0)
lines-text terminator number [] = refl
lines-text terminator number (byte ∷ bytes) =
    let all = all-ended terminator byte bytes in
    ap (λ ls. is_text (plain_lines terminator 58 number ls)) all.is
    ∙ (text-before (plain_line terminator 58 number (all.byte ∷ all.line))
    (plain_lines terminator 58 (next_number number) all.later)
    (text-after (number_field None (58 ∷ []) number) _ (text-some all.byte _))
    ∙ sym (text-some byte bytes))
