-- What a search of some bytes writes if nothing fails, and what searches in a row write.
use Rattle.std.specs.Prelude.{◌≡◌, ℕ, Bool, true, false, ◌&&◌, ◌||◌, List, [], ◌∷◌, ◌++◌}
use Rattle.std.specs.Prelude.{MatchBool, Option}
use Rattle.grep_printer.specs.CallParts.{HasParts, has_match}
use Rattle.grep_printer.specs.CountedTexts.{counted_rules, stats_text}
use Rattle.grep_printer.specs.Formats.{AreAlong, PrintedCall, Rules, Scene, is_text, printed_by}
use Rattle.grep_printer.specs.Hyperlinks.{shown_path}
use Rattle.grep_printer.specs.JsonMessages.{json_line, summary_json}
use Rattle.grep_printer.specs.JsonTexts.{end_text, json_rules, stats_of}
use Rattle.grep_printer.specs.ReplacedTexts.{replaced_rules}
use Rattle.grep_printer.specs.ReplacerTexts.{TextAt, optional_text_at, template_text_at}
use Rattle.grep_printer.specs.StandardTexts.{standard_rules}
use Rattle.grep_printer.specs.StatsSums.{no_stats, stats_sum}
use Rattle.grep_printer.specs.SummaryTexts.{summary_rules}
use Rattle.grep_printer.specs.VimgrepTexts.{vimgrep_rules}
use Rattle.grep_printer.specs.declared.hyperlinks.PrinterPath.{PrinterPath}
use Rattle.grep_printer.specs.declared.counted.CountedFormat.{CountedFormat}
use Rattle.grep_printer.specs.declared.json_printer.JsonFormat.{JsonFormat}
use Rattle.grep_printer.specs.declared.stats.Stats.{Stats}
use Rattle.grep_searcher.specs.Meanings.{MatcherFacts}
use Rattle.grep_searcher.specs.Plans.{Plan, Settings}
use Rattle.grep_searcher.specs.Searches.{BinaryPoint, IsPoint, Look, look_of, plan_with}
use Rattle.grep_searcher.specs.Searches.{searched_bytes, viewed_plan}
use Rattle.linegrep_cli.specs.PrintingEngines.{detection_with}
use Rattle.linegrep_cli.specs.declared.printers.Printer.{Printer}
use Rattle.linegrep_cli.specs.declared.printers.Printer.TheVariants.{Json, Lines, Parts}
use Rattle.linegrep_cli.specs.declared.printers.Printer.TheVariants.{ReplacedLines}
use Rattle.linegrep_cli.specs.declared.printers.Printer.TheVariants.{ReplacedParts, Summary}

-- Something that is searched: the path that is written of it, if one is; what was read of it, and
-- whether that is all; and whether the search ends once it is found to be binary.
pub record Input : Type 0 where
  pub path : Option PrinterPath
  pub read : List ℕ
  pub is_all : Bool
  pub quits : Bool

-- bytes that an input may have: they begin with what was read of it, or are that if it is all
abbrev pub MayHave : Input → List ℕ → Type 0
MayHave input bytes = (more : List ℕ) × (input.is_all ≡ true → more ≡ [])
    × (bytes ≡ input.read ++ more)

-- the settings with which an input is searched
abbrev pub settings_for : Settings → Bool → Settings
settings_for settings quits = record settings {
  binary_detection = detection_with quits settings.binary_detection;
}

module _ {F M E : Type 0} (rules : Rules F) (facts : M → MatcherFacts E)
    (first_at : M → List ℕ → ℕ → Option (ℕ × ℕ)) (settings : Settings) (matcher : M)
    (path : Option PrinterPath) where
  abbrev pub scene : Scene
  scene = record { path = path; settings = settings }

  -- where the search looks for binary bytes, and its plan
  abbrev pub look : Look
  look = look_of settings (facts matcher).meaning false

  abbrev pub plan_of : List ℕ → Plan
  plan_of bytes = viewed_plan settings (facts matcher).meaning look bytes

  -- the parts of a call that match, if a format asks for them
  abbrev pub HasAsked : F → PrintedCall → Type 0
  HasAsked format printed = HasParts (first_at matcher) settings (facts matcher).meaning
      (has_match settings printed.call && rules.asks format printed.call) printed

  -- What a search of some decoded bytes writes: the text of the calls of its plan, in order, by a
  -- format that it begins with and one that it ends with. The plan has a point where a binary byte
  -- is reported, if one is.
  pub record IsTextOf (begun : F) (bytes : List ℕ) (last : F) (text : List ℕ) : Type 0 where
    pub count : ℕ
    pub point : Option BinaryPoint
    pub is_point : IsPoint settings (facts matcher).meaning bytes look count
        (plan_of bytes).calls point
    pub printed : List PrintedCall
    pub along : AreAlong rules scene HasAsked begun
        (plan_with settings.binary_detection point (plan_of bytes)).calls
        (plan_with settings.binary_detection point (plan_of bytes)).finish printed
    pub text_is : text ≡ (printed_by rules scene begun printed).text
    pub last_is : last ≡ (printed_by rules scene begun printed).format

-- what came of searches: whether one found something, what was counted, and what was written
pub record Findings : Type 0 where
  pub found : Bool
  pub stats : Stats
  pub text : List ℕ

abbrev pub no_findings : Findings
no_findings = record { found = false; stats = no_stats; text = [] }

-- what came of some searches, and of one more after them
abbrev pub findings_then : Findings → Findings → Findings
findings_then before next = record {
  found = before.found || next.found;
  stats = stats_sum before.stats next.stats;
  text = before.text ++ next.text;
}

-- By a searcher's settings and a matcher, for a path and some bytes.
module _ {M E : Type 0} (facts : M → MatcherFacts E)
    (first_at : M → List ℕ → ℕ → Option (ℕ × ℕ)) (settings : Settings) (matcher : M)
    (path : Option PrinterPath) (bytes : List ℕ) where
  -- what comes of a search by a format that may count, by whether anything was written before. The
  -- time that it took is any
  pub record IsCountedText {F : Type 0} (rules : Rules F) (format : CountedFormat F)
      (follows : Bool) (findings : Findings) : Type 0 where
    pub last : CountedFormat F
    pub of : IsTextOf (counted_rules rules) facts first_at settings matcher path
        ((counted_rules rules).begun format follows) bytes last findings.text
    pub found_is : findings.found ≡ (counted_rules rules).has_match last
    pub elapsed : ℕ
    pub stats_is : findings.stats ≡ record last.stats { elapsed = elapsed }

  -- what comes of a search that is written as messages: the texts of its calls, and the message
  -- that it has ended
  pub record IsJsonText {T : Type 0} (text_at : T → TextAt) (format : JsonFormat T)
      (follows : Bool) (findings : Findings) : Type 0 where
    pub last : JsonFormat T
    pub body : List ℕ
    pub of : IsTextOf (json_rules text_at) facts first_at settings matcher path
        ((json_rules text_at).begun format follows) bytes last body
    pub found_is : findings.found ≡ (json_rules text_at).has_match last
    pub elapsed : ℕ
    pub stats_is : findings.stats ≡ stats_of last.progress elapsed
    pub text_is : findings.text ≡ body ++ end_text (shown_path path) last.progress elapsed

module _ {M E : Type 0} (facts : M → MatcherFacts E)
    (first_at : M → List ℕ → ℕ → Option (ℕ × ℕ))
    (groups_at : M → List ℕ → ℕ → List (Option (ℕ × ℕ))) (settings : Settings) (matcher : M) where
  -- what comes of a search by a printer's format, by whether anything was written before
  abbrev pub IsTextBy : Printer M → Bool → Option PrinterPath → List ℕ → Findings → Type 0
  IsTextBy (Lines run) follows path bytes = IsCountedText facts first_at settings matcher path bytes
      standard_rules run.printer.format follows
  IsTextBy (Parts run) follows path bytes = IsCountedText facts first_at settings matcher path bytes
      vimgrep_rules run.printer.format follows
  IsTextBy (ReplacedLines run) follows path bytes = IsCountedText facts first_at settings matcher
      path bytes (replaced_rules standard_rules groups_at (λ m. (facts m).meaning))
      run.printer.format follows
  IsTextBy (ReplacedParts run) follows path bytes = IsCountedText facts first_at settings matcher
      path bytes (replaced_rules vimgrep_rules groups_at (λ m. (facts m).meaning))
      run.printer.format follows
  IsTextBy (Summary run) follows path bytes = IsCountedText facts first_at settings matcher path
      bytes summary_rules run.printer.format follows
  IsTextBy (Json run) follows path bytes = IsJsonText facts first_at settings matcher path bytes
      (optional_text_at (template_text_at groups_at (λ m. (facts m).meaning))) run.printer.format
      follows

-- a format that counts writes its counts at the end, and another one nothing
abbrev pub AreCounts : {F : Type 0} → CountedFormat F → Stats → List ℕ → Type 0
AreCounts format stats text = MatchBool format.is_counting
    ((elapsed : ℕ) × (text ≡ stats_text stats elapsed)) (text ≡ [])

-- what a printer writes after all searches, by what was counted in them
abbrev pub AreTotals : {M : Type 0} → Printer M → Stats → List ℕ → Type 0
AreTotals (Lines run) = AreCounts run.printer.format
AreTotals (Parts run) = AreCounts run.printer.format
AreTotals (ReplacedLines run) = AreCounts run.printer.format
AreTotals (ReplacedParts run) = AreCounts run.printer.format
AreTotals (Summary run) = AreCounts run.printer.format
AreTotals (Json run) = λ stats text.
    (elapsed : ℕ) × (text ≡ json_line (summary_json stats elapsed))

-- By a searcher's settings, a matcher and a printer.
module _ {M E : Type 0} (facts : M → MatcherFacts E)
    (first_at : M → List ℕ → ℕ → Option (ℕ × ℕ))
    (groups_at : M → List ℕ → ℕ → List (Option (ℕ × ℕ))) (settings : Settings) (matcher : M)
    (printer : Printer M) where
  -- what comes of the search of an input, whichever bytes it may have
  abbrev pub IsTextFor : Bool → Input → Findings → Type 0
  IsTextFor follows input findings = (bytes : List ℕ) → MayHave input bytes
      → IsTextBy facts first_at groups_at (settings_for settings input.quits) matcher printer
      follows input.path (searched_bytes (settings_for settings input.quits) bytes) findings

  -- what comes of searches in a row: the text of each is after those before it
  pub data AreTextsFor : List Input → Findings → Type 0 where
    no_input : AreTextsFor [] no_findings
    next_input : {inputs : List Input} {before : Findings} (input : Input) (next : Findings)
        → AreTextsFor inputs before → IsTextFor (is_text before.text) input next
        → AreTextsFor (inputs ++ input ∷ []) (findings_then before next)
