-- Reports in which each part that matches is replaced.
use Rattle.std.specs.Prelude.{false, ℕ, ◌+◌, true, List, [], ◌∷◌, if◌then◌else◌, Option, None}
use Rattle.std.specs.Prelude.{Some}
use Rattle.grep_replace.specs.ReplacedBytes.{replaced_bytes, replaced_parts, text_of_match}
use Rattle.grep_replace.specs.declared.template.Template.{Template}
use Rattle.grep_searcher.specs.Lines.{byte_of}
use Rattle.grep_searcher.specs.Meanings.{Meaning}
use Rattle.grep_searcher.specs.Plans.{Call, Settings, is_across, matches, context, reported_bytes}
use Rattle.grep_report.specs.SinkReports.{no_surroundings}
use Rattle.grep_printer.specs.CallParts.{asked_bytes, asked_start}
use Rattle.grep_printer.specs.Formats.{PrintedCall, Rules}
use Rattle.grep_printer.specs.declared.replaced.Replacement.{Replacement}
use Rattle.grep_printer.specs.declared.replaced_format.ReplacedFormat.{ReplacedFormat}

-- what is written in place of the part at a position of a report: what the template makes of the
-- groups of the match there, in the bytes about which the matcher was asked
abbrev pub replacement_at : {M : Type 0} → (M → List ℕ → ℕ → List (Option (ℕ × ℕ)))
    → Replacement M → ℕ → List ℕ
replacement_at groups_at r position =
    text_of_match r.template.now (groups_at r.matcher) r.asked.now (r.start + position)

-- what ends a line that replacing has emptied, if anything does: by line the last byte of the
-- terminator, across lines nothing
abbrev pub end_of_line : Settings → Meaning → Option ℕ
end_of_line settings meaning =
    if is_across settings meaning then None else Some (byte_of settings.line_terminator)

-- some bytes; if there are none, the end of the line
abbrev pub ended : Option ℕ → List ℕ → List ℕ
ended None bytes = bytes
ended (Some end) [] = end ∷ []
ended (Some end) (byte ∷ bytes) = byte ∷ bytes

-- a call with other bytes in its report, and none around them
abbrev pub with_bytes : Call → List ℕ → Call
with_bytes (matches number offset old around) bytes =
    matches number offset bytes no_surroundings
with_bytes (context kind number offset old) bytes = context kind number offset bytes
with_bytes call bytes = call

-- By a template, and by the groups of the first match of a haystack from a position on.
module _ (template : Template) (groups_at : List ℕ → ℕ → List (Option (ℕ × ℕ)))
    (settings : Settings) (meaning : Meaning) where
  -- what is written in place of the part at a position of a report: what the template makes of the
  -- groups of the match there, in the bytes about which the matcher was asked
  abbrev pub text_in_place : Call → ℕ → List ℕ
  text_in_place call position =
      text_of_match template groups_at (asked_bytes settings meaning call)
      (asked_start settings meaning call + position)

  -- a report in which each part is replaced
  abbrev pub replaced_report : Call → List (ℕ × ℕ) → PrintedCall
  replaced_report call parts = record {
    call = with_bytes call (ended (end_of_line settings meaning)
        (replaced_bytes (text_in_place call) (reported_bytes call) 0 parts));
    parts = replaced_parts (text_in_place call) 0 0 parts;
  }

  -- the call as it is printed: a report with parts as they are replaced,
  -- and any other call as it is
  abbrev pub replaced_by : PrintedCall → Call → List (ℕ × ℕ) → PrintedCall
  replaced_by printed (matches number offset bytes around) (part ∷ later) =
      replaced_report (matches number offset bytes around) (part ∷ later)
  replaced_by printed (context kind number offset bytes) (part ∷ later) =
      replaced_report (context kind number offset bytes) (part ∷ later)
  replaced_by printed call parts = printed

  abbrev pub replaced_call : PrintedCall → PrintedCall
  replaced_call printed = replaced_by printed printed.call printed.parts

-- what a format writes of calls in which each part is replaced: the parts are always asked for
abbrev pub replaced_rules : {F M : Type 0} → Rules F
    → (M → List ℕ → ℕ → List (Option (ℕ × ℕ))) → (M → Meaning) → Rules (ReplacedFormat F M)
replaced_rules rules groups_at meaning_of = record {
  begun = λ format follows. record format { format = rules.begun format.format follows };
  asks = λ format call. true;
  text = λ format scene printed. rules.text format.format scene (replaced_call format.template.now
      (groups_at format.matcher) scene.settings (meaning_of format.matcher) printed);
  next = λ format scene printed. record format {
    format = rules.next format.format scene
        (replaced_call format.template.now (groups_at format.matcher) scene.settings
        (meaning_of format.matcher) printed);
  };
  goes_on = λ format scene printed. rules.goes_on format.format scene
      (replaced_call format.template.now (groups_at format.matcher) scene.settings
      (meaning_of format.matcher) printed);
  has_match = λ format. rules.has_match format.format;
  is_bare = λ format scene. false;
}
