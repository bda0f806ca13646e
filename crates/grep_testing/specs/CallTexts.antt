-- How calls are written, and what a recorder returns at each.
use Rattle.std.specs.Prelude.{◌≡◌, ◌⊎◌, ℕ, ◌==◌, not, Bool, true, false, List, ◌++◌, codes, decimal}
use Rattle.std.specs.Prelude.{Option, Some, None, Result, MatchResult}
use Rattle.hex.specs.Hex.{encode_lower}
use Rattle.grep_searcher.specs.declared.SinkContextKind.{SinkContextKind}
use Rattle.grep_searcher.specs.declared.SinkContextKind.TheVariants.{Before, After, Other}
use Rattle.grep_searcher.specs.Plans.{Call, begins, matches, context, breaks, binary_data}
use Rattle.grep_searcher.specs.Plans.{finishes}
use Rattle.grep_testing.specs.Counts.{counted}

-- a number, or a dash for none
abbrev pub number_text : Option ℕ → List ℕ
number_text None = codes "-"
number_text (Some n) = decimal n

-- a reported line: its kind, its number, its offset, its bytes in hex
abbrev pub line_text : List ℕ → Option ℕ → ℕ → List ℕ → List ℕ
line_text kind number offset bytes =
    kind
    ++ (codes " " ++ (number_text number
    ++ (codes " " ++ (decimal offset ++ (codes " " ++ (encode_lower bytes ++ codes ";"))))))

-- the last call: the byte count, and the offset of the first binary byte
abbrev pub finish_text : ℕ → Option ℕ → List ℕ
finish_text count binary =
    codes "finish " ++ (decimal count ++ (codes " " ++ (number_text binary ++ codes ";")))

-- the call at a binary byte: its offset
abbrev pub binary_text : ℕ → List ℕ
binary_text offset = codes "binary " ++ (decimal offset ++ codes ";")

-- the kind of a context line
abbrev pub kind_text : SinkContextKind → List ℕ
kind_text Before = codes "before"
kind_text After = codes "after"
kind_text Other = codes "other"

-- a call
abbrev pub call_text : Call → List ℕ
call_text begins = codes "begin;"
call_text (matches number offset bytes around) = line_text (codes "match") number offset bytes
call_text (context kind number offset bytes) = line_text (kind_text kind) number offset bytes
call_text breaks = codes "break;"
call_text (binary_data offset) = binary_text offset
call_text (finishes count binary) = finish_text count binary

-- whether a call's result says if the search goes on: each but the last
abbrev pub is_asked : Call → Bool
is_asked (finishes count binary) = false
is_asked _ = true

-- the text of the calls that were made, how many these were, and at which call, counted from 1,
-- false or an error is returned, if at any
pub record Notes : Type 0 where
  pub text : List ℕ
  pub calls : ℕ
  pub false_at : Option ℕ
  pub error_at : Option ℕ

-- a text is added and a call counted
abbrev pub IsAdded : Notes → List ℕ → Notes → Type 0
IsAdded old text new = new ≡ record old { text = old.text ++ text; calls = counted old.calls }

-- whether the call with this number is one that was chosen
abbrev pub is_at : Option ℕ → ℕ → Bool
is_at None call = false
is_at (Some at) call = at == call

-- the result of a call with this number: false if it is asked and chosen for that
abbrev pub goes_on : Bool → Option ℕ → ℕ → Bool
goes_on false false_at call = true
goes_on true false_at call = not (is_at false_at call)

-- a call is written and counted, and isn't the one to fail
abbrev pub IsWritten : Notes → List ℕ → Notes → Type 0
IsWritten old text new = IsAdded old text new × (is_at old.error_at new.calls ≡ false)

-- there was no memory for a call, and nothing changed; or it is written and counted, and is the one
-- to fail
abbrev pub IsFailed : Notes → List ℕ → Notes → Type 0
IsFailed old text new = (new ≡ old) ⊎ (IsAdded old text new × (is_at old.error_at new.calls ≡ true))

-- what a recorder does at a call
abbrev pub IsNoted : {E : Type 0} → Notes → Call → Result Bool E → Notes → Type 0
IsNoted old call result new = MatchResult result
    (λ goes. IsWritten old (call_text call) new
    × (goes ≡ goes_on (is_asked call) old.false_at new.calls))
    (λ _. IsFailed old (call_text call) new)
