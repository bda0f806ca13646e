-- What a printer makes of the calls of a search, whatever its format is.
use Rattle.std.specs.Prelude.{◌≡◌, ◌⊎◌, ℕ, Bool, true, false, not, ◌&&◌, ◌||◌, ◌==◌, List, [], ◌∷◌}
use Rattle.std.specs.Prelude.{◌++◌, length, Option}
use Rattle.std.specs.List.{fold}
use Rattle.grep_searcher.specs.Plans.{Call, Finish, Planned, Settings, finishes}
use Rattle.grep_printer.specs.declared.hyperlinks.PrinterPath.{PrinterPath}
use Rattle.grep_printer.specs.declared.replaced_format.ReplacedFormat.{ReplacedFormat}

-- what the text of a call depends on beside the format: the path, if there is one, and the settings
-- of the search
pub record Scene : Type 0 where
  pub path : Option PrinterPath
  pub settings : Settings

-- a call, and the parts of its report that match, if they are asked for
pub record PrintedCall : Type 0 where
  pub call : Call
  pub parts : List (ℕ × ℕ)

-- The rules of a format. A value of F has its settings, and what it keeps of the calls so far.
pub record Rules (F : Type 0) : Type 0 where
  -- the format before the first call of a search, by whether the printer has written anything
  pub begun : F → Bool → F
  -- whether the parts of a call's report are asked for, if its lines match
  pub asks : F → Call → Bool
  -- the text of a call
  pub text : F → Scene → PrintedCall → List ℕ
  -- the format after a call
  pub next : F → Scene → PrintedCall → F
  -- whether the search goes on after a call
  pub goes_on : F → Scene → PrintedCall → Bool
  -- whether the calls so far are what a search looks for
  pub has_match : F → Bool
  -- whether only bare lines are written: each line as it is, after its number alone, and what comes
  -- between groups of lines
  pub is_bare : F → Scene → Bool

-- whether there is any text
abbrev pub is_text : List ℕ → Bool
is_text bytes = not (length bytes == 0)

-- what is made of some calls: the format after them, and the text of all
pub record Printed (F : Type 0) : Type 0 where
  pub format : F
  pub text : List ℕ

module _ {F : Type 0} (rules : Rules F) (scene : Scene) where
  -- what is made of some calls and one more
  abbrev pub printed_with : Printed F → PrintedCall → Printed F
  printed_with printed call = record {
    format = rules.next printed.format scene call;
    text = printed.text ++ rules.text printed.format scene call;
  }

  -- what is made of some calls, in order
  abbrev pub printed_by : F → List PrintedCall → Printed F
  printed_by format calls = fold printed_with (record { format = format; text = [] }) calls

  -- whether the search goes on after each of some calls
  abbrev pub goes_on_after_each : F → List PrintedCall → Bool
  goes_on_after_each format [] = true
  goes_on_after_each format (printed ∷ later) =
      rules.goes_on format scene printed
      && goes_on_after_each (rules.next format scene printed) later

-- a call without parts
abbrev pub without_parts : Planned → PrintedCall
without_parts planned = record { call = planned.call; parts = [] }

module _ {F : Type 0} (rules : Rules F) (scene : Scene) where
  -- some matches come to a text, and to a format after them. They have no parts, since none are
  -- asked for or the search is inverted, and the search goes on after each
  abbrev pub AreTexts : F → List Planned → List ℕ → F → Type 0
  AreTexts format [] text new = (text ≡ []) × (new ≡ format)
  AreTexts format (planned ∷ later) text new =
      (rest : List ℕ) × (text ≡ rules.text format scene (without_parts planned) ++ rest)
      × (rules.goes_on format scene (without_parts planned) ≡ true)
      × ((scene.settings.invert_match || not (rules.asks format planned.call)) ≡ true)
      × AreTexts (rules.next format scene (without_parts planned)) later rest new

-- Calls with their parts, by what these may be.
module _ {F : Type 0} (rules : Rules F) (scene : Scene) (HasParts : F → PrintedCall → Type 0) where
  -- these calls are the planned ones, and the search goes on after each
  abbrev pub AllGoOn : F → List Planned → List PrintedCall → Type 0
  AllGoOn format [] calls = calls ≡ []
  AllGoOn format (planned ∷ later) calls =
      (first : PrintedCall) × (rest : List PrintedCall) × (calls ≡ first ∷ rest)
      × (first.call ≡ planned.call) × HasParts format first
      × (rules.goes_on format scene first ≡ true)
      × AllGoOn (rules.next format scene first) later rest

  -- this call is the only one, and ends the search
  abbrev pub IsEnd : F → Finish → List PrintedCall → Type 0
  IsEnd format finish calls =
      (last : PrintedCall) × (calls ≡ last ∷ []) × (last.call ≡ finishes finish.count finish.binary)
      × HasParts format last

  -- these calls are those of a search along a plan: the planned ones, up to the first after which
  -- the search doesn't go on, and `finish`
  abbrev pub AreAlong : F → List Planned → Finish → List PrintedCall → Type 0
  AreAlong format [] finish calls = IsEnd format finish calls
  AreAlong format (planned ∷ later) finish calls =
      (first : PrintedCall) × (rest : List PrintedCall) × (calls ≡ first ∷ rest)
      × (first.call ≡ planned.call) × HasParts format first
      × (((rules.goes_on format scene first ≡ true)
      × AreAlong (rules.next format scene first) later finish rest)
      ⊎ ((rules.goes_on format scene first ≡ false)
      × IsEnd (rules.next format scene first) planned.if_false rest))

-- a format in which each part is replaced, after a call of the format that it is made of
abbrev pub replaced_after : {F M : Type 0} → Rules F → ReplacedFormat F M → Scene → PrintedCall
    → ReplacedFormat F M
replaced_after rules replaced scene printed =
    record replaced { format = rules.next replaced.format scene printed }
