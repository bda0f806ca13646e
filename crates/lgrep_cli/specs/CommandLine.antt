-- What the arguments of a program ask for.
use Rattle.std.specs.Prelude.{◌≡◌, ℕ, Bool, true, false, ◌&&◌, ◌==◌, codes, if◌then◌else◌, List, []}
use Rattle.std.specs.Prelude.{◌∷◌, ◌++◌, map, length, nat_lt, slice_index, Option, Some, None}
use Rattle.std.specs.Prelude.{option_to_list, String, string_bytes}
use Rattle.std.specs.Borrow.{Bor}
use Rattle.std.specs.Global.{Global}
use Rattle.std.specs.Option.{option_map, unwrap_or}
use Rattle.std.specs.Str.{bytes_eq}
use Rattle.lgrep_cli.specs.Numerals.{number_of}
use Rattle.lgrep_cli.specs.declared.options.Options.{Options}

-- what a command line asks for; `None` is a number that it leaves open, or no path
pub record Request : Type 0 where
  pub invert : Bool
  pub multi_line : Bool
  pub after : Option ℕ
  pub before : Option ℕ
  pub passthru : Bool
  pub max : Option ℕ
  pub count : Bool
  pub literal : List ℕ
  pub path : Option (List ℕ)

-- a literal without options and without a path
abbrev pub bare : List ℕ → Request
bare literal = record {
  invert = false;
  multi_line = false;
  after = None;
  before = None;
  passthru = false;
  max = None;
  count = false;
  literal = literal;
  path = None;
}

-- an option in front of a command line, which sets what the rest of the line leaves open
abbrev pub with_invert : Request → Request
with_invert later = record later { invert = true }

abbrev pub with_multi_line : Request → Request
with_multi_line later = record later { multi_line = true }

abbrev pub with_passthru : Request → Request
with_passthru later = record later { passthru = true }

abbrev pub with_count : Request → Request
with_count later = record later { count = true }

abbrev pub with_after : ℕ → Request → Request
with_after number later = record later { after = Some (unwrap_or later.after number) }

abbrev pub with_before : ℕ → Request → Request
with_before number later = record later { before = Some (unwrap_or later.before number) }

abbrev pub with_max : ℕ → Request → Request
with_max number later = record later { max = Some (unwrap_or later.max number) }

-- an option that needs a number in front of a command line: without one there is no command line
abbrev pub with_number : (ℕ → Request → Request) → Option ℕ → Option Request → Option Request
with_number set None later = None
with_number set (Some number) later = option_map (set number) later

-- a dash and more
abbrev pub is_dashed : List ℕ → Bool
is_dashed argument = (slice_index argument 0 == 45) && nat_lt 1 (length argument)

-- what the arguments after the options ask for: the literal, then a path or nothing
abbrev pub operands_of : List (List ℕ) → Option Request
operands_of [] = None
operands_of (literal ∷ []) = Some (bare literal)
operands_of (literal ∷ path ∷ []) = Some (record (bare literal) { path = Some path })
operands_of (literal ∷ path ∷ next ∷ later) = None

-- what some arguments ask for; `None` is a usage error. The options come first, each with its
-- number if it needs one, and `--` ends them; the others are the literal and the path
abbrev pub request_of : List (List ℕ) → Option Request
request_of [] = None
request_of (argument ∷ []) = if is_dashed argument then None else operands_of (argument ∷ [])
request_of (argument ∷ next ∷ later) =
    if bytes_eq argument (codes "-v") then option_map with_invert (request_of (next ∷ later))
    else if bytes_eq argument (codes "-U")
    then option_map with_multi_line (request_of (next ∷ later))
    else if bytes_eq argument (codes "--passthru")
    then option_map with_passthru (request_of (next ∷ later))
    else if bytes_eq argument (codes "-c") then option_map with_count (request_of (next ∷ later))
    else if bytes_eq argument (codes "-A")
    then with_number with_after (number_of next) (request_of later)
    else if bytes_eq argument (codes "-B")
    then with_number with_before (number_of next) (request_of later)
    else if bytes_eq argument (codes "-m")
    then with_number with_max (number_of next) (request_of later)
    else if bytes_eq argument (codes "--") then operands_of (next ∷ later)
    else if is_dashed argument then None
    else operands_of (argument ∷ next ∷ later)

-- the text of an argument, if there is one
abbrev pub text_of : Option (Bor (String Global)) → Option (List ℕ)
text_of argument = option_map (λ text. string_bytes text.now) argument

-- the texts of some arguments
abbrev pub texts : List (String Global) → List (List ℕ)
texts arguments = map string_bytes arguments

-- the literal, and the path if there is one
abbrev pub operands : List ℕ → Option (List ℕ) → List (List ℕ)
operands literal path = literal ∷ option_to_list path

-- the operands that some options were read with
abbrev pub operands_in : Options → List (List ℕ)
operands_in options = operands (string_bytes options.literal) (option_map string_bytes options.path)

-- these are the last arguments, in order
pub record AreLast (last arguments : List (List ℕ)) : Type 0 where
  pub front : List (List ℕ)
  pub split : arguments ≡ front ++ last

-- these options are what is asked for; a context that is left open is 0
pub record AreOptionsOf (request : Request) (options : Options) : Type 0 where
  pub invert : options.invert ≡ request.invert
  pub multi_line : options.multi_line ≡ request.multi_line
  pub after : options.after ≡ unwrap_or request.after 0
  pub before : options.before ≡ unwrap_or request.before 0
  pub passthru : options.passthru ≡ request.passthru
  pub max : options.max ≡ request.max
  pub count : options.count ≡ request.count
  pub literal : string_bytes options.literal ≡ request.literal
  pub path : option_map string_bytes options.path ≡ request.path

-- the arguments ask for these options
abbrev pub AskFor : List (String Global) → Options → Type 0
AskFor arguments options = (request : Request) × (request_of (texts arguments) ≡ Some request)
    × AreOptionsOf request options

-- the arguments are a usage error
abbrev pub AskForNothing : List (String Global) → Type 0
AskForNothing arguments = request_of (texts arguments) ≡ None

-- the arguments ask for some options
abbrev pub AskForSomething : List (String Global) → Type 0
AskForSomething arguments = (request : Request) × (request_of (texts arguments) ≡ Some request)
