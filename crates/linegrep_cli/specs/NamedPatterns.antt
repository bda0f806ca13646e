-- The patterns that a command line names.
use Rattle.std.specs.Prelude.{◌≡◌, ℕ, Bool, true, false, ◌||◌, List, [], ◌∷◌, ◌++◌, nat_lt}
use Rattle.std.specs.Prelude.{slice_get}
use Rattle.std.specs.Prelude.{Option, None, Some, Result, Ok, Err, Vec}
use Rattle.std.specs.Borrow.{Bor}
use Rattle.std.specs.Global.{Global}
use Rattle.std.specs.List.{concat}
use Rattle.std.specs.Str.{IsUtf8}
use Rattle.std.specs.Str.Lines.{lines}
use Rattle.std.specs.declared.io.Error.{Error}
use Rattle.grep_searcher.specs.Source.{Pulls, ReadResult, Reads}
use Rattle.linegrep_options.specs.OptionUses.{is_same, last_place}
use Rattle.linegrep_options.specs.declared.option_id.OptionId.TheVariants.{File, Regexp}
use Rattle.linegrep_options.specs.declared.uses.Use.{Use}
use Rattle.linegrep_cli.specs.OperandRuns.{is_escaped, is_input}
use Rattle.linegrep_cli.specs.OptionMeanings.{operands_of}
use Rattle.linegrep_cli.specs.declared.options.Options.{Options}

-- uses of options name patterns
abbrev pub name_patterns : List Use → Bool
name_patterns uses = nat_lt 0 (last_place uses Regexp) || nat_lt 0 (last_place uses File)

-- the first operand isn't a pattern: there is none, or it isn't UTF-8
abbrev pub is_no_pattern : Option (Bor (List ℕ)) → Bool
is_no_pattern None = true
is_no_pattern (Some first) = is_escaped first.now

module _ {R : Type 0} (remaining : R → Option (List ℕ)) (read_step : R → ReadResult → R → Type 0)
    (reads : List ℕ → Result (Vec ℕ Global) Error → Type 0) where
  -- what a file of patterns has: `-` is standard input, which is read to its end, and any other is
  -- as the system has it
  pub data IsFileRead (file : List ℕ) (input : R) : List ℕ → R → Type 0 where
    of_input : {input' : R} (pieces : List (List ℕ)) → is_input file ≡ true
        → Reads remaining read_step true input pieces input'
        → IsFileRead file input (concat pieces) input'
    of_file : (contents : Vec ℕ Global) → is_input file ≡ false → reads file (Ok contents)
        → IsFileRead file input contents.items input

  -- why a file of patterns can't be read: the system can't read it, or it isn't UTF-8
  pub data IsUnread (file : List ℕ) (input : R) : R → Type 0 where
    of_failed_input : {input' : R} (pieces : List (List ℕ)) (mid : R) (error : Error)
        → is_input file ≡ true → Pulls read_step input pieces mid → read_step mid (Err error) input'
        → IsUnread file input input'
    of_failed_file : (error : Error) → is_input file ≡ false → reads file (Err error)
        → IsUnread file input input
    of_other_text : {input' : R} {contents : List ℕ} → IsFileRead file input contents input'
        → (IsUtf8 contents → ⊥) → IsUnread file input input'

  -- the patterns that one use names: the text of `-e`, the lines of a file, or none
  abbrev pub IsNamed : Use → R → List (List ℕ) → R → Type 0
  IsNamed one input own input' = by_option (is_same one.id Regexp) (is_same one.id File) one.value
    where
      by_option : Bool → Bool → Option (Bor (List ℕ)) → Type 0
      by_option is_text is_file None = (own ≡ []) × (input' ≡ input)
      by_option true is_file (Some text) = (own ≡ text.now ∷ []) × (input' ≡ input)
      by_option false true (Some file) = (contents : List ℕ)
          × IsFileRead file.now input contents input' × IsUtf8 contents × (own ≡ lines contents)
      by_option false false (Some value) = (own ≡ []) × (input' ≡ input)

  -- one use names a file of patterns that can't be read
  abbrev pub IsUnnamed : Use → R → R → Type 0
  IsUnnamed one input input' = (file : Bor (List ℕ)) × (is_same one.id File ≡ true)
      × (one.value ≡ Some file) × IsUnread file.now input input'

  -- the patterns that uses name, in their order
  abbrev pub AreNamed : List Use → R → List (List ℕ) → R → Type 0
  AreNamed [] input patterns input' = (patterns ≡ []) × (input' ≡ input)
  AreNamed (one ∷ later) input patterns input' = (own : List (List ℕ)) × (rest : List (List ℕ))
      × (mid : R) × IsNamed one input own mid × AreNamed later mid rest input'
      × (patterns ≡ own ++ rest)

  -- some uses name a file of patterns that can't be read. The uses before it were read
  abbrev pub AreUnnamed : List Use → R → R → Type 0
  AreUnnamed uses input input' = (done : List Use) × (one : Use) × (later : List Use)
      × (patterns : List (List ℕ)) × (mid : R) × (uses ≡ done ++ one ∷ later)
      × AreNamed done input patterns mid × IsUnnamed one mid input'

  -- the patterns of a command line: those that its options name, or else the first operand
  abbrev pub ArePatterns : Options → R → List (List ℕ) → R → Type 0
  ArePatterns options input patterns input' = by_names (name_patterns options.uses.now)
    where
      by_names : Bool → Type 0
      by_names true = AreNamed options.uses.now input patterns input'
      by_names false = (pattern : Bor (List ℕ))
          × (slice_get (operands_of options.operands) 0 ≡ Some pattern)
          × (is_escaped pattern.now ≡ false) × (patterns ≡ pattern.now ∷ []) × (input' ≡ input)

  -- why a command line has no patterns: a file of patterns can't be read; or no option names a
  -- pattern, and the first operand isn't one
  abbrev pub LackPatterns : Options → R → R → Type 0
  LackPatterns options input input' = by_names (name_patterns options.uses.now)
    where
      by_names : Bool → Type 0
      by_names true = AreUnnamed options.uses.now input input'
      by_names false = (is_no_pattern (slice_get (operands_of options.operands) 0) ≡ true)
          × (input' ≡ input)
