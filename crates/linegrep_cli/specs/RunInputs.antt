-- What a run searches, in which order, if all of it can be read.
use Rattle.std.specs.Prelude.{◌<◌, length}
use Rattle.std.specs.Prelude.{◌≡◌, ℕ, Bool, true, false, List, [], ◌∷◌, ◌++◌, None, Option}
use Rattle.std.specs.Prelude.{MatchBool, Result, Ok, Err, String, codes, not, string_bytes}
use Rattle.std.specs.Borrow.{Bor}
use Rattle.std.specs.Global.{Global}
use Rattle.std.specs.Io.KnownBytes.{Consumes, IsAtEnd}
use Rattle.std.specs.List.{concat}
use Rattle.std.specs.declared.io.Error.{Error}
use Rattle.grep_searcher.specs.Searches.{Reads}
use Rattle.grep_searcher.specs.Source.{ReadResult}
use Rattle.grep_printer.specs.declared.hyperlinks.HyperlinkConfig.{HyperlinkConfig}
use Rattle.linegrep_cli.specs.FoundFiles.{AreFoundSorted}
use Rattle.linegrep_cli.specs.HyperlinkOptions.{IsPathShown}
use Rattle.linegrep_cli.specs.OperandRuns.{IsLeftOut, is_bare, is_escaped}
use Rattle.linegrep_cli.specs.OperandRuns.{is_input, path_of}
use Rattle.linegrep_cli.specs.SearchTexts.{Input}
use Rattle.linegrep_cli.specs.declared.late.Target.TheVariants.{File as FileTarget, StandardInput}
use Rattle.linegrep_cli.specs.declared.late.Waiting.{Waiting}
use Rattle.linegrep_cli.specs.declared.scope.Scope.{Scope}
use Rattle.linegrep_files.specs.FolderFacts.{FolderFacts}
use Rattle.linegrep_files.specs.Orders.{is_late}
use Rattle.linegrep_files.specs.Trees.{AreAllOf}
use Rattle.linegrep_files.specs.declared.choices.Choices.{Choices}
use Rattle.linegrep_files.specs.declared.entry.Entry.{Entry}
use Rattle.linegrep_files.specs.declared.entry.Entry.TheVariants.{File, Folder}
use Rattle.linegrep_files.specs.declared.file_id.FileId.{FileId}

-- some bytes are the front of those that remain to be read, and all of them if reading came to its
-- end. If it isn't known which remain, nothing is said
abbrev pub AreReadOf : Option (List ℕ) → List ℕ → Bool → Type 0
AreReadOf remaining read is_all = (after : Option (List ℕ)) × Consumes remaining after read
    × (is_all ≡ true → IsAtEnd after)

-- a file, and the path that is written of it
pub record IsFileInput {F : Type 0} (file_remaining : F → Option (List ℕ)) (folders : FolderFacts)
    (separator : Option ℕ) (hyperlinks : Option (Bor HyperlinkConfig))
    (path : Option (Bor (List ℕ))) (file : F) (quits : Bool) (input : Input) : Type 0 where
  pub shown : IsPathShown folders separator hyperlinks path input.path
  pub quits_is : input.quits ≡ quits
  pub read : AreReadOf (file_remaining file) input.read input.is_all

-- standard input, and the path that is written of it, which is no link
pub record IsReaderInput {R : Type 0} (remaining : R → Option (List ℕ))
    (read_step : R → ReadResult → R → Type 0) (folders : FolderFacts) (separator : Option ℕ)
    (path : Option (Bor (List ℕ))) (reader : R) (input : Input) (reader' : R) : Type 0 where
  pub shown : IsPathShown folders separator None path input.path
  pub quits_is : input.quits ≡ false
  pub pieces : List (List ℕ)
  pub read_is : input.read ≡ concat pieces
  pub calls : Reads remaining read_step input.is_all reader pieces reader'
  pub read : AreReadOf (remaining reader) input.read input.is_all

module _ {F R : Type 0} (folders : FolderFacts) (finds : List ℕ → Result Bool Error → Type 0)
    (opens : List ℕ → Result F Error → Type 0) (identifies : F → Option FileId → Type 0)
    (scope : Scope) (IsFile : Option (Bor (List ℕ)) → F → Bool → Input → Type 0)
    (IsReader : Option (Bor (List ℕ)) → R → Input → R → Type 0) where
  -- the file at a path, which isn't left out
  pub record IsAtPath (path : Bor (List ℕ)) (quits : Bool) (input : Input) : Type 0 where
    pub file : F
    pub opened : opens path.now (Ok file)
    pub kept : IsLeftOut identifies scope file false
    pub is_file : IsFile (path_of scope path) file quits input

  -- The files among the entries of a folder, in their order. The search of such a file ends once it
  -- is found to be binary, unless options ask for binary files.
  pub data AreFiles : List Entry → List Input → Type 0 where
    no_entry : AreFiles [] []
    next_file : {entries : List Entry} {inputs : List Input} (path : Bor (List ℕ))
        (text : String Global) (input : Input) → AreFiles entries inputs
        → path.now ≡ string_bytes text → IsAtPath path (not scope.searches_binary) input
        → AreFiles (entries ++ File text ∷ []) (inputs ++ input ∷ [])
    next_folder : {entries : List Entry} {inputs : List Input} (text : String Global)
        → AreFiles entries inputs → AreFiles (entries ++ Folder text ∷ []) inputs

  -- what is searched of a folder: the files of the entries that are visited of it by choices
  pub record AreOfFolder (choices : Choices) (folder : List ℕ) (inputs : List Input) : Type 0 where
    pub entries : List Entry
    pub all : AreAllOf folders scope.route choices folder entries
    pub files : AreFiles entries inputs

  -- standard input, under its name, which isn't left out
  abbrev pub IsStandardInput : R → Input → R → Type 0
  IsStandardInput reader input reader' = (scope.leaves_out_input ≡ false)
      × (name : Bor (List ℕ)) × (name.now ≡ codes "<stdin>")
      × IsReader (path_of scope name) reader input reader'

  -- there is no folder at a path: there is something else, or nothing was found
  abbrev pub IsNoFolder : List ℕ → Type 0
  IsNoFolder path = (found : Result Bool Error) × finds path found × IsOther found
    where
      IsOther : Result Bool Error → Type 0
      IsOther (Ok is_folder) = is_folder ≡ false
      IsOther (Err error) = Unit {0}

  -- what is searched for an operand
  pub data AreOfOperand (choices : Choices) (path : Bor (List ℕ)) (reader : R)
      : List Input → R → Type 0 where
    of_input : {reader' : R} (input : Input) → is_input path.now ≡ true
        → IsStandardInput reader input reader'
        → AreOfOperand choices path reader (input ∷ []) reader'
    of_file : (input : Input) → is_input path.now ≡ false → is_escaped path.now ≡ false
        → IsNoFolder path.now → IsAtPath path false input
        → AreOfOperand choices path reader (input ∷ []) reader
    of_folder : {inputs : List Input} → is_input path.now ≡ false → is_escaped path.now ≡ false
        → finds path.now (Ok true) → AreOfFolder choices path.now inputs
        → AreOfOperand choices path reader inputs reader

  -- what is searched for operands, in their order
  pub data AreOfOperands (choices : Choices) (reader : R) : List (Bor (List ℕ)) → List Input → R
      → Type 0 where
    no_operand : AreOfOperands choices reader [] [] reader
    next_operand : {paths : List (Bor (List ℕ))} {inputs next : List Input} {mid reader' : R}
        (path : Bor (List ℕ)) → AreOfOperands choices reader paths inputs mid
        → AreOfOperand choices path mid next reader'
        → AreOfOperands choices reader (paths ++ path ∷ []) (inputs ++ next) reader'

  -- what is searched without an operand: standard input, if options say so; or else the current
  -- folder, in which there is a file to search
  pub data AreOfNone (choices : Choices) (reader : R) : List Input → R → Type 0 where
    of_standard_input : {reader' : R} (input : Input) → scope.searches_input ≡ true
        → IsStandardInput reader input reader' → AreOfNone choices reader (input ∷ []) reader'
    of_here : {inputs : List Input} → scope.searches_input ≡ false
        → AreOfFolder choices [] inputs → 0 < length inputs
        → AreOfNone choices reader inputs reader

  -- what a run searches that visits one operand after another
  abbrev pub AreSearchedInTurn : Choices → List (Bor (List ℕ)) → R → List Input → R → Type 0
  AreSearchedInTurn choices [] reader inputs reader' = AreOfNone choices reader inputs reader'
  AreSearchedInTurn choices (path ∷ later) reader inputs reader' =
      AreOfOperands choices reader (path ∷ later) inputs reader'

  -- what is searched of what waits, in its order
  pub data AreOfWaiting (reader : R) : List Waiting → List Input → R → Type 0 where
    none_waits : AreOfWaiting reader [] [] reader
    input_waits : {waiting : List Waiting} {inputs : List Input} {mid reader' : R} (one : Waiting)
        (input : Input) → AreOfWaiting reader waiting inputs mid → one.target ≡ StandardInput
        → IsStandardInput mid input reader'
        → AreOfWaiting reader (waiting ++ one ∷ []) (inputs ++ input ∷ []) reader'
    file_waits : {waiting : List Waiting} {inputs : List Input} {mid : R} (one : Waiting)
        (quits : Bool) (path : Bor (List ℕ)) (input : Input)
        → AreOfWaiting reader waiting inputs mid → one.target ≡ FileTarget quits
        → path.now ≡ string_bytes one.file.path → IsAtPath path quits input
        → AreOfWaiting reader (waiting ++ one ∷ []) (inputs ++ input ∷ []) mid

  -- What a run searches that finds all of it first. In the current folder, which is searched
  -- without an operand, there is a file to search.
  pub record AreSearchedLate (choices : Choices) (paths : List (Bor (List ℕ))) (reader : R)
      (inputs : List Input) (reader' : R) : Type 0 where
    pub sorted : List Waiting
    pub are_sorted : AreFoundSorted folders finds scope choices paths sorted
    pub searched : AreOfWaiting reader sorted inputs reader'
    pub some : is_bare paths ≡ true → scope.searches_input ≡ false → 0 < length inputs

  -- what a run searches, by its operands and its order
  abbrev pub AreSearched : Choices → List (Bor (List ℕ)) → R → List Input → R → Type 0
  AreSearched choices paths reader inputs reader' = MatchBool (is_late scope.order)
      (AreSearchedLate choices paths reader inputs reader')
      (AreSearchedInTurn choices paths reader inputs reader')
