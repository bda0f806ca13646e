-- The notes of the names in a folder.
use Rattle.std.proofs.Common.{◌≡◌, ℕ, Bool, true, false, if◌then◌else◌}
use Rattle.std.proofs.Common.{List, [], ◌∷◌, ◌++◌, ap, refl, sym, subst, ◌∙◌, append_assoc}
use Rattle.std.specs.Global.{Global}
use Rattle.std.specs.Prelude.{Err, MatchOption, None, Ok, IfOk, Option}
use Rattle.std.specs.Prelude.{Result, Some, String, Vec, is_some, string_bytes}
use Rattle.std.specs.Option.{option_map}
use Rattle.std.specs.declared.io.Error.{Error}
use Rattle.std.proofs.lemmas.Bool.{false≢true, true≢false}
use Rattle.std.proofs.lemmas.List.{append-nil}
use Rattle.grep_ignore.specs.Classes.{is_empty}
use Rattle.linegrep_files.specs.Choices.{SaysTheSame, notes_of}
use Rattle.linegrep_files.specs.Folders.{AreNotes, IsFound, is_name, names_of, no_note, with_note}
use Rattle.linegrep_files.specs.Folders.{without_note}
use Rattle.linegrep_files.specs.Notes.{AreNoted, IsNote, IsWord, file_of}
use Rattle.linegrep_files.specs.Paths.{joined, parts_of}
use Rattle.linegrep_files.specs.declared.choices.Choices.{Choices}
use Rattle.linegrep_files.specs.declared.entry.Entry.{Entry}
use Rattle.linegrep_files.specs.declared.folders.Found.{Found}
use Rattle.linegrep_files.specs.declared.notes.Note.{Note}
use Rattle.linegrep_files.specs.declared.notes.Reason.{Reason}
use Rattle.linegrep_files.proofs.FoundLemmas.{names-take}

-- a note by choices that say the same is a note
pub note-same : (old new : Choices) (path : List ℕ) (reason : Reason) (note : Note)
    → SaysTheSame old new → IsNote new path reason note → IsNote old path reason note
note-same old new path reason note same is = record {
  path_is = is.path_is;
  reason_is = is.reason_is;
  file_is = is.file_is ∙ ap (λ layers. file_of (record old { ignores = record old.ignores { layers = layers } }) reason)
      same.ignores.layers;
}

-- a path with the word for a name
pub word-path : {E : Type 0} (result : Result (String Global) E) (folder name word asked : List ℕ)
    → IsWord name word → asked ≡ word → IfOk result (λ path. string_bytes path ≡ joined folder asked)
    → IfOk result (λ path. (word : List ℕ) × IsWord name word × (string_bytes path ≡ joined folder word))
word-path (Ok path) folder name word asked is same path_is = (word, is, path_is ∙ ap (joined folder) same)
word-path (Err error) folder name word asked is same path_is = tt

-- notes that were added since the same ones were there
pub noted-since : (Are : List Note → Type 0) (old mid new : Choices) → mid.notes ≡ old.notes
    → AreNoted Are mid new → AreNoted Are old new
noted-since Are old mid new same = subst (λ notes. MatchOption (option_map (λ l. l.items) notes)
    (notes_of new ≡ None) (λ before. (notes : List Note) × Are notes × (notes_of new ≡ Some (before ++ notes)))) same

pub noted-until : (Are : List Note → Type 0) (old mid new : Choices) → new.notes ≡ mid.notes
    → AreNoted Are old mid → AreNoted Are old new
noted-until Are old mid new same = subst (λ notes. MatchOption (notes_of old)
    (option_map (λ l. l.items) notes ≡ None) (λ before. (notes' : List Note) × Are notes'
    × (option_map (λ l. l.items) notes ≡ Some (before ++ notes')))) (sym same)

-- nothing is noted if no notes are asked for
pub none-noted : (Are : List Note → Type 0) (choices : Choices) → is_some (notes_of choices) ≡ false
    → AreNoted Are choices choices
none-noted Are choices = by (notes_of choices) refl
  where
    by : (before : Option (List Note)) → notes_of choices ≡ before → is_some before ≡ false
        → MatchOption before (notes_of choices ≡ None) (λ before. (notes : List Note) × Are notes
        × (notes_of choices ≡ Some (before ++ notes)))
    by None none unasked = none
    by (Some before) some unasked = absurd (true≢false unasked)

-- notes of a kind are of any kind that follows from it
pub noted-as : (Are Were : List Note → Type 0) → ((notes : List Note) → Were notes → Are notes)
    → (old new : Choices) → AreNoted Were old new → AreNoted Are old new
noted-as Are Were so old new noted = by (notes_of old) noted
  where
    by : (before : Option (List Note)) → MatchOption before (notes_of new ≡ None)
        (λ before. (notes : List Note) × Were notes × (notes_of new ≡ Some (before ++ notes)))
        → MatchOption before (notes_of new ≡ None)
        (λ before. (notes : List Note) × Are notes × (notes_of new ≡ Some (before ++ notes)))
    by None none = none
    by (Some before) (notes, were, are) = (notes, so notes were, are)

-- a note is added
pub note-added : (old new : Choices) (path : List ℕ) (reason : Reason) (before after : Vec Note Global)
    (note : Note) → old.notes ≡ Some before → new.notes ≡ Some after → after.items ≡ before.items ++ note ∷ []
    → IsNote old path reason note
    → AreNoted (λ notes. (note : Note) × (notes ≡ note ∷ []) × IsNote old path reason note) old new
note-added old new path reason before after note was now adds is =
    subst (λ notes. MatchOption (option_map (λ l. l.items) notes) (notes_of new ≡ None) (λ before. (notes : List Note)
    × ((note : Note) × (notes ≡ note ∷ []) × IsNote old path reason note) × (notes_of new ≡ Some (before ++ notes))))
    (sym was) (note ∷ [], (note, refl, is), ap (option_map (λ l. l.items)) now ∙ ap Some adds)

module _ (looks : Bool → List ℕ → Result Found Error → Type 0) (follows : Bool) (top : List ℕ)
    (root : ℕ) where
  -- the notes of names from some on are notes of all, after those that were made before
  abbrev pub NotesGoOn : Choices → List ℕ → List ℕ → List ℕ → List Note → Type 0
  NotesGoOn choices folder listing rest notes = (later : List Note)
      → AreNotes looks follows top root choices.limits choices folder (names_of rest) later
      → AreNotes looks follows top root choices.limits choices folder (names_of listing) (notes ++ later)

  -- so many notes were made, if notes are asked for
  abbrev pub HaveNoted : Choices → List ℕ → List ℕ → List ℕ → Choices → Type 0
  HaveNoted choices folder listing rest = AreNoted (NotesGoOn choices folder listing rest) choices

  pub notes-begin : (choices : Choices) (folder listing rest : List ℕ) → rest ≡ listing
      → HaveNoted choices folder listing rest choices
  notes-begin choices folder listing rest is = by (notes_of choices) refl
    where
      by : (before : Option (List Note)) → notes_of choices ≡ before
          → MatchOption before (notes_of choices ≡ None) (λ before. (notes : List Note)
          × NotesGoOn choices folder listing rest notes × (notes_of choices ≡ Some (before ++ notes)))
      by None none = none
      by (Some before) some = (
        [],
        (λ later are. subst (λ text. AreNotes looks follows top root choices.limits choices folder (names_of text) later)
            is are),
        some ∙ ap Some (sym (append-nil before)),
      )

  pub notes-keep : (choices mid new : Choices) (folder listing text part rest : List ℕ) (entry : Entry)
      → parts_of 0 text ≡ (if is_empty part then parts_of 0 rest else part ∷ parts_of 0 rest)
      → is_empty part ≡ false → is_name part ≡ true
      → IsFound looks follows top root choices.limits choices folder part (Ok entry)
      → new.notes ≡ mid.notes → HaveNoted choices folder listing text mid
      → HaveNoted choices folder listing rest new
  notes-keep choices mid new folder listing text part rest entry split some named is same noted =
      by (notes_of choices) noted
    where
      by : (before : Option (List Note))
          → MatchOption before (notes_of mid ≡ None) (λ before. (notes : List Note)
          × NotesGoOn choices folder listing text notes × (notes_of mid ≡ Some (before ++ notes)))
          → MatchOption before (notes_of new ≡ None) (λ before. (notes : List Note)
          × NotesGoOn choices folder listing rest notes × (notes_of new ≡ Some (before ++ notes)))
      by None none = ap (option_map (λ notes. notes.items)) same ∙ none
      by (Some before) (notes, on, are) = (
        notes,
        (λ later more. on later
            (subst (λ names. AreNotes looks follows top root choices.limits choices folder names later)
            (sym (names-take text part rest split some named))
            (without_note part (names_of rest) entry later is more))),
        ap (option_map (λ notes. notes.items)) same ∙ are,
      )

  pub notes-add : (choices mid new : Choices) (folder listing text part rest : List ℕ) (reason : Reason)
      → parts_of 0 text ≡ (if is_empty part then parts_of 0 rest else part ∷ parts_of 0 rest)
      → is_empty part ≡ false → is_name part ≡ true
      → IsFound looks follows top root choices.limits choices folder part (Err reason)
      → SaysTheSame choices mid
      → AreNoted (λ notes. (note : Note) × (word : List ℕ) × (notes ≡ note ∷ []) × IsWord part word
      × IsNote mid (joined folder word) reason note) mid new
      → HaveNoted choices folder listing text mid → HaveNoted choices folder listing rest new
  notes-add choices mid new folder listing text part rest reason split some named is same added noted =
      by (notes_of choices) (notes_of mid) refl noted added
    where
      Next : List Note → Type 0
      Next notes = (note : Note) × (word : List ℕ) × (notes ≡ note ∷ []) × IsWord part word
          × IsNote mid (joined folder word) reason note

      joins : (before notes : List Note) (note : Note) → NotesGoOn choices folder listing text notes
          → (word : List ℕ) → IsWord part word → IsNote mid (joined folder word) reason note
          → NotesGoOn choices folder listing rest (notes ++ note ∷ [])
      joins before notes note on word of says later more =
          subst (AreNotes looks follows top root choices.limits choices folder (names_of listing))
          (sym (append_assoc notes (note ∷ []) later))
          (on (note ∷ later)
          (subst (λ names. AreNotes looks follows top root choices.limits choices folder names (note ∷ later))
          (sym (names-take text part rest split some named))
          (with_note part word (names_of rest) reason note later is of
          (note-same choices mid _ reason note same says) more)))

      by : (before there : Option (List Note)) → notes_of mid ≡ there
          → MatchOption before (notes_of mid ≡ None) (λ before. (notes : List Note)
          × NotesGoOn choices folder listing text notes × (notes_of mid ≡ Some (before ++ notes)))
          → MatchOption there (notes_of new ≡ None) (λ there. (notes : List Note) × Next notes
          × (notes_of new ≡ Some (there ++ notes)))
          → MatchOption before (notes_of new ≡ None) (λ before. (notes : List Note)
          × NotesGoOn choices folder listing rest notes × (notes_of new ≡ Some (before ++ notes)))
      by None None there none now = now
      by None (Some more) there none now = absurd (cc)
      by (Some before) None there (notes, on, are) now = absurd (cc)
      by (Some before) (Some more) there (notes, on, are) (last, (note, word, one, of, says), now) = (
        notes ++ note ∷ [],
        joins before notes note on word of says,
        now ∙ ap Some (ap (λ l. more ++ l) one ∙ ap (λ l. l ++ note ∷ []) (grows more (before ++ notes) (sym there ∙ are))
            ∙ append_assoc before notes (note ∷ [])),
      )
        where
          grows : (one other : List Note) → Some one ≡ Some other → one ≡ other
          grows one other same = cc

  pub notes-end : (choices new : Choices) (folder listing rest : List ℕ) → is_empty rest ≡ true
      → HaveNoted choices folder listing rest new
      → AreNoted (AreNotes looks follows top root choices.limits choices folder (names_of listing)) choices new
  notes-end choices new folder listing (byte ∷ rest) none noted = absurd (false≢true none)
  notes-end choices new folder listing [] none noted = by (notes_of choices) noted
    where
      by : (before : Option (List Note))
          → MatchOption before (notes_of new ≡ None) (λ before. (notes : List Note)
          × NotesGoOn choices folder listing [] notes × (notes_of new ≡ Some (before ++ notes)))
          → MatchOption before (notes_of new ≡ None) (λ before. (notes : List Note)
          × AreNotes looks follows top root choices.limits choices folder (names_of listing) notes
          × (notes_of new ≡ Some (before ++ notes)))
      by None same = same
      by (Some before) (notes, on, are) = (
        notes,
        subst (AreNotes looks follows top root choices.limits choices folder (names_of listing)) (append-nil notes)
            (on [] no_note),
        are,
      )
