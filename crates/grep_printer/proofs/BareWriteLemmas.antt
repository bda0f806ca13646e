-- Lines that are written one after another, each after its number.
use Rattle.std.proofs.Common.{◌≡◌, ℕ, List, [], ◌∷◌, ◌++◌, refl, sym, ◌∙◌, append_assoc, subst}
use Rattle.std.specs.Prelude.{decimal, Option, Some, Result, Ok, Err}
use Rattle.std.specs.declared.io.Error.{Error}
use Rattle.grep_output.proofs.OutputLemmas.{Writes-cut, Writes-more, Writes-none}
use Rattle.grep_output.specs.Outputs.{OutputCall, Writes, WritesAll}
use Rattle.grep_printer.specs.LineTexts.{missing_end, next_number, plain_line, plain_lines}

module _ {W : Type 0} (write_step : W → OutputCall → W → Type 0) where
  -- what is written so far, and the lines to come, make the text of all lines
  pub record AreWritten (terminator : ℕ) (old now : W) (first : Option ℕ) (all : List (List ℕ)) (number : Option ℕ)
      (later : List (List ℕ)) : Type 0 where
    pub text : List ℕ
    pub written : WritesAll write_step old text now
    pub whole : plain_lines terminator 58 first all ≡ text ++ plain_lines terminator 58 number later

  pub written-none : (terminator : ℕ) (writer : W) (number : Option ℕ) (all : List (List ℕ))
      → AreWritten terminator writer writer number all number all
  written-none terminator writer number all =
      record { text = []; written = Writes-none write_step writer; whole = refl }

  -- one more line
  pub written-more : (terminator : ℕ) (old now new : W) (first number : Option ℕ) (all later : List (List ℕ))
      (line : List ℕ) → AreWritten terminator old now first all number (line ∷ later)
      → Writes write_step now (plain_line terminator 58 number line) (Ok tt) new
      → AreWritten terminator old new first all (next_number number) later
  written-more terminator old now new first number all later line are written = record {
    text = are.text ++ plain_line terminator 58 number line;
    written = Writes-more write_step old now new are.text (plain_line terminator 58 number line) (Ok tt) are.written
        written;
    whole = are.whole ∙ sym (append_assoc are.text (plain_line terminator 58 number line)
        (plain_lines terminator 58 (next_number number) later));
  }

  -- a line that isn't written whole
  pub written-cut : (terminator : ℕ) (old now new : W) (first number : Option ℕ) (all later : List (List ℕ))
      (line : List ℕ) (error : Error) → AreWritten terminator old now first all number (line ∷ later)
      → Writes write_step now (plain_line terminator 58 number line) (Err error) new
      → Writes write_step old (plain_lines terminator 58 first all) (Err error) new
  written-cut terminator old now new first number all later line error are fails =
      subst (λ text. Writes write_step old text (Err error) new) (sym are.whole)
      (Writes-more write_step old now new are.text
      (plain_line terminator 58 number line ++ plain_lines terminator 58 (next_number number) later) (Err error)
      are.written (Writes-cut write_step now new (plain_line terminator 58 number line)
      (plain_lines terminator 58 (next_number number) later) error fails))

  -- a number that isn't written whole
  pub number-cut : (terminator : ℕ) (old new : W) (number : Option ℕ) (n mark : ℕ) (line : List ℕ) (error : Error)
      → number ≡ Some n → Writes write_step old (decimal n ++ mark ∷ []) (Err error) new
      → Writes write_step old (plain_line terminator mark number line) (Err error) new
  number-cut terminator old new number n mark line error is fails =
      subst (λ o. Writes write_step old (plain_line terminator mark o line) (Err error) new) (sym is)
      (Writes-cut write_step old new (decimal n ++ mark ∷ []) (line ++ missing_end terminator line) error fails)

  -- a number, and then its line
  pub number-more : (terminator : ℕ) (old mid new : W) (number : Option ℕ) (n mark : ℕ) (line : List ℕ)
      (result : Result (Unit {0}) Error) → number ≡ Some n
      → Writes write_step old (decimal n ++ mark ∷ []) (Ok tt) mid
      → Writes write_step mid (line ++ missing_end terminator line) result new
      → Writes write_step old (plain_line terminator mark number line) result new
  number-more terminator old mid new number n mark line result is first later =
      subst (λ o. Writes write_step old (plain_line terminator mark o line) result new) (sym is)
      (Writes-more write_step old mid new (decimal n ++ mark ∷ []) (line ++ missing_end terminator line) result first
      later)
