-- What parts of the format of a link stand for, pushed one after another, and how formats are read.
use Rattle.std.proofs.Common.{◌≡◌, ◌∙◌, ℕ, List, ◌∷◌, ◌++◌, ap, append_assoc, sym}
use Rattle.std.specs.List.{flat_map}
use Rattle.grep_printer.specs.HyperlinkFormats.{spelled}
use Rattle.grep_printer.specs.declared.hyperlink_format.HyperlinkPart.{HyperlinkPart}

-- of some things the texts are pushed, and these are left
pub record AreFollowed {X : Type 0} (f : X → List ℕ) (whole text : List ℕ) (rest : List X) : Type 0 where
  pub pushed : text ++ flat_map f rest ≡ whole

-- one more is pushed
pub followed-more : {X : Type 0} (f : X → List ℕ) (whole text : List ℕ) (rest : List X) (first : X) (later : List X)
    → AreFollowed f whole text rest → rest ≡ first ∷ later → AreFollowed f whole (text ++ f first) later
followed-more f whole text rest first later are is = record {
  pushed = append_assoc text (f first) (flat_map f later)
      ∙ (ap (λ xs. text ++ flat_map f xs) (sym is) ∙ are.pushed);
}

-- of a format some parts are read, and these bytes are left
pub record AreRead (text : List ℕ) (parts : List HyperlinkPart) (rest : List ℕ) : Type 0 where
  pub spells : spelled parts ++ rest ≡ text
