-- What a decoder that was started for a label gave, against the decoded bytes of what it took.
use Rattle.std.proofs.Common.{◌≡◌, ◌⊎◌, ℕ, ◌<◌, ◌≤◌, Bool, true, false, List, [], ◌++◌, length}
use Rattle.std.proofs.Common.{Option, ◌||◌, is_some, inl, inr, ⊎_elim, refl, sym, subst, ◌∙◌, ap}
use Rattle.std.proofs.Common.{arith, append-nil}
use Rattle.std.proofs.lemmas.Bool.{false≢true}
use Rattle.std.specs.List.{concat}
use Rattle.grep_decode.proofs.DecoderLemmas.{looks-unsettled}
use Rattle.grep_decode.proofs.ReadResultLemmas.{mode-settled}
use Rattle.grep_decode.specs.Decoded.{decoded, found_mark}
use Rattle.grep_decode.specs.DecoderStates.{DecoderState, Decodes, IsSettled, LooksForMark}
use Rattle.grep_decode.specs.DecoderStates.{decode_by, mode_of, started, unread}
use Rattle.grep_decode.specs.Source.{ReadResult}
use Rattle.grep_decode.specs.declared.label.Label.{Label}

module _ {R : Type 0} {remaining : R → Option (List ℕ)} {step : R → ReadResult → R → Type 0}
    (label : Option Label)
    (sniff : Bool) {capacity : ℕ} {reader reader' : R} {given : List ℕ} {d : DecoderState}
    (reads : Decodes remaining step (started capacity label sniff) reader given d reader') where
  -- the mark in what was taken
  abbrev mark : Option Label
  mark = found_mark label sniff (concat reads.pieces)

  pub mode-is : IsSettled d.mode → d.mode ≡ mode_of mark label
  mode-is settled =
      sym (mode-settled _ _ settled) ∙ (sym (reads.settles [] (λ _. refl))
      ∙ ap (λ xs. mode_of (found_mark label sniff xs) label) (append-nil (concat reads.pieces)))

  -- a decoder that looks for a mark has given nothing, and holds all that was taken
  unsettled : IsSettled d.mode ⊎ LooksForMark d.mode × (length d.held ≤ 2)
      → IsSettled d.mode ⊎ ((sniff || is_some label) ≡ true) × (given ≡ [])
      × (length (concat reads.pieces) < 3)
  unsettled (inl settled) = inl settled
  unsettled (inr (looks, few)) =
      let waits = reads.unsettled (looks-unsettled _ looks) in
      inr (subst LooksForMark waits.0 looks, waits.1, omega (arith, few, ap length waits.2))

  pub settled-enough : IsSettled d.mode ⊎ LooksForMark d.mode × (length d.held ≤ 2)
      → ((sniff || is_some label) ≡ true → 3 ≤ length (concat reads.pieces)) → IsSettled d.mode
  settled-enough few enough = ⊎_elim (λ settled. settled)
      (λ waits. absurd (omega (arith, enough waits.0, waits.2))) (unsettled few)

  pub given-none : IsSettled d.mode ⊎ LooksForMark d.mode × (length d.held ≤ 2) → d.has_ended
      ≡ false → (sniff || is_some label) ≡ true → length (concat reads.pieces) < 3 → given ≡ []
  given-none few unended looks short = ⊎_elim
      (λ settled. ⊎_elim (λ long. absurd (omega (arith, long, short)))
      (λ ended. absurd (false≢true (sym unended ∙ ended))) (reads.enough looks settled))
      (λ waits. waits.1) (unsettled few)

  -- the last bytes that came are held, and the rest of the text is theirs and of what comes
  pub waiting-text : d.has_ended ≡ false → d.ready ≡ [] → IsSettled d.mode → (more : List ℕ)
      → decoded label sniff (concat reads.pieces ++ more) ≡ given ++ decode_by (mode_of mark label)
      (d.held ++ more)
  waiting-text unended ready settled more =
      reads.gives more (λ ended. absurd (false≢true (sym unended ∙ ended)))
      ∙ (ap (λ xs. given ++ (xs ++ decode_by d.mode (d.held ++ unread d.has_ended more))) ready
      ∙ (ap (λ b. given ++ decode_by d.mode (d.held ++ unread b more)) unended
      ∙ ap (λ m. given ++ decode_by m (d.held ++ more)) (mode-is settled)))
