use Rattle.std.proofs.Common.{◌++◌, ◌≡◌, ◌⊎◌, ◌≤◌, ◌||◌, true, [], ap, is_some, length, ◌∙◌, subst}
use Rattle.std.proofs.Common.{sym, arith}
use Rattle.std.proofs.lemmas.Bool.{false≢true}
use Rattle.grep_decode.specs.declared.mode.Mode.TheVariants.{Fresh, Passing}
use Rattle.grep_decode.specs.Decoded.{found_mark}
use Rattle.grep_decode.specs.DecoderStates.{Decodes, IsSettled, LooksForMark, mode_after, unread}
use Rattle.grep_decode.specs.UndecodedBytes.{holding}
use Rattle.grep_decode.proofs.DecoderLemmas.{Decodes-append, Decodes-held, Decodes-none}
use Rattle.grep_decode.proofs.DecoderLemmas.{Decodes-within, Decodes-yet}
use Rattle.grep_decode.proofs.ReadResultLemmas.{fits-fresh, mode-settled, mode-unlooked}
use Rattle.grep_decode.proofs.MarkLemmas.{first-by, first-ready}
use Rattle.grep_decode.proofs.decoder.Decoder.settle.Goals as goal
use Rattle.grep_decode.proofs.decoder.Decoder.settle.Goals.{then-sniff+in-Ok}
use Rattle.grep_decode.proofs.decoder.Decoder.settle.Goals.{else-sniff+else-is_some}
use Rattle.grep_decode.proofs.decoder.Decoder.settle.Goals.{then-sniff-via-then-sniff}
use Rattle.grep_decode.proofs.decoder.Decoder.settle.Goals.{then-sniff-via-else-sniff+then-is_some}

pub returns-clause-decodes : goal.returns-clause-decodes
returns-clause-decodes g c =
    let remaining = g.R.Source.remaining in
    let step = g.R.Source.step in
    let d = c.self.inside in
    let fresh = ap (λ s. s.mode) c.self.view_is ∙ c.requires in
    let fits = fits-fresh d.mode d.ready d.held.bytes c.args.label c.args.sniff c.self.invariant.1
    fresh in
    let ahead : Decodes remaining step c.args.self.now c.args.reader.now [] c.if-sniff.self
    c.if-sniff.reader = elim
    c.if-sniff.branch [
      | then-sniff+in-Ok w ↦ rw (w.self-is, w.reader-is, ← c.self.view_is)
          (Decodes-held remaining step d.ready d.mode d.held w.fill.new.self c.args.reader.now
          w.fill.new.reader [] fits.0 (w.in-Ok.ensures.decodes d.mode))
      | else-sniff+else-is_some w ↦ rw (w.self-is, w.reader-is)
          (Decodes-none remaining step c.args.self.now c.args.reader.now)
    ] in
    let few : length c.if-sniff.self.held ≤ 3 = elim c.if-sniff.branch [
      | then-sniff+in-Ok w ↦ rw w.self-is w.in-Ok.ensures.few
      | else-sniff+else-is_some w ↦ rw (w.self-is, ← c.self.view_is) fits.1
    ] in
    let same_mode : c.if-sniff.self.mode ≡ Fresh c.args.label c.args.sniff =
    elim c.if-sniff.branch [
      | then-sniff+in-Ok w ↦ rw w.self-is fresh
      | else-sniff+else-is_some w ↦ rw w.self-is c.requires
    ] in
    let enough : LooksForMark c.if-sniff.self.mode → (3 ≤ length c.if-sniff.self.held)
    ⊎ (c.choose.new.self.has_ended ≡ true) =
    λ looks. elim c.if-sniff.branch [
      | then-sniff+in-Ok w ↦ rw (c.choose.ensures.ended, w.self-is) w.in-Ok.ensures.enough
      | else-sniff+else-is_some w ↦
          let looked : (c.args.sniff || is_some c.args.label) ≡ true =
          subst LooksForMark same_mode looks in
          let unlooked : (c.args.sniff || is_some c.args.label) ≡ is_some c.args.label =
          ap (λ b. b || is_some c.args.label) w.if-sniff.false in
          absurd (false≢true (sym w.if-is_some.false
          ∙ (w.is_some.ensures ∙ (sym unlooked ∙ looked))))
    ] in
    Decodes-append remaining step c.args.self.now c.if-sniff.self c.choose.new.self
    c.args.reader.now c.if-sniff.reader c.if-sniff.reader [] []
    ahead (Decodes-within remaining step c.if-sniff.self c.choose.new.self c.if-sniff.reader []
    c.choose.ensures.ended c.choose.ensures.same c.choose.ensures.next c.choose.ensures.settled
    (λ settled. absurd (subst IsSettled same_mode settled))
    (λ passing. omega (arith, few)) enough c.choose.ensures.last)

pub returns-clause-first : goal.returns-clause-first
returns-clause-first g c = λ none unended looks.
    let remaining = g.R.Source.remaining in
    let step = g.R.Source.step in
    let d = c.self.inside in
    let held = ap (λ s. s.held) c.self.view_is ∙ none in
    let before = ap (λ s. s.has_ended) c.self.view_is ∙ unended in
    let Passes : Type 0 = c.choose.new.self.mode ≡ Passing in
    let looked : (c.args.sniff || is_some c.args.label) ≡ true =
    subst LooksForMark c.requires looks in
    elim c.if-sniff.branch [
      | then-sniff+in-Ok w ↦
          let bytes : c.if-sniff.self.held ≡ w.fill.new.self.bytes = ap (λ s. s.held) w.self-is in
          first-by c.args.self.now.mode c.args.label c.args.sniff Passes
          (remaining c.args.reader.now) c.choose.new.self.ready c.requires
          (λ passing. first-ready c.args.label c.args.sniff d.held w.fill.new.self
          (remaining c.args.reader.now) (remaining w.fill.new.reader) c.choose.new.self.ready
          (Decodes-yet remaining step (holding Passing d.held) (holding Passing w.fill.new.self)
          c.args.reader.now w.fill.new.reader []
          (w.in-Ok.ensures.decodes Passing)) held before w.in-Ok.ensures.few w.in-Ok.ensures.enough
          (λ unmarked. c.choose.ensures.ready (ap (found_mark c.args.label c.args.sniff) bytes
          ∙ unmarked) passing ∙ bytes))
      | else-sniff+else-is_some w ↦
          let unlooked : (c.args.sniff || is_some c.args.label) ≡ is_some c.args.label =
          ap (λ b. b || is_some c.args.label) w.if-sniff.false in
          absurd (false≢true (sym w.if-is_some.false
          ∙ (w.is_some.ensures ∙ (sym unlooked ∙ looked))))
    ]

pub returns-clause-unread : goal.returns-clause-unread
returns-clause-unread g c = λ unlooked.
    let unseen = subst (λ m. LooksForMark m → ⊥) c.requires unlooked in
    let made = mode-unlooked c.args.label c.args.sniff in
    elim c.if-sniff.branch [
      | then-sniff+in-Ok w ↦ elim w.then-sniff.branch [
        | then-sniff-via-then-sniff w' ↦ absurd
            (unseen (ap (λ b. b || is_some c.args.label) w'.if-sniff.true))
        | then-sniff-via-else-sniff+then-is_some w' ↦ absurd
            (unseen (ap (λ b. b || is_some c.args.label) w'.if-sniff.false
            ∙ (sym w'.is_some.ensures ∙ w'.if-is_some.true)))
      ]
      | else-sniff+else-is_some w ↦
          let now = c.if-sniff.self in
          let same_mode : now.mode ≡ Fresh c.args.label c.args.sniff = ap (λ s. s.mode) w.self-is
          ∙ c.requires in
          let input = now.held ++ unread now.has_ended [] in
          let passing : c.choose.new.self.mode ≡ Passing =
          sym (mode-settled c.choose.new.self.mode
          (c.choose.new.self.held ++ unread c.choose.new.self.has_ended [])
          c.choose.ensures.settled) ∙ (sym (c.choose.ensures.next [])
          ∙ (ap (λ m. mode_after m input) same_mode ∙ (made input unseen).1)) in (
            w.reader-is,
            passing,
            c.choose.ensures.ready (made now.held unseen).0 passing ∙ ap (λ s. s.held) w.self-is,
            c.choose.ensures.ended ∙ ap (λ s. s.has_ended) w.self-is,
          )
    ]
