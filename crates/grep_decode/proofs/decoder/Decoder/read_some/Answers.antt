use Rattle.std.proofs.Common.{◌≡◌, ◌⊎◌, [], ap, inl, inr, refl, sym, ◌∙◌, ⊎_elim}
use Rattle.std.specs.Prelude.{OnOk}
use Rattle.grep_decode.specs.declared.mode.Mode.TheVariants.{Fresh, Passing}
use Rattle.grep_decode.specs.DecoderStates.{Decodes, HasWaited, HasNoMark, TakesAtMost, runs_ahead}
use Rattle.grep_decode.proofs.DecoderLemmas.{Decodes-none}
use Rattle.grep_decode.proofs.ReadResultLemmas.{first-passes, fits-fresh, looks-fresh}
use Rattle.grep_decode.proofs.ReadResultLemmas.{result-decodes, looks-or, result-begins}
use Rattle.grep_decode.proofs.ReadResultLemmas.{result-fails, result-waited, unsettled-fresh}
use Rattle.grep_decode.proofs.ReadResultLemmas.{result-first, result-ahead, takes-none}
use Rattle.grep_decode.proofs.decoder.Decoder.read_some.Goals as goal
use Rattle.grep_decode.proofs.decoder.Decoder.read_some.Goals.{in-Fresh+in-Ok, in_default}

pub returns-then-is_empty-clause-decodes : goal.returns-then-is_empty-clause-decodes
returns-then-is_empty-clause-decodes g c = Decodes-none g.R.Source.remaining g.R.Source.step _ _

pub returns-clause-decodes : goal.returns-clause-decodes
returns-clause-decodes g c =
    let remaining = g.R.Source.remaining in
    let step = g.R.Source.step in
    let begun : Decodes remaining step c.args.self.now c.args.reader.now [] c.match-self.self
    c.match-self.reader =
    elim c.match-self.branch [
      | in-Fresh+in-Ok w ↦ rw (w.self-is, w.reader-is) w.in-Ok.ensures.decodes
      | in_default w ↦ rw (w.self-is, w.reader-is)
          (Decodes-none remaining step c.args.self.now c.args.reader.now)
    ] in
    result-decodes remaining step c.args.self.now c.match-self.self c.read_on.new.self
    c.args.reader.now c.match-self.reader
    c.read_on.new.reader c.read_on.result c.read_on.new.buffer begun c.read_on.ensures.decodes

pub returns-clause-failed : goal.returns-clause-failed
returns-clause-failed g c =
    let remaining = g.R.Source.remaining in
    let step = g.R.Source.step in
    let begun : Decodes remaining step c.args.self.now c.args.reader.now [] c.match-self.self
    c.match-self.reader =
    elim c.match-self.branch [
      | in-Fresh+in-Ok w ↦ rw (w.self-is, w.reader-is) w.in-Ok.ensures.decodes
      | in_default w ↦ rw (w.self-is, w.reader-is)
          (Decodes-none remaining step c.args.self.now c.args.reader.now)
    ] in
    result-fails remaining step c.args.self.now c.match-self.self c.read_on.new.self
    c.args.reader.now c.match-self.reader
    c.read_on.new.reader c.read_on.result begun c.read_on.ensures.failed

pub returns-clause-ahead : goal.returns-clause-ahead
returns-clause-ahead g c =
    let remaining = g.R.Source.remaining in
    let most = runs_ahead c.args.self.now.mode in
    let first : TakesAtMost (remaining c.args.reader.now) (remaining c.match-self.reader) most =
    elim
    c.match-self.branch [
      | in-Fresh+in-Ok w ↦ rw w.reader-is w.in-Ok.ensures.ahead
      | in_default w ↦ rw w.reader-is (takes-none _ most)
    ] in
    result-ahead (c.read_on.new.self.mode ≡ Passing) _ _ _ most c.read_on.result first
    c.read_on.ensures.ahead

pub returns-clause-first : goal.returns-clause-first
returns-clause-first g c = λ none unended looks.
    let remaining = g.R.Source.remaining in
    let step = g.R.Source.step in
    let d = c.self.inside in
    let Passes : Type 0 = c.read_on.new.self.mode ≡ Passing in
    let Kept : Type 0 = c.read_on.new.reader ≡ c.match-self.reader in
    elim c.match-self.branch [
      | in-Fresh+in-Ok w ↦
          let fresh : c.args.self.now.mode ≡ Fresh w.in-Fresh.label w.in-Fresh.sniff =
          ap (λ s. s.mode) (sym c.self.view_is) ∙ w.in-Fresh.is in
          let fits = fits-fresh d.mode d.ready d.held.bytes w.in-Fresh.label w.in-Fresh.sniff
          c.self.invariant.1 w.in-Fresh.is in
          let empty = sym (ap (λ s. s.ready) c.self.view_is) ∙ fits.0 in
          let mode : Passes → w.settle.new.self.mode ≡ Passing =
          λ passing. sym (ap (λ s. s.mode) w.self-is) ∙ (sym c.read_on.ensures.mode ∙ passing) in
          let made = first-passes (HasNoMark c.args.self.now.mode) Passes (w.settle.new.self.mode
          ≡ Passing) (remaining c.args.reader.now)
          w.settle.new.self.ready c.match-self.self.ready mode (ap (λ s. s.ready) w.self-is)
          (w.in-Ok.ensures.first none unended looks) in
          result-first remaining step c.args.self.now c.read_on.new.self c.args.reader.now
          c.read_on.new.reader c.read_on.result
          c.read_on.new.buffer c.match-self.self.ready (HasNoMark c.args.self.now.mode) Passes Kept
          empty none c.read_on.ensures.bound
          (returns-clause-decodes g c) c.read_on.ensures.ready made
      | in_default w ↦
          let fresh = looks-fresh c.args.self.now.mode looks in
          absurd (w.in_default.not-Fresh fresh.0 fresh.1 (ap (λ s. s.mode) c.self.view_is
          ∙ fresh.2))
    ]

pub returns-clause-last : goal.returns-clause-last
returns-clause-last g c =
    let remaining = g.R.Source.remaining in
    let step = g.R.Source.step in
    let begun : Decodes remaining step c.args.self.now c.args.reader.now [] c.match-self.self
    c.match-self.reader =
    elim c.match-self.branch [
      | in-Fresh+in-Ok w ↦ rw (w.self-is, w.reader-is) w.in-Ok.ensures.decodes
      | in_default w ↦ rw (w.self-is, w.reader-is)
          (Decodes-none remaining step c.args.self.now c.args.reader.now)
    ] in
    let first : (c.match-self.reader ≡ c.args.reader.now)
    ⊎ HasWaited remaining step c.args.self.now c.args.reader.now c.match-self.reader =
    elim c.match-self.branch [
      | in-Fresh+in-Ok w ↦ rw w.reader-is w.in-Ok.ensures.last
      | in_default w ↦ rw w.reader-is (inl refl)
    ] in
    result-waited remaining step c.args.self.now c.match-self.self c.args.reader.now
    c.match-self.reader c.read_on.new.reader c.read_on.result begun first c.read_on.ensures.last

pub returns-clause-begins : goal.returns-clause-begins
returns-clause-begins g c = λ nothing some.
    let remaining = g.R.Source.remaining in
    let step = g.R.Source.step in
    let begun : Decodes remaining step c.args.self.now c.args.reader.now [] c.match-self.self
    c.match-self.reader =
    elim c.match-self.branch [
      | in-Fresh+in-Ok w ↦ rw (w.self-is, w.reader-is) w.in-Ok.ensures.decodes
      | in_default w ↦ rw (w.self-is, w.reader-is)
          (Decodes-none remaining step c.args.self.now c.args.reader.now)
    ] in
    let first : HasWaited remaining step c.args.self.now c.args.reader.now c.match-self.reader
    ⊎ OnOk c.read_on.result (HasWaited remaining step c.match-self.self c.match-self.reader
    c.read_on.new.reader) =
    elim c.match-self.branch [
      | in-Fresh+in-Ok w ↦ ⊎_elim
          (λ looks. inl (rw w.reader-is (w.in-Ok.ensures.begins nothing.held nothing.unended
          looks))) (λ unlooked.
          let unread = w.in-Ok.ensures.unread unlooked in
          inr (c.read_on.ensures.begins (ap (λ s. s.mode) w.self-is ∙ unread.1)
          (ap (λ s. s.ready) w.self-is ∙ (unread.2 ∙ nothing.held))
          (ap (λ s. s.has_ended) w.self-is ∙ (unread.3 ∙ nothing.unended))))
          (looks-or c.args.self.now.mode)
      | in_default w ↦
          let fresh = unsettled-fresh c.args.self.now.mode nothing.fresh in
          absurd (w.in_default.not-Fresh fresh.0 fresh.1 (ap (λ s. s.mode) c.self.view_is
          ∙ fresh.2))
    ] in
    result-begins remaining step c.args.self.now c.match-self.self c.args.reader.now
    c.match-self.reader c.read_on.new.reader c.read_on.result begun first c.read_on.ensures.last
