use Rattle.grep_decode.proofs.decoder.Decoder.start.Goals as goal

pub returns : goal.returns
returns g c = rw (c.new-self-inside.ensures, c.restart.ensures, ← c.self.view_is)
