use Rattle.grep_decode.proofs.undecoded.Undecoded.restart.Goals as goal

pub returns : goal.returns
returns g c = rw (← c.self.view_is)
