use Rattle.std.proofs.Common.{sym, ◌∙◌}
use Rattle.std.proofs.lemmas.Simd.{put_chunk_whole}
use Rattle.grep_decode.proofs.ascii.put_lows.Goals as goal

pub returns-clause-bytes : goal.returns-clause-bytes
returns-clause-bytes c = put_chunk_whole c.args.output.now c.args.lows (c.requires
    ∙ sym c.fits-lows.0)
