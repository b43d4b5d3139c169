use Rattle.std.proofs.Common.{sym, ◌∙◌}
use Rattle.jr_header.proofs.ChunkLemmas.{cut_in_chunks}
use Rattle.jr_header.proofs.own.own_chunks_verdict.Goals as goal

pub cut_chunks_verdict-requires-clause-chunks : goal.cut_chunks_verdict-requires-clause-chunks
cut_chunks_verdict-requires-clause-chunks c =
    cut_in_chunks c.args.interval c.args.piece.now c.requires.fits (sym c.cuts_whole.ensures ∙ c.if-not-cuts_whole.false)
