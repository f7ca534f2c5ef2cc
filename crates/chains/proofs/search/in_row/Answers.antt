use Rattle.chains.specs.Amiss.{close_row}
use Rattle.words.specs.Words.{column}
use Rattle.chains.proofs.search.in_row.Goals as goal

pub returns-clause-first : goal.returns-clause-first
returns-clause-first c = let args = c.args in
    c.in_columns.ensures.first args.q.0 (close_row args.w args.h args.q.0 args.r args.low.now args.disc.now (column c.near_row.result) _ _ c.requires.fits.0.0
    c.requires.fits.0.1 c.requires.planes.1 c.near_row.ensures c.put.ensures)
