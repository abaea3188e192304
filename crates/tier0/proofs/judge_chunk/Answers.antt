-- `tier0::judge_chunk` meets its contract: each part is its rule's.
use lib.Ieee.{binary64}
use Rattle.tier0.proofs.Rows.{judge_chunk_is}
use Rattle.tier0.proofs.judge_chunk.Goals as goal

pub returns : goal.returns
returns c = judge_chunk_is binary64 _ _ _ _ _ _ c.slow_zone-z.ensures c.start_row-q.ensures c.step_rows-t.ensures c.finite-fine.ensures c.too_large-bent.ensures c.too_large-jolted.ensures c.raw_row-first.ensures c.out_of_reach-far.ensures c.armed-speed.ensures c.trip_bits-trips.ensures c.projected_rows-p.ensures c.rows_masks-walls.ensures
