-- `matrix::kernel::strip_at` meets its contract. Assumes nothing.
use Rattle.std.proofs.Common.{refl, arith}
use Rattle.matrix.proofs.Framed.{rows_put, part_entry}
use Rattle.matrix.proofs.kernel.strip_at.Goals as goal

pub returns : goal.returns
returns g c =
    rows_put _ _ _ _ _ _ _ _ _ _ _ _ _ c.requires.5 c.requires.0 c.rows_from-start.ensures.0 (omega arith) refl
    (λ a b h k. part_entry _ _ _ _ _ _ _ _ _ _ _ _ c.part.ensures.rows.1 refl c.part.ensures.entries c.requires.1 h) c.strip.ensures
