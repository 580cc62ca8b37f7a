-- Row sums see no sign. Assumes nothing.
use Rattle.std.proofs.Common.{◌+◌, ◌*◌, arith}
use Rattle.loops.proofs.Places.{row_fits}
use Rattle.float.proofs.Sums.{sum_ext}
use Rattle.matrix.specs.Matrix.{row_sum}
use Rattle.mirror.specs.Rows.{SameRowSums}
use Rattle.mirror.proofs.Floats.{abs_m, mirrors}

-- entry by entry the absolute values are equal
pub same_row_sums : SameRowSums
unfolding SameRowSums row_sum
same_row_sums n turned a b A i h = sum_ext n _ _ (λ j l. abs_m (mirrors (A (i * n + j) (omega (arith, row_fits i n h)))))
