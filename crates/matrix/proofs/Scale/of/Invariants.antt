-- `matrix::Scale::of` meets its contract: half is half of 2 ^ count, factor its inverse, and no smaller count is enough. Assumes nothing.
use Rattle.std.proofs.Common.{◌≡◌, ◌-◌, ◌≤◌}
use Rattle.matrix.specs.Calls.{inverse_power}
use Rattle.matrix.proofs.Powers.{half_of, Short}
use Rattle.matrix.proofs.Scale.of.Given as goal

abbrev pub invariant-loop-half : goal.invariant-loop-half
invariant-loop-half l = record { room : l.count ≤ 32; half : l.half ≡ half_of l.count; factor : l.factor ≡ inverse_power l.count; short : Short l.norm l.count }

abbrev pub decreases-loop-half : goal.decreases-loop-half
decreases-loop-half l = 32 - l.count
