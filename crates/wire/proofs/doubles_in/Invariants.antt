-- `wire::doubles_in`: the doubles before the index are read. Assumes nothing.
use Rattle.std.proofs.Common.{ℕ, ◌≡◌, ◌*◌, ◌<◌, get_or}
use Rattle.std.specs.Float.{binary64}
use Rattle.std.specs.Float.Ieee.{of_bits, nan}
use Rattle.wire.specs.Wire.{word64}
use Rattle.wire.proofs.doubles_in.Given as goal

abbrev pub invariant-loop-k : goal.invariant-loop-k
invariant-loop-k l = (j : ℕ) → j < l.k → get_or l.x j nan ≡ of_bits binary64 (word64 l.b (8 * j))
