-- `wire::set_doubles`: the doubles before the index are written, and what stands behind them is as it was. Assumes nothing.
use Rattle.std.proofs.Common.{◌≡◌, ◌*◌, ◌++◌, take, drop}
use Rattle.wire.specs.Wire.{doubles_bytes}
use Rattle.wire.proofs.set_doubles.Given as goal

abbrev pub invariant-loop-k : goal.invariant-loop-k
invariant-loop-k l = l.b ≡ doubles_bytes (take l.k l.x) ++ drop (8 * l.k) l.initial.b
