-- `wire::put_doubles`: the doubles before the index are written. Assumes nothing.
use Rattle.std.proofs.Common.{take}
use Rattle.std.specs.Io.KnownBytes.{Appends}
use Rattle.wire.specs.Wire.{doubles_bytes}
use Rattle.wire.proofs.put_doubles.Given as goal

abbrev pub invariant-loop-y : goal.invariant-loop-y
invariant-loop-y g l = Appends (g.W.Write.contents l.initial.output) (g.W.Write.contents l.output) (doubles_bytes (take l.y-index l.x))
