use Rattle.std.proofs.Common.{◌*◌, ◌/◌, ◌^◌, ◌≤◌}
use Rattle.float.specs.Digits.{Rooted}
use Rattle.float.proofs.whole_root.Given as goal

abbrev pub invariant-loop-i : goal.invariant-loop-i
invariant-loop-i l = (l.i ≤ 27) × Rooted (l.v / 2 ^ (2 * l.i)) l.digits.root l.digits.rest
