use Rattle.std.proofs.Common.{◌*◌, ◌^◌, ◌≤◌}
use Rattle.float.specs.Digits.{Rooted}
use Rattle.float.proofs.long_root.Given as goal

abbrev pub invariant-loop : goal.invariant-loop
invariant-loop l = (l.counter ≤ 26) × Rooted (l.v * 4 ^ l.counter) l.digits.root l.digits.rest
