-- `float::long_root` meets its contract. The loop's invariant: the root so far is that of v with as many pairs of zeros. Assumes nothing.
use Rattle.std.proofs.Common.{arith}
use Rattle.std.proofs.Math.Nat.{mul-one}
use Rattle.float.proofs.Steps.{append-zeros, all_zeros, append-small}
use Rattle.float.proofs.long_root.Goals as goal

pub loop-init : goal.loop-init
loop-init c = (omega arith, rw mul-one c.whole_root-digits.ensures)

pub digit-digits-requires : goal.digit-digits-requires
digit-digits-requires c =
    let l = c.loop in
    (omega (arith, append-small c.args.v l.counter l.digits.root l.digits.rest c.requires l.invariant.0 l.invariant.1), l.invariant.1.short, omega arith)

pub loop-preserved : goal.loop-preserved
loop-preserved c = (omega arith, append-zeros _ _ _ _ _ _ c.loop.invariant.1 c.digit-digits.ensures)

pub returns : goal.returns
returns c = all_zeros _ _ _ _ c.loop.invariant.0 (omega arith) c.loop.invariant.1
