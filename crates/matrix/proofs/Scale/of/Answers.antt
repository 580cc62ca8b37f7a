-- `matrix::Scale::of` meets its contract: half is half of 2 ^ count, factor its inverse, and no smaller count is enough. Assumes nothing.
use Rattle.std.proofs.Common.{arith}
use Rattle.matrix.proofs.Powers.{half-zero, half_next, inverse-one, inverse_next, short_step, short_room, squarings_is}
use Rattle.matrix.proofs.Scale.of.Goals as goal

pub loop-half-init : goal.loop-half-init
loop-half-init c = record { room = omega arith; half = half-zero; factor = inverse-one; short = λ t h. absurd (omega arith) }

pub loop-half-smaller : goal.loop-half-smaller
loop-half-smaller c = let inv = c.loop-half.invariant in omega (arith, short_room _ _ _ c.requires inv.room inv.half c.loop-half-test.true)

pub loop-half-preserved : goal.loop-half-preserved
loop-half-preserved c =
    let inv = c.loop-half.invariant in
    let room = short_room _ _ _ c.requires inv.room inv.half c.loop-half-test.true in
    record { room = omega arith; half = half_next _ _ room inv.half; factor = inverse_next _ _ room inv.factor; short = short_step _ _ _ inv.half c.loop-half-test.true inv.short }

pub invariant_of-result : goal.invariant_of-result
invariant_of-result c = record { inverse = c.loop-half.invariant.factor }

pub returns : goal.returns
returns c = let inv = c.loop-half.invariant in squarings_is _ _ _ inv.room inv.half c.loop-half-test.false inv.short
