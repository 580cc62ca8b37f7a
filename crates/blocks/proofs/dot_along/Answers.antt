-- `blocks::dot_along` meets its contract. Assumes nothing.
use Rattle.std.proofs.Common.{arith, refl, ap, suc, ◌-◌, ◌≡◌}
use Rattle.std.proofs.Math.Numerals.{add-one}
use Rattle.loops.specs.Loop.{iter, ◌!◌}
use Rattle.float.specs.Arith.{◌⊕◌, ◌⊗◌}
use Rattle.blocks.proofs.dot_along.Goals as goal

pub loop-k-init : goal.loop-k-init
unfolding iter
loop-k-init c = refl

pub loop-k-preserved : goal.loop-k-preserved
unfolding iter
loop-k-preserved c = rw add-one (ap (λ z. z ⊕ c.args.row.now ! c.loop-k.k ⊗ c.args.lower.now ! (c.args.d - c.loop-k.k)) c.loop-k.invariant)

pub returns : goal.returns
returns c = let e : c.loop-k.k ≡ suc c.args.d = omega arith in rw e at c.loop-k.invariant
