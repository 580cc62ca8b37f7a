-- `wire::get_doubles` meets its contract. Assumes nothing.
use Rattle.std.proofs.Common.{◌≡◌, [], arith, refl, length}
use Rattle.std.proofs.KnownBytes.{Consumes-nil}
use Rattle.wire.proofs.Doubles.{takes_more}
use Rattle.wire.proofs.get_doubles.Goals as goal

pub loop-y-init : goal.loop-y-init
loop-y-init g c = ([], refl, Consumes-nil _, λ k h. absurd (omega (arith, h)))

pub loop-y-preserved : goal.loop-y-preserved
loop-y-preserved g c = takes_more c.loop-y.y-index c.loop-y.x c.in_ok-y.field-0 _ _ _ (omega arith) c.loop-y.invariant c.in_ok-y.ensures

pub returns : goal.returns
returns g c =
    let end : length c.loop-y.x ≡ c.loop-y.y-index = omega arith in
    rw end c.loop-y.invariant
