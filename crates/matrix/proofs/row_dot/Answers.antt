-- `matrix::row_dot` meets its contract. Assumes nothing.
use Rattle.std.proofs.Common.{◌-◌, arith, refl, rules, drop, ◌≡◌, ◌∙◌, ◌+◌, length}
use Rattle.std.proofs.Math.ListN.{length-append, length-drop}
use Rattle.std.proofs.lemmas.List.{take_all}
use Rattle.std.proofs.lemmas.Slice.Zip.{zip_turn}
use Rattle.std.proofs.lemmas.Grind.{get_or_after_one}
use Rattle.float.specs.Arith.{◌⊗◌}
use Rattle.loops.specs.Loop.{◌!◌}
use lib.Ieee.{nan}
use Rattle.float.proofs.Sums.{sum_first, sum_step, sum_end}
use Rattle.matrix.proofs.row_dot.Goals as goal

pub loop-x-init : goal.loop-x-init
loop-x-init c = sum_first _ _ refl

pub loop-x-preserved : goal.loop-x-preserved
loop-x-preserved c =
    let l = take_all (length c.args.row.now - 1) (drop 1 c.args.row.now) (rw length-drop (omega arith)) in
    let r = take_all (length c.args.v.now - 1) (drop 1 c.args.v.now) (rw length-drop (omega arith)) in
    let t = zip_turn (drop 1 c.args.row.now) (drop 1 c.args.v.now) c.loop-x.yielded _ _ c.next.new.self _
    (rw (c.into_iter-x-iterator.ensures.into_iter_gives, c.zip-x-items.ensures.first) (c.iter.ensures.rest ∙ l))
    (rw c.into_iter-x-iterator.ensures.into_iter_gives (c.zip-x-items.ensures.second.0 ∙ r))
    c.loop-x.yielded_by (c.in-Some.x, c.in-Some.y) c.in-Some.is c.next.ensures.steps in
    let e : c.in-Some.x.now ⊗ c.in-Some.y.now ≡ (c.args.row.now ! (length c.loop-x.yielded + 1)) ⊗ (c.args.v.now ! (length c.loop-x.yielded + 1)) =
    rw (t.2 nan, t.3 nan, get_or_after_one, get_or_after_one) (search rules) in
    sum_end _ _ _ _ (sum_step _ _ _ _ c.loop-x.invariant e (omega arith)) (rw length-append (omega arith))
