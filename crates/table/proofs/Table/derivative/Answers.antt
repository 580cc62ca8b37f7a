-- `table::Table::derivative` meets its contract. Assumes nothing.
use Rattle.std.proofs.Common.{refl, arith}
use Rattle.table.specs.Table.{records}
use Rattle.table.proofs.Records.{target_below}
use Rattle.table.proofs.Sums.{sums_start, sums_more, sums_end}
use Rattle.table.proofs.Table.derivative.Goals as goal

pub loop-r-init : goal.loop-r-init
unfolding records
loop-r-init c = (omega arith, refl, sums_start c.args.self.now.n _ _ _ c.args.self.now.small)

pub offset_bounds-sums-i : goal.offset_bounds-sums-i
offset_bounds-sums-i c =
    let below = target_below _ _ _ c.record.ensures.ok in
    omega (arith, below, c.target-i.ensures, c.args.self.now.small)

pub bounds-sums-i : goal.bounds-sums-i
bounds-sums-i c =
    let below = target_below _ _ _ c.record.ensures.ok in
    omega (arith, below, c.target-i.ensures, c.args.self.now.small)

pub bounds-sums-i-in-loop-r : goal.bounds-sums-i-in-loop-r
bounds-sums-i-in-loop-r c =
    let below = target_below _ _ _ c.record.ensures.ok in
    omega (arith, below, c.target-i.ensures, c.args.self.now.small)

pub loop-r-preserved : goal.loop-r-preserved
unfolding records
loop-r-preserved c =
    let s = c.args.self.now in
    let is = rw (c.record.ensures.same.0, c.record.ensures.same.1) at c.target-i.ensures in
    let below = target_below _ _ _ c.record.ensures.ok in (
      omega arith,
      c.loop-r.invariant.1,
      sums_more s.n s.bytes.now _ _ s.small c.loop-r.r _ is (omega (arith, below, c.target-i.ensures)) c.loop-r.invariant.2 c.value.ensures,
    )

pub returns : goal.returns
returns c = sums_end c.args.self.now.n _ _ _ c.args.self.now.small c.loop-r.r _ (omega (arith, c.loop-r.invariant.0, c.loop-r.invariant.1)) c.loop-r.invariant.2
