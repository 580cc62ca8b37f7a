-- `float::whole_root` meets its contract. The loop's invariant: the root so far is that of v's leading digits. Assumes nothing.
use Rattle.std.proofs.Common.{arith, sym}
use Rattle.float.proofs.Steps.{read_on, none_yet, all_read, read_small}
use Rattle.float.proofs.whole_root.Goals as goal

pub loop-i-init : goal.loop-i-init
loop-i-init c = (omega arith, record { whole = sym (none_yet c.args.v c.requires); short = omega arith })

pub digit-digits-requires : goal.digit-digits-requires
digit-digits-requires c =
    let l = c.loop-i in
    (omega (arith, read_small c.args.v l.i l.digits.root l.digits.rest c.requires l.invariant.1), l.invariant.1.short, omega arith)

pub loop-i-preserved : goal.loop-i-preserved
loop-i-preserved c = (omega arith, read_on _ _ _ _ _ _ c.loop-i-test.true c.loop-i.invariant.1 c.digit-digits.ensures)

pub returns : goal.returns
returns c = all_read _ _ _ _ c.loop-i-test.false c.loop-i.invariant.1
