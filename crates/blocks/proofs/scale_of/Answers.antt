-- `blocks::scale_of` meets its contract: the norm is that of the first n rows and of the 1.0 right of the lower diagonal. Assumes nothing.
use Rattle.std.proofs.Common.{◌≡◌, nat_lt, cond}
use Rattle.float.specs.Arith.{zero+, one}
use Rattle.blocks.proofs.Top.{below_some, below_none, rows_are, norm_is, admitted_held}
use Rattle.matrix.proofs.Whole.{norm-admitted}
use Rattle.blocks.proofs.scale_of.Goals.{then-s-gt1, else-s-gt1}
use Rattle.blocks.proofs.scale_of.Goals as goal

pub returns-in_err-norm : goal.returns-in_err-norm
returns-in_err-norm c = rw c.from_residual.ensures (rows_are _ _ _ c.requires.augmented _ _ c.lower.ensures c.width.ensures _ c.in_err-norm.ensures)

pub of-requires : goal.of-requires
of-requires c =
    let r = c.in_ok-norm.ensures in
    let b : c.if-s-gt1.below ≡ cond (nat_lt 1 c.args.s.p) one zero+ = elim c.if-s-gt1.branch [
      | then-s-gt1 w ↦ below_some _ _ w.below-is w.if-s-gt1.true
      | else-s-gt1 w ↦ below_none _ _ w.below-is w.if-s-gt1.false
    ] in
    norm-admitted _ _ _ 0 (rows_are _ _ _ c.requires.augmented _ _ c.lower.ensures c.width.ensures _ r.0)
    (norm_is _ _ _ c.requires.augmented _ _ c.lower.ensures c.width.ensures c.args.s.few.0 _ _ _ r.1 b c.larger.ensures)

pub returns : goal.returns
returns c =
    let r = c.in_ok-norm.ensures in
    let b : c.if-s-gt1.below ≡ cond (nat_lt 1 c.args.s.p) one zero+ = elim c.if-s-gt1.branch [
      | then-s-gt1 w ↦ below_some _ _ w.below-is w.if-s-gt1.true
      | else-s-gt1 w ↦ below_none _ _ w.below-is w.if-s-gt1.false
    ] in (
      admitted_held _ _ _ c.args.s.some.1 c.args.s.few.1 c.type_inv.m (rows_are _ _ _ c.requires.augmented _ _ c.lower.ensures c.width.ensures _ r.0),
      rw (norm_is _ _ _ c.requires.augmented _ _ c.lower.ensures c.width.ensures c.args.s.few.0 _ _ _ r.1 b c.larger.ensures) at c.of.ensures,
    )
