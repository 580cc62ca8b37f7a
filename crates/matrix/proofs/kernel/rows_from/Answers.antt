-- `matrix::kernel::rows_from` meets its contract. Assumes nothing.
use Rattle.std.proofs.Common.{◌*◌, ◌≤◌, refl, subst}
use Rattle.std.proofs.Math.Nat.{mul-le-mul_right, add-mul}
use Rattle.matrix.proofs.kernel.rows_from.Goals as goal

pub returns : goal.returns
returns c = (refl, subst (λ z. z ≤ c.args.rows * c.args.width) (add-mul c.args.i c.args.r c.args.width) (mul-le-mul_right c.args.width c.requires.0))
