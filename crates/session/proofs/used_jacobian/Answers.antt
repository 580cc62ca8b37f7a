-- `session::used_jacobian` meets its contract. Assumes nothing.
use Rattle.std.proofs.Common.{arith, mul-le-mul}
use Rattle.session.proofs.used_jacobian.Goals as goal

pub overflow_mul-result : goal.overflow_mul-result
overflow_mul-result c = omega (arith, mul-le-mul c.get.ensures.most c.get-in-Some-Given.ensures.most)
