-- `session::wanted` meets its contract. Assumes nothing.
use Rattle.std.proofs.Common.{arith}
use Rattle.session.proofs.wanted.Goals as goal

pub overflow_add-result : goal.overflow_add-result
overflow_add-result c = omega (arith, c.questions-in-Some-Difference.ensures.1, c.get.ensures.most)
