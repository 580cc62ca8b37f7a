-- `methods::Square::phi_plain`: the room that is lent is all +0.0, and holds any size. Assumes nothing.
use Rattle.std.proofs.Common.{◌+◌, ◌≤◌, mul-le-mul, arith}
use Rattle.methods.specs.Order.{order_number}
use Rattle.methods.proofs.Laws.{take-replicate, phi_column}
use Rattle.methods.proofs.square.Square.phi_plain.Goals as goal

pub phi_into-requires-clause-m_value : goal.phi_into-requires-clause-m_value
phi_into-requires-clause-m_value c =
    let h : c.get.result + c.from.result ≤ 20 = omega (arith, c.get.ensures.most, c.from.ensures.2) in
    take-replicate _ _ _ (mul-le-mul h h)

pub returns : goal.returns
returns c = phi_column c.args.self.now.n _ _ _ (order_number c.args.order) _ (rw (c.get.ensures.value, c.from.ensures.0) at c.phi_into.ensures)
