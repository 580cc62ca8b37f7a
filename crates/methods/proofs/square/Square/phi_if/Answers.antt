-- `methods::Square::phi_if`: the action, or whether its row sums are admitted. Assumes nothing.
use Rattle.std.proofs.Common.{sym}
use Rattle.methods.proofs.Laws.{order_some}
use Rattle.methods.proofs.Augmented.{wanted_is, phi_nothing, phi_unadmitted}
use Rattle.methods.proofs.square.Square.phi_if.Goals as goal

pub returns-then-wanted : goal.returns-then-wanted
returns-then-wanted c = wanted_is _ _ _ c.if-wanted.true c.phi_action.ensures

pub returns : goal.returns
returns c = phi_nothing _ _ _ _ _ _ _ c.if-wanted.false c.args.self.now.sized.some (order_some c.args.order) (sym c.if-not-admits.ensures) c.nothing.ensures

pub returns-then-not-admits : goal.returns-then-not-admits
returns-then-not-admits c = phi_unadmitted _ _ _ _ _ _ c.if-wanted.false c.args.self.now.sized.some (order_some c.args.order) (sym c.if-not-admits.ensures)
