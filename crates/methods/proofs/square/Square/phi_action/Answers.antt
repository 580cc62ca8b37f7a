-- `methods::square::Square::phi_action` meets its contract: the blocks tell what the whole does, or nothing. Assumes nothing.
use Rattle.methods.proofs.BlocksOf.{phi_told, phi_refused}
use Rattle.methods.proofs.square.Square.phi_action.Goals as goal

pub returns-in-Refused : goal.returns-in-Refused
returns-in-Refused c = phi_refused _ _ _ _ _ c.in-Refused.ensures

pub returns-in-Told : goal.returns-in-Told
returns-in-Told c = phi_told _ _ _ _ _ _ _ _ c.in-Told.ensures c.single.ensures
