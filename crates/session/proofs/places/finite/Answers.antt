-- `session::places::finite` meets its contract. Assumes nothing.
use Rattle.std.proofs.Common.{◌∙◌}
use Rattle.session.proofs.Blank.{finite_used}
use Rattle.session.proofs.places.finite.Goals as goal

pub returns : goal.returns
returns c = c.all_finite.ensures ∙ finite_used c.args.used _ c.args.x.now c.min.ensures c.requires
