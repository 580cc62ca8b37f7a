-- `session::places::clear` meets its contract. Assumes nothing.
use Rattle.std.proofs.Common.{◌∙◌}
use Rattle.std.proofs.lemmas.List.{drop_min, take_rest}
use Rattle.session.proofs.Blank.{clear_past}
use Rattle.session.proofs.places.clear.Goals as goal

pub returns : goal.returns
returns c = rw (take_rest, c.min.ensures, drop_min) at (c.blank.ensures) ∙ clear_past _ _
