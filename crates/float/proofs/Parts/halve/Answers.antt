-- `float::Parts::halve` meets its contract. Assumes nothing.
use Rattle.float.proofs.Steps.{halve_even, halve_odd}
use Rattle.float.proofs.Parts.halve.Goals as goal
use Rattle.float.proofs.Parts.halve.Goals.{then-self-eq0, else-self-eq0}

pub returns : goal.returns
returns c =
    let r = c.requires in
    elim c.if-self-eq0.branch [
      | then-self-eq0 w ↦ rw w.digits-is (halve_even _ _ w.if-self-eq0.true r.0 r.1 r.2 r.3)
      | else-self-eq0 w ↦ rw w.digits-is (halve_odd _ _ w.if-self-eq0.false r.0 r.1 r.2 r.3)
    ]
