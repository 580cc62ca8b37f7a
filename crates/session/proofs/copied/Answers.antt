-- `session::copied` meets its contract. Assumes nothing.
use Rattle.std.proofs.Common.{rules, cond, ltb}
use Rattle.float.specs.Arith.{zero+}
use Rattle.session.proofs.Old.{copied-vec}
use Rattle.session.proofs.copied.Goals as goal

pub returns : goal.returns
returns c = copied-vec _ _ _ (rw c.new.ensures at (c.vector.ensures (λ i. cond (ltb i c.args.n) c.args.one zero+) (λ i x l p. search rules)))
