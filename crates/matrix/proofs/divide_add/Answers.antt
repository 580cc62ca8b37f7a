-- `matrix::divide_add` meets its contract: where k is a power of two its inverse is a factor. Assumes nothing.
use Rattle.std.proofs.Common.{rules, pos}
use Rattle.std.specs.Float.Ieee.{binary64, of_int}
use Rattle.float.specs.Arith.{◌⊘◌}
use Rattle.matrix.proofs.Powers.{wholes, by_whole}
use Rattle.matrix.proofs.divide_add.Goals as goal

pub returns-in-2 : goal.returns-in-2
returns-in-2 c = rw c.in-2.is (c.add_by.ensures (λ x. x ⊘ of_int binary64 (pos 2)) (λ x y e. by_whole wholes.0 x y (search rules)))

pub returns-in-4 : goal.returns-in-4
returns-in-4 c = rw c.in-4.is (c.add_by-in-4.ensures (λ x. x ⊘ of_int binary64 (pos 4)) (λ x y e. by_whole wholes.1 x y (search rules)))

pub returns-in-8 : goal.returns-in-8
returns-in-8 c = rw c.in-8.is (c.add_by-in-8.ensures (λ x. x ⊘ of_int binary64 (pos 8)) (λ x y e. by_whole wholes.2 x y (search rules)))

pub returns-in_default : goal.returns-in_default
returns-in_default c = c.add_by-in_default.ensures (λ x. x ⊘ of_int binary64 (pos c.args.k)) (λ x y e. search rules)
