-- `matrix::add_by` meets its contract: the first p entries of the term are made anew and added. Assumes nothing.
use Rattle.std.proofs.Common.{◌≡◌, Float}
use Rattle.loops.specs.Loop.{stores, ◌!◌}
use Rattle.float.specs.Arith.{◌⊕◌}
use Rattle.matrix.proofs.add_by.Given as goal

abbrev pub invariant-loop-p : goal.invariant-loop-p
invariant-loop-p g l = (f : Float → Float) → ((x y : Float) → goal.F-post g l.rule x y → y ≡ f x)
    → (l.term ≡ stores (λ q x. f x) 0 l.p l.initial.term) × (l.sum ≡ stores (λ q x. x ⊕ f (l.initial.term ! q)) 0 l.p l.initial.sum)
