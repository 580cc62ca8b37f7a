-- `matrix::add_first` meets its contract. Assumes nothing.
use Rattle.std.proofs.Common.{rules, ◌≡◌, List, Bool, true, Float}
use Rattle.std.specs.Float.Ieee.{le}
use Rattle.float.specs.Arith.{◌⊕◌, zero+, one, two}
use Rattle.matrix.specs.Matrix.{add_all, max_abs, small}
use Rattle.matrix.specs.Calls.{positive, Mapped, Begun}
use Rattle.matrix.proofs.add_first.Goals as goal

-- a is left in f, and the rule is applied
module _ (a s f x y : List Float) (v : f ≡ a) (m : Mapped f s (λ z. zero+ ⊕ z) x y) where
  made : x ≡ positive a
  unfolding positive
  made = rw v at m.made

  first : (r : Bool) → r ≡ small x y → Begun a s x y r
  first r e = record { term = made; added = m.added; last = e }

  low : le (max_abs one (add_all s (positive a))) two ≡ true → le (max_abs one y) two ≡ true
  low h = rw (m.added, made) h

pub is_last-requires : goal.is_last-requires
is_last-requires c = low _ _ _ _ _ c.copy_all.ensures (c.add_by.ensures (λ z. zero+ ⊕ z) (λ x y e. search rules)) c.requires.low

pub returns : goal.returns
returns c = first _ _ _ _ _ c.copy_all.ensures (c.add_by.ensures (λ z. zero+ ⊕ z) (λ x y e. search rules)) _ c.is_last.ensures
