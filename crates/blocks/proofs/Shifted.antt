-- A row moved one place on, each number times one. Assumes nothing.
use Rattle.std.proofs.Common.{ℕ, zero, suc, ◌+◌, ◌-◌, ◌≤◌, ◌≡◌, refl, sym, ◌∙◌, cond, eqb, ne_eqb, List, length, set, arith, zero-add, Float}
use Rattle.loops.specs.Loop.{tab, stores, ◌!◌}
use Rattle.loops.proofs.Loops.{stores_step0}
use Rattle.loops.proofs.Stores.{is_tab, length-stores, stores_in, stores_same}
use Rattle.float.specs.Arith.{◌⊕◌, ◌⊗◌, zero+}

-- what is stored at place q over x
abbrev pub shifted : List Float → Float → ℕ → Float → Float
shifted row nu q x = cond (eqb q 0) x (zero+ ⊕ row ! (q - 1) ⊗ nu)

pub shifted_none : (row : List Float) (nu : Float) (o : List Float) → o ≡ stores (shifted row nu) 0 1 o
shifted_none row nu o = sym (stores_same (shifted row nu) 0 1 o (λ j h x. let e : 0 ≡ j = omega arith in rw (← e)))

pub shifted_step : (row : List Float) (nu : Float) (d : ℕ) (o p : List Float) → 1 ≤ d → p ≡ stores (shifted row nu) 0 d o → set p d (zero+ ⊕ row ! (d - 1) ⊗ nu) ≡ stores (shifted row nu) 0 (d + 1) o
shifted_step row nu d o p h e = rw (ne_eqb d 0 (λ z. omega arith)) at (stores_step0 (shifted row nu) d o p e)

pub shifted_end : (row : List Float) (nu : Float) (d : ℕ) (o p : List Float) → length o ≤ d → p ≡ stores (shifted row nu) 0 d o
    → p ≡ tab (length o) (λ q. cond (eqb q 0) (o ! 0) (zero+ ⊕ row ! (q - 1) ⊗ nu))
shifted_end row nu d o p h e = rw e (is_tab (length o) _ _ (length-stores (shifted row nu) 0 d o) (λ q k. rw zero-add at (stores_in (shifted row nu) 0 d o q (omega arith) (omega arith)) ∙ go q))
  where
    go : (q : ℕ) → shifted row nu q (o ! q) ≡ cond (eqb q 0) (o ! 0) (zero+ ⊕ row ! (q - 1) ⊗ nu)
    go zero = refl
    go (suc q) = rw (ne_eqb (suc q) 0 (λ z. omega arith))
