-- Places of a matrix, what is lent, the orders, and what the exponentials' two outcomes are. Assumes nothing.
use Rattle.std.proofs.Common.{◌≡◌, ℕ, zero, suc, ◌+◌, ◌-◌, ◌*◌, ◌/◌, ◌%◌, ◌<◌, ◌≤◌, Bool, true, false, cond, List, ◌∷◌, length, take, replicate, sym, refl, ap, ◌∙◌, not-suc-le-zero, mul-le-mul, div-add-mod', arith, Float}
use Rattle.loops.specs.Loop.{mat, ◌!◌}
use Rattle.loops.proofs.Places.{row_fits}
use Rattle.float.specs.Arith.{◌⊗◌}
use Rattle.matrix.specs.declared.Reach.{Reach}
use Rattle.matrix.specs.Matrix.{at, admitted, exponential, reach}
use Rattle.matrix.specs.Calls.{Filled}
use Rattle.matrix.specs.Vector.{vec, mat_vec}
use Rattle.std.specs.Prelude.{Option, Some, None, is_some}
use Rattle.methods.specs.declared.Tally.{Tally}
use Rattle.methods.specs.declared.Action.{Action}
use Rattle.methods.specs.declared.order.Order.{Order}
use Rattle.methods.specs.declared.order.Order.TheVariants.{One, Two, Three, Four}
use Rattle.methods.specs.Order.{order_number}
use Rattle.methods.specs.Vectors.{Sized}
use Rattle.methods.specs.Tally.{single}
use Rattle.methods.specs.Phi.{checked, augmented_entry, augmented, phi_action, exp_action}
use Rattle.methods.specs.Parts.{phi_into, report, made}
use Rattle.methods.proofs.Made.{is_made, none_made}

-- scaling place by place is scaling by row and column
pub scale_at : (c : Float) (a : List Float) (n p : ℕ) → c ⊗ a ! p ≡ c ⊗ at a n (p / n) (p % n)
scale_at c a n p = ap (λ q. c ⊗ a ! q) (sym (div-add-mod' p n))

-- a row ends within its matrix
pub row_inside : {n : ℕ} {a : List Float} → Sized n a → (i : ℕ) → i < n → (i * n + n ≤ length a) × (length a ≤ 256)
row_inside {n} s i h = (rw s.square (row_fits i n h), rw s.square (mul-le-mul s.small s.small))

-- an order is at least 1
pub order_some : (order : Order) → 1 ≤ order_number order
order_some One = omega arith
order_some Two = omega arith
order_some Three = omega arith
order_some Four = omega arith

-- ---- a class of room, of sizes up to w
pub take-replicate : (k n : ℕ) (x : Float) → k ≤ n → take k (replicate n x) ≡ replicate k x
take-replicate zero n x h = refl
take-replicate (suc k) zero x h = absurd (not-suc-le-zero h)
take-replicate (suc k) (suc n) x h = ap (λ l. x ∷ l) (take-replicate k n x (omega arith))

-- ---- the two outcomes of an exponential

-- it is made where the matrix is admitted
pub reach_some : (m : List Float) (n : ℕ) → is_some (reach m n) ≡ admitted m n
unfolding reach
reach_some m n = go (admitted m n)
  where
    go : (b : Bool) → is_some (cond {A = Option Reach} b (Some (record { terms = (exponential m n).terms; squarings = (exponential m n).squarings })) None) ≡ b
    go true = refl
    go false = refl

single_some : (r : Option Reach) → (single r).ok ≡ is_some r
unfolding single
single_some (Some k) = refl
single_some None = refl

pub single_ok : (m : List Float) (n : ℕ) → (single (reach m n)).ok ≡ admitted m n
single_ok m n = single_some (reach m n) ∙ reach_some m n

module _ (n : ℕ) (a : List Float) (c : Float) (x : List Float) (m m' e d : List Float) where
  filled : {size : ℕ} (k : Reach) → Filled m size m' d e (Some k) → e ≡ (exponential m size).entries
  filled {size} k q = let h : admitted m size ≡ true = sym (reach_some m size) ∙ ap is_some (sym q.told) in rw h at q.output

  pub phi_ok : (size column : ℕ) (k : Reach) (t : Tally) (v : List Float) → m ≡ mat size (augmented_entry n a c x) → Filled m size m' d e (Some k)
      → report t ≡ single (Some k) → v ≡ vec n (λ i. at e size i column) → Some (record { v = v; tally = t }) ≡ made (phi_into n a c x size column)
  unfolding phi_into checked
  phi_ok size column k t v p q s w = is_made (record { v = v; tally = t }) (phi_into n a c x size column) (rw (w, filled k q, s, ← p, ← q.told) refl)

  pub phi_bad : (size column : ℕ) → m ≡ mat size (augmented_entry n a c x) → Filled m size m' d e None → None ≡ made (phi_into n a c x size column)
  unfolding phi_into checked single
  phi_bad size column p q = none_made (phi_into n a c x size column) (rw (← p, ← q.told) refl)

  pub exp_ok : (k : Reach) (t : Tally) (v : List Float) → m ≡ mat n (λ i j. c ⊗ at a n i j) → Filled m n m' d e (Some k)
      → report t ≡ single (Some k) → v ≡ mat_vec n e x → Some (record { v = v; tally = t }) ≡ made (exp_action n a c x)
  unfolding exp_action checked
  exp_ok k t v p q s w = is_made (record { v = v; tally = t }) (exp_action n a c x) (rw (w, filled k q, s, ← p, ← q.told) refl)

  pub exp_bad : m ≡ mat n (λ i j. c ⊗ at a n i j) → Filled m n m' d e None → None ≡ made (exp_action n a c x)
  unfolding exp_action checked single
  exp_bad p q = none_made (exp_action n a c x) (rw (← p, ← q.told) refl)

-- the phi action of an order is the last column at its size
pub phi_column : (n : ℕ) (a : List Float) (c : Float) (x : List Float) (order : ℕ) (k : Option Action) → k ≡ made (phi_into n a c x (n + order) (n + order - 1)) → k ≡ made (phi_action n a c order x)
unfolding phi_into phi_action augmented
phi_column n a c x order k e = e
