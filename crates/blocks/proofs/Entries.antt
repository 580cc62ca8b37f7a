-- The identity, quotients and sums by blocks, entry by entry. Assumes nothing.
use Rattle.std.proofs.Common.{ℕ, ◌+◌, ◌-◌, ◌*◌, ◌/◌, ◌%◌, ◌<◌, ◌≤◌, ◌≡◌, ◌≢◌, refl, sym, ap, ◌∙◌, cond, eqb, eq-eqb, ne_eqb, arith, Float}
use Rattle.std.proofs.Math.Arith.{digits_lt}
use Rattle.std.proofs.Math.Decide.{ℕ_discrete}
use Rattle.loops.specs.Loop.{tab, mat, ◌!◌}
use Rattle.loops.proofs.Loops.{tab_at}
use Rattle.loops.proofs.Stores.{tab_ext}
use Rattle.float.specs.Arith.{◌⊕◌, ◌⊘◌, zero+, one}
use Rattle.matrix.specs.Matrix.{identity, div_all, add_all}
use Rattle.matrix.proofs.Zeros.{Over, zero_over, zero_and_zero}
use Rattle.blocks.specs.Blocks.{Blocks, whole, block_div, block_add, block_identity}
use Rattle.loops.proofs.Places.{grid_at}
use Rattle.blocks.proofs.Whole.{entry, upper_at, zero_at, lower_at, whole_ext, length-whole, whole_place}

pub identity_whole : (n p : ℕ) → identity (n + p) ≡ whole n p (block_identity n p)
unfolding identity block_identity
identity_whole n p =
    whole_ext n p _ (block_identity n p)
    (λ i j h k. unfold block_identity in sym (grid_at n (n + p) _ i j h k))
    (λ i j h k l m. let e : i ≢ j = omega arith in rw (ne_eqb i j e))
    (λ i j h k l. unfold block_identity in rw (tab_at p _ (j - i) (omega arith)) (ap (λ b. cond b one zero+) (go i j k (ℕ_discrete i j))))
  where
    go : (i j : ℕ) → i ≤ j → Dec (i ≡ j) → eqb i j ≡ eqb (j - i) 0
    go i j h (yes e) = let d : j - i ≡ 0 = omega arith in rw (eq-eqb i j e, eq-eqb (j - i) 0 d)
    go i j h (no e) = rw (ne_eqb i j e, ne_eqb (j - i) 0 (λ d. e (omega arith)))

-- an operation on each entry that leaves +0.0 as it is
module _ (n p : ℕ) (x y z : Blocks) (op : Float → Float → Float) (keep : op zero+ zero+ ≡ zero+)
    (u : (q : ℕ) → q < n * (n + p) → z.upper ! q ≡ op (x.upper ! q) (y.upper ! q)) (l : (d : ℕ) → d < p → z.lower ! d ≡ op (x.lower ! d) (y.lower ! d)) where
  pub both_whole : tab ((n + p) * (n + p)) (λ q. op (whole n p x ! q) (whole n p y ! q)) ≡ whole n p z
  both_whole =
      tab_ext ((n + p) * (n + p)) _ _ (λ q h. rw (whole_place n p x q h, whole_place n p y q h)) ∙ as_mat ∙ whole_ext n p _ z
      (λ i j h k. rw (upper_at n p x i j h, upper_at n p y i j h) (sym (u (i * (n + p) + j) (digits_lt h k))))
      (λ i j h k m o. rw (zero_at n p x i j h o, zero_at n p y i j h o) keep)
      (λ i j h k m. rw (lower_at n p x i j h k, lower_at n p y i j h k) (sym (l (j - i) (omega arith))))
    where
      as_mat : tab ((n + p) * (n + p)) (λ q. op (entry n p x (q / (n + p)) (q % (n + p))) (entry n p y (q / (n + p)) (q % (n + p)))) ≡ mat (n + p) (λ i j. op (entry n p x i j) (entry n p y i j))
      as_mat = unfold mat in refl

pub div_whole : (n p : ℕ) (x : Blocks) (d : Float) → Over d → div_all (whole n p x) d ≡ whole n p (block_div n p x d)
unfolding div_all block_div
div_whole n p x d o =
    rw (length-whole n p x) (both_whole n p x x (block_div n p x d) (λ v w. v ⊘ d) (zero_over d o) (λ q h. unfold block_div in tab_at (n * (n + p)) _ q h) (λ e h. unfold block_div in tab_at p _ e h))

pub add_whole : (n p : ℕ) (x y : Blocks) → add_all (whole n p x) (whole n p y) ≡ whole n p (block_add n p x y)
unfolding add_all block_add
add_whole n p x y =
    rw (length-whole n p x) (both_whole n p x y (block_add n p x y) (λ v w. v ⊕ w) zero_and_zero (λ q h. unfold block_add in tab_at (n * (n + p)) _ q h) (λ e h. unfold block_add in tab_at p _ e h))
