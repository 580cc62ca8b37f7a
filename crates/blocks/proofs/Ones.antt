-- The identity as an array. Assumes nothing.
use Rattle.std.proofs.Common.{ℕ, zero, suc, ◌+◌, ◌*◌, ◌<◌, ◌≡◌, ◌≢◌, sym, ◌∙◌, cond, eqb, ne_eqb, List, length, set, replicate, arith, zero-add, add-zero, Float}
use Rattle.std.proofs.Math.Arith.{digits_lt}
use Rattle.std.proofs.Math.ListN.{length-set, length-replicate, get_or-replicate}
use Rattle.std.proofs.Math.Seq.{get_or-set_same, get_or-set_other}
use Rattle.std.specs.Float.Ieee.{nan}
use Rattle.loops.specs.Loop.{stores, ◌!◌}
use Rattle.loops.proofs.Loops.{length-tab, tab_at}
use Rattle.loops.proofs.Stores.{length-stores, stores_in, stores_out}
use Rattle.loops.proofs.Places.{place_row, place_column, length-grid, grid_at}
use Rattle.float.specs.Arith.{zero+, one}
use Rattle.matrix.specs.Matrix.{at}
use Rattle.matrix.proofs.Products.{diagonal}
use Rattle.blocks.specs.Blocks.{block_identity}
use Rattle.blocks.specs.Storage.{places, joined}
use Rattle.blocks.proofs.Arrays.{is_joined}

module _ (n p : ℕ) (z q : List Float) (lz : length z ≡ places n p) (ez : z ≡ replicate (places n p) zero+) (eq : q ≡ stores (diagonal (n + p)) 0 (n * (n + p)) z) where
  clear : (r : ℕ) → r < places n p → z ! r ≡ zero+
  clear r h = rw ez (get_or-replicate (places n p) r zero+ nan h)

  length-ones : length (set q (n * (n + p)) one) ≡ places n p
  length-ones = rw (length-set, eq, length-stores) lz

  above : (i j : ℕ) → i < n → j < n + p → at (set q (n * (n + p)) one) (n + p) i j ≡ cond (eqb i j) one zero+
  above i j h k =
      let s : i * (n + p) + j < n * (n + p) = digits_lt h k in
      let ne : i * (n + p) + j ≢ n * (n + p) = omega arith in
      rw (get_or-set_other, eq) (rw zero-add at (stores_in (diagonal (n + p)) 0 (n * (n + p)) z (i * (n + p) + j) s (omega arith))
      ∙ rw (place_row i j (n + p) k, place_column i j (n + p) k, clear (i * (n + p) + j) (omega arith)))

  below : (d : ℕ) → d < p → set q (n * (n + p)) one ! (n * (n + p) + d) ≡ cond (eqb d 0) one zero+
  below zero h =
      let r : n * (n + p) < length q = rw (eq, length-stores, lz) (omega arith) in
      rw (add-zero, get_or-set_same)
  below (suc d) h =
      let ne : n * (n + p) + suc d ≢ n * (n + p) = omega arith in
      rw (get_or-set_other, eq, ne_eqb (suc d) 0 (λ u. omega arith))
      (stores_out (diagonal (n + p)) 0 (n * (n + p)) z (n * (n + p) + suc d) (λ j l. omega arith) ∙ clear (n * (n + p) + suc d) (omega arith))

  ones : set q (n * (n + p)) one ≡ joined (block_identity n p)
  unfolding block_identity
  ones =
      is_joined n p (block_identity n p) _ (length-grid n (n + p) _) (length-tab p _) length-ones
      (λ i j h k. above i j h k ∙ sym (grid_at n (n + p) _ i j h k)) (λ d h. below d h ∙ sym (tab_at p _ d h))

pub identity_ends : (n p i l : ℕ) (o z q : List Float) → i ≡ n → l ≡ n * (n + p) → length o ≡ places n p → z ≡ replicate (length o) zero+
    → q ≡ stores (diagonal (n + p)) 0 (i * (n + p)) z → set q l one ≡ joined (block_identity n p)
identity_ends n p i l o z q ei el eo ez eq =
    let f = rw eo at ez in
    let g = rw ei at eq in
    rw el (ones n p z q (rw f (length-replicate (places n p) zero+)) f g)
