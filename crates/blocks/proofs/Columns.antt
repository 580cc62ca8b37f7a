-- The last column of the whole matrix that an array holds. Assumes nothing.
use Rattle.std.proofs.Common.{ℕ, ◌+◌, ◌-◌, ◌*◌, ◌<◌, ◌≡◌, sym, ap, ◌∙◌, List, ◌++◌, length, set, take, drop, replicate, arith, zero-le, Float}
use Rattle.std.proofs.Math.Arith.{digits_lt}
use Rattle.std.proofs.Math.ListN.{length-replicate}
use Rattle.std.proofs.lemmas.List.{get_or-take}
use Rattle.std.specs.Float.Ieee.{nan}
use Rattle.loops.specs.Loop.{fill, ◌!◌}
use Rattle.loops.proofs.Loops.{iter_ext, fill_call}
use Rattle.loops.proofs.Stores.{is_tab}
use Rattle.loops.proofs.Places.{mat_at}
use Rattle.float.specs.Arith.{◌⊕◌, ◌⊗◌, zero+}
use Rattle.matrix.specs.Matrix.{at, mat_mul}
use Rattle.matrix.specs.Vector.{zeros, vec}
use Rattle.matrix.specs.Products.{dot, entry, framed}
use Rattle.matrix.proofs.Vectors.{fill_at}
use Rattle.matrix.proofs.Framed.{length-framed, framed_at, within_yes}
use Rattle.blocks.specs.Storage.{held}
use Rattle.blocks.proofs.Arrays.{held_upper, held_lower}

-- its numbers in the first rows, and in the lower ones
pub last_upper : (n p : ℕ) (x : List Float) (i t : ℕ) → 0 < p → i < n → t ≡ i * (n + p) + n → x ! (t + p - 1) ≡ at (held n p x) (n + p) i (n + p - 1)
last_upper n p x i t h k e = let a : t + p - 1 ≡ i * (n + p) + (n + p - 1) = omega arith in rw a (sym (held_upper n p x i (n + p - 1) k (omega arith)))

pub last_lower : (n p : ℕ) (x : List Float) (d l : ℕ) → d < p → l ≡ n * (n + p) → x ! (l + (p - 1 - d)) ≡ at (held n p x) (n + p) (n + d) (n + p - 1)
last_lower n p x d l h e =
    let a : l + (p - 1 - d) ≡ n * (n + p) + (n + p - 1 - (n + d)) = omega arith in
    rw a (sym (held_lower n p x (n + d) (n + p - 1) (omega arith) (omega arith) (omega arith)))

-- the next of twenty places
pub next_number : (f : ℕ → Float) (i k : ℕ) (x : List Float) (y : Float) → x ≡ fill i f (replicate 20 zero+) → i < 20 → k ≡ i + 1 → y ≡ f i → set x i y ≡ fill k f (replicate 20 zero+)
next_number f i k x y e h m u = rw m (fill_call nan f i (replicate 20 zero+) x y e (rw (length-replicate 20 zero+) h) u)

pub so_many : (f : ℕ → Float) (i k : ℕ) (x o : List Float) → x ≡ fill i f o → i ≡ k → x ≡ fill k f o
so_many f i k x o e h = rw h at e

-- ---- the last column of a square
module _ (n p l u d w : ℕ) (x v z : List Float) (el : l ≡ n * (n + p)) (eu : u ≡ n + p) (ed : d ≡ n + p) (ew : w ≡ n + p)
    (ev : v ≡ fill (n + p) (λ i. at (held n p x) (n + p) i (n + p - 1)) (replicate 20 zero+)) where
  abbrev H : List Float
  H = held n p x

  left : (i k : ℕ) → i < n → k < n + p → take l x ! (i * (n + p) + k) ≡ at H (n + p) i k
  left i k h m = rw el (get_or-take (n * (n + p)) x (i * (n + p) + k) nan (digits_lt h m) ∙ sym (held_upper n p x i k h m))

  right : (k : ℕ) → k < n + p → take w v ! (k * 1 + 0) ≡ at H (n + p) k (n + p - 1)
  right k h =
      let e : k * 1 + 0 ≡ k = omega arith in
      let g : k < w = omega arith in
      rw (e, get_or-take w v k nan g, ev) (fill_at (n + p) _ (replicate 20 zero+) k h)

  sums : (i : ℕ) → i < n → entry u (take l x) d (take w v) 1 i 0 ≡ at (mat_mul H H (n + p)) (n + p) i (n + p - 1)
  unfolding dot mat_mul
  sums i h =
      rw (eu, ed) (iter_ext (n + p) _ (λ k y. y ⊕ at H (n + p) i k ⊗ at H (n + p) k (n + p - 1)) zero+
      (λ k m y. ap (λ q. y ⊕ q ⊗ take w v ! (k * 1 + 0)) (left i k h m) ∙ ap (λ q. y ⊕ at H (n + p) i k ⊗ q) (right k m))
      ∙ sym (mat_at (n + p) _ i (n + p - 1) (omega arith) (omega arith)))

  pub column_product : z ≡ framed n 1 0 n 0 1 (entry u (take l x) d (take w v) 1) (take n (replicate 16 zero+))
      → z ++ drop n (replicate 16 zero+) ≡ vec n (λ i. at (mat_mul H H (n + p)) (n + p) i (n + p - 1))
  unfolding vec fill zeros
  column_product ez = ap (λ q. q ++ drop n (replicate 16 zero+)) (is_tab n _ z long (λ q h. here q h ∙ sums q h))
    where
      long : length z ≡ n
      long = rw (ez, length-framed n 1 0 n 0 1 (entry u (take l x) d (take w v) 1) (take n (replicate 16 zero+))) (omega arith)

      here : (q : ℕ) → q < n → z ! q ≡ entry u (take l x) d (take w v) 1 q 0
      here q h =
          let e : q ≡ q * 1 + 0 = omega arith in
          ap (λ r. z ! r) e ∙ rw ez (framed_at n 1 0 n 0 1 (entry u (take l x) d (take w v) 1) (take n (replicate 16 zero+)) q 0 h (omega arith)
          ∙ rw (within_yes 0 n q zero-le (omega arith)))
