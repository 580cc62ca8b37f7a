-- A product by blocks, row by row: first the products with the first n rows, then those with the lower block. Assumes nothing.
use Rattle.std.proofs.Common.{ℕ, suc, ◌+◌, ◌-◌, ◌*◌, ◌<◌, ◌≤◌, ◌≡◌, sym, ap, ◌∙◌, List, ◌++◌, length, take, drop, replicate, arith, Float}
use Rattle.std.proofs.Math.Decide.{dec_lt, ℕ_discrete}
use Rattle.std.proofs.Math.ListN.{length-replicate, get_or-replicate}
use Rattle.std.proofs.lemmas.List.{get_or-drop}
use borrow.Rule.Slice.PartMut.{put_mid}
use Rattle.std.specs.Float.Ieee.{nan}
use Rattle.loops.specs.Loop.{iter, tab, ◌!◌}
use Rattle.loops.proofs.Loops.{iter_ext}
use Rattle.loops.proofs.Stores.{tab_ext}
use Rattle.float.specs.Arith.{◌⊕◌, ◌⊗◌, zero+}
use Rattle.matrix.specs.Matrix.{at}
use Rattle.matrix.specs.Products.{entry, framed}
use Rattle.blocks.specs.Blocks.{Blocks, along, upper_entry, block_mul}
use Rattle.blocks.specs.Storage.{places, split, times}
use Rattle.blocks.proofs.Products.{upper_is, lower_is}
use Rattle.blocks.proofs.Arrays.{split_at, split_lower, is_joined, length-product}
use Rattle.blocks.proofs.Upper.{length-first, in_columns, firsts_split}
use Rattle.blocks.proofs.Tails.{written, tail_at, length-tail, length-end, lent_end, tail_long, tail_other, tail_before, tail_here, end_long, end_above, end_here}

-- the first n products of an entry
abbrev pub firsts : ℕ → ℕ → Blocks → Blocks → ℕ → ℕ → Float
firsts n p x y i j = iter n (λ k z. z ⊕ at x.upper (n + p) i k ⊗ at y.upper (n + p) k j) zero+

-- left of column n there are no others
upper_short : (n p : ℕ) (x y : Blocks) (i j : ℕ) → j < n → upper_entry n p x y i j ≡ firsts n p x y i j
unfolding upper_entry iter
upper_short n p x y i j h = let e : suc j - n ≡ 0 = omega arith in ap (λ c. iter c (λ k z. z ⊕ at x.upper (n + p) i (n + k) ⊗ y.lower ! (j - n - k)) (firsts n p x y i j)) e

-- and from there on d + 1
upper_long : (n p : ℕ) (x y : Blocks) (i d : ℕ)
    → upper_entry n p x y i (n + d) ≡ iter (suc d) (λ k z. z ⊕ at x.upper (n + p) i (n + k) ⊗ y.lower ! (d - k)) (firsts n p x y i (n + d))
unfolding upper_entry
upper_long n p x y i d = let e : suc (n + d) - n ≡ suc d = omega arith in let f : n + d - n ≡ d = omega arith in rw (e, f)

-- i rows of the product are done, and of the others the first products
pub record Rowwise (n p : ℕ) (x y : Blocks) (i : ℕ) (o : List Float) : Type 0 where
  pub long : length o ≡ places n p
  pub done : (a b : ℕ) → a < i → b < n + p → at o (n + p) a b ≡ upper_entry n p x y a b
  pub begun : (a b : ℕ) → i ≤ a → a < n → b < n + p → at o (n + p) a b ≡ firsts n p x y a b

pub no_rows : (n p c : ℕ) (x y o q : List Float) → c ≡ n + p → length o ≡ places n p
    → q ≡ framed n (n + p) 0 n 0 c (entry n x (n + p) y (n + p)) (take (n * (n + p)) o) ++ drop (n * (n + p)) o → Rowwise n p (split n p x) (split n p y) 0 q
no_rows n p c x y o q ec l e = record {
  long = length-first n p c (entry n x (n + p) y (n + p)) o q e l;
  done = λ a b h k. absurd (omega arith);
  begun = λ a b g h k. in_columns n p c (entry n x (n + p) y (n + p)) o q e l a b h k (omega arith) ∙ firsts_split n p a b x y h k;
}

module _ (n p i s m l : ℕ) (x y o z : List Float) (hi : i < n) (es : s ≡ i * (n + p) + n) (em : m ≡ p) (el : l ≡ n * (n + p)) (R : Rowwise n p (split n p x) (split n p y) i o)
    (ez : z ≡ tab (length (take m (drop s o))) (λ d. iter (suc d) (λ k v. v ⊕ take m (drop s x) ! k ⊗ take (length y - l) (drop l y) ! (d - k)) (take m (drop s o) ! d))) where
  abbrev X : Blocks
  X = split n p x

  abbrev Y : Blocks
  Y = split n p y

  new : (length z ≡ p) × ((d : ℕ) → d < p → z ! d ≡ iter (suc d) (λ k v. v ⊕ take m (drop s x) ! k ⊗ take (length y - l) (drop l y) ! (d - k)) (take m (drop s o) ! d))
  new = written _ p _ z (length-tail n p i s m o hi es em R.long) ez

  new_entry : (d : ℕ) → d < p → z ! d ≡ upper_entry n p X Y i (n + d)
  new_entry d h =
      new.1 d h ∙ ap (iter (suc d) _) (tail_at n p i s m d o es em h ∙ R.begun i (n + d) (omega arith) hi (omega arith))
      ∙ iter_ext (suc d) _ (λ k v. v ⊕ at X.upper (n + p) i (n + k) ⊗ Y.lower ! (d - k)) _
      (λ k q v. ap (λ u. v ⊕ u ⊗ take (length y - l) (drop l y) ! (d - k)) (left k (omega arith)) ∙ ap (λ u. v ⊕ at X.upper (n + p) i (n + k) ⊗ u) (right (d - k)))
      ∙ sym (upper_long n p X Y i d)
    where
      left : (k : ℕ) → k < p → take m (drop s x) ! k ≡ at X.upper (n + p) i (n + k)
      left k h = tail_at n p i s m k x es em h ∙ sym (split_at n p x i (n + k) hi (omega arith))

      right : (k : ℕ) → take (length y - l) (drop l y) ! k ≡ Y.lower ! k
      right k = rw (lent_end l y, el) (get_or-drop (n * (n + p)) y k nan ∙ sym (split_lower n p y k))

  pub next_row : Rowwise n p X Y (i + 1) (put_mid s m o z)
  next_row = record {
    long = tail_long n p i s m o z hi es em new.0 R.long;
    done = λ a b h k. done a b k (ℕ_discrete a i) (dec_lt b n) h;
    begun = λ a b g h k. tail_other n p i s m o z hi es em new.0 R.long a b k (omega arith) ∙ R.begun a b (omega arith) h k;
  }
    where
      done : (a b : ℕ) → b < n + p → Dec (a ≡ i) → Dec (b < n) → a < i + 1 → at (put_mid s m o z) (n + p) a b ≡ upper_entry n p X Y a b
      done a b k (no ne) c h = tail_other n p i s m o z hi es em new.0 R.long a b k ne ∙ R.done a b (omega arith) k
      done a b k (yes e) (yes c) h = rw e (tail_before n p i s m o z hi es em new.0 R.long b c ∙ R.begun i b (omega arith) hi k ∙ sym (upper_short n p X Y i b c))
      done a b k (yes e) (no c) h =
          let f : b ≡ n + (b - n) = omega arith in
          rw (e, f) (tail_here n p i s m o z hi es em new.0 R.long (b - n) (omega arith) ∙ new_entry (b - n) (omega arith))

-- all rows, and the lower block behind them
pub all_rows : (n p i l m : ℕ) (x y o z : List Float) → n ≤ i → l ≡ n * (n + p) → m ≡ length o - l → Rowwise n p (split n p x) (split n p y) i o
    → z ≡ tab (length (take (length o - l) (drop l o))) (along (take (length x - l) (drop l x)) (take (length y - l) (drop l y))) → put_mid l m o z ≡ times n p x y
unfolding times split
all_rows n p i l m x y o z hi el em R e0 =
    is_joined n p B (put_mid l m o z) (length-product n p X Y).0 (length-product n p X Y).1 (end_long n p l m o z el size new.0 R.long)
    (λ a b h k. end_above n p l m o z el size new.0 R.long a b h k ∙ R.done a b (omega arith) k ∙ sym (upper_is n p X Y a b h k))
    (λ d h. end_here n p l m o z el size new.0 R.long d h ∙ new.1 d h ∙ rw el (sym (lower_is n p X Y d h)))
  where
    X : Blocks
    X = split n p x

    Y : Blocks
    Y = split n p y

    B : Blocks
    B = block_mul n p X Y

    ez : z ≡ tab (length (drop l o)) (along (drop l x) (drop l y))
    ez = rw (lent_end l o, lent_end l x, lent_end l y) at e0

    size : m ≡ p
    size = rw em (omega (arith, el, R.long))

    new : (length z ≡ p) × ((d : ℕ) → d < p → z ! d ≡ along (drop l x) (drop l y) d)
    new = written _ p (along (drop l x) (drop l y)) z (length-end n p l o el R.long) ez

-- sums along the diagonals, begun at +0.0
pub from_zeros : (g h o q : List Float) (z : List Float) → z ≡ replicate (length o) zero+
    → q ≡ tab (length z) (λ d. iter (suc d) (λ k v. v ⊕ g ! k ⊗ h ! (d - k)) (z ! d)) → q ≡ tab (length o) (along g h)
unfolding along
from_zeros g h o q z ez e =
    rw (ez, length-replicate (length o) zero+) at e
    ∙ tab_ext (length o) _ _ (λ d k. ap (iter (suc d) (λ k v. v ⊕ g ! k ⊗ h ! (d - k))) (get_or-replicate (length o) d zero+ nan k))
