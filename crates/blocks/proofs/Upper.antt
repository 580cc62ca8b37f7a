-- The first n rows of a product, by the product of plain matrices. Assumes nothing.
use Rattle.std.proofs.Common.{ℕ, ◌+◌, ◌*◌, ◌<◌, ◌≡◌, ap, ◌∙◌, cond, ◌&&◌, List, ◌++◌, length, take, drop, arith, zero-le, Float}
use Rattle.std.proofs.Math.Arith.{digits_lt}
use Rattle.std.proofs.Math.ListN.{length-append, length-drop, get_or-append}
use Rattle.std.proofs.lemmas.List.{get_or-take}
use Rattle.std.specs.Float.Ieee.{nan}
use Rattle.loops.specs.Loop.{iter, ◌!◌}
use Rattle.loops.proofs.Loops.{iter_ext}
use Rattle.float.specs.Arith.{◌⊕◌, ◌⊗◌, zero+}
use Rattle.matrix.specs.Matrix.{at}
use Rattle.matrix.specs.Products.{dot, entry, within, framed}
use Rattle.matrix.proofs.Framed.{length-framed, framed_at, is_framed, within_yes}
use Rattle.blocks.specs.Storage.{places, split}
use Rattle.blocks.proofs.Arrays.{split_at}

-- what is written in a frame may be said otherwise
framed_ext : (rows width i r j c : ℕ) (f g : ℕ → ℕ → Float) (o : List Float) → ((a b : ℕ) → a < rows → b < width → f a b ≡ g a b) → framed rows width i r j c f o ≡ framed rows width i r j c g o
framed_ext rows width i r j c f g o e =
    is_framed rows width i r j c g o _ (length-framed rows width i r j c f o)
    (λ a b h k. framed_at rows width i r j c f o a b h k ∙ ap (λ z. cond (within i r a && within j c b) z (at o width a b)) (e a b h k))

-- the sums of the first n products need the first n rows alone
entry_upper : (n p a b : ℕ) (x y : List Float) → a < n → b < n + p
    → entry n (take (n * (n + p)) x) (n + p) (take (n * (n + p)) y) (n + p) a b ≡ entry n x (n + p) y (n + p) a b
unfolding dot
entry_upper n p a b x y h k =
    iter_ext n _ _ zero+ (λ m l z. ap (λ u. z ⊕ u ⊗ take (n * (n + p)) y ! (m * (n + p) + b)) (get_or-take (n * (n + p)) x (a * (n + p) + m) nan (digits_lt h (omega arith)))
    ∙ ap (λ u. z ⊕ x ! (a * (n + p) + m) ⊗ u) (get_or-take (n * (n + p)) y (m * (n + p) + b) nan (digits_lt l k)))

pub upper_parts : (n p l d e f c : ℕ) (x y o z : List Float) → l ≡ n * (n + p) → d ≡ n + p → e ≡ n + p → f ≡ n + p
    → z ≡ framed n f 0 n 0 c (entry n (take l x) d (take l y) e) (take l o)
    → z ++ drop l o ≡ framed n (n + p) 0 n 0 c (entry n x (n + p) y (n + p)) (take (n * (n + p)) o) ++ drop (n * (n + p)) o
upper_parts n p l d e f c x y o z el ed ee ef h =
    let g = rw (el, ed, ee, ef) at h in
    rw el (ap (λ q. q ++ drop (n * (n + p)) o) (g ∙ framed_ext n (n + p) 0 n 0 c _ (entry n x (n + p) y (n + p)) (take (n * (n + p)) o) (λ a b u v. entry_upper n p a b x y u v)))

-- ---- what stands where
module _ (n p c : ℕ) (f : ℕ → ℕ → Float) (o q : List Float) (e : q ≡ framed n (n + p) 0 n 0 c f (take (n * (n + p)) o) ++ drop (n * (n + p)) o) (l : length o ≡ places n p) where
  pub length-first : length q ≡ places n p
  length-first = rw (e, length-append, length-framed n (n + p) 0 n 0 c f (take (n * (n + p)) o), length-drop, l) (omega arith)

  pub in_columns : (a b : ℕ) → a < n → b < n + p → b < c → at q (n + p) a b ≡ f a b
  in_columns a b h k m =
      rw (e, get_or-append (framed n (n + p) 0 n 0 c f (take (n * (n + p)) o)) (drop (n * (n + p)) o) nan (a * (n + p) + b) (rw length-framed (digits_lt h k)))
      (framed_at n (n + p) 0 n 0 c f (take (n * (n + p)) o) a b h k ∙ rw (within_yes 0 n a zero-le (omega arith), within_yes 0 c b zero-le (omega arith)))

-- the first n products, by blocks
pub firsts_split : (n p i j : ℕ) (x y : List Float) → i < n → j < n + p
    → entry n x (n + p) y (n + p) i j ≡ iter n (λ k z. z ⊕ at (split n p x).upper (n + p) i k ⊗ at (split n p y).upper (n + p) k j) zero+
unfolding dot
firsts_split n p i j x y h k = iter_ext n _ _ zero+ (λ m l z. rw (split_at n p x i m h (omega arith), split_at n p y m j l k))
