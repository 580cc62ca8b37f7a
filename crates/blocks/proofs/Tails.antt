-- What a write into the last p places of a row leaves, and one into the lower block. Assumes nothing.
use Rattle.std.proofs.Common.{ℕ, ◌+◌, ◌-◌, ◌*◌, ◌<◌, ◌≤◌, ◌≡◌, ◌≢◌, ap, ◌∙◌, List, length, take, drop, arith, Float}
use Rattle.std.proofs.Math.Decide.{dec_lt}
use Rattle.std.proofs.Math.Arith.{digits_lt}
use Rattle.std.proofs.Math.ListN.{length-drop}
use Rattle.std.proofs.Math.Seq.{length-take-le}
use Rattle.std.proofs.lemmas.List.{get_or-take, get_or-drop, take_all}
use Rattle.std.specs.Float.Ieee.{nan}
use borrow.Rule.Slice.PartMut.{put_mid}
use Rattle.loops.specs.Loop.{tab, ◌!◌}
use Rattle.loops.proofs.Loops.{length-tab, tab_at}
use Rattle.loops.proofs.Places.{row_within}
use Rattle.matrix.specs.Matrix.{at}
use Rattle.matrix.proofs.Framed.{part_in, part_out, length-part}
use Rattle.blocks.specs.Storage.{places}

-- the last p places of row i, and the lower block, as they are lent
pub tail_at : (n p i s m d : ℕ) (x : List Float) → s ≡ i * (n + p) + n → m ≡ p → d < p → take m (drop s x) ! d ≡ at x (n + p) i (n + d)
tail_at n p i s m d x es em h =
    let e : s + d ≡ i * (n + p) + (n + d) = omega (arith, es) in
    get_or-take m (drop s x) d nan (omega (arith, em)) ∙ get_or-drop s x d nan ∙ ap (λ q. x ! q) e

pub length-tail : (n p i s m : ℕ) (o : List Float) → i < n → s ≡ i * (n + p) + n → m ≡ p → length o ≡ places n p → length (take m (drop s o)) ≡ p
length-tail n p i s m o hi es em lo = let r = row_within i n (n + p) hi in rw em (length-take-le p (drop s o) (rw (length-drop, lo, es) (omega (arith, r))))

pub length-end : (n p l : ℕ) (o : List Float) → l ≡ n * (n + p) → length o ≡ places n p → length (drop l o) ≡ p
length-end n p l o el lo = rw (length-drop, lo) (omega (arith, el))

pub lent_end : (l : ℕ) (x : List Float) → take (length x - l) (drop l x) ≡ drop l x
lent_end l x = take_all (length x - l) (drop l x) (rw length-drop (omega arith))

-- what is written there, by its length and its entries
pub written : (k p : ℕ) (f : ℕ → Float) (z : List Float) → k ≡ p → z ≡ tab k f → (length z ≡ p) × ((d : ℕ) → d < p → z ! d ≡ f d)
written k p f z e h = let g : z ≡ tab p f = rw e at h in (rw g (length-tab p f), λ d l. rw g (tab_at p f d l))

-- what is written into the tail of row i
module _ (n p i s m : ℕ) (o z : List Float) (hi : i < n) (es : s ≡ i * (n + p) + n) (em : m ≡ p) (lz : length z ≡ p) (lo : length o ≡ places n p) where
  room : s + p ≤ length o
  room = let r = row_within i n (n + p) hi in rw (lo, es) (omega (arith, r))

  pub tail_long : length (put_mid s m o z) ≡ places n p
  tail_long = length-part s p m o z em lz room ∙ lo

  pub tail_other : (a b : ℕ) → b < n + p → a ≢ i → at (put_mid s m o z) (n + p) a b ≡ at o (n + p) a b
  tail_other a b h ne = part_out s p m (a * (n + p) + b) o z em lz room (λ q l. go q l (dec_lt a i))
    where
      go : (q : ℕ) → q < p → Dec (a < i) → a * (n + p) + b ≢ s + q
      go q l (yes k) = let r = row_within a i (n + p) k in omega (arith, es, r)
      go q l (no k) = let r = row_within i a (n + p) (omega arith) in omega (arith, es, r)

  pub tail_before : (b : ℕ) → b < n → at (put_mid s m o z) (n + p) i b ≡ at o (n + p) i b
  tail_before b h = part_out s p m (i * (n + p) + b) o z em lz room (λ q l. omega (arith, es))

  pub tail_here : (d : ℕ) → d < p → at (put_mid s m o z) (n + p) i (n + d) ≡ z ! d
  tail_here d h = let e : i * (n + p) + (n + d) ≡ s + d = omega (arith, es) in rw e (part_in s p m d o z em lz room h)

  pub tail_lower : (d : ℕ) → put_mid s m o z ! (n * (n + p) + d) ≡ o ! (n * (n + p) + d)
  tail_lower d = let r = row_within i n (n + p) hi in part_out s p m (n * (n + p) + d) o z em lz room (λ q l. omega (arith, es, r))

-- and into the lower block
module _ (n p s m : ℕ) (o z : List Float) (es : s ≡ n * (n + p)) (em : m ≡ p) (lz : length z ≡ p) (lo : length o ≡ places n p) where
  space : s + p ≤ length o
  space = rw (lo, es) (omega arith)

  pub end_long : length (put_mid s m o z) ≡ places n p
  end_long = length-part s p m o z em lz space ∙ lo

  pub end_above : (a b : ℕ) → a < n → b < n + p → at (put_mid s m o z) (n + p) a b ≡ at o (n + p) a b
  end_above a b h k = let r = digits_lt h k in part_out s p m (a * (n + p) + b) o z em lz space (λ q l. omega (arith, es, r))

  pub end_here : (d : ℕ) → d < p → put_mid s m o z ! (n * (n + p) + d) ≡ z ! d
  end_here d h = let e : n * (n + p) + d ≡ s + d = omega (arith, es) in rw e (part_in s p m d o z em lz space h)
