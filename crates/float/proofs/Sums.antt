-- The three steps of a loop that sums from its first item, and of one that keeps the largest. Assumes nothing.
use Rattle.std.proofs.Common.{ℕ, zero, suc, ◌+◌, ◌≤◌, ◌<◌, ◌≡◌, refl, List, [], ◌∷◌, length, drop, fold, arith, Float}
use Rattle.std.proofs.Math.Numerals.{add-one}
use Rattle.std.proofs.Math.Nat.{not-suc-le-zero, add-zero, zero-add, add-suc, suc-add}
use Rattle.loops.specs.Loop.{◌!◌}
use Rattle.float.specs.Arith.{◌⊕◌, larger, sum_of, most}

pub sum_first : (f : ℕ → Float) (x : Float) → x ≡ f 0 → x ≡ sum_of 1 f
unfolding sum_of
sum_first f x e = e

pub sum_step : (f : ℕ → Float) (k : ℕ) (x y : Float) → x ≡ sum_of k f → y ≡ f k → 1 ≤ k → x ⊕ y ≡ sum_of (k + 1) f
unfolding sum_of
sum_step f zero x y e g h = absurd (not-suc-le-zero h)
sum_step f (suc k) x y e g h = rw (add-one, e, g)

pub sum_end : (f : ℕ → Float) (k n : ℕ) (x : Float) → x ≡ sum_of k f → k ≡ n → x ≡ sum_of n f
sum_end f k n x e h = rw (← h) e

-- a sum of a list, from its first item on
pub fold_sum : (f : Float → Float) (g : ℕ → Float) (k : ℕ) (xs : List Float) → ((j : ℕ) → j < length xs → f (xs ! j) ≡ g (suc (k + j)))
    → fold (λ s x. s ⊕ f x) (sum_of (suc k) g) xs ≡ sum_of (suc (k + length xs)) g
unfolding sum_of
fold_sum f g k [] h = rw add-zero
fold_sum f g k (x ∷ xs) h =
    let e : f x ≡ g (suc k) = rw add-zero at (h 0 (omega arith)) in
    rw (e, add-suc) (rw suc-add at (fold_sum f g (suc k) xs (λ j l. rw suc-add (rw add-suc at (h (suc j) (omega arith))))))

pub sum_from_first : (f : Float → Float) (xs : List Float) → 0 < length xs → fold (λ s x. s ⊕ f x) (f (xs ! 0)) (drop 1 xs) ≡ sum_of (length xs) (λ j. f (xs ! j))
unfolding sum_of
sum_from_first f [] h = absurd (omega arith)
sum_from_first f (x ∷ xs) h = rw zero-add at (fold_sum f (λ j. f ((x ∷ xs) ! j)) 0 xs (λ j l. rw zero-add))

pub most_none : (f : ℕ → Float) (x : Float) → x ≡ most 0 f x
unfolding most
most_none f x = refl

pub most_step : (f : ℕ → Float) (o : Float) (k : ℕ) (x y z : Float) → x ≡ most k f o → y ≡ f k → z ≡ larger x y → z ≡ most (k + 1) f o
unfolding most
most_step f o k x y z e g h = rw (add-one, h, e, g)

pub most_end : (f : ℕ → Float) (o : Float) (k n : ℕ) (x : Float) → x ≡ most k f o → k ≡ n → x ≡ most n f o
most_end f o k n x e h = rw (← h) e

-- sums, and largest items, of the same items
pub sum_ext : (n : ℕ) (f g : ℕ → Float) → ((k : ℕ) → k < n → f k ≡ g k) → sum_of n f ≡ sum_of n g
unfolding sum_of
sum_ext zero f g p = refl
sum_ext (suc zero) f g p = p 0 (omega arith)
sum_ext (suc (suc n)) f g p = rw (sum_ext (suc n) f g (λ k h. p k (omega arith)), p (suc n) (omega arith))

pub most_ext : (n : ℕ) (f g : ℕ → Float) (x : Float) → ((k : ℕ) → k < n → f k ≡ g k) → most n f x ≡ most n g x
unfolding most
most_ext zero f g x p = refl
most_ext (suc n) f g x p = rw (most_ext n f g x (λ k h. p k (omega arith)), p n (omega arith))
