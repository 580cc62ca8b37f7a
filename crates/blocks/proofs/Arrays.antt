-- Blocks as an array: its parts, lengths and entries, and the tests of its numbers. Assumes nothing.
use Rattle.std.proofs.Common.{ℕ, ◌+◌, ◌-◌, ◌*◌, ◌<◌, ◌≤◌, ◌≡◌, sym, ap, ◌∙◌, true, List, length, arith, get_or-append-add, Float}
use Rattle.std.proofs.Math.Decide.{dec_lt}
use Rattle.std.proofs.Math.Arith.{digits_lt}
use Rattle.std.proofs.Math.ListN.{length-append, length-drop, get_or-append}
use Rattle.std.proofs.Math.Seq.{take-append_seam, drop-append_seam, take-length, length-take-le, ext_get_or}
use Rattle.std.specs.List.{list_all}
use Rattle.std.proofs.lemmas.List.{get_or-take, get_or-drop}
use Rattle.std.specs.Float.Ieee.{nan}
use Rattle.loops.specs.Loop.{◌!◌}
use Rattle.loops.proofs.Loops.{length-tab, every_at, every_of}
use Rattle.loops.proofs.Stores.{all_first}
use Rattle.loops.proofs.Places.{length-grid}
use Rattle.float.specs.Arith.{finite}
use Rattle.matrix.specs.Matrix.{at}
use Rattle.blocks.specs.Blocks.{Blocks, whole, finite_blocks, block_mul}
use Rattle.blocks.specs.Storage.{places, split, joined, held, all_finite, times}
use Rattle.blocks.proofs.Whole.{Finite, by_test, to_test, by_place, upper_at, lower_at, whole_at}

-- ---- the parts of an array
pub length-upper : (n p : ℕ) (x : List Float) → length x ≡ places n p → length (split n p x).upper ≡ n * (n + p)
unfolding split
length-upper n p x h = length-take-le (n * (n + p)) x (omega arith)

pub length-lower : (n p : ℕ) (x : List Float) → length x ≡ places n p → length (split n p x).lower ≡ p
unfolding split
length-lower n p x h = rw (length-drop, h) (omega arith)

pub split_upper : (n p : ℕ) (x : List Float) (q : ℕ) → q < n * (n + p) → (split n p x).upper ! q ≡ x ! q
unfolding split
split_upper n p x q h = get_or-take (n * (n + p)) x q nan h

pub split_at : (n p : ℕ) (x : List Float) (i j : ℕ) → i < n → j < n + p → at (split n p x).upper (n + p) i j ≡ at x (n + p) i j
split_at n p x i j h k = split_upper n p x (i * (n + p) + j) (digits_lt h k)

pub split_lower : (n p : ℕ) (x : List Float) (d : ℕ) → (split n p x).lower ! d ≡ x ! (n * (n + p) + d)
unfolding split
split_lower n p x d = get_or-drop (n * (n + p)) x d nan

-- ---- the whole matrix that an array holds
pub held_upper : (n p : ℕ) (x : List Float) (i j : ℕ) → i < n → j < n + p → at (held n p x) (n + p) i j ≡ at x (n + p) i j
unfolding held
held_upper n p x i j h k = whole_at n p (split n p x) i j (omega arith) k ∙ upper_at n p (split n p x) i j h ∙ split_at n p x i j h k

pub held_lower : (n p : ℕ) (x : List Float) (i j : ℕ) → n ≤ i → i ≤ j → j < n + p → at (held n p x) (n + p) i j ≡ x ! (n * (n + p) + (j - i))
unfolding held
held_lower n p x i j h k l = whole_at n p (split n p x) i j (omega arith) l ∙ lower_at n p (split n p x) i j h k ∙ split_lower n p x (j - i)

-- ---- the array of blocks
pub length-joined : (n p : ℕ) (x : Blocks) → length x.upper ≡ n * (n + p) → length x.lower ≡ p → length (joined x) ≡ places n p
unfolding joined
length-joined n p x u l = rw (length-append, u, l)

pub split_joined : (n p : ℕ) (x : Blocks) → length x.upper ≡ n * (n + p) → split n p (joined x) ≡ x
unfolding split joined
split_joined n p x u = rw (← u, take-append_seam, drop-append_seam)

pub held_joined : (n p : ℕ) (x : Blocks) → length x.upper ≡ n * (n + p) → held n p (joined x) ≡ whole n p x
unfolding held
held_joined n p x u = ap (whole n p) (split_joined n p x u)

-- an array is that of blocks by its entries
pub is_joined : (n p : ℕ) (x : Blocks) (l : List Float) → length x.upper ≡ n * (n + p) → length x.lower ≡ p → length l ≡ places n p
    → ((i j : ℕ) → i < n → j < n + p → at l (n + p) i j ≡ at x.upper (n + p) i j) → ((d : ℕ) → d < p → l ! (n * (n + p) + d) ≡ x.lower ! d) → l ≡ joined x
unfolding joined
is_joined n p x l u v e f g = ext_get_or nan _ _ (e ∙ sym (length-joined n p x u v)) (λ q h. go q (omega arith) (dec_lt q (n * (n + p))))
  where
    go : (q : ℕ) → q < n * (n + p) + p → Dec (q < n * (n + p)) → l ! q ≡ joined x ! q
    go q h (yes k) = by_place n (n + p) (λ r. l ! r ≡ x.upper ! r) f q k ∙ sym (get_or-append x.upper x.lower nan q (rw u k))
    go q h (no k) =
        let s : q ≡ n * (n + p) + (q - n * (n + p)) = omega arith in
        let t : q ≡ length x.upper + (q - n * (n + p)) = rw u s in
        ap (λ r. l ! r) s ∙ g (q - n * (n + p)) (omega arith) ∙ sym (get_or-append-add x.upper x.lower (q - n * (n + p)) nan) ∙ ap (λ r. joined x ! r) (sym t)

-- ---- a product's array
pub length-product : (n p : ℕ) (x y : Blocks) → (length (block_mul n p x y).upper ≡ n * (n + p)) × (length (block_mul n p x y).lower ≡ p)
unfolding block_mul
length-product n p x y = (length-grid n (n + p) _, length-tab p _)

pub split_times : (n p : ℕ) (x y : List Float) → split n p (times n p x y) ≡ block_mul n p (split n p x) (split n p y)
unfolding times
split_times n p x y = split_joined n p (block_mul n p (split n p x) (split n p y)) (length-product n p (split n p x) (split n p y)).0

pub held_times : (n p : ℕ) (x y : List Float) → held n p (times n p x y) ≡ whole n p (block_mul n p (split n p x) (split n p y))
unfolding held
held_times n p x y = ap (whole n p) (split_times n p x y)

-- ---- every number is finite
pub each_finite : (x : List Float) → list_all finite x ≡ all_finite x
unfolding all_finite
each_finite x = rw take-length at (all_first finite x (length x) (omega arith))

pub finite_split : (n p : ℕ) (x : List Float) → length x ≡ places n p → all_finite x ≡ true → finite_blocks n p (split n p x) ≡ true
unfolding all_finite
finite_split n p x e h =
    let each = every_at (length x) (λ q. finite (x ! q)) h in
    to_test n p (split n p x) (record {
      uppers = λ q k. ap finite (split_upper n p x q k) ∙ each q (omega arith);
      lowers = λ d k. ap finite (split_lower n p x d) ∙ each (n * (n + p) + d) (omega arith);
    })

pub split_finite : (n p : ℕ) (x : List Float) → length x ≡ places n p → finite_blocks n p (split n p x) ≡ true → all_finite x ≡ true
unfolding all_finite
split_finite n p x e h = every_of (length x) (λ q. finite (x ! q)) (λ q k. go q (omega arith) (dec_lt q (n * (n + p))))
  where
    F : Finite n p (split n p x)
    F = by_test n p (split n p x) h

    go : (q : ℕ) → q < n * (n + p) + p → Dec (q < n * (n + p)) → finite (x ! q) ≡ true
    go q k (yes m) = sym (ap finite (split_upper n p x q m)) ∙ F.uppers q m
    go q k (no m) =
        let e : n * (n + p) + (q - n * (n + p)) ≡ q = omega arith in
        let d : q - n * (n + p) < p = omega arith in
        ap (λ r. finite (x ! r)) (sym e) ∙ sym (ap finite (split_lower n p x (q - n * (n + p)))) ∙ F.lowers (q - n * (n + p)) d
