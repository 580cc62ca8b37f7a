-- The whole matrix of blocks, entry by entry. Assumes nothing.
use Rattle.std.proofs.Common.{ℕ, ◌+◌, ◌-◌, ◌*◌, ◌/◌, ◌%◌, ◌<◌, ◌≤◌, ◌≡◌, refl, sym, ap, ◌∙◌, subst, true, cond, nat_lt, lt-ltb, le-ltb, length, arith, div-add-mod'}
use Rattle.std.proofs.Common.{mul-le-mul_right, le_refl, Float}
use Rattle.std.proofs.Math.Nat.{div-lt_iff_lt-mul, mod-lt}
use Rattle.std.proofs.Math.Arith.{digits_lt}
use Rattle.std.proofs.Math.Decide.{dec_lt}
use lib.Count.{count_trailing_zeros}
use Rattle.std.specs.Float.Ieee.{of_bits, of_fields, odd}
use Rattle.loops.specs.Loop.{every, mat, ◌!◌}
use Rattle.loops.proofs.Bools.{both_true, and_both}
use Rattle.loops.proofs.Loops.{tab_at, every_at, every_of}
use Rattle.loops.proofs.Stores.{tab_ext}
use Rattle.loops.proofs.Places.{places_wide, row_below, column_below, mat_at, length-mat}
use Rattle.float.specs.Arith.{zero+, finite}
use Rattle.matrix.specs.Matrix.{at}
use Rattle.blocks.specs.Blocks.{Blocks, whole, finite_blocks}

-- ---- places
pub row_of : (q r c : ℕ) → q < r * c → q / c < r
row_of q r c h = (div-lt_iff_lt-mul (places_wide r c h)).1 h

pub column_of : (q r c : ℕ) → q < r * c → q % c < c
column_of q r c h = mod-lt q (places_wide r c h)

-- what holds by rows and columns holds at each place
pub by_place : (r c : ℕ) (P : ℕ → Type 0) → ((i j : ℕ) → i < r → j < c → P (i * c + j)) → (q : ℕ) → q < r * c → P q
by_place r c P f q h = subst P (div-add-mod' q c) (f (q / c) (q % c) (row_of q r c h) (column_of q r c h))

pub mat_ext : (n : ℕ) (f g : ℕ → ℕ → Float) → ((i j : ℕ) → i < n → j < n → f i j ≡ g i j) → mat n f ≡ mat n g
unfolding mat
mat_ext n f g h = tab_ext (n * n) _ _ (λ q l. h (q / n) (q % n) (row_below q n l) (column_below q n l))

-- ---- the whole
abbrev pub entry : ℕ → ℕ → Blocks → ℕ → ℕ → Float
entry n p x i j = cond (nat_lt i n) (at x.upper (n + p) i j) (cond (nat_lt j i) zero+ (x.lower ! (j - i)))

pub upper_at : (n p : ℕ) (x : Blocks) (i j : ℕ) → i < n → entry n p x i j ≡ at x.upper (n + p) i j
upper_at n p x i j h = rw (lt-ltb i n h)

pub zero_at : (n p : ℕ) (x : Blocks) (i j : ℕ) → n ≤ i → j < i → entry n p x i j ≡ zero+
zero_at n p x i j h k = rw (le-ltb i n h, lt-ltb j i k)

pub lower_at : (n p : ℕ) (x : Blocks) (i j : ℕ) → n ≤ i → i ≤ j → entry n p x i j ≡ x.lower ! (j - i)
lower_at n p x i j h k = rw (le-ltb i n h, le-ltb j i k)

pub whole_at : (n p : ℕ) (x : Blocks) (i j : ℕ) → i < n + p → j < n + p → at (whole n p x) (n + p) i j ≡ entry n p x i j
unfolding whole
whole_at n p x i j h k = mat_at (n + p) (entry n p x) i j h k

pub whole_place : (n p : ℕ) (x : Blocks) (q : ℕ) → q < (n + p) * (n + p) → whole n p x ! q ≡ entry n p x (q / (n + p)) (q % (n + p))
unfolding whole mat
whole_place n p x q h = tab_at ((n + p) * (n + p)) _ q h

pub upper_place : (n p : ℕ) (x : Blocks) (q : ℕ) → q < n * (n + p) → whole n p x ! q ≡ x.upper ! q
upper_place n p x q h =
    let l : n * (n + p) ≤ (n + p) * (n + p) = mul-le-mul_right (n + p) (omega arith) in
    rw (whole_place n p x q (omega arith), upper_at n p x (q / (n + p)) (q % (n + p)) (row_of q n (n + p) h), div-add-mod' q (n + p))

pub length-whole : (n p : ℕ) (x : Blocks) → length (whole n p x) ≡ (n + p) * (n + p)
unfolding whole
length-whole n p x = length-mat (n + p) (entry n p x)

-- two blocks of the same entries have one whole
pub whole_ext : (n p : ℕ) (f : ℕ → ℕ → Float) (x : Blocks)
    → ((i j : ℕ) → i < n → j < n + p → f i j ≡ at x.upper (n + p) i j) → ((i j : ℕ) → n ≤ i → i < n + p → j < n + p → j < i → f i j ≡ zero+)
    → ((i j : ℕ) → n ≤ i → i ≤ j → j < n + p → f i j ≡ x.lower ! (j - i)) → mat (n + p) f ≡ whole n p x
unfolding whole
whole_ext n p f x u z l = mat_ext (n + p) f (entry n p x) (λ i j h k. go i j h k (dec_lt i n) (dec_lt j i))
  where
    go : (i j : ℕ) → i < n + p → j < n + p → Dec (i < n) → Dec (j < i) → f i j ≡ entry n p x i j
    go i j h k (yes a) d = rw (lt-ltb i n a) (u i j a k)
    go i j h k (no a) (yes d) = let g : n ≤ i = omega arith in rw (le-ltb i n g, lt-ltb j i d) (z i j g h k d)
    go i j h k (no a) (no d) = let g : n ≤ i = omega arith in let e : i ≤ j = omega arith in rw (le-ltb i n g, le-ltb j i e) (l i j g e k)

-- ---- finite blocks
pub record Finite (n p : ℕ) (x : Blocks) : Type 0 where
  pub uppers : (q : ℕ) → q < n * (n + p) → finite (x.upper ! q) ≡ true
  pub lowers : (d : ℕ) → d < p → finite (x.lower ! d) ≡ true

pub by_test : (n p : ℕ) (x : Blocks) → finite_blocks n p x ≡ true → Finite n p x
unfolding finite_blocks
by_test n p x h =
    let b = both_true (every (n * (n + p)) (λ q. finite (x.upper ! q))) (every p (λ d. finite (x.lower ! d))) h in
    record { uppers = every_at (n * (n + p)) (λ q. finite (x.upper ! q)) b.0; lowers = every_at p (λ d. finite (x.lower ! d)) b.1 }

pub to_test : (n p : ℕ) (x : Blocks) → Finite n p x → finite_blocks n p x ≡ true
unfolding finite_blocks
to_test n p x h =
    and_both (every (n * (n + p)) (λ q. finite (x.upper ! q))) (every p (λ d. finite (x.lower ! d)))
    (every_of (n * (n + p)) (λ q. finite (x.upper ! q)) h.uppers) (every_of p (λ d. finite (x.lower ! d)) h.lowers)

pub zero_finite : finite zero+ ≡ true
unfolding finite of_bits of_fields odd count_trailing_zeros
zero_finite = refl

-- every entry of the whole is finite
pub entry_finite : (n p : ℕ) (x : Blocks) → Finite n p x → (i j : ℕ) → i < n + p → j < n + p → finite (entry n p x i j) ≡ true
entry_finite n p x F i j h k = go (dec_lt i n) (dec_lt j i)
  where
    go : Dec (i < n) → Dec (j < i) → finite (entry n p x i j) ≡ true
    go (yes a) d = rw (lt-ltb i n a) (F.uppers (i * (n + p) + j) (digits_lt a k))
    go (no a) (yes d) = let g : n ≤ i = omega arith in rw (le-ltb i n g, lt-ltb j i d) zero_finite
    go (no a) (no d) = let g : n ≤ i = omega arith in let e : i ≤ j = omega arith in rw (le-ltb i n g, le-ltb j i e) (F.lowers (j - i) (omega arith))

pub whole_finite : (n p : ℕ) (x : Blocks) → Finite n p x → (q : ℕ) → q < (n + p) * (n + p) → finite (whole n p x ! q) ≡ true
whole_finite n p x F q h = rw (whole_place n p x q h) (entry_finite n p x F (q / (n + p)) (q % (n + p)) (row_below q (n + p) h) (column_below q (n + p) h))

pub from_whole : (n p : ℕ) (x : Blocks) → ((q : ℕ) → q < (n + p) * (n + p) → finite (whole n p x ! q) ≡ true) → Finite n p x
from_whole n p x h = record {
  uppers = λ q l. let m : n * (n + p) ≤ (n + p) * (n + p) = mul-le-mul_right (n + p) (omega arith) in sym (ap finite (upper_place n p x q l)) ∙ h q (omega arith);
  lowers = λ d l.
      let a : n ≤ n + d = omega arith in
      let b : n + d - n ≡ d = omega arith in
      let e : at (whole n p x) (n + p) n (n + d) ≡ x.lower ! d = rw (whole_at n p x n (n + d) (omega arith) (omega arith), lower_at n p x n (n + d) (le_refl n) a, b) in
      sym (ap finite e) ∙ h (n * (n + p) + (n + d)) (digits_lt (omega arith) (omega arith));
}
