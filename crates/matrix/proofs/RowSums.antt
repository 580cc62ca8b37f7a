-- One row of a Taylor term: the row sum of magnitudes shrinks to 9 / (16 * K) of the last term's, and a little. Assumes nothing.
use Rattle.std.proofs.Common.{◌≡◌, refl, sym, ap, ◌∙◌, subst, ℕ, zero, suc, ◌+◌, ◌*◌, ◌/◌, ◌^◌, ◌≤◌, ◌<◌, zero-le, le_trans, le_refl, le_of_eq, suc-mul, add-mul, mul_comm, mul_assoc, mul_left_comm, mul_right_comm, mul-le-mul_right, mul-le-mul_left, mul-le-mul, add-le-add, le_of_mul-le-mul_right, arith, false, T, leb, leb→le, lit≤, pow_pos, Float}
use Rattle.std.proofs.Math.Nat.{le-suc}
use lib.Count.{count_trailing_zeros}
use Rattle.std.specs.Float.Ieee.{binary64, emax, low, unlike, of_bits, of_fields, odd}
use lib.Ieee.Exact.{HasValue}
use Rattle.float.specs.Arith.{◌⊕◌, ◌⊗◌, ◌⊘◌, zero+}
use Rattle.matrix.specs.Products.{dot}
use Rattle.loops.specs.Loop.{iter}
use Rattle.float.proofs.Round.{half}
use Rattle.float.proofs.Mag.{Near, mag, On, equals_on, equals_mag}
use Rattle.float.proofs.Signed.{sgn, Rounds, mul_rounds, div_rounds, add_off, add-le}
use Rattle.float.proofs.Total.{total, total_mono, total_add, total_mul, total_const, total_swap, entry_le, prefix_le}

abbrev pub On64 : Float → Type 0
On64 x = On binary64 x

abbrev pub mag64 : Float → ℕ
mag64 x = mag binary64 x

abbrev pub unit64 : ℕ
unit64 = 2 ^ low binary64

-- ---- a sum of n numbers: E bounds each rounding's error

pub zero_on : On64 zero+
unfolding of_bits of_fields odd count_trailing_zeros
zero_on = equals_on binary64 zero+ 0 refl

pub zero_mag : mag64 zero+ ≡ 0
unfolding of_bits of_fields odd count_trailing_zeros
zero_mag = equals_mag binary64 zero+ 0 refl

-- (S + n * E) fits
abbrev pub Room : ℕ → Type 0
Room v = v * 2 ≤ unit64 * 2 ^ emax binary64

pub room_mono : (v w : ℕ) → v ≤ w → Room w → Room v
room_mono v w h k = le_trans (mul-le-mul_right 2 h) k

pub reach : (m t p j n S E : ℕ) → m ≤ t + j * E → t + p ≤ S → j ≤ n → m + p ≤ S + n * E
reach m t p j n S E h k l = let a : j * E ≤ n * E = mul-le-mul_right E l in omega arith

grown : (m t p j E g : ℕ) → m ≤ t + j * E → g ≤ m + p + E → g ≤ t + p + suc j * E
grown m t p j E g h k = let a : suc j * E ≡ j * E + E = suc-mul j E in omega arith

-- what holds of the sum of the first j products, if each rounding is off by E at most
abbrev pub Summed : (ℕ → Float) → (ℕ → Float) → ℕ → ℕ → Type 0
Summed l r E j = On64 (dot j l r) × (mag64 (dot j l r) ≤ total j (λ k. mag64 (l k ⊗ r k)) + j * E)

module _ (n : ℕ) (l r : ℕ → Float) (S E : ℕ) (on : (k : ℕ) → k < n → On64 (l k ⊗ r k)) (sum-le : total n (λ k. mag64 (l k ⊗ r k)) ≤ S)
    (enough : S + n * E + half binary64 ≤ E * (2 * half binary64)) (room : Room (S + n * E)) where
  pub dot_bound : (j : ℕ) → j ≤ n → Summed l r E j
  unfolding dot iter total
  dot_bound zero h = (zero_on, le_trans (le_of_eq zero_mag) zero-le)
  dot_bound (suc j) h =
      let h' = le_trans (le-suc j) h in
      let ih = dot_bound j h' in
      let d = dot j l r in
      let z = l j ⊗ r j in
      let t = total j (λ k. mag64 (l k ⊗ r k)) in
      let v = mag64 d + mag64 z in
      let w : v ≤ S + n * E = reach (mag64 d) t (mag64 z) j n S E ih.1 (le_trans (prefix_le n (λ k. mag64 (l k ⊗ r k)) (suc j) h) sum-le) h' in
      let a = add_off binary64 d z E ih.0 (on j h) (room_mono v (S + n * E) w room) (le_trans (add-le-add w (le_refl (half binary64))) enough) in
      (a.0, grown (mag64 d) t (mag64 z) j E (mag64 (d ⊕ z)) ih.1 (add-le binary64 d z E a.1))

-- ---- crude forms of one rounding
pub crude : (v c g : ℕ) → Near (half binary64) v c g → c * 1024 * g ≤ 1025 * v + c * 1024
crude v c g h =
    let a : c * 1024 * g ≡ g * c * 1024 = mul_comm (c * 1024) g ∙ sym (mul_assoc g c 1024) in
    let u = h.0 in
    omega arith

-- ---- the products of a row with the matrix
-- c * p ≤ a * b + d at each place sums to c * P ≤ a * B + n * d
pub spread : (n c a d : ℕ) (p b : ℕ → ℕ) → ((i : ℕ) → i < n → c * p i ≤ a * b i + d) → c * total n p ≤ a * total n b + n * d
spread n c a d p b h =
    le_trans (le_of_eq (sym (total_mul n c p)))
    (le_trans (total_mono n (λ i. c * p i) (λ i. a * b i + d) h)
    (le_of_eq (total_add n (λ i. a * b i) (λ i. d) ∙ ap (λ (z : ℕ). z + total n (λ i. d)) (total_mul n a b) ∙ ap (λ (z : ℕ). a * total n b + z) (total_const n d))))

cancel_unit : (U S R β n : ℕ) → 0 < U → n ≤ 20 → β * 1024 ≤ U * 530 → U * 1024 * S ≤ 1025 * β * R + n * (n * (U * 1024)) → S * 1048576 ≤ 543250 * R + 419430400
cancel_unit U S R β n u nn b h =
    let a : n * (n * (U * 1024)) ≤ 20 * (20 * (U * 1024)) = mul-le-mul nn (mul-le-mul_right (U * 1024) nn) in
    let e : β * 1024 * R ≤ U * 530 * R = mul-le-mul_right R b in
    let x : β * 1024 * R ≡ β * R * 1024 = mul_right_comm β 1024 R in
    let y : U * 530 * R ≡ U * R * 530 = mul_right_comm U 530 R in
    let z : 1025 * β * R ≡ 1025 * (β * R) = mul_assoc 1025 β R in
    let w : U * 1024 * S ≡ U * S * 1024 = mul_right_comm U 1024 S in
    let l : S * 1048576 * U ≡ U * S * 1048576 = simp (mul_assoc, mul_comm, mul_left_comm) in
    let r : (543250 * R + 419430400) * U ≡ U * R * 543250 + 419430400 * U = add-mul (543250 * R) 419430400 U ∙ ap (λ (t : ℕ). t + 419430400 * U)
    (mul_assoc 543250 R U ∙ mul_comm 543250 (R * U) ∙ ap (λ (t : ℕ). t * 543250) (mul_comm R U)) in
    le_of_mul-le-mul_right (omega arith) u

-- the error bound of each addition in a column whose products' magnitudes sum to S
abbrev pub err : ℕ → ℕ
err S = S / 4503599627370496 + 2

err_enough : (n S : ℕ) → n ≤ 20 → S + n * err S + half binary64 ≤ err S * (2 * half binary64)
err_enough n S h = let a : n * err S ≤ 20 * err S = mul-le-mul_right (err S) h in omega arith

pub big_unit : 1048576 ≤ unit64
big_unit = lit≤ tt

err_room : (n S U : ℕ) → n ≤ 20 → S ≤ U → 1048576 ≤ U → S + n * err S ≤ U * 2
err_room n S U h k l = let a : n * err S ≤ 20 * err S = mul-le-mul_right (err S) h in omega arith

pub lit_left : (k m n : ℕ) → T (leb m n) → k * m ≤ k * n
lit_left k m n t = mul-le-mul_left k (leb→le m n t)

pub two_units : (v : ℕ) → v ≤ unit64 * 2 → Room v
two_units v h = le_trans (mul-le-mul_right 2 h) (le_trans (le_of_eq (mul_assoc unit64 2 2)) (lit_left unit64 4 (2 ^ emax binary64) tt))

S-le : (S R U : ℕ) → S * 1048576 ≤ 543250 * R + 419430400 → R ≤ U → 1048576 ≤ U → S ≤ U
S-le S R U h k l = omega arith

dot_crude : (n S x : ℕ) → n ≤ 20 → x ≤ S + n * err S → 1024 * x ≤ 1025 * S + 40960
dot_crude n S x h l = let a : n * err S ≤ 20 * err S = mul-le-mul_right (err S) h in omega arith

X_of_R : (n R S X : ℕ) → n ≤ 20 → S * 1048576 ≤ 543250 * R + 419430400 → 1024 * X ≤ 1025 * S + n * 40960 → X * 1048576 ≤ 544000 * R + 1270000000
X_of_R n R S X h s x = let a : n * 40960 ≤ 20 * 40960 = mul-le-mul_right 40960 h in omega arith

final : (n K R X D : ℕ) → n ≤ 20 → K ≤ 16 → X * 1048576 ≤ 544000 * R + 1270000000 → K * 1024 * D ≤ 1025 * X + n * (K * 1024) → D * (16 * K) ≤ 9 * R + 30000
final n K R X D h k x d =
    let b : n * (K * 1024) ≤ 20 * (16 * 1024) = mul-le-mul h (mul-le-mul_right 1024 k) in
    let c : K * 1024 * D ≡ D * K * 1024 = simp (mul_assoc, mul_comm, mul_left_comm) in
    let e : D * (16 * K) ≡ D * K * 16 = simp (mul_assoc, mul_comm, mul_left_comm) in
    omega arith

module _ (n : ℕ) (t : ℕ → Float) (b : ℕ → ℕ → Float) (R β : ℕ) (n20 : n ≤ 20) (t-on : (k : ℕ) → k < n → On64 (t k)) (t-le : total n (λ k. mag64 (t k)) ≤ R) (R-le : R ≤ unit64)
    (b-on : (k j : ℕ) → k < n → j < n → On64 (b k j)) (b-le : (k : ℕ) → k < n → total n (λ j. mag64 (b k j)) ≤ β) (β-le : β * 1024 ≤ unit64 * 530) where
  abbrev pub p : ℕ → ℕ → ℕ
  p k j = mag64 (t k ⊗ b k j)

  pub β_unit : β ≤ unit64
  β_unit = go β unit64 β-le
    where
      go : (x y : ℕ) → x * 1024 ≤ y * 530 → x ≤ y
      go x y h = omega arith

  pub products : (k j : ℕ) → k < n → j < n → Rounds binary64 (t k ⊗ b k j) (unlike (sgn (t k)) (sgn (b k j))) (mag64 (t k) * mag64 (b k j)) unit64
  products k j hk hj =
      let x : mag64 (t k) ≤ unit64 = le_trans (entry_le n (λ i. mag64 (t i)) k hk) (le_trans t-le R-le) in
      let y : mag64 (b k j) ≤ unit64 = le_trans (entry_le n (λ i. mag64 (b k i)) j hj) (le_trans (b-le k hk) β_unit) in
      mul_rounds binary64 (t k) (b k j) (t-on k hk) (b-on k j hk hj) (le_trans (mul-le-mul_right 2 (mul-le-mul x y)) (lit_left (unit64 * unit64) 2 (2 ^ emax binary64) tt))

  one_row : (k : ℕ) → k < n → unit64 * 1024 * total n (p k) ≤ 1025 * β * mag64 (t k) + n * (unit64 * 1024)
  one_row k hk =
      let T = mag64 (t k) in
      let h = spread n (unit64 * 1024) (1025 * T) (unit64 * 1024) (p k) (λ j. mag64 (b k j))
      (λ j hj. subst (λ (z : ℕ). unit64 * 1024 * p k j ≤ z + unit64 * 1024) (sym (mul_assoc 1025 T (mag64 (b k j)))) (crude (T * mag64 (b k j)) unit64 (p k j) (products k j hk hj).2)) in
      widen (unit64 * 1024 * total n (p k)) (1025 * T) (total n (λ j. mag64 (b k j))) β (n * (unit64 * 1024)) (1025 * β * T) h (b-le k hk) (mul_right_comm 1025 T β)
    where
      widen : (x a B β' d y : ℕ) → x ≤ a * B + d → B ≤ β' → a * β' ≡ y → x ≤ y + d
      widen x a B β' d y h l e = let m : a * B ≤ a * β' = mul-le-mul_left a l in omega arith

  all_products : unit64 * 1024 * total n (λ k. total n (p k)) ≤ 1025 * β * R + n * (n * (unit64 * 1024))
  all_products =
      let h = spread n (unit64 * 1024) (1025 * β) (n * (unit64 * 1024)) (λ k. total n (p k)) (λ k. mag64 (t k)) one_row in
      le_trans h (native.Mathlib.Nat.add-le-add (mul-le-mul_left (1025 * β) t-le) (le_refl (n * (n * (unit64 * 1024)))))

  -- the magnitudes of the products in column j, and of them all
  abbrev pub col : ℕ → ℕ
  col j = total n (λ k. p k j)

  abbrev pub S : ℕ
  S = total n col

  pub S_bound : S * 1048576 ≤ 543250 * R + 419430400
  S_bound = cancel_unit unit64 S R β n (pow_pos 1074) n20 β-le (subst (λ (z : ℕ). unit64 * 1024 * z ≤ 1025 * β * R + n * (n * (unit64 * 1024))) (total_swap n n p) all_products)

  col_room : (j : ℕ) → j < n → col j + n * err (col j) ≤ unit64 * 2
  col_room j hj = err_room n (col j) unit64 n20 (le_trans (entry_le n col j hj) (S-le S R unit64 S_bound R-le big_unit)) big_unit

  pub dots : (j : ℕ) → j < n → Summed t (λ k. b k j) (err (col j)) n
  dots j hj =
      dot_bound n t (λ k. b k j) (col j) (err (col j)) (λ k hk. (products k j hk hj).0) (le_refl (col j)) (err_enough n (col j) n20) (two_units (col j + n * err (col j)) (col_room j hj)) n (le_refl n)

  abbrev pub X : ℕ
  X = total n (λ j. mag64 (dot n t (λ k. b k j)))

  pub X_bound : X * 1048576 ≤ 544000 * R + 1270000000
  X_bound = X_of_R n R S X n20 S_bound (spread n 1024 1025 40960 (λ j. mag64 (dot n t (λ k. b k j))) col (λ j hj. dot_crude n (col j) (mag64 (dot n t (λ k. b k j))) n20 (dots j hj).1))

  module _ (K : ℕ) (y : Float) (K-pos : 0 < K) (K16 : K ≤ 16) (y-is : HasValue y false K 1) where
    pub quotients : (j : ℕ) → j < n → Rounds binary64 (dot n t (λ k. b k j) ⊘ y) (sgn (dot n t (λ k. b k j))) (mag64 (dot n t (λ k. b k j))) K
    quotients j hj =
        let d = dots j hj in
        let x = mag64 (dot n t (λ k. b k j)) in
        div_rounds binary64 (dot n t (λ k. b k j)) y K d.0 K-pos y-is
        (le_trans (two_units x (le_trans d.1 (col_room j hj))) (mul-le-mul_right (2 ^ emax binary64) (le_trans (le_of_eq (one_times unit64)) (mul-le-mul_right unit64 K-pos))))
      where
        one_times : (z : ℕ) → z ≡ 1 * z
        one_times z = omega arith

    pub row_on : (j : ℕ) → j < n → On64 (dot n t (λ k. b k j) ⊘ y)
    row_on j hj = (quotients j hj).0

    pub row_shrinks : total n (λ j. mag64 (dot n t (λ k. b k j) ⊘ y)) * (16 * K) ≤ 9 * R + 30000
    row_shrinks =
        let q : ℕ → ℕ = λ (j : ℕ). mag64 (dot n t (λ k. b k j) ⊘ y) in
        let h = spread n (K * 1024) 1025 (K * 1024) q (λ j. mag64 (dot n t (λ k. b k j))) (λ j hj. crude (mag64 (dot n t (λ k. b k j))) K (mag64 (dot n t (λ k. b k j) ⊘ y)) (quotients j hj).2) in
        final n K R X (total n q) n20 K16 X_bound h
