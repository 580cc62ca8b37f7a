-- The magnitude of a finite value in units of the format's smallest, and what add, mul and div do to it: one rounding each, so long as nothing overflows.
-- Assumes nothing.
use Rattle.std.proofs.Common.{◌≡◌, sym, ap, ◌∙◌, subst, ℕ, ◌+◌, ◌-◌, ◌*◌, ◌/◌, ◌^◌, ◌≤◌, ◌<◌, lt_of_mul-lt-mul_right, add-mul, mul-one, mul_comm, mul_assoc, mul_left_comm, mul_right_comm, mul-le-mul_right, mul-le-mul_left, le_of_mul-le-mul_right, arith, Bool, Float}
use Rattle.std.proofs.Math.Nat.{mul-mul-mul_comm, mul-sub}
use Rattle.std.proofs.Math.Nat.{div-eq_of_eq-mul_left}
use Rattle.std.specs.Float.Ieee.{nan, inf, fin, Format, low, up, down}
use lib.Ieee.Digits.{Equals}
use lib.Ieee.Fits.{down_pos}
use lib.Ieee.Exact.{HasValue}

-- g is v / c rounded to a whole number: within half a unit and one part in 2 * Q
abbrev pub Near : ℕ → ℕ → ℕ → ℕ → Type 0
Near Q v c g = (g * c * (2 * Q) ≤ v * (2 * Q) + (v + c * Q)) × (v * (2 * Q) ≤ g * c * (2 * Q) + (v + c * Q))

pub near_cancel : (Q v c k g : ℕ) → 0 < k → Near Q (v * k) (c * k) g → Near Q v c g
near_cancel Q v c k g K h =
    let a : g * (c * k) * (2 * Q) ≡ g * c * (2 * Q) * k = simp (mul_assoc, mul_comm, mul_left_comm) in
    let b : v * k * (2 * Q) + (v * k + c * k * Q) ≡ (v * (2 * Q) + (v + c * Q)) * k = rw (add-mul, add-mul) (simp (mul_assoc, mul_comm, mul_left_comm)) in
    let d : v * k * (2 * Q) ≡ v * (2 * Q) * k = mul_right_comm v k (2 * Q) in
    let e : g * (c * k) * (2 * Q) + (v * k + c * k * Q) ≡ (g * c * (2 * Q) + (v + c * Q)) * k = rw (add-mul, add-mul) (simp (mul_assoc, mul_comm, mul_left_comm)) in (
      le_of_mul-le-mul_right (subst (λ (z : ℕ). z ≤ (v * (2 * Q) + (v + c * Q)) * k) a (subst (λ (z : ℕ). g * (c * k) * (2 * Q) ≤ z) b h.0)) K,
      le_of_mul-le-mul_right (subst (λ (z : ℕ). z ≤ (g * c * (2 * Q) + (v + c * Q)) * k) d (subst (λ (z : ℕ). v * k * (2 * Q) ≤ z) e h.1)) K,
    )

-- ---- magnitudes
unfoldable pub mag : Format → Float → ℕ
mag f nan = 0
mag f (inf s) = 0
mag f (fin s m e) = m * up e * 2 ^ low f / down e

-- finite, and a whole number of units
abbrev pub On : Format → Float → Type 0
On f x = Equals x (mag f x) (2 ^ low f)

pub equals_mag : (f : Format) (x : Float) (g : ℕ) → Equals x g (2 ^ low f) → mag f x ≡ g
unfolding mag
equals_mag f nan g h = absurd h
equals_mag f (inf s) g h = absurd h
equals_mag f (fin s m e) g h = div-eq_of_eq-mul_left (down_pos e) h

pub equals_on : (f : Format) (x : Float) (g : ℕ) → Equals x g (2 ^ low f) → On f x
equals_on f x g h = subst (λ (z : ℕ). Equals x z (2 ^ low f)) (sym (equals_mag f x g h)) h

pub value_equals : (x : Float) (s : Bool) (a c : ℕ) → HasValue x s a c → Equals x a c
value_equals nan s a c h = h
value_equals (inf t) s a c h = h
value_equals (fin t m e) s a c h = h.1

-- ---- nothing overflows up to 2 ^ (emax - 1)
pub rough : (Q v c g : ℕ) → 0 < Q → Near Q v c g → g * c * 2 ≤ v * 3 + c
rough Q v c g q h =
    let a : g * c * (2 * Q) ≡ g * c * 2 * Q = sym (mul_assoc (g * c) 2 Q) in
    let b : v * (2 * Q) ≡ v * Q * 2 = simp (mul_assoc, mul_comm, mul_left_comm) in
    let d : (v * 3 + c) * Q ≡ v * Q * 3 + c * Q = add-mul (v * 3) c Q ∙ ap (λ (z : ℕ). z + c * Q) (mul_right_comm v 3 Q) in
    let e : v * 1 ≤ v * Q = mul-le-mul_left v q in
    let e' : v * 1 ≡ v = mul-one v in
    let u = h.0 in
    le_of_mul-le-mul_right (omega arith) q

pub fits_in : (a c g U E : ℕ) → 0 < c → 0 < U * E → a * 2 ≤ c * E → g * c * 2 ≤ a * U * 3 + c → g < U * (E * 2)
fits_in a c g U E C P h k =
    let x : a * 2 * U ≤ c * E * U = mul-le-mul_right U h in
    let y : a * 2 * U ≡ a * U * 2 = mul_right_comm a 2 U in
    let z : c * E * U ≡ U * E * c = simp (mul_assoc, mul_comm, mul_left_comm) in
    let w : U * (E * 2) ≡ U * E * 2 = sym (mul_assoc U E 2) in
    let m : 1 * c ≤ U * E * c = mul-le-mul_right c P in
    let v : U * (E * 2) * c ≡ U * E * c * 2 = ap (λ (t : ℕ). t * c) w ∙ mul_right_comm (U * E) 2 c in
    lt_of_mul-lt-mul_right c (strict (g * c) (U * E * c) (a * U) c (U * (E * 2) * c) C (omega arith) (omega arith) (omega arith) v)
  where
    strict : (gc uec au c' r : ℕ) → 0 < c' → gc * 2 ≤ au * 3 + c' → au * 2 ≤ uec → c' ≤ uec → r ≡ uec * 2 → gc < r
    strict gc uec au c' r p i j l e = omega arith

-- ---- the product
pub cross : (a b p q X Y U : ℕ) → a * U ≡ X * p → b * U ≡ Y * q → a * b * (U * U) ≡ X * Y * (p * q)
cross a b p q X Y U h k = mul-mul-mul_comm a b U U ∙ ap (λ (z : ℕ). z * (b * U)) h ∙ ap (λ (z : ℕ). X * p * z) k ∙ mul-mul-mul_comm X p Y q

-- ---- the quotient by a whole number
pub div_cross : (a b p q X K U : ℕ) → a * U ≡ X * p → b * 1 ≡ K * q → a * q * (K * U) ≡ X * (b * p)
div_cross a b p q X K U h k =
    let e : a * q * (K * U) ≡ a * U * (K * q) = simp (mul_assoc, mul_comm, mul_left_comm) in
    e ∙ ap (λ (z : ℕ). z * (K * q)) h ∙ ap (λ (z : ℕ). X * p * z) (sym k) ∙ ap (λ (z : ℕ). X * p * z) (mul-one b) ∙ mul_assoc X p b ∙ ap (λ (z : ℕ). X * z) (mul_comm p b)

-- ---- the sum
pub plus_cross : (A B c X Y U : ℕ) → A * U ≡ X * c → B * U ≡ Y * c → (A + B) * U ≡ (X + Y) * c
plus_cross A B c X Y U h k = let a = add-mul A B U in let b = add-mul X Y c in omega arith

pub minus_cross : (A B c X Y U : ℕ) → A * U ≡ X * c → B * U ≡ Y * c → (A - B) * U ≡ (X - Y) * c
minus_cross A B c X Y U h k =
    mul_comm (A - B) U ∙ mul-sub U A B ∙ ap (λ (z : ℕ). z - U * B) (mul_comm U A ∙ h ∙ mul_comm X c) ∙ ap (λ (z : ℕ). c * X - z) (mul_comm U B ∙ k ∙ mul_comm Y c) ∙ sym
    (mul-sub c X Y) ∙ mul_comm c (X - Y)

pub common : (a p q X U : ℕ) → a * U ≡ X * p → a * q * U ≡ X * (p * q)
common a p q X U h = mul_right_comm a q U ∙ ap (λ (z : ℕ). z * q) h ∙ mul_assoc X p q
