-- Where every entry of a term is at most 2 ^ -52, the series stops there, whatever the sum holds. So it stops at term 15 or sooner. Assumes nothing.
use Rattle.std.proofs.Common.{◌≡◌, refl, sym, ap, ◌∙◌, subst, List, ℕ, zero, suc, ◌+◌, ◌*◌, ◌/◌, ◌%◌, ◌^◌, ◌≤◌, ◌<◌, zero-le, le_trans, le_refl, le_of_eq, le_of_lt, not-le_of_lt, zero-lt-suc, mul_comm, mul-le-mul_right, mul-le-mul_left, mul-pos, le_of_mul-le-mul_right, div-lt_iff_lt-mul, div-add-mod', mod-lt, add-zero, add-suc, suc-add, le_of_suc-le-suc, one-mul, arith, Bool, true, false, not, cond, true≢false, T, ltb, ltb→lt, nltb→le, lit≤, pow_pos, length, get_or, Float}
use Rattle.std.proofs.Math.Nat.{le-suc}
use lib.Count.{count_trailing_zeros}
use Rattle.std.specs.Float.Ieee.{nan, inf, fin, binary64, up, down, mul, lt, le, round, is_nan, of_bits, of_fields, odd}
use lib.Ieee.Fits.{down_pos}
use lib.Ieee.Exact.{HasValue, round_exact}
use lib.Ieee.Order.{transfer, le_of_values, round_mono}
use lib.Ieee.Positive.{num, den, den_pos, positive, above, above_of_le, own_value, positive_of_value, values_of_le, through}
use Rattle.loops.proofs.Places.{size_some}
use Rattle.loops.specs.Loop.{◌!◌}
use Rattle.float.specs.Arith.{◌⊗◌, zero+, one, epsilon, abs, larger, most}
use Rattle.matrix.specs.Matrix.{at, max_abs, small, identity, add_all, series, taylor, term_at}
use Rattle.float.proofs.Mag.{mag}
use Rattle.float.proofs.Total.{entry_le}
use lib.Ieee.Bits.{is_true}
use Rattle.matrix.proofs.Series.{series_stop, series_go, next_is}
use Rattle.matrix.proofs.RowSums.{On64, mag64, unit64, zero_mag}
use Rattle.matrix.proofs.Terms.{Rows, bd, bd_15, term_rows, term_length}

-- ---- values that are not negative: finite, and a whole number of units
abbrev pub Pos64 : Float → Type 0
Pos64 x = HasValue x false (mag64 x) unit64

pub abs_pos : (x : Float) → On64 x → Pos64 (abs x)
unfolding abs mag
abs_pos nan h = absurd h
abs_pos (inf s) h = absurd h
abs_pos (fin s m e) h = (refl, h)

pub abs_mag : (x : Float) → mag64 (abs x) ≡ mag64 x
unfolding abs mag
abs_mag nan = refl
abs_mag (inf s) = refl
abs_mag (fin s m e) = refl

-- x / p ≤ y / q in units
pub in_units_lem : (x y p q X Y U : ℕ) → 0 < p → 0 < q → 0 < U → x * U ≡ X * p → y * U ≡ Y * q → x * q ≤ y * p → X ≤ Y
in_units_lem x y p q X Y U P Q W h k l = le_of_mul-le-mul_right (transfer X Y U U x y p q P Q (sym h) (sym k) l) W

-- the larger of two is one of them, and no smaller than either
abbrev Picks : Float → Float → Float → Type 0
Picks x y z = Pos64 z × (mag64 x ≤ mag64 z) × (mag64 y ≤ mag64 z) × ((M : ℕ) → mag64 x ≤ M → mag64 y ≤ M → mag64 z ≤ M)

picks : (b : Bool) (x y : Float) → Pos64 x → Pos64 y → (T b → mag64 x ≤ mag64 y) → (T (not b) → mag64 y ≤ mag64 x) → Picks x y (cond b y x)
picks true x y h k l g = (k, l tt, le_refl (mag64 y), λ M a b. b)
picks false x y h k l g = (h, le_refl (mag64 x), g tt, λ M a b. a)

pub larger_pos : (x y : Float) → Pos64 x → Pos64 y → Picks x y (larger x y)
unfolding larger is_nan lt
larger_pos nan y h k = absurd h
larger_pos (inf s) y h k = absurd h
larger_pos (fin true m e) y h k = absurd (true≢false h.0)
larger_pos (fin false m e) nan h k = absurd k
larger_pos (fin false m e) (inf t) h k = absurd k
larger_pos (fin false m e) (fin true n d) h k = absurd (true≢false k.0)
larger_pos (fin false m e) (fin false n d) h k =
    let x = m * up e * down d in
    let y = n * up d * down e in
    picks (ltb x y) (fin false m e) (fin false n d) h k
    (λ t. in_units_lem (m * up e) (n * up d) (down e) (down d) (mag64 (fin false m e)) (mag64 (fin false n d)) unit64 (down_pos e) (down_pos d) (pow_pos 1074) h.1 k.1 (le_of_lt (ltb→lt x y t)))
    (λ t. in_units_lem (n * up d) (m * up e) (down d) (down e) (mag64 (fin false n d)) (mag64 (fin false m e)) unit64 (down_pos d) (down_pos e) (pow_pos 1074) k.1 h.1 (nltb→le x y t))

pub zero_pos : Pos64 zero+
unfolding of_bits of_fields odd count_trailing_zeros
zero_pos = subst (λ (z : ℕ). HasValue zero+ false z unit64) (sym zero_mag) (refl, refl)

-- ---- the largest magnitude among the first k of a list
pub most-le : (M : ℕ) (x : Float) (f : ℕ → Float) (k : ℕ) → Pos64 x → mag64 x ≤ M → ((p : ℕ) → p < k → On64 (f p) × (mag64 (f p) ≤ M))
    → Pos64 (most k (λ p. abs (f p)) x) × (mag64 (most k (λ p. abs (f p)) x) ≤ M)
unfolding most
most-le M x f zero h l all = (h, l)
most-le M x f (suc k) h l all =
    let ih = most-le M x f k h l (λ p q. all p (le_trans q (le-suc k))) in
    let a = all k (le_refl (suc k)) in
    let p = larger_pos (most k (λ p. abs (f p)) x) (abs (f k)) ih.0 (abs_pos (f k) a.0) in
    (p.0, p.3 M ih.1 (le_trans (le_of_eq (abs_mag (f k))) a.1))

-- ---- 1 at least: an infinity too
abbrev pub Big : Float → Type 0
Big nan = ⊥
Big (inf true) = ⊥
Big (inf false) = Unit {0}
Big (fin true n d) = ⊥
Big (fin false n d) = down d ≤ n * up d

big_pick : (b : Bool) (n : ℕ) (d : _) (n' : ℕ) (d' : _) → down d ≤ n * up d → (T b → n * up d * down d' < n' * up d' * down d) → Big (cond b (fin false n' d') (fin false n d))
big_pick true n d n' d' h l = le_of_mul-le-mul_right (le_trans (le_of_eq (mul_comm (down d') (down d))) (le_trans (mul-le-mul_right (down d') h) (le_of_lt (l tt)))) (down_pos d)
big_pick false n d n' d' h l = h

larger_big : (m x : Float) → Big m → Big (larger m (abs x))
unfolding larger abs is_nan lt
larger_big nan x h = absurd h
larger_big (inf true) x h = absurd h
larger_big (inf false) nan h = tt
larger_big (inf false) (inf t) h = tt
larger_big (inf false) (fin t n' d') h = tt
larger_big (fin true n d) x h = absurd h
larger_big (fin false n d) nan h = h
larger_big (fin false n d) (inf t) h = tt
larger_big (fin false n d) (fin t n' d') h = big_pick (ltb (n * up d * down d') (n' * up d' * down d)) n d n' d' h (ltb→lt (n * up d * down d') (n' * up d' * down d))

pub most_big : (x : Float) (f : ℕ → Float) (k : ℕ) → Big x → Big (most k (λ p. abs (f p)) x)
unfolding most
most_big x f zero h = h
most_big x f (suc k) h = larger_big (most k (λ p. abs (f p)) x) (f k) (most_big x f k h)

pub one_big : Big one
unfolding of_bits of_fields odd count_trailing_zeros
one_big = le_refl 1

-- ---- x ≤ 2 ^ -52 is below 2 ^ -52 times anything that is 1 at least
le-inf : (x : Float) → Pos64 x → T (le x (inf false))
unfolding le
le-inf nan h = absurd h
le-inf (inf s) h = absurd h
le-inf (fin s m e) h = tt

le_above : (x z w : Float) (a c b c' : ℕ) → 0 < c → 0 < c' → 0 < b → Pos64 x → HasValue x false a c → HasValue z false b c' → a * c' ≤ b * c → T (le z w) → T (le x w)
le_above x z w a c b c' C C' B p hx hz l h = go w h (above_of_le z w pz h)
  where
    pz : T (positive z)
    pz = positive_of_value z b c' hz B

    go : (v : Float) → T (le z v) → T (above v) → T (le x v)
    go nan h u = absurd u
    go (inf true) h u = absurd u
    go (inf false) h u = le-inf x p
    go (fin true n d) h u = absurd u
    go (fin false n d) h u =
        let v = fin false n d in
        le_of_values x v a c (num v) (den v) C (den_pos v) hx (own_value v u)
        (through a b (num v) c c' (den v) C' l (values_of_le z v b c' (num v) (den v) pz u hz (own_value v u) h))

eps_value : HasValue (round binary64 false 1 (2 ^ 52)) false 1 (2 ^ 52)
eps_value = round_exact binary64 false 1 (2 ^ 52) 1 1022 (pow_pos 52) (lit≤ tt) (lit≤ tt) refl

pub under_eps : (x y : Float) → Pos64 x → mag64 x ≤ 2 ^ 1022 → Big y → T (le x (epsilon ⊗ y))
unfolding mul of_bits of_fields odd count_trailing_zeros
under_eps x nan p l h = absurd h
under_eps x (inf true) p l h = absurd h
under_eps x (inf false) p l h = le-inf x p
under_eps x (fin true n d) p l h = absurd h
under_eps x (fin false n d) p l h =
    le_above x (round binary64 false 1 (2 ^ 52)) (round binary64 false (1 * 1 * (n * up d)) (2 ^ 52 * down d)) (mag64 x) unit64 1 (2 ^ 52) (pow_pos 1074) (pow_pos 52) (zero-lt-suc 0) p p eps_value
    (mul-le-mul_right (2 ^ 52) l)
    (round_mono binary64 1 (2 ^ 52) (1 * 1 * (n * up d)) (2 ^ 52 * down d) (pow_pos 52) (mul-pos (pow_pos 52) (down_pos d)) (arrange (down d) (n * up d) (2 ^ 52) h))
  where
    arrange : (a b c : ℕ) → a ≤ b → 1 * (c * a) ≤ 1 * b * c
    arrange a b c h = let k : c * a ≤ c * b = mul-le-mul_left c h in let e : b * c ≡ c * b = mul_comm b c in let u : 1 * b * c ≡ b * c = ap (λ (z : ℕ). z * c) (one-mul b) in omega arith

pub small_if : (t r : List Float) → ((p : ℕ) → p < length t → On64 (t ! p) × (mag64 (t ! p) ≤ 2 ^ 1022)) → T (small t r)
unfolding small max_abs
small_if t r h =
    let m = most-le (2 ^ 1022) zero+ (λ p. t ! p) (length t) zero_pos (le_trans (le_of_eq zero_mag) zero-le) h in
    under_eps (most (length t) (λ p. abs (t ! p)) zero+) (most (length r) (λ p. abs (r ! p)) one) m.0 m.1 (most_big one (λ p. r ! p) (length r) one_big)

-- ---- every entry of a matrix is in a row
pub entries : (n R : ℕ) (t : List Float) → length t ≡ n * n → Rows n t R → (p : ℕ) → p < length t → On64 (get_or t p nan) × (mag64 (get_or t p nan) ≤ R)
entries n R t len rows p h =
    let h' : p < n * n = subst (λ (z : ℕ). p < z) len h in
    let n_pos : 0 < n = size_some p n h' in
    let i = p / n in
    let j = p % n in
    let hi : i < n = (div-lt_iff_lt-mul n_pos).1 h' in
    let hj : j < n = mod-lt p n_pos in
    let r = rows i hi in
    subst (λ (z : ℕ). On64 (get_or t z nan) × (mag64 (get_or t z nan) ≤ R)) (div-add-mod' p n)
    (r.0 j hj, le_trans (entry_le n (λ k. mag64 (at t n i k)) j hj) r.1)

pub stops_at_15 : (n β : ℕ) (b : List Float) → n ≤ 20 → β * 1024 ≤ unit64 * 530 → Rows n b β → (r : List Float) → T (small (term_at b n 15) r)
stops_at_15 n β b n20 β-le rows r =
    small_if (term_at b n 15) r
    (λ p h. let e = entries n (bd 15) (term_at b n 15) (term_length b n 15) (term_rows n β b n20 β-le rows 15 (lit≤ tt)) p h in (e.0, le_trans e.1 bd_15))

-- ---- so no more than 15 terms are ever added: t is the term before the k-th

-- whatever the sum, the series stops at term k
abbrev Passes : List Float → ℕ → ℕ → Type 0
Passes b n k = (r : List Float) → T (small (term_at b n k) r)

-- the sum with one term more, and the test at which the series stops or goes on
abbrev pub with : List Float → ℕ → ℕ → List Float → List Float
with b n k r = add_all r (term_at b n (suc k))

pub stop_here : (d : ℕ) (b : List Float) (n k : ℕ) (r : List Float) → small (term_at b n (suc k)) (with b n k r) ≡ true
    → series (suc d) b n (term_at b n k) r (suc k) ≡ record { sum = with b n k r; terms = suc k }
stop_here d b n k r h = series_stop d b n (term_at b n k) r (suc k) (rw next_is h) ∙ rw next_is

pub go_on : (d : ℕ) (b : List Float) (n k : ℕ) (r : List Float) → small (term_at b n (suc k)) (with b n k r) ≡ false
    → series (suc d) b n (term_at b n k) r (suc k) ≡ series d b n (term_at b n (suc k)) (with b n k r) (suc (suc k))
go_on d b n k r h = series_go d b n (term_at b n k) r (suc k) (rw next_is h) ∙ rw next_is

-- where the test passes at term k + e + 1, the series stops there or sooner, and more room than e + 1 terms is never used
module _ (b : List Float) (n : ℕ) where
  ends : (e d k : ℕ) (r : List Float) → Passes b n (suc (k + e)) → e < d
      → ((series d b n (term_at b n k) r (suc k)).terms ≤ suc (k + e)) × (series d b n (term_at b n k) r (suc k) ≡ series (suc e) b n (term_at b n k) r (suc k))
  ends e zero k r h l = absurd (not-le_of_lt l zero-le)
  ends zero (suc d) k r h l =
      let t : small (term_at b n (suc k)) (with b n k r) ≡ true = is_true _ (rw add-zero at (h (with b n k r))) in
      (rw (stop_here d b n k r t, add-zero) (le_refl (suc k)), stop_here d b n k r t ∙ sym (stop_here 0 b n k r t))
  ends (suc e) (suc d) k r h l = go (small (term_at b n (suc k)) (with b n k r)) refl (ends e d (suc k) (with b n k r) (rw (← same) h) (le_of_suc-le-suc l))
    where
      same : k + suc e ≡ suc k + e
      same = add-suc k e ∙ sym (suc-add k e)

      go : (c : Bool) → small (term_at b n (suc k)) (with b n k r) ≡ c
          → ((series d b n (term_at b n (suc k)) (with b n k r) (suc (suc k))).terms ≤ suc (suc k + e)) ×
          (series d b n (term_at b n (suc k)) (with b n k r) (suc (suc k)) ≡ series (suc e) b n (term_at b n (suc k)) (with b n k r) (suc (suc k)))
          → ((series (suc d) b n (term_at b n k) r (suc k)).terms ≤ suc (k + suc e)) × (series (suc d) b n (term_at b n k) r (suc k) ≡ series (suc (suc e)) b n (term_at b n k) r (suc k))
      go true t ih = (rw (stop_here d b n k r t) (omega arith), stop_here d b n k r t ∙ sym (stop_here (suc e) b n k r t))
      go false t ih = (rw (go_on d b n k r t, same) ih.0, go_on d b n k r t ∙ ih.1 ∙ sym (go_on (suc e) b n k r t))

-- the whole series stops at term 15 or sooner, and room for 15 terms is enough
pub fifteen : (n β : ℕ) (b : List Float) → n ≤ 20 → β * 1024 ≤ unit64 * 530 → Rows n b β → ((taylor b n).terms ≤ 15) × (taylor b n ≡ series 15 b n (identity n) (identity n) 1)
unfolding taylor term_at
fifteen n β b n20 β-le rows = ends b n 14 128 0 (identity n) (stops_at_15 n β b n20 β-le rows) (lit≤ tt)
